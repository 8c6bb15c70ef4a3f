-- What holds while estimates spread from the unjoined sinks over the edges by their target, the waiting node of least level first. Nothing
-- here knows a price. Only the contracts of private functions cite this file: no caller has to believe it.
-- Assumes nothing.
use Rattle.std.specs.Prelude.{Bool, true, false, List, ◌⊎◌, ◌≡◌, ℕ, ◌+◌, ◌-◌, ◌*◌, ◌%◌, ◌≤◌, ◌<◌, eqb, length, get_or, set}
use Rattle.price.specs.Test.{choose, both}
use Rattle.price.specs.Bounds.{base_most, nodes_most, path_most}
use Rattle.price.specs.Lists.{has, count_below}
use Rattle.search.specs.Block.{Block, nodes, has_edge}
use Rattle.search.specs.Paths.{any_price_most}
use Rattle.search.specs.Distance.{far, tree_has}
use Rattle.search.specs.Layout.{dist_at, leaf_at, link_at, pred_at, estimate_at, Tournament}
use Rattle.search.specs.Buckets.{buckets, Lined, waits}

-- a base cost counts at most so many times
abbrev pub scale_most : ℕ
scale_most = 10 * 100

-- no estimate is above this: a walk has no node twice
abbrev pub level_most : ℕ
level_most = nodes_most * base_most + base_most

-- a key is at most this
abbrev pub key_most : ℕ
key_most = scale_most * level_most

-- a distance so far is at most this, or there is none
abbrev pub reach_most : ℕ
reach_most = path_most + any_price_most

-- how many nodes at distance 0 have no estimate
abbrev pub lacking_in : ℕ → List ℕ → ℕ
lacking_in n w = count_below (λ v. both (eqb (dist_at w v) 0) (eqb (estimate_at n w v) far)) n

-- distances, predecessors and what is past 7 n stay
pub record Beside (n : ℕ) (w w' : List ℕ) : Type 0 where
  pub long : length w' ≡ length w
  pub dist : (v : ℕ) → v < n → dist_at w' v ≡ dist_at w v
  pub pred : (v : ℕ) → v < n → pred_at n w' v ≡ pred_at n w v
  pub beyond : (j : ℕ) → 7 * n ≤ j → get_or w' j 0 ≡ get_or w j 0

-- the key of a node that gets this estimate: it waits to be expanded if it has a distance
abbrev pub key_given : ℕ → List ℕ → ℕ → ℕ → ℕ
key_given n w u estimate = choose (eqb (dist_at w u) far) (leaf_at n w u) (dist_at w u + estimate)

-- w' is w with this estimate on node u
pub record Given (n u estimate : ℕ) (w w' : List ℕ) : Type 0 where
  pub same : Beside n w w'
  pub queue : Tournament n w'
  pub estimate-here : estimate_at n w' u ≡ estimate
  pub leaf_here : leaf_at n w' u ≡ key_given n w u estimate
  pub estimate_other : (x : ℕ) → x < n → (x ≡ u → ⊥) → estimate_at n w' x ≡ estimate_at n w x
  pub leaf_other : (x : ℕ) → x < n → (x ≡ u → ⊥) → leaf_at n w' x ≡ leaf_at n w x
  pub link_other : (x : ℕ) → x < n → (x ≡ u → ⊥) → link_at n w' x ≡ link_at n w x

-- node u stands first in the bucket of its level, unless no edge leads to it
pub data WaitsToSpread (n : ℕ) (firsts : List ℕ) (u level : ℕ) (w w' head head' : List ℕ) (count count' : ℕ) : Type 0 where
  no_edge :
      get_or firsts (u + 1) 0 ≤ get_or firsts u 0 → link_at n w' u ≡ link_at n w u → head' ≡ head → count' ≡ count
      → WaitsToSpread n firsts u level w w' head head' count count'
  lines_up :
      link_at n w' u ≡ get_or head (level % buckets) 0 → head' ≡ set head (level % buckets) (u + 1) → count' ≡ count + 1
      → WaitsToSpread n firsts u level w w' head head' count count'

-- a node that gets a distance has one that is small enough for its key
pub record Sized (n : ℕ) (w : List ℕ) : Type 0 where
  pub long : 8 * n ≤ length w
  pub near : (v : ℕ) → v < n → (dist_at w v ≡ far) ⊎ (dist_at w v ≤ reach_most)

-- node x is as before, or it had no estimate and has got one, over the edge from it to v that the tables by target have
pub data NodeGiven (r : Block) (v estimate : ℕ) (w w' : List ℕ) (waited waits' : ℕ → Bool) (x : ℕ) : Type 0 where
  given_stays :
      estimate_at (nodes r) w' x ≡ estimate_at (nodes r) w x → leaf_at (nodes r) w' x ≡ leaf_at (nodes r) w x → waits' x ≡ waited x
      → NodeGiven r v estimate w w' waited waits' x
  given_new :
      estimate_at (nodes r) w x ≡ far → has_edge r v x ≡ true → estimate_at (nodes r) w' x ≡ estimate
      → leaf_at (nodes r) w' x ≡ key_given (nodes r) w x estimate
      → (waits' x ≡ true) ⊎ ((y : ℕ) → has_edge r x y ≡ true → ⊥)
      → NodeGiven r v estimate w w' waited waits' x

-- nodes before v have been given this level as their estimate where they had none, others not
pub record SomeGiven (r : Block) (base : ℕ → ℕ) (scale v level : ℕ) (w w' head head' : List ℕ) (count count' : ℕ)
    (l : Lined (nodes r) base scale w head count level) : Type 0 where
  pub same : Beside (nodes r) w w'
  pub queue : Tournament (nodes r) w'
  pub lined : Lined (nodes r) base scale w' head' count' level
  pub each : (x : ℕ) → x < nodes r → NodeGiven r v (scale * level) w w' (waits l) (waits lined) x

-- all of them
pub record GivenBefore (r : Block) (base : ℕ → ℕ) (scale v level : ℕ) (w w' head head' : List ℕ) (count count' : ℕ)
    (l : Lined (nodes r) base scale w head count level) : Type 0 where
  pub some : SomeGiven r base scale v level w w' head head' count count' l
  pub all : (x : ℕ) → x < nodes r → has_edge r v x ≡ true → estimate_at (nodes r) w' x ≡ far → ⊥

-- safe to give estimates up to a level
pub record GiveReady (r : Block) (base : ℕ → ℕ) (scale level : ℕ) (w head : List ℕ) (count lacking : ℕ) : Type 0 where
  pub few : nodes r ≤ nodes_most
  pub firsts-long : length r.first_edges ≡ nodes r + 1
  pub base_most_lem : (v : ℕ) → v < nodes r → base v ≤ base_most
  pub scale_pos : 1 ≤ scale
  pub scale_most_lem : scale ≤ scale_most
  pub level_most_lem : level ≤ level_most
  pub sized : Sized (nodes r) w
  pub queue : Tournament (nodes r) w
  pub lined : Lined (nodes r) base scale w head count level
  pub lacking_is : lacking ≡ lacking_in (nodes r) w

-- ---- one node spreads

-- a node that waits at this level, the least, has spread its estimate
pub record Spread (r : Block) (base : ℕ → ℕ) (scale level : ℕ) (w w' head head' : List ℕ) (count count' : ℕ)
    (l : Lined (nodes r) base scale w head count level) : Type 0 where
  pub from : ℕ
  pub waited : waits l from ≡ true
  pub at_level : l.level from ≡ level
  pub head₁ : List ℕ
  pub rest : Lined (nodes r) base scale w head₁ (count - 1) level
  pub gone : waits rest from ≡ false
  pub others : (x : ℕ) → x < nodes r → (x ≡ from → ⊥) → waits rest x ≡ waits l x
  pub given : GivenBefore r base scale from level w w' head₁ head' (count - 1) count' rest

-- ---- the beginning

-- no node has an estimate, no one waits, in the queue or to spread
pub record NoneGiven (n : ℕ) (w : List ℕ) : Type 0 where
  pub estimates : (v : ℕ) → v < n → estimate_at n w v ≡ far
  pub leaves : (v : ℕ) → v < n → leaf_at n w v ≡ far

-- v is an unjoined sink, has estimate 0 and waits to spread it, unless no edge leads to it
pub record SinkGiven (r : Block) (marks sinks w : List ℕ) (waits' : ℕ → Bool) (v : ℕ) : Type 0 where
  pub listed : has v sinks ≡ true
  pub out : tree_has marks v ≡ false
  pub estimate-here : estimate_at (nodes r) w v ≡ 0
  pub spreads : (waits' v ≡ true) ⊎ ((y : ℕ) → has_edge r v y ≡ true → ⊥)

-- the unjoined sinks at places below i have estimate 0, and no other node has one; keys stay
pub record SinksGiven (r : Block) (base : ℕ → ℕ) (scale : ℕ) (marks sinks w w' head' : List ℕ) (count' i : ℕ) : Type 0 where
  pub same : Beside (nodes r) w w'
  pub queue : Tournament (nodes r) w'
  pub leaves : (v : ℕ) → v < nodes r → leaf_at (nodes r) w' v ≡ leaf_at (nodes r) w v
  pub lined : Lined (nodes r) base scale w' head' count' 0
  pub each :
      (v : ℕ) → v < nodes r
      → ((estimate_at (nodes r) w' v ≡ far) × (waits lined v ≡ false)) ⊎ SinkGiven r marks sinks w' (waits lined) v
  pub goals :
      (j : ℕ) → j < i → get_or sinks j 0 < nodes r → tree_has marks (get_or sinks j 0) ≡ false
      → estimate_at (nodes r) w' (get_or sinks j 0) ≡ 0
