-- What holds while a turn that aims goes on: estimates spread, and nodes are expanded by distance and estimate together. Only the contracts
-- of private functions cite this file: no caller has to believe it.
-- Assumes nothing.
use Rattle.std.specs.Prelude.{Bool, true, false, List, [], ◌∷◌, ◌⊎◌, ◌≡◌, ℕ, ◌+◌, ◌*◌, ◌≤◌, ◌<◌, eqb, length, get_or, set}
use Rattle.price.specs.Test.{choose}
use Rattle.price.specs.Bounds.{path_most}
use Rattle.price.specs.Lists.{has, distinct, count_below}
use Rattle.search.specs.Block.{Block, nodes}
use Rattle.search.specs.Distance.{far, tree_has, distances, distance}
use Rattle.search.specs.Turn.{before, nearest_distance}
use Rattle.search.specs.Aimed.{expands_by}
use Rattle.search.specs.Layout.{dist_at, entry_at, leaf_at, link_at, pred_at, estimate_at, Tournament, Queued}
use Rattle.search.specs.Estimates.{key_most, reach_most}

-- ---- one edge

-- w' is w with a shorter way to v: over u, at distance d; v waits to be expanded if it has an estimate
pub record Shortened (n u v d : ℕ) (w w' : List ℕ) : Type 0 where
  pub long : length w' ≡ length w
  pub queue : Tournament n w'
  pub dist-here : dist_at w' v ≡ d
  pub leaf_here : leaf_at n w' v ≡ choose (eqb (estimate_at n w v) far) (leaf_at n w v) (d + estimate_at n w v)
  pub pred-here : pred_at n w' v ≡ u
  pub dist_other : (x : ℕ) → x < n → (x ≡ v → ⊥) → dist_at w' x ≡ dist_at w x
  pub leaf_other : (x : ℕ) → x < n → (x ≡ v → ⊥) → leaf_at n w' x ≡ leaf_at n w x
  pub pred_other : (x : ℕ) → x < n → (x ≡ v → ⊥) → pred_at n w' x ≡ pred_at n w x
  pub link_same : (x : ℕ) → x < n → link_at n w' x ≡ link_at n w x
  pub high : (j : ℕ) → 5 * n ≤ j → get_or w' j 0 ≡ get_or w j 0

-- what looking at the edge from u to v does, over which v is at distance d, and which the tables by target have or lack
pub data AimedOver (n u v d : ℕ) (listed : Bool) (w w' : List ℕ) : Type 0 where
  over_unlisted : listed ≡ false → w' ≡ w → AimedOver n u v d listed w w'
  over-shorter : listed ≡ true → d < dist_at w v → Shortened n u v d w w' → AimedOver n u v d listed w w'
  over_lower : listed ≡ true → d ≡ dist_at w v → u < pred_at n w v → w' ≡ set w (4 * n + v) u → AimedOver n u v d listed w w'
  over-kept : dist_at w v ≤ d → (d ≡ dist_at w v → pred_at n w v ≤ u) → w' ≡ w → AimedOver n u v d listed w w'

-- `best` is the least distance that an unjoined sink has so far, `far` where none has one: an unjoined sink has estimate 0
pub record BestAim (n best : ℕ) (w : List ℕ) : Type 0 where
  pub most : best ≤ far
  pub least : (v : ℕ) → v < n → estimate_at n w v ≡ 0 → best ≤ dist_at w v
  pub some : (best ≡ far) ⊎ ((v : ℕ) × (v < n) × (estimate_at n w v ≡ 0) × (dist_at w v ≡ best))

-- no node without an estimate is nearer than `low`, but at distance 0
pub record LowAim (n low : ℕ) (w : List ℕ) : Type 0 where
  pub most : (low ≡ far) ⊎ (low ≤ reach_most)
  pub least : (v : ℕ) → v < n → estimate_at n w v ≡ far → 0 < dist_at w v → low ≤ dist_at w v

-- ---- the edges of one node

-- what looking at edges of u has done to node x, by a test of the edges and the nodes' prices
pub data AimedAt (n : ℕ) (edge : ℕ → ℕ → Bool) (price : ℕ → ℕ) (u : ℕ) (w w' : List ℕ) (x : ℕ) : Type 0 where
  at-kept :
      dist_at w' x ≡ dist_at w x → pred_at n w' x ≡ pred_at n w x → leaf_at n w' x ≡ leaf_at n w x
      → AimedAt n edge price u w w' x
  at-shorter :
      edge u x ≡ true → dist_at w u + price x < dist_at w x → dist_at w' x ≡ dist_at w u + price x → pred_at n w' x ≡ u
      → leaf_at n w' x ≡ choose (eqb (estimate_at n w x) far) (leaf_at n w x) (dist_at w u + price x + estimate_at n w x)
      → AimedAt n edge price u w w' x
  at_lower :
      edge u x ≡ true → dist_at w u + price x ≡ dist_at w x → u < pred_at n w x → dist_at w' x ≡ dist_at w x → pred_at n w' x ≡ u
      → leaf_at n w' x ≡ leaf_at n w x
      → AimedAt n edge price u w w' x

-- edges of u have been looked at; links and estimates stay
pub record AimedSome (n : ℕ) (edge : ℕ → ℕ → Bool) (price : ℕ → ℕ) (u : ℕ) (w w' : List ℕ) : Type 0 where
  pub long : length w' ≡ length w
  pub queue : Tournament n w'
  pub each : (x : ℕ) → x < n → AimedAt n edge price u w w' x
  pub link_same : (x : ℕ) → x < n → link_at n w' x ≡ link_at n w x
  pub high : (j : ℕ) → 5 * n ≤ j → get_or w' j 0 ≡ get_or w j 0

-- the edge from u to x has been looked at: no way over it is shorter, nor as short over a lower node
pub record EdgePassed (n : ℕ) (price : ℕ → ℕ) (u : ℕ) (w w' : List ℕ) (x : ℕ) : Type 0 where
  pub least : dist_at w' x ≤ dist_at w u + price x
  pub lowest : dist_at w u + price x ≡ dist_at w' x → pred_at n w' x ≤ u

-- every edge of u has been looked at
pub record AimedRow (n : ℕ) (edge : ℕ → ℕ → Bool) (price : ℕ → ℕ) (u : ℕ) (w w' : List ℕ) : Type 0 where
  pub some : AimedSome n edge price u w w'
  pub all : (x : ℕ) → x < n → edge u x ≡ true → EdgePassed n price u w w' x

-- safe to look at the edges of u: no sum wraps
pub record AimRowReady (n : ℕ) (w : List ℕ) (u : ℕ) : Type 0 where
  pub node : u < n
  pub long : 8 * n ≤ length w
  pub queue : Tournament n w
  pub near : dist_at w u < path_most
  pub estimates : (v : ℕ) → v < n → (estimate_at n w v ≡ far → ⊥) → estimate_at n w v ≤ key_most

-- ---- one node is expanded

-- the node of least key leaves the queue, and its edges are looked at
pub record Expanded (n : ℕ) (edge : ℕ → ℕ → Bool) (price : ℕ → ℕ) (w w' : List ℕ) (node : ℕ) : Type 0 where
  pub is-node : node < n
  pub first : leaf_at n w node ≡ entry_at n w 1
  pub taken : List ℕ
  pub out : Queued n node far w taken
  pub row : AimedRow n edge price node taken w'

-- safe to expand the node of least key
pub record ExpandReady (n : ℕ) (w : List ℕ) : Type 0 where
  pub some : 1 ≤ n
  pub long : 8 * n ≤ length w
  pub queue : Tournament n w
  pub near : (u : ℕ) → u < n → leaf_at n w u ≡ entry_at n w 1 → dist_at w u < path_most
  pub estimates : (v : ℕ) → v < n → (estimate_at n w v ≡ far → ⊥) → estimate_at n w v ≤ key_most

-- ---- a whole turn

-- the steps of a turn from one work slice to another, and the nodes that it expanded on the way, the last one first: a node leaves the
-- queue in no other step
pub data Steps (n : ℕ) (edge : ℕ → ℕ → Bool) (price : ℕ → ℕ) : List ℕ → List ℕ → List ℕ → Type 0 where
  begins : {w : List ℕ} → Steps n edge price w w []
  expands_one :
      {w w₁ w₂ order : List ℕ} {u : ℕ} → Steps n edge price w w₁ order → Expanded n edge price w₁ w₂ u
      → Steps n edge price w w₂ (u ∷ order)
  spreads_one :
      {w w₁ w₂ order : List ℕ} → Steps n edge price w w₁ order
      → ((x : ℕ) → x < n → (leaf_at n w₂ x ≡ leaf_at n w₁ x) ⊎ (leaf_at n w₁ x ≡ far)) → Steps n edge price w w₂ order

-- "A turn expands, each once, exactly the nodes whose .." : these steps expanded no node twice, and exactly those that pass this test
pub record ExpandsExactly (n : ℕ) (edge : ℕ → ℕ → Bool) (price : ℕ → ℕ) (w w' : List ℕ) (test : ℕ → Bool) (count : ℕ) : Type 0 where
  pub order : List ℕ
  pub steps : Steps n edge price w w' order
  pub once : distinct order ≡ true
  pub exactly : (v : ℕ) → v < n → has v order ≡ test v
  pub count-is : count ≡ length order

-- a turn has aimed: `cost` is the joined sink's distance, `far` where none has one, and so many nodes were expanded
pub record AimDone (a : Block) (price est : ℕ → ℕ) (marks sinks w : List ℕ) (cost count : ℕ) : Type 0 where
  pub cost_is_lem : cost ≡ nearest_distance a price marks sinks
  pub count-is : cost < far → count ≡ count_below (expands_by a price est marks sinks) (nodes a)
  -- a distance so far is never too low, and it is final on the nodes that the turn expands
  pub dist-least : (v : ℕ) → v < nodes a → distance a price marks v ≤ dist_at w v
  pub dist-tree : (v : ℕ) → v < nodes a → tree_has marks v ≡ true → dist_at w v ≡ 0
  pub dist_final :
      cost < far → (v : ℕ) → v < nodes a → expands_by a price est marks sinks v ≡ true → dist_at w v ≡ distance a price marks v
  -- outside the tree a node that has a distance has it over its predecessor, which is nearer
  pub pred-node : (v : ℕ) → v < nodes a → tree_has marks v ≡ false → dist_at w v < far → pred_at (nodes a) w v < nodes a
  pub pred-nearer :
      (v : ℕ) → v < nodes a → tree_has marks v ≡ false → dist_at w v < far → dist_at w (pred_at (nodes a) w v) < dist_at w v
  pub pred_final :
      cost < far → (v : ℕ) → v < nodes a → tree_has marks v ≡ false → expands_by a price est marks sinks v ≡ true
      → pred_at (nodes a) w v ≡ before a price (distances a price marks) v
