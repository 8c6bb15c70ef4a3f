-- What the private functions of a turn that aims do to its work slice. Only their contracts cite this file: no caller has to believe it.
-- Assumes nothing.
use Rattle.std.specs.Prelude.{Bool, true, false, List, [], ◌++◌, ◌⊎◌, ◌≡◌, ℕ, ◌+◌, ◌-◌, ◌*◌, ◌≤◌, ◌<◌, min, length, get_or, take, drop, Option, Some, None}
use Rattle.std.specs.Prelude.{replicate}
use Rattle.price.specs.Test.{choose}
use Rattle.price.specs.Bounds.{nodes_most}
use Rattle.price.specs.Lists.{count_below}
use Rattle.search.specs.Block.{Block, block_of, graph_of, nodes}
use Rattle.search.specs.Distance.{far, tree_has}
use Rattle.search.specs.Turn.{Congestion}
use Rattle.search.specs.Clamped.{clamped_price, clamped_weight}
use Rattle.search.specs.Replies.{cleared}
use Rattle.search.specs.Priceable.{Fitted}
use Rattle.search.specs.Layout.{dist_at, entry_at, SameBut}
use Rattle.search.specs.TurnWork.{Found, Read}
use Rattle.search.specs.Aimed.{estimate, expands_by}
use Rattle.search.specs.ByTarget.{in_both, Counted}
use Rattle.search.specs.Estimates.{NoneGiven}
use Rattle.search.specs.Aiming.{ExpandsExactly, AimDone}
use Rattle.search.specs.declared.Joins.{Joins}

-- what bounds from below the key of any node that lacks an estimate, at this level of the estimates: `far` where none is coming
pub data LeastLacking (scale level count lacking low r : ℕ) : Type 0 where
  none_comes : count ≡ 0 → r ≡ far → LeastLacking scale level count lacking low r
  tree_lacks : 0 < count → 0 < lacking → r ≡ scale * level → LeastLacking scale level count lacking low r
  none-near : 0 < count → lacking ≡ 0 → low ≡ far → r ≡ far → LeastLacking scale level count lacking low r
  others_lack : 0 < count → lacking ≡ 0 → (low ≡ far → ⊥) → r ≡ low + scale * level → LeastLacking scale level count lacking low r

-- a turn ends where the lesser of both keys is `far` or above the nearest sink's distance so far
pub record Halts (least coming best : ℕ) (r : Bool) : Type 0 where
  pub ends : r ≡ true → (min least coming ≡ far) ⊎ (best < min least coming)
  pub goes : r ≡ false → (min least coming ≡ far → ⊥) × (min least coming ≤ best)

-- the predecessors stand from n on too
pub record PredecessorsMoved (n : ℕ) (w w' : List ℕ) : Type 0 where
  pub same : SameBut n (2 * n) w w'
  pub here : (v : ℕ) → v < n → get_or w' (n + v) 0 ≡ get_or w (4 * n + v) 0

-- w' is w with tree nodes at distance 0; no other node has a distance, none an estimate, and none waits
pub record Started (n : ℕ) (marks w w' : List ℕ) (trees : ℕ) : Type 0 where
  pub long : length w' ≡ length w
  pub dist : (v : ℕ) → v < n → dist_at w' v ≡ choose (tree_has marks v) 0 far
  pub entries : (i : ℕ) → i < n → entry_at n w' i ≡ far
  pub none : NoneGiven n w'
  pub beyond : (j : ℕ) → 7 * n ≤ j → get_or w' j 0 ≡ get_or w j 0
  pub trees_are : trees ≡ count_below (tree_has marks) n

-- every list of a turn has its length, and the tables by target have theirs; some tables have the edges that count
pub record TurnReady (b r : Block) (c : Congestion) (marks sinks w : List ℕ) : Type 0 where
  pub fitted : Fitted b c marks sinks w
  pub same_nodes : r.kinds ≡ b.kinds
  pub backs-long : length r.first_edges ≡ nodes b + 1
  pub firsts : List ℕ
  pub targets : List ℕ
  pub backs : List ℕ
  pub sources : List ℕ
  pub counted : Counted b r firsts targets backs sources

-- the turn has aimed, over the edges that count, as any tables have them, by estimates over the tables by target
pub record SinksAimed (b r : Block) (c : Congestion) (marks sinks w w' : List ℕ) (firsts targets backs sources : List ℕ) (cost count : ℕ)
    : Type 0 where
  pub done :
      AimDone (block_of b.kinds b.capacities firsts targets) (clamped_price b.kinds b.capacities c)
      (estimate (graph_of b.kinds backs sources) (clamped_weight b.kinds c.weighting) marks sinks) marks sinks w' cost count
  -- request 2.13, "A turn expands, each once, exactly the nodes whose .."
  pub exactly :
      cost < far
      → ExpandsExactly (nodes b) (in_both b r) (clamped_price b.kinds b.capacities c) w w'
      (expands_by (block_of b.kinds b.capacities firsts targets) (clamped_price b.kinds b.capacities c)
      (estimate (graph_of b.kinds backs sources) (clamped_weight b.kinds c.weighting) marks sinks) marks sinks)
      count
  pub long : length w' ≡ length w
  pub beyond : (j : ℕ) → 7 * nodes b ≤ j → get_or w' j 0 ≡ get_or w j 0

-- a path can be read off once the predecessors are moved, where some sink is joined
pub record Readable (n : ℕ) (marks sinks w : List ℕ) (cost : ℕ) : Type 0 where
  pub few : n ≤ nodes_most
  pub long : 8 * n ≤ length w
  pub found : (cost ≡ far → ⊥) → (w' : List ℕ) → PredecessorsMoved n w w' → Found n marks sinks w' cost

-- the answer `r` with its count: no sink is joined and the work slice is cleared, or the path is read off and the rest cleared
pub data AimedRead (n : ℕ) (marks sinks w : List ℕ) (cost count : ℕ) (r : Option Joins) (counted : ℕ) (w' : List ℕ) : Type 0 where
  none : cost ≡ far → r ≡ None → counted ≡ 0 → w' ≡ cleared n [] w → AimedRead n marks sinks w cost count r counted w'
  reads :
      (cost ≡ far → ⊥) → (moved read : List ℕ) → PredecessorsMoved n w moved → (j : Joins) → r ≡ Some j
      → Read n marks sinks moved cost j read → counted ≡ count
      → w' ≡ take (3 * n) read ++ (replicate (8 * n - 3 * n) 0 ++ drop (8 * n) read)
      → AimedRead n marks sinks w cost count r counted w'
