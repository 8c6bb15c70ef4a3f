-- What holds while labels spread from the tree, the nearest waiting node first (Dijkstra). A step costs the price of the node that it leads
-- to, so the first label of a node is its distance, and only a lower predecessor as near as the first can still come.
-- Where labels are to reach goals alone, a node that leads to dead ends alone does not wait: of dead ends nothing is said then.
-- Only the contracts of private functions cite this file: no caller has to believe it.
-- Assumes nothing.
use Rattle.std.specs.Prelude.{Bool, true, List, ◌⊎◌, ◌≡◌, ℕ, ◌+◌, ◌*◌, ◌≤◌, ◌<◌, leb, length, get_or, set}
use Rattle.price.specs.Bounds.{nodes_most, path_most}
use Rattle.price.specs.Lists.{count_below}
use Rattle.search.specs.Block.{Block, nodes, row_start, has_edge}
use Rattle.search.specs.Distance.{far}
use Rattle.search.specs.Turn.{Congestion}
use Rattle.search.specs.Paths.{any_price_most, Fair}
use Rattle.search.specs.Clamped.{ListsLong}
use Rattle.search.specs.Labels.{goal, label_at, from_at, with_from, key_at, Waits, Heaped, Added}

-- a node has no label yet; and how many have none
abbrev pub bare : List ℕ → ℕ → Bool
bare w v = leb goal (label_at w v)

abbrev pub bare_count : ℕ → List ℕ → ℕ
bare_count n w = count_below (bare w) n

-- v has its label over the edge from a node that is at most `level` far
pub record Came (b : Block) (price : ℕ → ℕ) (w : List ℕ) (level v : ℕ) : Type 0 where
  pub node : from_at (nodes b) w v < nodes b
  pub near : label_at w (from_at (nodes b) w v) ≤ level
  pub edge : has_edge b (from_at (nodes b) w v) v ≡ true
  pub sum : label_at w v ≡ label_at w (from_at (nodes b) w v) + price v

-- a place of u's row that has been passed: all of them, but of node `cur` only those before `place`
pub record PlacePassed (b : Block) (cur place u k : ℕ) : Type 0 where
  pub from : row_start b u ≤ k
  pub below : k < row_start b (u + 1)
  pub within : k < length b.edge_targets
  pub seen : u ≡ cur → k < place

-- the edge from u to v has been looked at: v is no farther over u, nor as near over a node as near as u and lower
pub record EdgeLooked (n : ℕ) (price : ℕ → ℕ) (w : List ℕ) (u v : ℕ) : Type 0 where
  pub labelled : label_at w v < goal
  pub near : label_at w v ≤ label_at w u + price v
  pub lowest : 0 < label_at w v → label_at w (from_at n w v) ≡ label_at w u → from_at n w v ≤ u

-- no path to a goal goes over t: no edge leads from it, and it is no goal without a label
pub record DeadEnd (firsts w : List ℕ) (t : ℕ) : Type 0 where
  pub no_edges : get_or firsts (t + 1) 0 ≤ get_or firsts t 0
  pub no_goal : label_at w t ≡ goal → ⊥

-- a dead end, and labels are to reach goals alone: an edge to t need not be looked at
abbrev pub Spared : Bool → List ℕ → List ℕ → ℕ → Type 0
Spared goals firsts w t = (goals ≡ true) × DeadEnd firsts w t

-- the edge from u to t has been looked at, or need not be, by the marks at the start
abbrev pub EdgePast : Block → (ℕ → ℕ) → Bool → List ℕ → List ℕ → ℕ → ℕ → Type 0
EdgePast b price goals start w u t = EdgeLooked (nodes b) price w u t ⊎ Spared goals b.first_edges start t

-- `count` nodes wait, each at least `level` far; every other node that has a label has spread it, but cur only up to `place`, and along no
-- edge that need not be looked at. Tree nodes have label 0; a node without a label is marked as at the start.
pub record Spread (b : Block) (price : ℕ → ℕ) (goals : Bool) (start w : List ℕ) (count level cur place : ℕ) : Type 0 where
  pub fair : Fair b price
  pub heap : Heaped (nodes b) count w
  pub room : count + bare_count (nodes b) w ≤ nodes b
  pub waits-label : (i : ℕ) → i < count → key_at (nodes b) w i < goal
  pub waits-far : (i : ℕ) → i < count → level ≤ key_at (nodes b) w i
  pub bound :
      (v : ℕ) → v < nodes b → label_at w v < goal → label_at w v + bare_count (nodes b) w * fair.ceiling ≤ nodes b * fair.ceiling
  pub came : (v : ℕ) → v < nodes b → 0 < label_at w v → label_at w v < goal → Came b price w level v
  pub unmet : (v : ℕ) → v < nodes b → goal ≤ label_at w v → label_at start v ≡ label_at w v
  pub done :
      (u : ℕ) → u < nodes b → label_at w u < goal
      → Waits (nodes b) count w u
      ⊎ ((k : ℕ) → PlacePassed b cur place u k → get_or b.edge_targets k 0 < nodes b
      → EdgePast b price goals start w u (get_or b.edge_targets k 0))

-- from w to w': labels stay, what has none may get one, and `best` follows the least label of a goal
pub record SpreadOnward (n : ℕ) (w w' : List ℕ) (best best' : ℕ) : Type 0 where
  pub long : length w' ≡ length w
  pub high : (j : ℕ) → 3 * n ≤ j → get_or w' j 0 ≡ get_or w j 0
  pub kept : (v : ℕ) → v < n → label_at w v < goal → label_at w' v ≡ label_at w v
  pub still : (v : ℕ) → v < n → goal ≤ label_at w v → goal ≤ label_at w' v → label_at w' v ≡ label_at w v
  pub pos : (v : ℕ) → v < n → goal ≤ label_at w v → 0 < label_at w' v
  pub less : best' ≤ best
  pub least : (v : ℕ) → v < n → label_at w v ≡ goal → label_at w' v < goal → best' ≤ label_at w' v
  pub some : (best' ≡ best) ⊎ ((v : ℕ) × (v < n) × (label_at w v ≡ goal) × (label_at w' v ≡ best') × (best' < goal))

-- the work slice with label d on v, from u
abbrev pub labelled : ℕ → List ℕ → ℕ → ℕ → ℕ → List ℕ
labelled n w u v d = with_from n (set w v d) u v

-- the edges of v, as far as table 4 has its row, lead to dead ends alone
abbrev pub LeadsNowhere : ℕ → List ℕ → List ℕ → List ℕ → ℕ → Type 0
LeadsNowhere n firsts targets w v =
    (k : ℕ) → get_or firsts v 0 ≤ k → k < get_or firsts (v + 1) 0 → k < length targets → get_or targets k 0 < n
    → DeadEnd firsts w (get_or targets k 0)

-- v has nothing to spread: no edge of it has to be looked at
abbrev pub Idle : ℕ → List ℕ → List ℕ → Bool → List ℕ → ℕ → Type 0
Idle n firsts targets goals w v =
    (k : ℕ) → get_or firsts v 0 ≤ k → k < get_or firsts (v + 1) 0 → k < length targets → get_or targets k 0 < n
    → Spared goals firsts w (get_or targets k 0)

-- v has got label d from u; it waits, unless it has nothing to spread
pub data Labelled (n : ℕ) (firsts targets : List ℕ) (goals : Bool) (u v d : ℕ) (w w' : List ℕ) (count count' : ℕ) : Type 0 where
  ends :
      Idle n firsts targets goals (labelled n w u v d) v → w' ≡ labelled n w u v d → count' ≡ count
      → Labelled n firsts targets goals u v d w w' count count'
  waits : Added n count v (labelled n w u v d) w' → count' ≡ count + 1 → Labelled n firsts targets goals u v d w w' count count'

-- `best` after a node that had `old` got label d
pub record GoalMet (old d best best' : ℕ) : Type 0 where
  pub less : best' ≤ best
  pub least : old ≡ goal → best' ≤ d
  pub some : (best' ≡ best) ⊎ ((old ≡ goal) × (best' ≡ d))

-- u, of label d, has taken the place of v's predecessor, or is not as near and lower
pub data Lowered (n u v d : ℕ) (w w' : List ℕ) : Type 0 where
  lowered : u < from_at n w v → label_at w (from_at n w v) ≡ d → w' ≡ with_from n w u v → Lowered n u v d w w'
  stays : (label_at w (from_at n w v) ≡ d → from_at n w v ≤ u) → w' ≡ w → Lowered n u v d w w'

-- what looking at the edge from u, of label d, to v does
pub data EdgeRelaxed (n : ℕ) (firsts targets : List ℕ) (goals : Bool) (price : ℕ → ℕ) (u v d : ℕ) (w w' : List ℕ)
    (count count' best best' : ℕ) : Type 0 where
  beyond :
      n ≤ v → w' ≡ w → count' ≡ count → best' ≡ best → EdgeRelaxed n firsts targets goals price u v d w w' count count' best best'
  labels :
      v < n → goal ≤ label_at w v → Labelled n firsts targets goals u v (d + price v) w w' count count'
      → GoalMet (label_at w v) (d + price v) best best' → EdgeRelaxed n firsts targets goals price u v d w w' count count' best best'
  lowers :
      v < n → 0 < label_at w v → label_at w v < goal → Lowered n u v d w w' → count' ≡ count → best' ≡ best
      → EdgeRelaxed n firsts targets goals price u v d w w' count count' best best'
  tree :
      v < n → label_at w v ≡ 0 → w' ≡ w → count' ≡ count → best' ≡ best
      → EdgeRelaxed n firsts targets goals price u v d w w' count count' best best'

-- safe to look along the row of v
pub record RowReady (n : ℕ) (firsts w : List ℕ) (v : ℕ) : Type 0 where
  pub few : n ≤ nodes_most
  pub firsts-long : length firsts ≡ n + 1
  pub long : n ≤ length w
  pub node : v < n

-- safe to give v a label
pub record LabelReady (n : ℕ) (firsts w : List ℕ) (count u v : ℕ) : Type 0 where
  pub few : n ≤ nodes_most
  pub firsts-long : length firsts ≡ n + 1
  pub heap : Heaped n count w
  pub labels-low : (i : ℕ) → i < count → key_at n w i < goal
  pub more : count < n
  pub u_node : u < n
  pub v_node : v < n
  pub v_bare : goal ≤ label_at w v

-- safe to look at the edge from u, of label d, to v
pub record RelaxReady (kinds capacities : List ℕ) (c : Congestion) (firsts w : List ℕ) (count u v d : ℕ) : Type 0 where
  pub lent : ListsLong kinds capacities c
  pub firsts-long : length firsts ≡ length kinds + 1
  pub heap : Heaped (length kinds) count w
  pub labels-low : (i : ℕ) → i < count → key_at (length kinds) w i < goal
  pub near : d < path_most
  pub u_node : u < length kinds
  pub more : v < length kinds → goal ≤ label_at w v → count < length kinds
  pub from_node : v < length kinds → 0 < label_at w v → label_at w v < goal → from_at (length kinds) w v < length kinds

-- safe to settle u
pub record SettleReady (b : Block) (price : ℕ → ℕ) (goals : Bool) (w : List ℕ) (count u : ℕ) : Type 0 where
  pub firsts-long : length b.first_edges ≡ nodes b + 1
  pub node : u < nodes b
  pub labelled : label_at w u < goal
  pub start : List ℕ
  pub spread : Spread b price goals start w count (label_at w u) u 0

-- u has spread its label, whatever the marks at the start
pub record NodeSettled (b : Block) (price : ℕ → ℕ) (goals : Bool) (level u : ℕ) (w w' : List ℕ) (count count' best best' : ℕ) : Type 0 where
  pub spread : (start : List ℕ) → Spread b price goals start w count level u 0 → Spread b price goals start w' count' level (nodes b) 0
  pub onward : SpreadOnward (nodes b) w w' best best'
  pub fewer : 2 * bare_count (nodes b) w' + count' ≤ 2 * bare_count (nodes b) w + count

-- safe to settle every waiting node
pub record RunReady (b : Block) (price : ℕ → ℕ) (goals : Bool) (w : List ℕ) (count step : ℕ) : Type 0 where
  pub firsts-long : length b.first_edges ≡ nodes b + 1
  pub spread : Spread b price goals w w count 0 (nodes b) 0
  pub small : step ≤ any_price_most

-- the spreading has stopped: nothing waits any more, or no waiting node leads to a goal as near as `best`
pub record SpreadStopped (b : Block) (price : ℕ → ℕ) (goals : Bool) (step : ℕ) (w w' : List ℕ) (best : ℕ) : Type 0 where
  pub count : ℕ
  pub level : ℕ
  pub spread : Spread b price goals w w' count level (nodes b) 0
  pub onward : SpreadOnward (nodes b) w w' far best
  pub stopped : (level ≡ far) ⊎ (best < level + step)
