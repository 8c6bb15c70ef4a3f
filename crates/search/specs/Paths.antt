-- Paths and their costs, over any price of a node.
-- Assumes nothing.
use Rattle.std.specs.Prelude.{Bool, true, false, List, [], ◌∷◌, ◌≡◌, ℕ, ◌*◌, ◌≤◌, ◌<◌}
use Rattle.price.specs.Bounds.{path_most}
use Rattle.price.specs.Lists.{has, total}
use Rattle.search.specs.Block.{Block, nodes, has_edge}

-- "In a path each node has an edge to the next." `Walk b u path v`: a path from u to v. It may pass a node twice.
pub data Walk (b : Block) : ℕ → List ℕ → ℕ → Type 0 where
  stay : (u : ℕ) → Walk b u (u ∷ []) u
  step : {u w v : ℕ} {path : List ℕ} → has_edge b u w ≡ true → Walk b w path v → Walk b u (u ∷ path) v

-- "A path's cost sums the prices of its nodes except the first, a tree node."
unfoldable pub path_cost : (ℕ → ℕ) → List ℕ → ℕ
path_cost price [] = 0
path_cost price (u ∷ path) = total price path

-- no price that a search works with is above this
abbrev pub any_price_most : ℕ
any_price_most = 1000000000000000000

-- prices that a search can work with: above 0, at most some ceiling, and so many of these as there are nodes add up to less than
-- `path_most`, so that no path's cost wraps
pub record Fair (b : Block) (price : ℕ → ℕ) : Type 0 where
  pub ceiling : ℕ
  pub low : ceiling ≤ any_price_most
  pub fits : nodes b * ceiling < path_most
  pub pos : (v : ℕ) → v < nodes b → 0 < price v
  pub most : (v : ℕ) → v < nodes b → price v ≤ ceiling

-- A path along edges from a node of the tree to a listed sink that the tree lacks, at its cost.
pub record JoiningPath (b : Block) (price : ℕ → ℕ) (tree : ℕ → Bool) (sinks : List ℕ) (sink cost : ℕ) (path : List ℕ) : Type 0 where
  pub start : ℕ
  pub starts_in_tree : tree start ≡ true
  pub follows : Walk b start path sink
  pub sink-listed : has sink sinks ≡ true
  pub sink_open : tree sink ≡ false
  pub costs : cost ≡ path_cost price path

-- Such a path, and every path in the graph from any node of the tree to any such sink costs at least as much.
pub record CheapestPath (b : Block) (price : ℕ → ℕ) (tree : ℕ → Bool) (sinks : List ℕ) (sink cost : ℕ) (path : List ℕ) : Type 0 where
  pub joins : JoiningPath b price tree sinks sink cost path
  pub cheapest :
      (t s : ℕ) (other : List ℕ) → tree t ≡ true → has s sinks ≡ true → tree s ≡ false → Walk b t other s
      → cost ≤ path_cost price other

-- no path in the graph leads from a node of the tree to a listed sink that the tree lacks
abbrev pub NoPath : Block → (ℕ → Bool) → List ℕ → Type 0
NoPath b tree sinks =
    (t s : ℕ) (path : List ℕ) → tree t ≡ true → has s sinks ≡ true → tree s ≡ false → Walk b t path s → ⊥
