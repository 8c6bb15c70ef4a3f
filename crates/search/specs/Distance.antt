-- Document 01, "One turn": the distances of all nodes from a tree, over any price of a node. What a distance is, in terms of paths alone
-- (`LeastCost`); and distances worked out by rounds over all edges (`distances`), which is Bellman and Ford's algorithm.
-- `proofs/DistanceLaws.antt` has the theorem that these are those.
-- Assumes nothing.
use Rattle.std.specs.Prelude.{Bool, true, List, ◌≡◌, ℕ, zero, suc, ◌+◌, ◌-◌, ◌^◌, ◌≤◌, ◌<◌, eqb, get_or}
use Rattle.price.specs.Test.{choose}
use Rattle.price.specs.Lists.{up_to, least}
use Rattle.search.specs.Block.{Block, nodes, has_edge}
use Rattle.search.specs.Paths.{Walk, path_cost}

-- "2^64 − 1 where there is no path"
abbrev pub far : ℕ
far = 2 ^ 64 - 1

-- d is "the least path cost from the tree" to node v, and 2^64 − 1 exactly where there is no path. A path may pass a node twice. On a tree
-- node the least cost is 0: the path that stays there.
pub data LeastCost (b : Block) (price : ℕ → ℕ) (tree : ℕ → Bool) (v d : ℕ) : Type 0 where
  reached :
      (start : ℕ) (path : List ℕ) → tree start ≡ true → Walk b start path v → path_cost price path ≡ d → d < far
      → ((t : ℕ) (other : List ℕ) → tree t ≡ true → Walk b t other v → d ≤ path_cost price other)
      → LeastCost b price tree v d
  unreached :
      d ≡ far → ((t : ℕ) (path : List ℕ) → tree t ≡ true → Walk b t path v → ⊥)
      → LeastCost b price tree v d

-- "tree mark (1 in the tree, else 0; .."
unfoldable pub tree_has : List ℕ → ℕ → Bool
tree_has marks v = eqb (get_or marks v 0) 1

-- "Distance is 0 on tree nodes", and nothing else is reached yet
unfoldable pub tree_distances : Block → List ℕ → List ℕ
tree_distances b marks = up_to (λ v. choose (tree_has marks v) 0 far) (nodes b)

-- the least of v's distance so far and of the ways to v over each edge
unfoldable pub nearer : Block → (ℕ → ℕ) → List ℕ → ℕ → ℕ
nearer b price ds v =
    least (get_or ds v far) (up_to (λ u. choose (has_edge b u v) (get_or ds u far + price v) far) (nodes b))

-- every node looks once over the edges that lead to it
unfoldable pub round : Block → (ℕ → ℕ) → List ℕ → List ℕ
round b price ds = up_to (nearer b price ds) (nodes b)

unfoldable pub rounds : Block → (ℕ → ℕ) → List ℕ → ℕ → List ℕ
rounds b price ds zero = ds
rounds b price ds (suc k) = round b price (rounds b price ds k)

-- "Distance is 0 on tree nodes, elsewhere the least path cost from the tree." After as many rounds as there are nodes nothing changes any
-- more.
unfoldable pub distances : Block → (ℕ → ℕ) → List ℕ → List ℕ
distances b price marks = rounds b price (tree_distances b marks) (nodes b)

-- the distance of one node
abbrev pub distance : Block → (ℕ → ℕ) → List ℕ → ℕ → ℕ
distance b price marks v = get_or (distances b price marks) v far
