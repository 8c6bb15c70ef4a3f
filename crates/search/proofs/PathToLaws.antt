-- Laws of the path to a node that has a distance: it follows edges from the tree, has no node twice and no other tree node, and costs the distance.
-- Assumes nothing.
use mathlib.Core.Bool.{true, not}
use mathlib.Core.List.{List, [], ◌∷◌}
use mathlib.Core.Path.{◌≡◌, refl}
use Prim.Native.Nat.{ℕ, zero, suc, ◌+◌, ◌≤◌, ◌<◌}
use native.Mathlib.Nat.{le_trans}
use native.Mathlib.Omega.{arith}
use lib.ListN.{length, get_or, drop}
use Rattle.price.specs.Lists.{every, distinct}
use Rattle.price.proofs.TestLaws.{by_test}
use Rattle.search.specs.Block.{Block, nodes}
use Rattle.search.specs.Paths.{Walk, path_cost, Fair}
use Rattle.search.specs.Distance.{far, tree_has, distances, distance}
use Rattle.search.specs.Turn.{before, back, path_to}
use Rattle.search.proofs.EdgeLaws.{Shaped}
use Rattle.search.proofs.DistanceLaws.{distance-tree}
use Rattle.search.proofs.PathLaws.{Onward, done, on, onward_walk, onward-cost, onward-out, onward-all, onward-distinct, onward-short}
use Rattle.search.proofs.BeforeLaws.{before_node, before_edge, before_sum, before_near}

-- a path to s that begins at a tree node and goes on over the nodes' distances
record Ended (b : Block) (price : ℕ → ℕ) (marks : List ℕ) (s : ℕ) (path : List ℕ) : Type 0 where
  start : ℕ
  rest : List ℕ
  node : start < nodes b
  in_tree : tree_has marks start ≡ true
  onward : Onward b price marks start rest s
  is : path ≡ start ∷ rest

module _ (b : Block) (price : ℕ → ℕ) (marks : List ℕ) (g : Shaped b) (fair : Fair b price) where
  -- the path to s is built backwards: v stands in front of `path`, and k steps are left, as many as `path` lacks of all nodes.
  -- They never run out, since the path's nodes are distinct.
  module _ (s : ℕ) where
    back-ends : (k v : ℕ) (path : List ℕ) → v < nodes b → distance b price marks v < far → Onward b price marks v path s → length path + k ≡ nodes b → Ended b price marks s (back b price marks (distances b price marks) k v path)
    unfolding back
    back-ends zero v path node near r e = absurd (omega (arith, onward-short b price marks fair node r))
    back-ends (suc k) v path node near r e =
        by_test (tree_has marks v)
        (λ q. rw q (record { start = v; rest = path; node = node; in_tree = q; onward = r; is = refl }))
        (λ q.
        rw q
        (back-ends k (before b price (distances b price marks) v) (v ∷ path) (before_node b price marks g fair v node q near)
        (le_trans (before_near b price marks g fair v node q near) (omega arith))
        (on node q (before_edge b price marks g fair v node q near) (before_sum b price marks g fair v node q near) r)
        (omega arith)))

  -- the path to a node that has a distance
  module _ (v : ℕ) (node : v < nodes b) (near : distance b price marks v < far) where
    path-ends : Ended b price marks v (path_to b price marks v)
    unfolding path_to
    path-ends = back-ends v (nodes b) v [] node near (done v) (omega arith)

    pub path_walk : (t : ℕ) × (t < nodes b) × (tree_has marks t ≡ true) × Walk b t (path_to b price marks v) v
    path_walk =
        let p = path-ends in
        (p.start, p.node, p.in_tree, rw p.is (onward_walk b price marks p.onward))

    pub path_cost_lem : path_cost price (path_to b price marks v) ≡ distance b price marks v
    unfolding path_cost
    path_cost_lem =
        let p = path-ends in
        rw p.is (omega (arith, onward-cost b price marks p.onward, distance-tree b price marks p.start p.node p.in_tree))

    pub path-distinct : distinct (path_to b price marks v) ≡ true
    path-distinct = let p = path-ends in rw p.is (onward-distinct b price marks fair p.onward)

    pub path_one_tree-node : every (λ x. not (tree_has marks x)) (drop 1 (path_to b price marks v)) ≡ true
    path_one_tree-node = let p = path-ends in rw p.is (onward-out b price marks p.onward)

    pub path-short : length (path_to b price marks v) ≤ nodes b
    path-short = let p = path-ends in rw p.is (onward-short b price marks fair p.node p.onward)

    pub path_nodes_lem : (i : ℕ) → i < length (path_to b price marks v) → get_or (path_to b price marks v) i 0 < nodes b
    path_nodes_lem i h =
        let p = path-ends in rw p.is (onward-all b price marks p.node p.onward i (rw p.is at h))
