-- A trail along predecessors is the path to a node that has a distance, where each predecessor is the node before.
-- Assumes nothing.
use mathlib.Core.Bool.{true, false}
use mathlib.Core.List.{List, [], ◌∷◌}
use mathlib.Core.Logic.{◌⊎◌, inl, inr}
use mathlib.Core.Path.{◌≡◌, refl}
use Prim.Native.Nat.{ℕ, zero, suc, ◌+◌, ◌≤◌, ◌<◌}
use native.Mathlib.Nat.{le_trans}
use native.Mathlib.Omega.{arith}
use lib.ListN.{length}
use Rattle.price.proofs.TestLaws.{by_test}
use Rattle.search.specs.Block.{Block, nodes, has_edge}
use Rattle.search.specs.Paths.{Fair}
use Rattle.search.specs.Distance.{far, tree_has, distances, distance}
use Rattle.search.specs.Turn.{before, back, path_to}
use Rattle.search.specs.Labels.{from_at}
use Rattle.search.specs.TurnWork.{trail}
use Rattle.search.proofs.EdgeLaws.{Shaped}
use Rattle.search.proofs.PathLaws.{Onward, done, on, onward-short}
use Rattle.search.proofs.BeforeLaws.{before_node, before_edge, before_sum, before_near}

module _ (b : Block) (price : ℕ → ℕ) (marks : List ℕ) (g : Shaped b) (fair : Fair b price) where
  -- x is s, or an edge leads on from it: so it is of every node on a path to s
  abbrev pub OnTheWay : ℕ → ℕ → Type 0
  OnTheWay s x = (x ≡ s) ⊎ ((y : ℕ) × (has_edge b x y ≡ true))

  -- the predecessors of nodes that are on the way to s, and had over a node nearer than `level`, are the nodes before
  abbrev pub PredecessorsFinal : ℕ → List ℕ → ℕ → Type 0
  PredecessorsFinal s w level =
      (x : ℕ) → OnTheWay s x → x < nodes b → tree_has marks x ≡ false → distance b price marks x < far → distance b price marks x < level + price x
      → from_at (nodes b) w x ≡ before b price (distances b price marks) x

  -- a trail along the nodes before builds what `back` builds: each step leads nearer, so that as many steps as the distance suffice.
  -- The node before one that is had over a node nearer than `level` is nearer than `level`.
  trail-back :
      (s : ℕ) (w : List ℕ) (level : ℕ) → PredecessorsFinal s w level
      → (k fuel v : ℕ) (path : List ℕ) → OnTheWay s v → v < nodes b → distance b price marks v < far → distance b price marks v < level + price v → distance b price marks v ≤ fuel → Onward b price marks v path s → length path + k ≡ nodes b
      → trail (nodes b) marks w fuel v path ≡ back b price marks (distances b price marks) k v path
  unfolding trail back
  trail-back s w level same zero fuel v path way node near close enough r e = absurd (omega (arith, onward-short b price marks fair node r))
  trail-back s w level same (suc k) zero v path way node near close enough r e =
      by_test (tree_has marks v)
      (λ q. rw q)
      (λ q. absurd (omega (arith, before_near b price marks g fair v node q near)))
  trail-back s w level same (suc k) (suc fuel) v path way node near close enough r e =
      by_test (tree_has marks v)
      (λ q. rw q)
      (λ q.
      rw (q, same v way node q near close)
      (trail-back s w level same k fuel (before b price (distances b price marks) v) (v ∷ path) (inr (v, before_edge b price marks g fair v node q near)) (before_node b price marks g fair v node q near)
      (le_trans (before_near b price marks g fair v node q near) (omega arith))
      (omega (arith, before_sum b price marks g fair v node q near))
      (omega (arith, before_near b price marks g fair v node q near))
      (on node q (before_edge b price marks g fair v node q near) (before_sum b price marks g fair v node q near) r)
      (omega arith)))

  -- it is the path to the node
  pub trail-to :
      (v : ℕ) → v < nodes b → distance b price marks v < far → (w : List ℕ) (fuel level : ℕ) → distance b price marks v ≤ fuel → distance b price marks v < level + price v
      → PredecessorsFinal v w level → trail (nodes b) marks w fuel v [] ≡ path_to b price marks v
  unfolding path_to
  trail-to v node near w fuel level enough close same =
      trail-back v w level same (nodes b) fuel v [] (inl refl) node near close enough (done v) (omega arith)

  -- so where all predecessors are final
  pub trail_is :
      (v : ℕ) → v < nodes b → distance b price marks v < far → (w : List ℕ) (fuel level : ℕ) → distance b price marks v ≤ fuel → distance b price marks v < level + price v
      → ((x : ℕ) → x < nodes b → tree_has marks x ≡ false → distance b price marks x < far → distance b price marks x < level + price x → from_at (nodes b) w x ≡ before b price (distances b price marks) x)
      → trail (nodes b) marks w fuel v [] ≡ path_to b price marks v
  trail_is v node near w fuel level enough close same = trail-to v node near w fuel level enough close (λ x way. same x)
