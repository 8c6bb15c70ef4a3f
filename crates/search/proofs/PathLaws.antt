-- Laws of a path that is built backwards from a sink: where each node has its distance over the edge from the node before it,
-- the path follows edges, costs the distances' difference, and its distances rise, so that no node stands twice.
-- Assumes nothing.
use mathlib.Core.Bool.{true, false, not}
use mathlib.Core.List.{List, [], ◌∷◌}
use mathlib.Core.Path.{◌≡◌, refl, ap}
use Prim.Native.Nat.{ℕ, zero, suc, ◌+◌, ◌<◌}
use native.Mathlib.Nat.{not-suc-le-zero, le_of_suc-le-suc}
use native.Mathlib.Omega.{arith}
use lib.ListN.{length, get_or}
use Rattle.price.specs.Lists.{every, has, distinct, total}
use Rattle.price.proofs.TestLaws.{by_test, both_true}
use Rattle.price.proofs.ListLaws.{has_place}
use Rattle.search.specs.Block.{Block, nodes, has_edge}
use Rattle.search.specs.Paths.{Walk, stay, step, Fair}
use Rattle.search.specs.Distance.{tree_has, distance}
use Rattle.search.proofs.DistinctLaws.{distinct-short}

-- the part of a path behind u, up to s: each of its nodes is outside the tree and has its distance over the edge from the node before it
pub data Onward (b : Block) (price : ℕ → ℕ) (marks : List ℕ) : ℕ → List ℕ → ℕ → Type 0 where
  done : (s : ℕ) → Onward b price marks s [] s
  on : {u v s : ℕ} {path : List ℕ} → v < nodes b → tree_has marks v ≡ false → has_edge b u v ≡ true
      → distance b price marks u + price v ≡ distance b price marks v → Onward b price marks v path s → Onward b price marks u (v ∷ path) s

module _ (b : Block) (price : ℕ → ℕ) (marks : List ℕ) where
  pub onward_walk : {u s : ℕ} {path : List ℕ} → Onward b price marks u path s → Walk b u (u ∷ path) s
  onward_walk (done s) = stay s
  onward_walk (on n o e d r) = step e (onward_walk r)

  pub onward-cost : {u s : ℕ} {path : List ℕ} → Onward b price marks u path s → distance b price marks u + total price path ≡ distance b price marks s
  unfolding total
  onward-cost (done s) = omega arith
  onward-cost (on n o e d r) = omega (arith, onward-cost r)

  pub onward-out : {u s : ℕ} {path : List ℕ} → Onward b price marks u path s → every (λ x. not (tree_has marks x)) path ≡ true
  unfolding every
  onward-out (done s) = refl
  onward-out (on n o e d r) = both_true (ap not o) (onward-out r)

  pub onward-nodes : {u s : ℕ} {path : List ℕ} → Onward b price marks u path s → (i : ℕ) → i < length path → get_or path i 0 < nodes b
  onward-nodes (done s) i l = absurd (not-suc-le-zero l)
  onward-nodes (on n o e d r) zero l = n
  onward-nodes (on n o e d r) (suc i) l = onward-nodes r i (le_of_suc-le-suc l)

  -- the first node's too
  pub onward-all : {u s : ℕ} {path : List ℕ} → u < nodes b → Onward b price marks u path s → (i : ℕ) → i < length (u ∷ path) → get_or (u ∷ path) i 0 < nodes b
  onward-all h r zero l = h
  onward-all h r (suc i) l = onward-nodes r i (le_of_suc-le-suc l)

  module _ (fair : Fair b price) where
    pub onward_rise : {u s : ℕ} {path : List ℕ} → Onward b price marks u path s → (i : ℕ) → i < length path → distance b price marks u < distance b price marks (get_or path i 0)
    onward_rise (done s) i l = absurd (not-suc-le-zero l)
    onward_rise (on {v = v} n o e d r) zero l = omega (arith, fair.pos v n)
    onward_rise (on {v = v} n o e d r) (suc i) l = omega (arith, fair.pos v n, onward_rise r i (le_of_suc-le-suc l))

    onward-new : {u s : ℕ} {path : List ℕ} → Onward b price marks u path s → has u path ≡ false
    onward-new {u} {s} {path} r =
        by_test (has u path)
        (λ q.
        let at = has_place u path q in
        let same : distance b price marks (get_or path at.0 0) ≡ distance b price marks u = ap (distance b price marks) at.2 in
        absurd (omega (arith, onward_rise r at.0 at.1)))
        (λ q. q)

    pub onward-distinct : {u s : ℕ} {path : List ℕ} → Onward b price marks u path s → distinct (u ∷ path) ≡ true
    unfolding distinct
    onward-distinct (done s) = both_true (ap not (onward-new (done s))) refl
    onward-distinct (on n o e d r) = both_true (ap not (onward-new (on n o e d r))) (onward-distinct r)

    pub onward-short : {u s : ℕ} {path : List ℕ} → u < nodes b → Onward b price marks u path s → length path < nodes b
    onward-short {u} {s} {path} h r = distinct-short (nodes b) (u ∷ path) (onward-distinct r) (onward-all h r)
