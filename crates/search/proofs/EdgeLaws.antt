-- Laws of edges where tables 3 and 4 have their lengths but may break their rules: an edge stands at a place of table 4, and only nodes have edges.
-- Assumes nothing.
use mathlib.Core.Bool.{true}
use mathlib.Core.List.{[]}
use mathlib.Core.Logic.{⊎_elim}
use mathlib.Core.Path.{◌≡◌, sym, ◌∙◌, ap}
use Prim.Native.Nat.{ℕ, ◌+◌, ◌-◌, ◌≤◌, ◌<◌}
use native.Mathlib.Omega.{arith}
use lib.ListN.{length, get_or, length-take, length-drop, get_or-eq_default}
use lib.Seq.{drop-nil, slice}
use Rattle.price.specs.Bounds.{nodes_most}
use Rattle.price.specs.Lists.{has}
use Rattle.price.proofs.TestLaws.{le_or_lt, true≢false}
use Rattle.price.proofs.ListLaws.{has-at, has_place}
use Rattle.search.specs.Block.{Block, nodes, row_start, row, has_edge}
use Rattle.search.specs.Tables.{Sound, Graph}
use Rattle.search.proofs.BlockLaws.{graph_of_lem, slice_at, first_edges-long}

-- there are few enough nodes, and table 3 has its length
pub record Shaped (b : Block) : Type 0 where
  pub few : nodes b ≤ nodes_most
  pub firsts-long : length b.first_edges ≡ nodes b + 1

pub shape_of : (b : Block) → Graph b → Shaped b
shape_of b g = record { few = g.few; firsts-long = first_edges-long b g }

pub shaped : (b : Block) → Sound b → Shaped b
shaped b s = shape_of b (graph_of_lem b s)

module _ (b : Block) where
  pub place_edge : (u k : ℕ) → row_start b u ≤ k → k < row_start b (u + 1) → k < length b.edge_targets → has_edge b u (get_or b.edge_targets k 0) ≡ true
  unfolding has_edge row
  place_edge u k l m h =
      let long : k - row_start b u < length (slice (row_start b u) (row_start b (u + 1)) b.edge_targets) = simp (length-drop, length-take) (omega arith) in
      let same : row_start b u + (k - row_start b u) ≡ k = omega arith in
      let at : get_or (slice (row_start b u) (row_start b (u + 1)) b.edge_targets) (k - row_start b u) 0 ≡ get_or b.edge_targets k 0 =
      slice_at (row_start b u) (row_start b (u + 1)) b.edge_targets (k - row_start b u) (omega arith) ∙ ap (λ j. get_or b.edge_targets j 0) same in
      rw at at (has-at (slice (row_start b u) (row_start b (u + 1)) b.edge_targets) (k - row_start b u) long)

  pub edge_where : (u v : ℕ) → has_edge b u v ≡ true → (k : ℕ) × (row_start b u ≤ k) × (k < row_start b (u + 1)) × (k < length b.edge_targets) × (get_or b.edge_targets k 0 ≡ v)
  unfolding has_edge row
  edge_where u v e =
      let p = has_place v (slice (row_start b u) (row_start b (u + 1)) b.edge_targets) e in
      let long = simp (length-drop, length-take) at p.1 in
      let within : row_start b u + p.0 < row_start b (u + 1) = omega arith in
      (row_start b u + p.0, omega arith, within, omega arith, sym (slice_at (row_start b u) (row_start b (u + 1)) b.edge_targets p.0 within) ∙ p.2)

  pub edge-node : Shaped b → (u v : ℕ) → has_edge b u v ≡ true → u < nodes b
  unfolding has_edge row has
  edge-node g u v e =
      ⊎_elim
      (λ (h : nodes b ≤ u).
      let long = g.firsts-long in
      let none : row_start b (u + 1) ≡ 0 = get_or-eq_default b.first_edges 0 (omega arith) in
      let empty : row b u ≡ [] = rw none (drop-nil (row_start b u)) in
      absurd (true≢false (sym e ∙ rw empty)))
      (λ h. h)
      (le_or_lt (nodes b) u)
