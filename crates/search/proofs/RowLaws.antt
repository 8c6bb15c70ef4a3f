-- A row of table 4 keeps its rule where each entry does, and breaks it where one doesn't, by the places of the whole table.
-- Assumes nothing.
use mathlib.Core.Bool.{true, false, not}
use mathlib.Core.List.{List}
use mathlib.Core.Path.{◌≡◌, ◌∙◌, ap}
use Prim.Native.Nat.{ℕ, suc, ◌+◌, ◌-◌, ◌≤◌, ◌<◌}
use native.Mathlib.Omega.{arith}
use lib.Dec.{ltb, eqb}
use lib.ListN.{length, get_or}
use lib.Seq.{slice, length-slice}
use borrow.Author.Tests.{lt-ltb, le-ltb, eq-eqb, ne_eqb}
use Rattle.price.specs.Test.{both}
use Rattle.price.specs.Lists.{every, neighbours}
use Rattle.price.proofs.TestLaws.{both_true, both_false_left, both_false_right}
use Rattle.price.proofs.ListLaws.{every-all, every-none, neighbours-all, neighbours-none}
use Rattle.search.specs.Tables.{row_sound}
use Rattle.search.proofs.BlockLaws.{slice_at}

-- the entry at place k of table 4, in the row of node u that begins at `from`
pub record Entry (n u from : ℕ) (ts : List ℕ) (k : ℕ) : Type 0 where
  pub node : get_or ts k 0 < n
  pub other : get_or ts k 0 ≡ u → ⊥
  pub rises : from < k → get_or ts (k - 1) 0 < get_or ts k 0

-- a part of a list by the places of the whole
slice_place : (from to : ℕ) (ts : List ℕ) (k : ℕ) → from ≤ k → k < to → get_or (slice from to ts) (k - from) 0 ≡ get_or ts k 0
slice_place from to ts k h l =
    let same : from + (k - from) ≡ k = omega arith in
    slice_at from to ts (k - from) (omega arith) ∙ ap (λ j. get_or ts j 0) same

module _ (n u from to : ℕ) (ts : List ℕ) (within : to ≤ length ts) where
  entry_bad : (e : ℕ) → from ≤ e → e < to → both (ltb (get_or ts e 0) n) (not (eqb (get_or ts e 0) u)) ≡ false → row_sound n u (slice from to ts) ≡ false
  unfolding row_sound
  entry_bad e h l bad =
      both_false_left (every (λ v. both (ltb v n) (not (eqb v u))) (slice from to ts)) (neighbours ltb (slice from to ts))
      (every-none (λ v. both (ltb v n) (not (eqb v u))) (slice from to ts) (e - from)
      (rw (length-slice from to ts within) (omega arith))
      (rw (slice_place from to ts e h l) bad))

  pub row_no_node : (e : ℕ) → from ≤ e → e < to → n ≤ get_or ts e 0 → row_sound n u (slice from to ts) ≡ false
  row_no_node e h l bad = entry_bad e h l (rw (le-ltb (get_or ts e 0) n bad))

  pub row_itself : (e : ℕ) → from ≤ e → e < to → get_or ts e 0 ≡ u → row_sound n u (slice from to ts) ≡ false
  row_itself e h l bad = entry_bad e h l (both_false_right (ltb (get_or ts e 0) n) (not (eqb (get_or ts e 0) u)) (rw (eq-eqb (get_or ts e 0) u bad)))

  pub row_no_rise : (e : ℕ) → from < e → e < to → get_or ts e 0 ≤ get_or ts (e - 1) 0 → row_sound n u (slice from to ts) ≡ false
  unfolding row_sound
  row_no_rise e h l bad =
      let next : suc (e - 1 - from) ≡ e - from = omega arith in
      both_false_right (every (λ v. both (ltb v n) (not (eqb v u))) (slice from to ts)) (neighbours ltb (slice from to ts))
      (neighbours-none ltb (slice from to ts) (e - 1 - from)
      (rw (next, length-slice from to ts within) (omega arith))
      (rw (next, slice_place from to ts e (omega arith) l, slice_place from to ts (e - 1) (omega arith) (omega arith))
      (le-ltb (get_or ts (e - 1) 0) (get_or ts e 0) bad)))

  pub row-all : (e : ℕ) → to ≤ e → ((k : ℕ) → k < e → from ≤ k → Entry n u from ts k) → row_sound n u (slice from to ts) ≡ true
  unfolding row_sound
  row-all e end all =
      let long : length (slice from to ts) ≡ to - from = length-slice from to ts within in
      both_true
      (every-all (λ v. both (ltb v n) (not (eqb v u))) (slice from to ts)
      (λ i l.
      let here : Entry n u from ts (from + i) = all (from + i) (omega arith) (omega arith) in
      rw (slice_at from to ts i (omega arith))
      (both_true (lt-ltb (get_or ts (from + i) 0) n here.node) (rw (ne_eqb (get_or ts (from + i) 0) u here.other)))))
      (neighbours-all ltb (slice from to ts)
      (λ i l.
      let here : Entry n u from ts (from + suc i) = all (from + suc i) (omega arith) (omega arith) in
      let last : from + suc i - 1 ≡ from + i = omega arith in
      rw (slice_at from to ts i (omega arith), slice_at from to ts (suc i) (omega arith))
      (lt-ltb (get_or ts (from + i) 0) (get_or ts (from + suc i) 0) (rw last at (here.rises (omega arith))))))
