-- A row of table 4 in one pass: what is left of it is tested by the least target that may come next.
-- Assumes nothing.
use mathlib.Core.Bool.{Bool, true, false, not}
use mathlib.Core.List.{List, [], ◌∷◌}
use mathlib.Core.Path.{◌≡◌, refl, sym, ◌∙◌, ap}
use Prim.Native.Nat.{ℕ, suc, ◌+◌, ◌≤◌, ◌<◌}
use native.Mathlib.Numerals.{add-one}
use native.Mathlib.Omega.{arith}
use lib.Dec.{leb, ltb, eqb, leb-zero}
use lib.ListN.{length, get_or, take, drop_of_length-le}
use lib.Seq.{slice, length-take-le, slice-cons}
use borrow.Author.Tests.{ltb-true, lt-ltb}
use Rattle.price.specs.Test.{both}
use Rattle.price.specs.Lists.{every, neighbours}
use Rattle.price.proofs.TestLaws.{true≢false, both_left}
use Rattle.search.specs.Tables.{row_sound}

-- what is left of the row of node u, where `low` is the least target that may come next: rising, so only the last has to be below n
unfoldable pub left_sound : ℕ → ℕ → ℕ → List ℕ → Bool
left_sound n u low [] = leb low n
left_sound n u low (v ∷ vs) = both (leb low v) (both (not (eqb v u)) (left_sound n u (suc v) vs))

-- the tests of a row in another order: that a target is a node follows from those of the next, and is asked of the last alone
both-order : (node other all less rise : Bool) → (less ≡ true → all ≡ true → node ≡ true) → both other (both less (both all rise)) ≡ both (both (both node other) all) (both less rise)
both-order true true true less rise h = refl
both-order true true false true rise h = refl
both-order true true false false rise h = refl
both-order true false all less rise h = refl
both-order false true true true rise h = absurd (true≢false (sym (h refl refl)))
both-order false true false true rise h = refl
both-order false true all false rise h = refl
both-order false false all less rise h = refl

both-last : (node other : Bool) → both other node ≡ both (both (both node other) true) true
both-last true true = refl
both-last true false = refl
both-last false true = refl
both-last false false = refl

module _ (n u : ℕ) where
  -- a target below a node is one itself
  node-below : (v w : ℕ) (ws : List ℕ) → ltb v w ≡ true → every (λ x. both (ltb x n) (not (eqb x u))) (w ∷ ws) ≡ true → ltb v n ≡ true
  unfolding every
  node-below v w ws l all =
      let less = ltb-true v w l in
      let node = ltb-true w n (both_left (ltb w n) (not (eqb w u)) (both_left _ (every (λ x. both (ltb x n) (not (eqb x u))) ws) all)) in
      lt-ltb v n (omega arith)

  left-row : (low v : ℕ) (vs : List ℕ) → left_sound n u low (v ∷ vs) ≡ both (leb low v) (row_sound n u (v ∷ vs))
  unfolding row_sound every neighbours left_sound
  left-row low v [] = ap (both (leb low v)) (both-last (ltb v n) (not (eqb v u)))
  left-row low v (w ∷ ws) =
      ap (λ t. both (leb low v) (both (not (eqb v u)) t)) (left-row (suc v) w ws)
      ∙ ap (both (leb low v))
      (both-order (ltb v n) (not (eqb v u)) (every (λ x. both (ltb x n) (not (eqb x u))) (w ∷ ws)) (ltb v w) (neighbours ltb (w ∷ ws)) (node-below v w ws))

  -- a whole row
  pub left_whole : (vs : List ℕ) → row_sound n u vs ≡ left_sound n u 0 vs
  unfolding row_sound every neighbours left_sound
  left_whole [] = sym (leb-zero n)
  left_whole (v ∷ vs) = sym (left-row 0 v vs ∙ ap (λ t. both t (row_sound n u (v ∷ vs))) (leb-zero v))

  module _ (low e to : ℕ) (ts : List ℕ) where
    pub left-next :
        e < to → to ≤ length ts
        → left_sound n u low (slice e to ts) ≡ both (leb low (get_or ts e 0)) (both (not (eqb (get_or ts e 0) u)) (left_sound n u (get_or ts e 0 + 1) (slice (e + 1) to ts)))
    unfolding left_sound
    left-next l within = rw (slice-cons e to ts 0 l within, add-one e, add-one (get_or ts e 0))

    pub left_end : to ≤ e → to ≤ length ts → left_sound n u low (slice e to ts) ≡ leb low n
    unfolding left_sound
    left_end end within = rw (drop_of_length-le (take to ts) {i = e} (omega (arith, length-take-le to ts within)))
