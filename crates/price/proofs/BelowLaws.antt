-- Laws of the lowest number that passes a test, and of how many pass.
-- Assumes nothing.
use mathlib.Core.Bool.{Bool, true, false}
use mathlib.Core.Logic.{⊎_elim}
use mathlib.Core.Path.{◌≡◌, refl, sym, ◌∙◌}
use Prim.Native.Nat.{ℕ, zero, suc, ◌+◌, ◌≤◌, ◌<◌, zero-le}
use native.Mathlib.Nat.{not-suc-le-zero, le_of_suc-le-suc, le_antisymm, lt_irrefl, eq-or-lt_of_le}
use native.Mathlib.Omega.{arith}
use lib.Dec.{ltb}
use borrow.Author.Tests.{ltb-true, ltb-false}
use Rattle.price.specs.Lists.{first_below, count_below}
use Rattle.price.proofs.TestLaws.{by_test, le_or_lt, true≢false}

-- ---- the lowest number that passes a test

module _ (t : ℕ → Bool) where
  pub first_below-le : (n : ℕ) → first_below t n ≤ n
  unfolding first_below
  first_below-le zero = zero-le
  first_below-le (suc n) =
      by_test (ltb (first_below t n) n)
      (λ q. rw q (let r = first_below-le n in omega arith))
      (λ q. rw q (by_test (t n) (λ p. rw p (omega arith)) (λ p. rw p (omega arith))))

  -- no lower number passes
  pub first_below-below : (n k : ℕ) → k < first_below t n → t k ≡ false
  unfolding first_below
  first_below-below zero k l = absurd (not-suc-le-zero l)
  first_below-below (suc n) k l =
      by_test (ltb (first_below t n) n)
      (λ q. first_below-below n k (rw q at l))
      (λ q.
      let whole : n ≤ first_below t n = ltb-false (first_below t n) n q in
      by_test (t n)
      (λ p. first_below-below n k (omega (arith, rw (q, p) at l)))
      (λ p.
      let h : k < suc n = rw (q, p) at l in
      ⊎_elim (λ e. rw e p) (λ g. first_below-below n k (omega arith)) (eq-or-lt_of_le (le_of_suc-le-suc h))))

  -- it passes itself, where there is one
  pub first_below_holds : (n : ℕ) → first_below t n < n → t (first_below t n) ≡ true
  unfolding first_below
  first_below_holds zero l = absurd (not-suc-le-zero l)
  first_below_holds (suc n) l =
      by_test (ltb (first_below t n) n)
      (λ q. rw q (first_below_holds n (ltb-true (first_below t n) n q)))
      (λ q.
      by_test (t n)
      (λ p. rw (q, p) p)
      (λ p. absurd (lt_irrefl (suc n) (rw (q, p) at l))))

  -- a number that passes, with none below it that does, is the lowest
  pub first_below-is : (n k : ℕ) → k < n → t k ≡ true → ((j : ℕ) → j < k → t j ≡ false) → first_below t n ≡ k
  first_below-is n k l p none =
      le_antisymm
      (⊎_elim (λ h. h) (λ h. absurd (true≢false (sym p ∙ first_below-below n k h))) (le_or_lt (first_below t n) k))
      (⊎_elim
      (λ h. h)
      (λ h. absurd (true≢false (sym (first_below_holds n (omega arith)) ∙ none (first_below t n) h)))
      (le_or_lt k (first_below t n)))

  -- where none passes it is the bound
  pub first_below-all : (n : ℕ) → ((j : ℕ) → j < n → t j ≡ false) → first_below t n ≡ n
  first_below-all n none =
      le_antisymm (first_below-le n)
      (⊎_elim
      (λ h. h)
      (λ h. absurd (true≢false (sym (first_below_holds n h) ∙ none (first_below t n) h)))
      (le_or_lt n (first_below t n)))

-- ---- how many numbers pass

module _ (t : ℕ → Bool) where
  pub count_most_lem : (n : ℕ) → count_below t n ≤ n
  unfolding count_below
  count_most_lem zero = zero-le
  count_most_lem (suc n) =
      let r = count_most_lem n in
      by_test (t n) (λ q. rw q (omega arith)) (λ q. rw q (omega arith))

  module _ (s : ℕ → Bool) where
    -- where no more pass, no more are counted
    pub count-le : (n : ℕ) → ((x : ℕ) → x < n → s x ≡ true → t x ≡ true) → count_below s n ≤ count_below t n
    unfolding count_below
    count-le zero more = zero-le
    count-le (suc n) more =
        let r = count-le n (λ x l. more x (omega arith)) in
        by_test (s n)
        (λ q. rw (q, more n (omega arith) q) (omega arith))
        (λ q.
        by_test (t n) (λ p. rw (q, p) (omega arith)) (λ p. rw (q, p) (omega arith)))

    -- where one passes no more, fewer are counted
    pub count_less : (n u : ℕ) → ((x : ℕ) → x < n → s x ≡ true → t x ≡ true) → u < n → t u ≡ true → s u ≡ false → count_below s n < count_below t n
    unfolding count_below
    count_less zero u more l tu su = absurd (not-suc-le-zero l)
    count_less (suc n) u more l tu su =
        ⊎_elim
        (λ (e : u ≡ n).
        let r = count-le n (λ x h. more x (omega arith)) in
        rw (rw e at su, rw e at tu) (omega arith))
        (λ (h : u < n).
        let r = count_less n u (λ x k. more x (omega arith)) h tu su in
        by_test (s n)
        (λ q. rw (q, more n (omega arith) q) (omega arith))
        (λ q.
        by_test (t n) (λ p. rw (q, p) (omega arith)) (λ p. rw (q, p) (omega arith))))
        (eq-or-lt_of_le (le_of_suc-le-suc l))

-- where the same pass, as many are counted
pub count_same : (s t : ℕ → Bool) (n : ℕ) → ((x : ℕ) → x < n → s x ≡ t x) → count_below s n ≡ count_below t n
count_same s t n same =
    le_antisymm (count-le t s n (λ x l p. sym (same x l) ∙ p)) (count-le s t n (λ x l p. same x l ∙ p))

-- where one more passes, one more is counted
pub count_one :
    (s t : ℕ → Bool) (n u : ℕ) → u < n → s u ≡ false → t u ≡ true → ((x : ℕ) → x < n → (x ≡ u → ⊥) → s x ≡ t x)
    → count_below t n ≡ count_below s n + 1
unfolding count_below
count_one s t zero u l su tu same = absurd (not-suc-le-zero l)
count_one s t (suc n) u l su tu same =
    ⊎_elim
    (λ (e : u ≡ n).
    let r : count_below s n ≡ count_below t n = count_same s t n (λ x h. same x (omega arith) (λ q. omega arith)) in
    rw (rw e at su, rw e at tu, r) (omega arith))
    (λ (h : u < n).
    let r : count_below t n ≡ count_below s n + 1 = count_one s t n u h su tu (λ x k ne. same x (omega arith) ne) in
    let here : s n ≡ t n = same n (omega arith) (λ q. omega arith) in
    rw (here, r) (omega arith))
    (eq-or-lt_of_le (le_of_suc-le-suc l))

-- where none passes, none is counted
pub count_zero : (t : ℕ → Bool) (n : ℕ) → ((x : ℕ) → x < n → t x ≡ false) → count_below t n ≡ 0
unfolding count_below
count_zero t zero none = refl
count_zero t (suc n) none = rw (none n (omega arith), count_zero t n (λ x h. none x (omega arith)))
