-- A list with no entry twice, whose entries are all below n, has at most n entries.
-- Assumes nothing.
use mathlib.Core.Bool.{true, false, not}
use mathlib.Core.List.{List, [], ◌∷◌}
use mathlib.Core.Logic.{◌⊎◌, ⊎_elim, inl, inr}
use mathlib.Core.Path.{◌≡◌, refl, sym, ◌∙◌, ap, subst}
use Prim.Native.Nat.{ℕ, zero, suc, ◌≤◌, ◌<◌, zero-le, suc-le-suc}
use native.Mathlib.Nat.{not-suc-le-zero, le_of_suc-le-suc, le_step, eq-or-lt_of_le}
use lib.Dec.{eqb}
use lib.ListN.{length, get_or}
use borrow.Author.Tests.{eq-eqb, eqb-true, not-true}
use Rattle.price.specs.Lists.{has, distinct}
use Rattle.price.proofs.TestLaws.{by_test, true≢false, both_left, both_right, never_true}
use Rattle.price.proofs.ListLaws.{has_place}

-- an entry of a longer list is its first entry, or an entry of the rest
pub has_cons : (x y : ℕ) (ys : List ℕ) → has x (y ∷ ys) ≡ true → (x ≡ y) ⊎ (has x ys ≡ true)
unfolding has
has_cons x y ys h =
    by_test (eqb x y)
    (λ q. inl (eqb-true x y q))
    (λ q. inr (rw q at h))

-- and the first entry and each of the rest are entries
pub has_first : (x : ℕ) (ys : List ℕ) → has x (x ∷ ys) ≡ true
unfolding has
has_first x ys = rw (eq-eqb x x refl)

pub has_rest : (x y : ℕ) (ys : List ℕ) → has x ys ≡ true → has x (y ∷ ys) ≡ true
unfolding has
has_rest x y ys h = by_test (eqb x y) (λ q. rw q) (λ q. rw q h)

-- what is no entry
pub lacks : (x : ℕ) (xs : List ℕ) → (has x xs ≡ true → ⊥) → has x xs ≡ false
lacks x xs none = never_true (has x xs) none

-- no entry twice: the first is none of the rest, and the rest has none twice
pub distinct_cons : (x : ℕ) (xs : List ℕ) → has x xs ≡ false → distinct xs ≡ true → distinct (x ∷ xs) ≡ true
unfolding distinct
distinct_cons x xs h d = rw h d

pub distinct_first : (x : ℕ) (xs : List ℕ) → distinct (x ∷ xs) ≡ true → has x xs ≡ false
unfolding distinct
distinct_first x xs d = not-true (has x xs) (both_left (not (has x xs)) (distinct xs) d)

pub distinct_rest : (x : ℕ) (xs : List ℕ) → distinct (x ∷ xs) ≡ true → distinct xs ≡ true
unfolding distinct
distinct_rest x xs d = both_right (not (has x xs)) (distinct xs) d

-- an entry taken out of a list with no entry twice
record Without (x : ℕ) (xs : List ℕ) : Type 0 where
  rest : List ℕ
  shorter : length xs ≡ suc (length rest)
  still-distinct : distinct rest ≡ true
  within : (z : ℕ) → has z rest ≡ true → has z xs ≡ true
  gone : has x rest ≡ true → ⊥

without : (x : ℕ) (xs : List ℕ) → has x xs ≡ true → distinct xs ≡ true → Without x xs
unfolding has
without x [] h d = absurd (true≢false (sym h))
without x (y ∷ ys) h d =
    ⊎_elim
    (λ (e : x ≡ y).
    record {
      rest = ys;
      shorter = refl;
      still-distinct = distinct_rest y ys d;
      within = λ z m. has_rest z y ys m;
      gone = λ m. true≢false (sym (rw e at m) ∙ distinct_first y ys d);
    })
    (λ (m : has x ys ≡ true).
    let r = without x ys m (distinct_rest y ys d) in
    record {
      rest = y ∷ r.rest;
      shorter = ap suc r.shorter;
      still-distinct =
          distinct_cons y r.rest
          (lacks y r.rest (λ k. true≢false (sym (r.within y k) ∙ distinct_first y ys d)))
          r.still-distinct;
      within = λ z k. ⊎_elim (λ (e : z ≡ y). subst (λ (k : ℕ). has k (y ∷ ys) ≡ true) (sym e) (has_first y ys)) (λ l. has_rest z y ys (r.within z l)) (has_cons z y r.rest k);
      gone = λ k. ⊎_elim (λ (e : x ≡ y). true≢false (sym (rw e at m) ∙ distinct_first y ys d)) (λ l. r.gone l) (has_cons x y r.rest k);
    })
    (has_cons x y ys h)

-- a number below suc n other than n is below n
below_other : (n z : ℕ) → z < suc n → (z ≡ n → ⊥) → z < n
below_other n z l other = ⊎_elim (λ e. absurd (other e)) (λ h. h) (eq-or-lt_of_le (le_of_suc-le-suc l))

-- the largest number is taken out where it is an entry, and all others are below it
short_has : (n : ℕ) (xs : List ℕ) → distinct xs ≡ true → ((z : ℕ) → has z xs ≡ true → z < n) → length xs ≤ n
short_has zero [] d all = zero-le
short_has zero (x ∷ xs) d all = absurd (not-suc-le-zero (all x (has_first x xs)))
short_has (suc n) xs d all =
    by_test (has n xs)
    (λ h.
    let r = without n xs h d in
    rw r.shorter
    (suc-le-suc
    (short_has n r.rest r.still-distinct
    (λ z m. below_other n z (all z (r.within z m)) (λ (e : z ≡ n). r.gone (rw e at m))))))
    (λ h.
    le_step
    (short_has n xs d (λ z m. below_other n z (all z m) (λ (e : z ≡ n). true≢false (sym (rw e at m) ∙ h)))))

pub distinct-short : (n : ℕ) (xs : List ℕ) → distinct xs ≡ true → ((i : ℕ) → i < length xs → get_or xs i 0 < n) → length xs ≤ n
distinct-short n xs d all =
    short_has n xs d (λ z m. let r = has_place z xs m in subst (λ (k : ℕ). k < n) r.2 (all r.0 r.1))
