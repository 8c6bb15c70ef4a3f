-- Laws of tests and of comparing two numbers.
-- Assumes nothing.
use mathlib.Core.Bool.{Bool, true, false}
use mathlib.Core.Logic.{◌⊎◌, ⊎_elim, inl, inr}
use mathlib.Core.Path.{◌≡◌, refl, sym}
use Prim.Native.Nat.{ℕ, ◌≤◌, ◌<◌}
use native.Mathlib.Omega.{arith}
use lib.Dec.{leb, eqb}
use borrow.Author.Tests.{leb-true, leb-false, eqb-true, eqb-false}
use Rattle.price.specs.Test.{choose, both, either}

-- a test is one or the other
pub either_way : (t : Bool) → (t ≡ true) ⊎ (t ≡ false)
either_way true = inl refl
either_way false = inr refl

-- by cases of a test
pub by_test : {A : Type 0} (t : Bool) → (t ≡ true → A) → (t ≡ false → A) → A
by_test t f g = ⊎_elim f g (either_way t)

pub true≢false : true ≡ false → ⊥
true≢false e = let z : ◌≡◌ {A = ℕ} 0 1 = cc in omega arith

-- a test that cannot be true is false
pub never_true : (t : Bool) → (t ≡ true → ⊥) → t ≡ false
never_true true e = absurd (e refl)
never_true false e = refl

-- two tests that pass together are the same
pub test_same : (s t : Bool) → (s ≡ true → t ≡ true) → (t ≡ true → s ≡ true) → s ≡ t
test_same true t to from = sym (to refl)
test_same false true to from = from refl
test_same false false to from = refl

pub both_true : {a b : Bool} → a ≡ true → b ≡ true → both a b ≡ true
both_true p q = rw (p, q)

pub both_left : (a b : Bool) → both a b ≡ true → a ≡ true
both_left true b e = refl
both_left false b e = e

pub both_right : (a b : Bool) → both a b ≡ true → b ≡ true
both_right true b e = e
both_right false b e = absurd (true≢false (sym e))

pub both_false_left : (a b : Bool) → a ≡ false → both a b ≡ false
both_false_left a b e = rw e

pub both_false_right : (a b : Bool) → b ≡ false → both a b ≡ false
both_false_right true b e = e
both_false_right false b e = refl

pub either_true : (a : Bool) → either a true ≡ true
either_true true = refl
either_true false = refl

pub either_false : (a : Bool) → either a false ≡ a
either_false true = refl
either_false false = refl

-- a test as a number
pub one_most : (t : Bool) → choose t 1 0 ≤ 1
one_most true = omega arith
one_most false = omega arith

-- of two numbers one is at most the other, or above it
pub le_or_lt : (m n : ℕ) → (m ≤ n) ⊎ (n < m)
le_or_lt m n = ⊎_elim (λ t. inl (leb-true m n t)) (λ t. inr (leb-false m n t)) (either_way (leb m n))

-- of two numbers, whether they are the same
pub same_or_not : (a c : ℕ) → (a ≡ c) ⊎ (a ≡ c → ⊥)
same_or_not a c = ⊎_elim (λ (t : eqb a c ≡ true). inl (eqb-true a c t)) (λ (t : eqb a c ≡ false). inr (eqb-false a c t)) (either_way (eqb a c))
