-- Laws of lists: of a test over every entry or over neighbours, membership, a list made by places, sums, parts.
-- Assumes nothing.
use mathlib.Core.Bool.{Bool, true, false}
use mathlib.Core.List.{List, [], ◌∷◌, ◌++◌}
use mathlib.Core.Logic.{⊎_elim}
use mathlib.Core.Path.{◌≡◌, refl, sym, ◌∙◌, subst}
use Prim.Native.Nat.{ℕ, zero, suc, ◌+◌, ◌-◌, ◌*◌, ◌≤◌, ◌<◌, zero-le, suc-le-suc}
use native.Mathlib.Nat.{zero-add, add_assoc, not-suc-le-zero, le_of_suc-le-suc, eq-or-lt_of_le, suc-mul}
use native.Mathlib.Numerals.{add-one}
use native.Mathlib.Omega.{arith}
use lib.Dec.{eqb, ltb}
use lib.ListN.{length, get_or, take, drop, length-append, length-drop, get_or-append}
use lib.Seq.{get_or_at, get_or-drop, slice, take-nil, ext_get_or}
use borrow.Author.Tests.{eq-eqb, eqb-true}
use Rattle.price.specs.Test.{either}
use Rattle.price.specs.Lists.{every, neighbours, has, up_to, total}
use Rattle.price.proofs.TestLaws.{by_test, both_false_left, both_false_right, both_left, both_right, both_true, true≢false}

-- ---- every entry

pub every-all : (t : ℕ → Bool) (xs : List ℕ) → ((i : ℕ) → i < length xs → t (get_or xs i 0) ≡ true) → every t xs ≡ true
unfolding every
every-all t [] h = refl
every-all t (x ∷ xs) h = both_true (h 0 (suc-le-suc zero-le)) (every-all t xs (λ i l. h (suc i) (suc-le-suc l)))

pub every-at : (t : ℕ → Bool) (xs : List ℕ) → every t xs ≡ true → (i : ℕ) → i < length xs → t (get_or xs i 0) ≡ true
unfolding every
every-at t [] e i l = absurd (not-suc-le-zero l)
every-at t (x ∷ xs) e zero l = both_left (t x) (every t xs) e
every-at t (x ∷ xs) e (suc i) l = every-at t xs (both_right (t x) (every t xs) e) i (le_of_suc-le-suc l)

pub every-none : (t : ℕ → Bool) (xs : List ℕ) (i : ℕ) → i < length xs → t (get_or xs i 0) ≡ false → every t xs ≡ false
unfolding every
every-none t [] i l e = absurd (not-suc-le-zero l)
every-none t (x ∷ xs) zero l e = both_false_left (t x) (every t xs) e
every-none t (x ∷ xs) (suc i) l e = both_false_right (t x) (every t xs) (every-none t xs i (le_of_suc-le-suc l) e)

-- ---- neighbours

pub neighbours-all : (t : ℕ → ℕ → Bool) (xs : List ℕ) → ((i : ℕ) → suc i < length xs → t (get_or xs i 0) (get_or xs (suc i) 0) ≡ true) → neighbours t xs ≡ true
unfolding neighbours
neighbours-all t [] h = refl
neighbours-all t (x ∷ []) h = refl
neighbours-all t (x ∷ y ∷ ys) h =
    both_true (h 0 (suc-le-suc (suc-le-suc zero-le))) (neighbours-all t (y ∷ ys) (λ i l. h (suc i) (suc-le-suc l)))

pub neighbours_at : (t : ℕ → ℕ → Bool) (xs : List ℕ) → neighbours t xs ≡ true → (i : ℕ) → suc i < length xs → t (get_or xs i 0) (get_or xs (suc i) 0) ≡ true
unfolding neighbours
neighbours_at t [] e i l = absurd (not-suc-le-zero l)
neighbours_at t (x ∷ []) e i l = absurd (not-suc-le-zero (le_of_suc-le-suc l))
neighbours_at t (x ∷ y ∷ ys) e zero l = both_left (t x y) (neighbours t (y ∷ ys)) e
neighbours_at t (x ∷ y ∷ ys) e (suc i) l =
    neighbours_at t (y ∷ ys) (both_right (t x y) (neighbours t (y ∷ ys)) e) i (le_of_suc-le-suc l)

pub neighbours-none : (t : ℕ → ℕ → Bool) (xs : List ℕ) (i : ℕ) → suc i < length xs → t (get_or xs i 0) (get_or xs (suc i) 0) ≡ false → neighbours t xs ≡ false
unfolding neighbours
neighbours-none t [] i l e = absurd (not-suc-le-zero l)
neighbours-none t (x ∷ []) i l e = absurd (not-suc-le-zero (le_of_suc-le-suc l))
neighbours-none t (x ∷ y ∷ ys) zero l e = both_false_left (t x y) (neighbours t (y ∷ ys)) e
neighbours-none t (x ∷ y ∷ ys) (suc i) l e =
    both_false_right (t x y) (neighbours t (y ∷ ys)) (neighbours-none t (y ∷ ys) i (le_of_suc-le-suc l) e)

-- a number above all entries may come last
pub rises-last : (xs : List ℕ) (n : ℕ) → neighbours ltb xs ≡ true → every (λ x. ltb x n) xs ≡ true → neighbours ltb (xs ++ (n ∷ [])) ≡ true
unfolding neighbours every
rises-last [] n r b = refl
rises-last (x ∷ []) n r b = both_true (both_left (ltb x n) _ b) refl
rises-last (x ∷ y ∷ ys) n r b = both_true (both_left (ltb x y) _ r) (rises-last (y ∷ ys) n (both_right (ltb x y) _ r) (both_right (ltb x n) _ b))

-- ---- membership

either-right : (a b : Bool) → b ≡ true → either a b ≡ true
either-right true b e = refl
either-right false b e = e

pub has-at : (xs : List ℕ) (i : ℕ) → i < length xs → has (get_or xs i 0) xs ≡ true
unfolding has
has-at [] i l = absurd (not-suc-le-zero l)
has-at (x ∷ xs) zero l = rw (eq-eqb x x refl)
has-at (x ∷ xs) (suc i) l = either-right (eqb (get_or xs i 0) x) (has (get_or xs i 0) xs) (has-at xs i (le_of_suc-le-suc l))

-- a place at which an entry stands
pub has_place : (x : ℕ) (xs : List ℕ) → has x xs ≡ true → (i : ℕ) × (i < length xs) × (get_or xs i 0 ≡ x)
unfolding has
has_place x [] e = absurd (true≢false (sym e))
has_place x (y ∷ ys) e =
    by_test (eqb x y)
    (λ q. (0, suc-le-suc zero-le, sym (eqb-true x y q)))
    (λ q.
    let r = has_place x ys (subst (λ (t : Bool). either t (has x ys) ≡ true) q e) in
    (suc r.0, suc-le-suc r.1, r.2))

pub has-append : (x : ℕ) (xs ys : List ℕ) → has x (xs ++ ys) ≡ either (has x xs) (has x ys)
unfolding has
has-append x [] ys = refl
has-append x (z ∷ zs) ys =
    by_test (eqb x z) (λ q. rw q) (λ q. rw q (has-append x zs ys))

pub has_append_left : (x : ℕ) (xs ys : List ℕ) → has x xs ≡ true → has x (xs ++ ys) ≡ true
unfolding has
has_append_left x [] ys e = absurd (true≢false (sym e))
has_append_left x (z ∷ zs) ys e =
    by_test (eqb x z)
    (λ q. rw q)
    (λ q. rw q (has_append_left x zs ys (subst (λ (t : Bool). either t (has x zs) ≡ true) q e)))

pub has_append_right : (x : ℕ) (xs ys : List ℕ) → has x ys ≡ true → has x (xs ++ ys) ≡ true
unfolding has
has_append_right x [] ys e = e
has_append_right x (z ∷ zs) ys e = either-right (eqb x z) (has x (zs ++ ys)) (has_append_right x zs ys e)

-- ---- a list made by places

module _ {ℓ} {A : Type ℓ} (f : ℕ → A) where
  pub length_up_to : (n : ℕ) → length (up_to f n) ≡ n
  unfolding up_to
  length_up_to zero = refl
  length_up_to (suc n) = length-append (up_to f n) (f n ∷ []) ∙ rw (length_up_to n, add-one)

  pub up_to_more : (n : ℕ) → up_to f (n + 1) ≡ up_to f n ++ (f n ∷ [])
  unfolding up_to
  up_to_more n = rw add-one

  pub get_or_up_to : (n i : ℕ) (d : A) → i < n → get_or (up_to f n) i d ≡ f i
  unfolding up_to
  get_or_up_to zero i d l = absurd (not-suc-le-zero l)
  get_or_up_to (suc n) i d l =
      ⊎_elim
      (λ e. rw e (get_or_at (up_to f n) (f n) [] d n (length_up_to n)))
      (λ h. get_or-append (up_to f n) (f n ∷ []) d i (rw length_up_to h) ∙ get_or_up_to n i d h)
      (eq-or-lt_of_le (le_of_suc-le-suc l))

-- a list with these entries is the list of them
pub up_to_is : (f : ℕ → ℕ) (n : ℕ) (xs : List ℕ) → length xs ≡ n → ((v : ℕ) → v < n → get_or xs v 0 ≡ f v) → xs ≡ up_to f n
up_to_is f n xs long at =
    ext_get_or 0 xs (up_to f n) (long ∙ sym (length_up_to f n))
    (λ v h. let l : v < n = rw long at h in at v l ∙ sym (get_or_up_to f n v 0 l))

-- ---- a sum

pub total-append : (f : ℕ → ℕ) (xs ys : List ℕ) → total f (xs ++ ys) ≡ total f xs + total f ys
unfolding total
total-append f [] ys = sym (zero-add (total f ys))
total-append f (x ∷ xs) ys = rw (total-append f xs ys) (sym (add_assoc (f x) (total f xs) (total f ys)))

pub total-most : (f : ℕ → ℕ) (most : ℕ) (xs : List ℕ) → ((i : ℕ) → i < length xs → f (get_or xs i 0) ≤ most) → total f xs ≤ length xs * most
unfolding total
total-most f most [] h = zero-le
total-most f most (x ∷ xs) h =
    let here = h 0 (suc-le-suc zero-le) in
    let rest = total-most f most xs (λ i l. h (suc i) (suc-le-suc l)) in
    rw suc-mul (omega arith)

-- ---- a part of a list

-- so many entries from a place on
pub part_slice : (from to : ℕ) (xs : List ℕ) → take (to - from) (drop from xs) ≡ slice from to xs
part_slice zero to xs = let e : to - 0 ≡ to = omega arith in rw e
part_slice (suc from) to [] = rw (take-nil (to - suc from), take-nil to)
part_slice (suc from) zero (x ∷ xs) = let e : 0 - suc from ≡ 0 = omega arith in rw e
part_slice (suc from) (suc to) (x ∷ xs) =
    let e : suc to - suc from ≡ to - from = omega arith in
    rw e (part_slice from to xs)

-- lists that agree from a place on
pub drop-same : (k : ℕ) (w w' : List ℕ) → length w' ≡ length w → ((j : ℕ) → k ≤ j → get_or w' j 0 ≡ get_or w j 0) → drop k w' ≡ drop k w
drop-same k w w' long high =
    ext_get_or 0 (drop k w') (drop k w) (simp length-drop (omega arith)) (λ i l. get_or-drop k w' i 0 ∙ high (k + i) (omega arith) ∙ sym (get_or-drop k w i 0))
