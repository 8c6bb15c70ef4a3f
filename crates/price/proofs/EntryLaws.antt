-- Laws of a list's least entry and of an entry's place.
-- Assumes nothing.
use mathlib.Core.List.{List, [], ◌∷◌}
use mathlib.Core.Logic.{◌⊎◌, ⊎_elim, inl, inr}
use mathlib.Core.Path.{◌≡◌, refl, sym, ◌∙◌, ap, subst}
use Prim.Native.Nat.{ℕ, zero, suc, ◌≤◌, ◌<◌, min, zero-le, suc-le-suc}
use native.Mathlib.Nat.{not-suc-le-zero, le_of_suc-le-suc, le_trans, le_refl, min-le_left, min-le_right, min-eq_left, min-eq_right}
use native.Mathlib.Omega.{arith}
use lib.Dec.{eqb}
use lib.ListN.{length, get_or}
use borrow.Author.Tests.{eq-eqb, ne_eqb, eqb-true}
use Rattle.price.specs.Lists.{least, place_of}
use Rattle.price.proofs.TestLaws.{by_test, le_or_lt}

-- ---- the least entry

pub least_top : (top : ℕ) (xs : List ℕ) → least top xs ≤ top
unfolding least
least_top top [] = le_refl top
least_top top (x ∷ xs) = le_trans (min-le_right x (least top xs)) (least_top top xs)

pub least-le : (top : ℕ) (xs : List ℕ) (i : ℕ) → i < length xs → least top xs ≤ get_or xs i 0
unfolding least
least-le top [] i l = absurd (not-suc-le-zero l)
least-le top (x ∷ xs) zero l = min-le_left x (least top xs)
least-le top (x ∷ xs) (suc i) l = le_trans (min-le_right x (least top xs)) (least-le top xs i (le_of_suc-le-suc l))

-- it is the top or stands at some place
pub least-is : (top : ℕ) (xs : List ℕ) → (least top xs ≡ top) ⊎ ((i : ℕ) × (i < length xs) × (get_or xs i 0 ≡ least top xs))
unfolding least
least-is top [] = inl refl
least-is top (x ∷ xs) =
    ⊎_elim
    (λ h. inr (0, suc-le-suc zero-le, sym (min-eq_left h)))
    (λ h.
    let e : min x (least top xs) ≡ least top xs = min-eq_right (omega arith) in
    ⊎_elim
    (λ q. inl (e ∙ q))
    (λ r. inr (suc r.0, suc-le-suc r.1, r.2 ∙ sym e))
    (least-is top xs))
    (le_or_lt x (least top xs))

-- a number that is at most every entry and the top is at most the least
pub least_above : (top k : ℕ) (xs : List ℕ) → k ≤ top → ((i : ℕ) → i < length xs → k ≤ get_or xs i 0) → k ≤ least top xs
least_above top k xs ht h =
    ⊎_elim (λ e. rw e ht) (λ r. subst (λ (m : ℕ). k ≤ m) r.2 (h r.0 r.1)) (least-is top xs)

-- ---- the place of an entry

-- the first place at which x stands
pub place_of-is : (x : ℕ) (xs : List ℕ) (i : ℕ) → i < length xs → get_or xs i 0 ≡ x → ((j : ℕ) → j < i → get_or xs j 0 ≡ x → ⊥) → place_of x xs ≡ i
unfolding place_of
place_of-is x [] i l e none = absurd (not-suc-le-zero l)
place_of-is x (y ∷ ys) zero l e none = rw (eq-eqb x y (sym e))
place_of-is x (y ∷ ys) (suc i) l e none =
    rw (ne_eqb x y (λ q. none 0 (suc-le-suc zero-le) (sym q)))
    (ap suc (place_of-is x ys i (le_of_suc-le-suc l) e (λ j h. none (suc j) (suc-le-suc h))))

-- x stands nowhere
pub place_of-none : (x : ℕ) (xs : List ℕ) → ((j : ℕ) → j < length xs → get_or xs j 0 ≡ x → ⊥) → place_of x xs ≡ length xs
unfolding place_of
place_of-none x [] none = refl
place_of-none x (y ∷ ys) none =
    rw (ne_eqb x y (λ q. none 0 (suc-le-suc zero-le) (sym q))) (ap suc (place_of-none x ys (λ j h. none (suc j) (suc-le-suc h))))

pub place_of-at : (x : ℕ) (xs : List ℕ) → place_of x xs < length xs → get_or xs (place_of x xs) 0 ≡ x
unfolding place_of
place_of-at x [] l = absurd (not-suc-le-zero l)
place_of-at x (y ∷ ys) l =
    by_test (eqb x y)
    (λ q. rw q (sym (eqb-true x y q)))
    (λ q. rw q (place_of-at x ys (le_of_suc-le-suc (rw q at l))))

-- the place is the lowest at which x stands
pub place_of-most : (x : ℕ) (xs : List ℕ) (i : ℕ) → i < length xs → get_or xs i 0 ≡ x → place_of x xs ≤ i
unfolding place_of
place_of-most x [] i l e = absurd (not-suc-le-zero l)
place_of-most x (y ∷ ys) zero l e = rw (eq-eqb x y (sym e)) zero-le
place_of-most x (y ∷ ys) (suc i) l e =
    by_test (eqb x y)
    (λ q. rw q zero-le)
    (λ q. rw q (suc-le-suc (place_of-most x ys i (le_of_suc-le-suc l) e)))

-- where x stands anywhere, its place is within the list
pub place_of-lt : (x : ℕ) (xs : List ℕ) (i : ℕ) → i < length xs → get_or xs i 0 ≡ x → place_of x xs < length xs
place_of-lt x xs i l e = le_trans (suc-le-suc (place_of-most x xs i l e)) l
