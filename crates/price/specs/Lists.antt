-- Lists of numbers: the few functions on them that the definitions of every crate use.
-- Assumes nothing.
use Rattle.std.specs.Prelude.{Bool, true, false, not, List, [], ◌∷◌, ◌++◌, ℕ, zero, suc, ◌+◌, min, eqb, ltb}
use Rattle.price.specs.Test.{choose, both, either}

-- every entry passes the test
unfoldable pub every : (ℕ → Bool) → List ℕ → Bool
every test [] = true
every test (x ∷ xs) = both (test x) (every test xs)

-- each entry and the one after it pass the test
unfoldable pub neighbours : (ℕ → ℕ → Bool) → List ℕ → Bool
neighbours test [] = true
neighbours test (x ∷ []) = true
neighbours test (x ∷ y ∷ ys) = both (test x y) (neighbours test (y ∷ ys))

-- x is among the entries
unfoldable pub has : ℕ → List ℕ → Bool
has x [] = false
has x (y ∷ ys) = either (eqb x y) (has x ys)

-- no entry stands twice
unfoldable pub distinct : List ℕ → Bool
distinct [] = true
distinct (x ∷ xs) = both (not (has x xs)) (distinct xs)

-- f 0, f 1, .., f (n − 1)
unfoldable pub up_to {ℓ} : {A : Type ℓ} → (ℕ → A) → ℕ → List A
up_to f zero = []
up_to f (suc n) = up_to f n ++ (f n ∷ [])

-- the lowest number below n that passes the test, n if none does
unfoldable pub first_below : (ℕ → Bool) → ℕ → ℕ
first_below test zero = zero
first_below test (suc n) =
    let lower = first_below test n in
    let here = choose (test n) n (suc n) in
    choose (ltb lower n) lower here

-- how many numbers below n pass the test
unfoldable pub count_below : (ℕ → Bool) → ℕ → ℕ
count_below test zero = zero
count_below test (suc n) = count_below test n + choose (test n) 1 0

-- the least of the entries and `top`
unfoldable pub least : ℕ → List ℕ → ℕ
least top [] = top
least top (x ∷ xs) = min x (least top xs)

-- the place of the first entry that is x, the list's length if there is none
unfoldable pub place_of : ℕ → List ℕ → ℕ
place_of x [] = zero
place_of x (y ∷ ys) = choose (eqb x y) zero (suc (place_of x ys))

-- the sum of f over the entries
unfoldable pub total : (ℕ → ℕ) → List ℕ → ℕ
total f [] = zero
total f (x ∷ xs) = f x + total f xs
