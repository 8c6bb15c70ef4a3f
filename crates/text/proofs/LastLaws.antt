-- A list with one entry more: its last entry, and a test of all entries.
-- Assumes nothing.
use mathlib.Core.Bool.{Bool, true}
use mathlib.Core.List.{List, [], ◌∷◌, ◌++◌}
use mathlib.Core.Path.{◌≡◌, refl}
use Prim.Native.Nat.{ℕ, ◌-◌}
use native.Mathlib.Omega.{arith}
use lib.ListN.{length, length-append}
use lib.Seq.{get_or_at}
use Rattle.price.specs.Lists.{every}
use Rattle.price.proofs.TestLaws.{both_true, both_left, both_right}
use Rattle.text.specs.JobText.{last_of}

pub last_more : (xs : List ℕ) (x : ℕ) → last_of (xs ++ (x ∷ [])) ≡ x
last_more xs x = get_or_at xs x [] 0 (length (xs ++ (x ∷ [])) - 1) (rw length-append (omega arith))

pub every_more : (test : ℕ → Bool) (xs : List ℕ) (x : ℕ) → every test xs ≡ true → test x ≡ true → every test (xs ++ (x ∷ [])) ≡ true
unfolding every
every_more test [] x e h = both_true h refl
every_more test (y ∷ ys) x e h =
    both_true (both_left (test y) (every test ys) e) (every_more test ys x (both_right (test y) (every test ys) e) h)
