-- What a function's answer says of the test that it computes, a flag that is kept over a whole list, and a test of every entry.
--     refused, passed                   the answer and the test
--     Kept, kept-, keeps                the flag, the entries passed and those that are left
--     every_all                         a test of every entry in the words of std
-- Assumes nothing.
use mathlib.Core.Bool.{Bool, true, false, not, ◌&&◌}
use mathlib.Core.List.{List, [], ◌∷◌}
use mathlib.Core.Path.{◌≡◌, refl, sym, ◌∙◌, ap}
use Prim.Native.Nat.{ℕ}
use borrow.Author.Tests.{not-true, not-false}
use Rattle.std.specs.List.{list_all}
use Rattle.price.specs.Test.{both}
use Rattle.price.specs.Lists.{every}

-- ---- a function's answer to a test

pub refused : {r t : Bool} → r ≡ t → not r ≡ true → t ≡ false
refused e n = sym e ∙ not-true _ n

pub passed : {r t : Bool} → r ≡ t → not r ≡ false → t ≡ true
passed e n = sym e ∙ not-false _ n

-- ---- a flag that is kept over a whole list

-- what it says of the entries passed, and the test of what is left, make the test of the whole
pub record Kept (whole fine left : Bool) : Type 0 where
  pub whole_is : whole ≡ both fine left

both_and : (a b c : Bool) → both a (both b c) ≡ both (a && b) c
both_and true b c = refl
both_and false b c = refl

-- an entry that is tested
pub keeps : {whole fine left rest : Bool} (t : Bool) → Kept whole fine left → left ≡ both t rest → Kept whole (fine && t) rest
keeps {fine = fine} {rest = rest} t k e = record { whole_is = k.whole_is ∙ rw e (both_and fine t rest) }

pub both_alone : (a : Bool) → both a true ≡ a
both_alone true = refl
both_alone false = refl

-- what is left decides where none failed, and the flag where what is left passes
pub kept_left : {whole fine left : Bool} → Kept whole fine left → fine ≡ true → left ≡ whole
kept_left {left = left} k e = sym (k.whole_is ∙ rw e)

pub kept-all : {whole fine left : Bool} → Kept whole fine left → left ≡ true → fine ≡ whole
kept-all {fine = fine} k e = sym (k.whole_is ∙ rw e (both_alone fine))

-- a test of every entry, in the words of std
pub every_all : (t : ℕ → Bool) (xs : List ℕ) → every t xs ≡ list_all t xs
unfolding every
every_all t [] = refl
every_all t (x ∷ xs) = ap (both (t x)) (every_all t xs)
