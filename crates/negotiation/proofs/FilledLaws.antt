-- A list whose entries are replaced front to back by a function's values, as a loop does it.
-- Assumes nothing.
use mathlib.Core.List.{List, ◌++◌, append-nil}
use mathlib.Core.Path.{◌≡◌, refl, sym, ◌∙◌}
use Prim.Native.Nat.{ℕ, suc, ◌+◌, ◌≤◌, ◌<◌}
use native.Mathlib.Numerals.{add-one}
use native.Mathlib.Omega.{arith}
use lib.ListN.{length, get_or, set, drop}
use lib.Seq.{drop-cons, drop-length, append_snoc, get_or_at, set_at}
use Rattle.price.specs.Lists.{up_to}
use Rattle.price.proofs.ListLaws.{length_up_to, up_to_more}

-- the first v entries are replaced by f's
module _ (f : ℕ → ℕ) (xs : List ℕ) where
  pub filled_none : xs ≡ up_to f 0 ++ drop 0 xs
  unfolding up_to
  filled_none = refl

  -- the next one still stands
  pub filled_at : (v : ℕ) → v < length xs → get_or (up_to f v ++ drop v xs) v 0 ≡ get_or xs v 0
  filled_at v h =
      rw (drop-cons xs v 0 h) (get_or_at (up_to f v) (get_or xs v 0) (drop (suc v) xs) 0 v (length_up_to f v))

  pub filled_more : (v : ℕ) → v < length xs → set (up_to f v ++ drop v xs) v (f v) ≡ up_to f (v + 1) ++ drop (v + 1) xs
  filled_more v h =
      rw (up_to_more f v, drop-cons xs v 0 h, add-one)
      (set_at (up_to f v) (get_or xs v 0) (drop (suc v) xs) (f v) v (length_up_to f v) ∙ sym (append_snoc (up_to f v) (f v) (drop (suc v) xs)))

  pub filled-all : (v : ℕ) → length xs ≤ v → v ≤ length xs → up_to f v ++ drop v xs ≡ up_to f (length xs)
  filled-all v l h =
      let e : v ≡ length xs = omega arith in
      rw (e, drop-length) (append-nil (up_to f (length xs)))
