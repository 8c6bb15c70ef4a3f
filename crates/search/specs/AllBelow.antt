-- A test of every number below n. Only the contracts of private functions cite this file: no caller has to believe it.
-- Assumes nothing.
use Rattle.std.specs.Prelude.{Bool, not, ℕ, leb}
use Rattle.price.specs.Lists.{first_below}

-- every number below n passes the test: the lowest that fails is not below n
abbrev pub all_below : ℕ → (ℕ → Bool) → Bool
all_below n t = leb n (first_below (λ v. not (t v)) n)
