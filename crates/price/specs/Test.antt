-- Choosing by a test, for every definition that goes by a comparison.
-- Assumes nothing.
use Rattle.std.specs.Prelude.{Bool, true, false}

-- the first value where the test holds, else the second
abbrev pub choose {ℓ} : {A : Type ℓ} → Bool → A → A → A
choose true a b = a
choose false a b = b

-- both tests hold
abbrev pub both : Bool → Bool → Bool
both true b = b
both false b = false

-- one of the tests holds, or both
abbrev pub either : Bool → Bool → Bool
either true b = true
either false b = b
