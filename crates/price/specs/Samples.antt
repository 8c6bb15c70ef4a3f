-- Document 01, "Sample jobs": the starred samples about prices and factors. Each crate has such a list; the crate at the top gathers them
-- into one, and one theorem holds every stated answer against the defined one.
-- Assumes nothing.
use Rattle.std.specs.Prelude.{List, [], ◌∷◌, ◌≡◌, ℕ}
use Rattle.price.specs.Prices.{factor_at, base_cost}
use Rattle.price.specs.Replies.{price_reply}
use Rattle.price.specs.Tuning.{plain}

-- what 01 states, and what the definitions give
pub record Sample : Type 0 where
  pub stated : List ℕ
  pub defined : List ℕ

-- every stated answer is the defined one
abbrev pub Hold : List Sample → Type 0
Hold [] = Unit {0}
Hold (s ∷ ss) = (s.defined ≡ s.stated) × Hold ss

-- a wire of length 1, whose base cost is 20
wire : ℕ
wire = 4

unfoldable pub samples : List Sample
unfolding wire
samples =
    record {
      stated = 112 ∷ 48997 ∷ 65535 ∷ 65535 ∷ [];
      defined = factor_at plain 4 ∷ factor_at plain 19 ∷ factor_at plain 20 ∷ factor_at plain 21 ∷ [];
    }
    ∷ record {
      stated = 20 ∷ 2000 ∷ 3000 ∷ [];
      defined = base_cost wire ∷ (price_reply wire 50 1 2 1).price ∷ (price_reply wire 50 2 2 1).price ∷ [];
    }
    ∷ []
