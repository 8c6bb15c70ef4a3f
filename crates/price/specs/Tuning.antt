-- Request 2.1: the numbers that tune the tariff, their bounds, and those of a job that has no P line.
-- Assumes nothing.
use Rattle.std.specs.Prelude.{Bool, leb}
use Rattle.price.specs.Test.{both}
use Rattle.price.specs.Bounds.{first_most, down_most, up_most, step_most}
use Rattle.price.specs.declared.Tuning.{Tuning}

-- "Without the line it is 50,3,2,1."
abbrev pub plain : Tuning
plain = record { first = 50; up = 3; down = 2; step = 1 }

-- "factor in iteration 2, 0 to 1,000, growth up/down with down 1 to 4 and up from down to 8, history step 1 or 2"
unfoldable pub tuning_sound : Tuning → Bool
tuning_sound g =
    both (leb g.first first_most)
    (both (both (leb 1 g.down) (leb g.down down_most))
    (both (both (leb g.down g.up) (leb g.up up_most)) (both (leb 1 g.step) (leb g.step step_most))))
