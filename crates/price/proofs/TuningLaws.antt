-- Laws of a tuning's bounds: it is sound exactly where each number keeps its own.
-- Assumes nothing.
use mathlib.Core.Bool.{true}
use mathlib.Core.Path.{◌≡◌}
use Prim.Native.Nat.{◌≤◌}
use lib.Dec.{leb}
use borrow.Author.Tests.{le-leb, leb-true}
use Rattle.price.specs.Test.{both}
use Rattle.price.specs.Bounds.{first_most, down_most, up_most, step_most}
use Rattle.price.specs.Tuning.{tuning_sound}
use Rattle.price.specs.declared.Tuning.{Tuning}
use Rattle.price.proofs.TestLaws.{both_left, both_right}

pub record TuningWithin (g : Tuning) : Type 0 where
  pub few_first : g.first ≤ first_most
  pub some_down : 1 ≤ g.down
  pub few_down : g.down ≤ down_most
  pub some_up : g.down ≤ g.up
  pub few_up : g.up ≤ up_most
  pub some_step : 1 ≤ g.step
  pub few_step : g.step ≤ step_most

module _ (g : Tuning) where
  pub tuning_within_lem : tuning_sound g ≡ true → TuningWithin g
  unfolding tuning_sound
  tuning_within_lem e =
      let steps = both (leb 1 g.step) (leb g.step step_most) in
      let ups = both (leb g.down g.up) (leb g.up up_most) in
      let downs = both (leb 1 g.down) (leb g.down down_most) in
      let e1 = both_right (leb g.first first_most) (both downs (both ups steps)) e in
      let e2 = both_right downs (both ups steps) e1 in
      let e3 = both_right ups steps e2 in
      let p1 = both_left downs (both ups steps) e1 in
      let p2 = both_left ups steps e2 in
      record {
        few_first = leb-true g.first first_most (both_left (leb g.first first_most) (both downs (both ups steps)) e);
        some_down = leb-true 1 g.down (both_left (leb 1 g.down) (leb g.down down_most) p1);
        few_down = leb-true g.down down_most (both_right (leb 1 g.down) (leb g.down down_most) p1);
        some_up = leb-true g.down g.up (both_left (leb g.down g.up) (leb g.up up_most) p2);
        few_up = leb-true g.up up_most (both_right (leb g.down g.up) (leb g.up up_most) p2);
        some_step = leb-true 1 g.step (both_left (leb 1 g.step) (leb g.step step_most) e3);
        few_step = leb-true g.step step_most (both_right (leb 1 g.step) (leb g.step step_most) e3);
      }

  pub tuning_sound_lem : TuningWithin g → tuning_sound g ≡ true
  unfolding tuning_sound
  tuning_sound_lem w =
      rw (
        le-leb g.first first_most w.few_first,
        le-leb 1 g.down w.some_down,
        le-leb g.down down_most w.few_down,
        le-leb g.down g.up w.some_up,
        le-leb g.up up_most w.few_up,
        le-leb 1 g.step w.some_step,
        le-leb g.step step_most w.few_step,
      )
