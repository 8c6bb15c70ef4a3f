-- `tables::faulty_times` meets its contract: an untimed job has neither table; of a timed one table 9 is tested first, then table 10.
-- Assumes nothing.
use mathlib.Core.Bool.{true, false}
use mathlib.Core.Path.{sym, ◌∙◌}
use Rattle.std.proofs.lemmas.Result.{err_from_is_err_and}
use Rattle.job.proofs.NetTableLaws.{times_9, times_10}
use Rattle.job.proofs.tables.faulty_times.Goals as goal

pub returns-in_err-faulty_with_delays : goal.returns-in_err-faulty_with_delays
returns-in_err-faulty_with_delays c =
    let p = err_from_is_err_and c.from_residual.result c.from_residual.ensures.1 in
    rw (p.1, p.2) (times_9 _ _ _ _ _ c.if-not-job.false c.requires c.in_err-faulty_with_delays.ensures)

pub returns-then-not-criticalities_sound : goal.returns-then-not-criticalities_sound
returns-then-not-criticalities_sound c =
    times_10 _ _ _ _ _ c.if-not-job.false c.requires false c.in_ok-faulty_with_delays.ensures
    (sym c.criticalities_sound.ensures ∙ c.if-not-criticalities_sound.true)

pub returns : goal.returns
returns c =
    times_10 _ _ _ _ _ c.if-not-job.false c.requires true c.in_ok-faulty_with_delays.ensures
    (sym c.criticalities_sound.ensures ∙ c.if-not-criticalities_sound.false)
