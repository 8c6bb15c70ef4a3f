-- `text::log_check::check_log` meets its contract. The loop's invariant: the records passed are sound, so many, the last of this iteration.
-- Assumes nothing.
use mathlib.Core.Bool.{not}
use Rattle.std.proofs.Common.{ap}
use mathlib.Core.Bool.{true}
use mathlib.Core.Path.{◌≡◌, sym, ◌∙◌}
use Prim.Native.Nat.{◌≤◌}
use lib.ListN.{length, drop}
use Rattle.std.proofs.Common.{rules}
use borrow.Author.Tests.{not-true, not-false}
use Rattle.text.specs.Routes.{record_sound}
use Rattle.text.specs.WriteSteps.{next_at, named_by}
use Rattle.text.proofs.LogLaws.{checking_none, checking_fits, checking_next, words_on, checked-unsound, checked-none, checked-sound}
use Rattle.text.proofs.log_check.check_log.Goals.{Else-not-record_sound}
use Rattle.text.proofs.log_check.check_log.Goals as goal

-- the record met is sound
here : (c : Else-not-record_sound) → record_sound (named_by c.args.marks.now c.args.nodes) c.loop-at.iteration (drop c.loop-at.at c.args.log.now) ≡ true
here c = rw (words_on _ _ c.loop-at.invariant.within) at (sym c.record_sound.ensures ∙ not-false _ (ap not c.if-not-record_sound.false))

-- the next one begins within the log
next : (c : Else-not-record_sound) → next_at c.args.log.now c.loop-at.at ≤ length c.args.log.now
next c = checking_fits c.loop-at.invariant (here c)

pub loop-at-init : goal.loop-at-init
loop-at-init c = checking_none _ _

pub returns-then-not-record_sound : goal.returns-then-not-record_sound
returns-then-not-record_sound c =
    checked-unsound c.loop-at.invariant (search rules)
    (rw (words_on _ _ c.loop-at.invariant.within) at (sym c.record_sound.ensures ∙ not-true _ (ap not c.if-not-record_sound.true)))

pub record_at-record-requires : goal.record_at-record-requires
record_at-record-requires c = next (goal.at.record_at-record-requires c).Else-not-record_sound

pub loop-at-preserved : goal.loop-at-preserved
loop-at-preserved c = checking_next c.loop-at.invariant (here (goal.at.loop-at-preserved c).Else-not-record_sound) c.record_at-record.ensures

pub returns-then-turns-eq0 : goal.returns-then-turns-eq0
returns-then-turns-eq0 c = checked-none c.loop-at.invariant (search rules) (search rules)

pub returns : goal.returns
returns c = checked-sound c.loop-at.invariant (search rules) c.if-turns-eq0.false
