-- `text::log_check::check_log` meets its contract. The loop's invariant: the records passed are sound, so many, the last of this iteration.
-- Assumes nothing.
use Prim.Native.Nat.{◌-◌}
use lib.ListN.{length}
use Rattle.text.specs.WriteSteps.{named_by}
use Rattle.text.proofs.LogLaws.{Checking}
use Rattle.text.proofs.log_check.check_log.Given as goal

abbrev pub invariant-loop-at : goal.invariant-loop-at
invariant-loop-at l = Checking (named_by l.marks l.nodes) l.log l.at l.iteration l.turns

abbrev pub decreases-loop-at : goal.decreases-loop-at
decreases-loop-at l = length l.log - l.at
