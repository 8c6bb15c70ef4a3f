-- `negotiation::take_up::take_up` meets its contract: at the loop's head the iterations passed follow and lead to a progress from which a run can go on in the log
-- (`TakeLogLaws`). The measure: iterations up to the limit.
-- Assumes nothing.
use Prim.Native.Nat.{◌-◌, ◌*◌}
use lib.ListN.{length}
use Rattle.job.specs.Job.{job_in}
use Rattle.negotiation.specs.Steps.{SameFrom}
use Rattle.negotiation.proofs.take_up.TakeLogLaws.{Taking}
use Rattle.negotiation.proofs.take_up.take_up.Given as goal

abbrev pub invariant-loop-t : goal.invariant-loop-t
invariant-loop-t l =
    Taking l.audit (job_in l.job) l.over l.tariff l.history l.users l.in_tree l.tree_from l.tree_to l.due l.log
    × SameFrom (8 * length l.job.block.kind.now) l.initial.work l.work

abbrev pub decreases-loop-t : goal.decreases-loop-t
decreases-loop-t l =
    l.job.terms.limit - l.tariff.iteration
