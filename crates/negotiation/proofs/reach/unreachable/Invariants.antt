-- `negotiation::reach::unreachable` meets its contract: no net that the loop has passed has a sink without a path.
-- Assumes nothing.
use Rattle.job.specs.Job.{job_in}
use Rattle.negotiation.proofs.reach.TestedLaws.{Tested}
use Rattle.negotiation.proofs.reach.unreachable.Given as goal

abbrev pub invariant-loop-net : goal.invariant-loop-net
invariant-loop-net l = Tested (job_in l.job) 4096 l.initial.work l.work l.reached l.net
