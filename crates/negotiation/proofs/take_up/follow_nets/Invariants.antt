-- `negotiation::take_up::follow_nets` meets its contract: from any progress at which an iteration opens so, the nets passed follow (`TakeNetLaws`). What is
-- safe rests on the one that is asked for.
-- Assumes nothing.
use Prim.Native.Nat.{◌*◌, ◌≤◌}
use lib.ListN.{length}
use Rattle.job.specs.Job.{job_in}
use Rattle.negotiation.specs.Machine.{Progress}
use Rattle.negotiation.specs.Steps.{SameFrom}
use Rattle.negotiation.specs.TakeSteps.{NetsOpen, NetsOn}
use Rattle.negotiation.proofs.take_up.follow_nets.Given as goal

abbrev pub invariant-loop-net : goal.invariant-loop-net
invariant-loop-net l =
    ((p : Progress) → NetsOpen (job_in l.job) p l.initial.tariff l.history l.initial.users l.initial.in_tree l.initial.tree_from l.initial.tree_to l.due l.log
    → NetsOn l.walk.audit (job_in l.job) p l.net l.tariff l.history l.users l.in_tree l.tree_from l.tree_to l.log)
    × (l.net ≤ length l.job.source.now)
    × SameFrom (8 * length l.job.block.kind.now) l.initial.work l.work
