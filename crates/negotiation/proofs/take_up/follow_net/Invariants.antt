-- `negotiation::take_up::follow_net` meets its contract: from any net that opens so, the turns made so far follow and so many more may be made, and the place is
-- that of the first sink that the tree lacks (`TakeTurnLaws`). What is safe rests on the one that is asked for. A net without turns leaves all as it is.
-- Assumes nothing.
use mathlib.Core.Path.{◌≡◌}
use Prim.Native.Nat.{◌-◌, ◌*◌}
use lib.ListN.{length, take, drop}
use Rattle.job.specs.Job.{job_in}
use Rattle.negotiation.specs.Machine.{Progress}
use Rattle.negotiation.specs.Flood.{FirstUnmarked}
use Rattle.negotiation.specs.Steps.{SameFrom}
use Rattle.negotiation.specs.TakeSteps.{NetOpens}
use Rattle.negotiation.proofs.take_up.TakeTurnLaws.{Following}
use Rattle.negotiation.proofs.take_up.follow_net.Given as goal

abbrev pub invariant-loop-place : goal.invariant-loop-place
invariant-loop-place l =
    ((p : Progress) → NetOpens (job_in l.job) p l.net l.from l.to l.turns l.initial.tariff l.history l.users l.initial.in_tree l.log
    → Following l.walk.audit (job_in l.job) p l.net l.left l.tariff l.in_tree l.log)
    × FirstUnmarked l.in_tree (take (l.to - l.from) (drop l.from l.job.sink.now)) 0 l.place
    × (length l.in_tree ≡ length l.initial.in_tree)
    × (l.tariff.expanded ≡ l.initial.tariff.expanded)
    × SameFrom (8 * length l.job.block.kind.now) l.initial.work l.work

abbrev pub decreases-loop-place : goal.decreases-loop-place
decreases-loop-place l =
    l.left
