-- `negotiation::due::path_crowded` meets its contract: no node that the loop has passed has more users than its capacity.
-- Assumes nothing.
use mathlib.Core.Bool.{false}
use mathlib.Core.Path.{◌≡◌}
use lib.Seq.{slice}
use Rattle.negotiation.specs.Steps.{some_over}
use Rattle.job.proofs.MarkLaws.{Between}
use Rattle.negotiation.proofs.due.path_crowded.Given as goal

abbrev pub invariant-loop-k : goal.invariant-loop-k
invariant-loop-k l = Between l.from l.to l.k l.log × (some_over l.capacity l.users (slice l.from l.k l.log) ≡ false)
