-- `negotiation::due::records_crowded` meets its contract: no node of the records that the loop has passed has more users than its capacity.
-- Assumes nothing.
use mathlib.Core.Bool.{false}
use mathlib.Core.Path.{◌≡◌}
use Prim.Native.Nat.{◌-◌}
use lib.ListN.{length}
use Rattle.negotiation.specs.Steps.{some_over}
use Rattle.negotiation.proofs.RegionLaws.{Walking}
use Rattle.negotiation.proofs.due.records_crowded.Given as goal

abbrev pub invariant-loop-at : goal.invariant-loop-at
invariant-loop-at l = Walking (length l.users) l.from l.until l.log l.at (λ xs. some_over l.capacity l.users xs ≡ false)

abbrev pub decreases-loop-at : goal.decreases-loop-at
decreases-loop-at l = l.until - l.at
