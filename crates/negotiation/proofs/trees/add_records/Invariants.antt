-- `negotiation::trees::add_records` meets its contract: after the turns up to a record, the marks of the nodes of the records before it are cleared,
-- and those that were set have one user more.
-- Assumes nothing.
use Prim.Native.Nat.{◌-◌}
use lib.ListN.{length}
use Rattle.negotiation.specs.Steps.{UsersAdded}
use Rattle.negotiation.proofs.RegionLaws.{Walking}
use Rattle.negotiation.proofs.trees.add_records.Given as goal

abbrev pub invariant-loop-at : goal.invariant-loop-at
invariant-loop-at l = Walking (length l.initial.in_tree) l.from l.until l.log l.at (λ xs. UsersAdded (length l.initial.in_tree) xs l.initial.users l.initial.in_tree l.users l.in_tree)

abbrev pub decreases-loop-at : goal.decreases-loop-at
decreases-loop-at l = l.until - l.at
