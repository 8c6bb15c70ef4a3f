-- `negotiation::trees::add_path` meets its contract: after the turns up to k, the marks of the nodes at places below k are cleared, and those that were set have one user more.
-- Assumes nothing.
use lib.ListN.{length}
use lib.Seq.{slice}
use Rattle.negotiation.specs.Steps.{UsersAdded}
use Rattle.job.proofs.MarkLaws.{Between}
use Rattle.negotiation.proofs.trees.add_path.Given as goal

abbrev pub invariant-loop-k : goal.invariant-loop-k
invariant-loop-k l = Between l.from l.to l.k l.log × UsersAdded (length l.initial.in_tree) (slice l.from l.k l.log) l.initial.users l.initial.in_tree l.users l.in_tree
