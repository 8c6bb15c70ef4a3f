-- `negotiation::trees::drop_path` meets its contract: after the turns up to k, the nodes at places below k are marked, and those that were not have one user less.
-- Assumes nothing.
use lib.ListN.{length}
use lib.Seq.{slice}
use Rattle.negotiation.specs.Steps.{Dropped}
use Rattle.job.proofs.MarkLaws.{Between}
use Rattle.negotiation.proofs.trees.drop_path.Given as goal

abbrev pub invariant-loop-k : goal.invariant-loop-k
invariant-loop-k l = Between l.from l.to l.k l.log × Dropped (length l.initial.in_tree) (slice l.from l.k l.log) l.initial.users l.initial.in_tree l.users l.in_tree
