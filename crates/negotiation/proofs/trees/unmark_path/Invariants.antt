-- `negotiation::trees::unmark_path` meets its contract: after the turns up to k, the marks of the nodes at places below k are cleared.
-- Assumes nothing.
use lib.Seq.{slice}
use Rattle.job.specs.Steps.{Stored}
use Rattle.job.proofs.MarkLaws.{Between}
use Rattle.negotiation.proofs.trees.unmark_path.Given as goal

abbrev pub invariant-loop-k : goal.invariant-loop-k
invariant-loop-k l = Between l.from l.to l.k l.log × Stored 0 (slice l.from l.k l.log) l.initial.in_tree l.in_tree
