-- `negotiation::trees::mark_path` meets its contract: after the turns up to k, the nodes at places below k are marked.
-- Assumes nothing.
use lib.Seq.{slice}
use Rattle.job.specs.Steps.{Stored}
use Rattle.job.proofs.MarkLaws.{Between}
use Rattle.negotiation.proofs.trees.mark_path.Given as goal

abbrev pub invariant-loop-k : goal.invariant-loop-k
invariant-loop-k l = Between 0 l.count l.k l.work × Stored 1 (slice 0 l.k l.work) l.initial.in_tree l.in_tree
