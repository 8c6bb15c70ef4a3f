-- `tally::tally` meets its contract: after the turns up to v, the weights of v nodes are added.
-- Assumes nothing.
use Rattle.uses.proofs.TallyLaws.{Tallying}
use Rattle.uses.proofs.tally.tally.Given as goal

abbrev pub invariant-loop-v : goal.invariant-loop-v
invariant-loop-v l = Tallying l.kind l.weight l.initial.sums l.sums l.v
