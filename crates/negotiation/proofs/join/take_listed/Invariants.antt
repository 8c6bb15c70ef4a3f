-- `join::take_listed` meets its contract. The loop's invariant: of every beginning the places passed are taken.
-- Assumes nothing.
use Rattle.negotiation.proofs.join.JoinStepLaws.{Taking}
use Rattle.negotiation.proofs.join.take_listed.Given as goal

abbrev pub invariant-loop-p : goal.invariant-loop-p
invariant-loop-p l = Taking l.stamp l.from l.to l.start l.sink l.initial.seen l.initial.places l.seen l.places l.count l.p
