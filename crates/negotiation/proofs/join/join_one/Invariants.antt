-- `join::join_one` meets its contract. The loop's invariant: the places of the source's nets passed are taken.
-- Assumes nothing.
use Rattle.negotiation.proofs.JoiningLaws.{TakingNets}
use Rattle.negotiation.proofs.join.join_one.Given as goal

abbrev pub invariant-loop-k : goal.invariant-loop-k
invariant-loop-k l = TakingNets l.job.source.now l.job.first_sink.now l.job.sink.now l.net l.initial.seen l.initial.places l.seen l.places l.count l.k
