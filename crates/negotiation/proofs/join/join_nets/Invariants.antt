-- `join::join_nets` meets its contract. The loop's invariant: the places of the nets passed stand first, and where each net's begin.
-- Assumes nothing.
use Rattle.negotiation.proofs.JoiningLaws.{Joining}
use Rattle.negotiation.proofs.join.join_nets.Given as goal

abbrev pub invariant-loop-net : goal.invariant-loop-net
invariant-loop-net l = Joining l.job.source.now l.job.first_sink.now l.job.sink.now l.initial.firsts l.initial.places l.firsts l.places l.seen l.count l.net
