-- `tables::mark_sinks` meets its contract. The loop's invariant: the sinks passed are nodes, differ, were not marked, and now are.
-- Assumes nothing.
use Rattle.job.proofs.SinkMarkLaws.{Marking}
use Rattle.job.proofs.tables.mark_sinks.Given as goal

abbrev pub invariant-loop-sink : goal.invariant-loop-sink
invariant-loop-sink l = Marking l.n l.sinks l.initial.seen l.seen l.sink-index
