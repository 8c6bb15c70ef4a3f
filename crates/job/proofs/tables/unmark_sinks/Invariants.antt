-- `tables::unmark_sinks` meets its contract. The loop's invariant: the entries at the sinks passed are 0, the others as before.
-- Assumes nothing.
use lib.ListN.{take}
use Rattle.job.specs.Steps.{Stored}
use Rattle.job.proofs.tables.unmark_sinks.Given as goal

abbrev pub invariant-loop-sink : goal.invariant-loop-sink
invariant-loop-sink l = Stored 0 (take l.sink-index l.sinks) l.initial.seen l.seen
