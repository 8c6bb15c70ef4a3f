-- `tables::unmark_sinks` meets its contract. The loop's invariant: the entries at the sinks passed are 0, the others as before.
-- Assumes nothing.
use Rattle.job.proofs.MarkLaws.{stored_none}
use Rattle.job.proofs.SinkMarkLaws.{stored_more}
use Rattle.job.proofs.tables.unmark_sinks.Goals as goal

pub loop-sink-init : goal.loop-sink-init
loop-sink-init c = stored_none _ _

pub loop-sink-preserved : goal.loop-sink-preserved
loop-sink-preserved c =
    let i = c.loop-sink.sink-index in
    stored_more c.args.sinks.now i c.loop-sink-test.true (c.requires i c.loop-sink-test.true) c.loop-sink.invariant
