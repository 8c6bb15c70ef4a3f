-- `tables::mark_sinks` meets its contract. The loop's invariant: the sinks passed are nodes, differ, were not marked, and now are.
-- Assumes nothing.
use mathlib.Core.Path.{sym}
use Rattle.price.proofs.TestLaws.{true≢false}
use Rattle.job.proofs.SinkMarkLaws.{marking_none, marking_more, marking_bad, marking_twice, marking_free, stored_all}
use Rattle.job.proofs.tables.mark_sinks.Goals.{then-n-s-via-then-n-s, then-n-s-via-else-n-s+then-seen-s-ne0}
use Rattle.job.proofs.tables.mark_sinks.Goals as goal

pub loop-sink-init : goal.loop-sink-init
loop-sink-init c = marking_none _ _ _

pub returns-then-n-s : goal.returns-then-n-s
returns-then-n-s c =
    let inv = c.loop-sink.invariant in
    let at = c.loop-sink-test.true in
    record {
      value = sym (elim c.then-n-s.branch [
        | then-n-s-via-then-n-s w ↦ marking_bad inv at w.if-n-s.true
        | then-n-s-via-else-n-s+then-seen-s-ne0 w ↦ marking_twice inv at w.if-seen-s-ne0.true
      ]);
      stored = λ e. absurd (true≢false (sym e));
    }

pub loop-sink-preserved : goal.loop-sink-preserved
loop-sink-preserved c = marking_more c.loop-sink.invariant c.loop-sink-test.true c.requires c.if-n-s.false c.if-seen-s-ne0.false

pub returns : goal.returns
returns c =
    record {
      value = sym (marking_free c.loop-sink.invariant c.loop-sink-test.false);
      stored = λ e. stored_all _ c.loop-sink-test.false c.loop-sink.invariant.stored;
    }
