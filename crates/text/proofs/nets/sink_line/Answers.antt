-- `text::nets::sink_line` meets its contract: each answer follows from the tests before it, where the stamps tell the net's pins.
-- Assumes nothing.
use mathlib.Core.Bool.{not}
use Rattle.std.proofs.Common.{ap}
use Prim.Native.Nat.{◌+◌}
use Rattle.search.proofs.KeptLaws.{refused, passed}
use Rattle.job.specs.Tables.{sink_kind}
use Rattle.text.proofs.JudgedLaws.{line_place}
use Rattle.text.proofs.NetLineLaws.{sink-numbers, sink-fault, sink-net, sink-node, sink_tenths, sink-order, sink-seen, sink_many, sink_pin, of_refused, of_none, of_one}
use Rattle.text.proofs.nets.sink_line.Goals.{then-nets-first-via-then-nets-first, then-nets-first-via-else-nets-first+then-nodes-second}
use Rattle.text.proofs.nets.sink_line.Goals.{then-nets-first-via-else-nets-first+else-nodes-second+then-criticality-gt-CRITICALITY_MOST}
use Rattle.text.proofs.nets.sink_line.Goals.{then-first-i-via-then-first-i, then-first-i-via-else-first-i+then-seen-second}
use Rattle.text.proofs.nets.sink_line.Goals.{then-first-i-via-else-first-i+else-seen-second+then-count-ge-SINKS_MOST}
use Rattle.text.proofs.nets.sink_line.Goals.{then-first-i-via-else-first-i+else-seen-second+else-count-ge-SINKS_MOST+then-not-sink_kind}
use Rattle.text.proofs.nets.sink_line.Goals as goal

pub line_fields-requires : goal.line_fields-requires
line_fields-requires c = rw c.one_of_two-numbers.ensures (sink-numbers c.args.counts.terms.timed)

pub returns-in_default : goal.returns-in_default
returns-in_default c =
    let a = c.args in
    let n = c.one_of_two-numbers.ensures in
    let v = c.line_fields.ensures.value in
    record { by_index = λ pins m. of_refused sink_kind a.kind.now (sink-fault a.counts.terms.timed _ _ _ a.at _ a.text.now n v pins c.in_default.is); sink_place = tt }

pub returns-then-nets-first : goal.returns-then-nets-first
returns-then-nets-first c =
    let a = c.args in
    let n = c.one_of_two-numbers.ensures in
    let v = c.line_fields.ensures.value in
    let t = c.one_of_two-criticality.ensures in
    record {
      by_index = λ pins m.
          elim c.then-nets-first.branch [
            | then-nets-first-via-then-nets-first w ↦ of_refused sink_kind a.kind.now (sink-net a.counts.terms.timed _ _ _ a.at _ a.text.now n v c.in-Some.is t pins w.if-nets-first.true)
            | then-nets-first-via-else-nets-first+then-nodes-second w ↦
                of_refused sink_kind a.kind.now (sink-node a.counts.terms.timed _ _ _ a.at _ a.text.now n v c.in-Some.is t pins w.if-nodes-second.true)
            | then-nets-first-via-else-nets-first+else-nodes-second+then-criticality-gt-CRITICALITY_MOST w ↦
                of_refused sink_kind a.kind.now (sink_tenths a.counts.terms.timed _ _ _ a.at _ a.text.now n v c.in-Some.is t pins w.if-criticality-gt-CRITICALITY_MOST.true)
          ];
      sink_place = tt;
    }

pub returns-then-first-i : goal.returns-then-first-i
returns-then-first-i c =
    let a = c.args in
    let n = c.one_of_two-numbers.ensures in
    let v = c.line_fields.ensures.value in
    let t = c.one_of_two-criticality.ensures in
    record {
      by_index = λ pins m.
          elim c.then-first-i.branch [
            | then-first-i-via-then-first-i w ↦
                of_refused sink_kind a.kind.now (sink-order a.counts.terms.timed _ _ _ a.at _ a.text.now n v c.in-Some.is t c.if-nets-first.false c.if-nodes-second.false c.if-criticality-gt-CRITICALITY_MOST.false pins w.if-first-i.true)
            | then-first-i-via-else-first-i+then-seen-second w ↦
                of_refused sink_kind a.kind.now (sink-seen a.counts.terms.timed _ _ _ a.at _ a.text.now n v c.in-Some.is t c.if-nets-first.false c.if-nodes-second.false c.if-criticality-gt-CRITICALITY_MOST.false a.stamp a.seen.now pins m w.if-seen-second.true)
            | then-first-i-via-else-first-i+else-seen-second+then-count-ge-SINKS_MOST w ↦
                of_refused sink_kind a.kind.now (sink_many a.counts.terms.timed _ _ _ a.at _ a.text.now n v c.in-Some.is t c.if-nets-first.false c.if-nodes-second.false c.if-criticality-gt-CRITICALITY_MOST.false pins w.if-count-ge-SINKS_MOST.true)
            | then-first-i-via-else-first-i+else-seen-second+else-count-ge-SINKS_MOST+then-not-sink_kind w ↦
                of_none sink_kind a.kind.now
                (sink_pin a.counts.terms.timed _ _ _ a.at _ a.text.now n v c.in-Some.is t c.if-nets-first.false c.if-nodes-second.false c.if-criticality-gt-CRITICALITY_MOST.false a.stamp a.seen.now pins m w.if-first-i.false w.if-seen-second.false w.if-count-ge-SINKS_MOST.false)
                (refused w.sink_kind.ensures (ap not w.if-not-sink_kind.true))
          ];
      sink_place = tt;
    }

pub returns : goal.returns
returns c =
    let a = c.args in
    let n = c.one_of_two-numbers.ensures in
    let v = c.line_fields.ensures.value in
    let t = c.one_of_two-criticality.ensures in
    record {
      by_index = λ pins m. of_one sink_kind a.kind.now (sink_pin a.counts.terms.timed _ _ _ a.at _ a.text.now n v c.in-Some.is t
          c.if-nets-first.false c.if-nodes-second.false c.if-criticality-gt-CRITICALITY_MOST.false a.stamp a.seen.now pins m c.if-first-i.false c.if-seen-second.false c.if-count-ge-SINKS_MOST.false) (passed c.sink_kind.ensures (ap not c.if-not-sink_kind.false));
      sink_place = (line_place (a.at + 1) a.text.now c.in-Some.is c.line_fields.ensures.fields_place, c.if-nodes-second.false);
    }
