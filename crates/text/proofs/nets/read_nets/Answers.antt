-- `text::nets::read_nets` meets its contract: the lines that are left give with the lists so far what all of them give.
-- Assumes nothing.
use native.Mathlib.Omega.{arith}
use lib.Seq.{get_or-set_same}
use Rattle.text.proofs.nets.NetLoopLaws.{going_first, going_later, going_more, going_stops, going_short, going_empty, going_done}
use Rattle.text.proofs.nets.read_nets.Goals.{then-c-nets-via-then-c-nets, then-c-nets-via-else-c-nets+then-c}
use Rattle.text.proofs.nets.read_nets.Goals as goal

pub loop-c-init : goal.loop-c-init
loop-c-init c =
    let a = c.args in
    let b = c.requires.from_in_bounds in
    going_first a.counts.terms.timed a.kind.now a.counts.nodes a.counts.nets a.text.now a.from.at a.from.line a.source.now a.first_sink.now a.sink.now a.criticality.now (b.0.0, b.0.1, b.1, b.2) c.requires.nets_in_bounds

pub loop-c-smaller : goal.loop-c-smaller
loop-c-smaller c =
    let call = c.net_line in
    going_later c.loop-c.invariant c.loop-c-test.true call.result _ _ _ _ _ c.in-Ok.is call.ensures.kept_after

pub loop-c-preserved : goal.loop-c-preserved
loop-c-preserved c =
    let call = c.net_line in
    going_more c.loop-c.invariant c.loop-c-test.true call.result _ _ _ _ _ c.in-Ok.is call.ensures.criticality_after call.ensures.kept_after

pub returns-in-Err : goal.returns-in-Err
returns-in-Err c =
    let call = c.net_line in record { criticality_after = (0, going_stops c.loop-c.invariant c.loop-c-test.true call.result _ _ _ _ c.in-Err.is call.ensures.criticality_after); nets_end = tt }

pub returns-then-c-nets : goal.returns-then-c-nets
returns-then-c-nets c = record {
  criticality_after = (
    0,
    elim c.then-c-nets.branch [
      | then-c-nets-via-then-c-nets w ↦ going_short c.loop-c.invariant c.loop-c-test.false w.if-c-nets.true
      | then-c-nets-via-else-c-nets+then-c w ↦ going_empty c.loop-c.invariant c.loop-c-test.false w.if-c.true
    ],
  );
  nets_end = tt;
}

pub returns : goal.returns
returns c =
    let inv = c.loop-c.invariant in
    record {
      criticality_after = (c.loop-c.c.line, going_done inv c.loop-c-test.false c.if-c-nets.false c.if-c.false);
      nets_end = (inv.kept.sinks_read, get_or-set_same c.loop-c.first_sink c.args.counts.nets c.loop-c.c.sinks 0 (omega (arith, inv.kept.room.firsts-long)));
    }
