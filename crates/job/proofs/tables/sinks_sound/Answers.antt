-- `tables::sinks_sound` meets its contract. The loop's invariant: every net passed keeps the rule, and no mark is left.
-- Assumes nothing.
use mathlib.Core.Bool.{not}
use Rattle.std.proofs.Common.{ap}
use mathlib.Core.Path.{sym, ◌∙◌}
use Prim.Native.Nat.{◌+◌}
use native.Mathlib.Omega.{arith}
use Rattle.search.proofs.KeptLaws.{refused, passed}
use Rattle.job.proofs.JobLaws.{source-below, firsts-long, firsts-order, firsts-most}
use Rattle.job.proofs.NetTableLaws.{passing-none, passing-more, net-answer, nets_bad, nets-all}
use Rattle.job.proofs.tables.sinks_sound.Goals as goal

pub loop-i-init : goal.loop-i-init
loop-i-init c = passing-none _ _ _ _

pub bounds-first_sink-i : goal.bounds-first_sink-i
bounds-first_sink-i c = omega (arith, firsts-long _ _ _ c.requires.first_sink_value)

pub bounds-first_sink-i-in-loop-i : goal.bounds-first_sink-i-in-loop-i
bounds-first_sink-i-in-loop-i c = omega (arith, firsts-long _ _ _ c.requires.first_sink_value)

pub slice_bounds-net_sound-count : goal.slice_bounds-net_sound-count
slice_bounds-net_sound-count c = omega (arith, firsts-order _ _ _ c.requires.first_sink_value c.loop-i.i (omega arith))

pub slice_bounds-net_sound-start : goal.slice_bounds-net_sound-start
slice_bounds-net_sound-start c = omega (arith, firsts-order _ _ _ c.requires.first_sink_value c.loop-i.i (omega arith))

pub slice_bounds-net_sound-end : goal.slice_bounds-net_sound-end
slice_bounds-net_sound-end c = firsts-most _ _ _ c.requires.first_sink_value (c.loop-i.i + 1) (omega arith)

pub net_sound-requires : goal.net_sound-requires
net_sound-requires c = record { n_in_bounds = (omega (arith, c.loop-i.invariant.long, c.requires.n_le_nodes_most), source-below _ _ c.requires.source_value c.loop-i.i (omega arith)); by_index = c.loop-i.invariant.unmarked }

pub returns-then-not-net_sound : goal.returns-then-not-net_sound
returns-then-not-net_sound c =
    let i = c.loop-i.i in
    let a = c.args in
    let answer = net-answer a.n a.source.now a.first_sink.now a.sink.now i c.net_sound.ensures.value in
    sym (nets_bad _ _ _ _ i c.loop-i-test.true (refused answer (ap not c.if-not-net_sound.true)))

pub loop-i-preserved : goal.loop-i-preserved
loop-i-preserved c =
    let a = c.args in
    let tested = c.net_sound in
    let answer = net-answer a.n a.source.now a.first_sink.now a.sink.now c.loop-i.i tested.ensures.value in
    let sound = passed answer (ap not c.if-not-net_sound.false) in
    passing-more c.loop-i.i c.loop-i.invariant sound (tested.ensures.v_after (answer ∙ sound)) tested.auto.seen

pub returns : goal.returns
returns c = sym (nets-all _ _ _ _ c.loop-i.i (omega arith) (omega arith) c.loop-i.invariant.sound)
