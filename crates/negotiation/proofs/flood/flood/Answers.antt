-- `negotiation::flood::flood` meets its contract. The invariant: the rows of the queue's entries before `next` are flooded, and the sinks before `missing` are marked.
-- No queue is longer than there are nodes.
-- Assumes nothing.
use mathlib.Core.Path.{◌≡◌, sym, ◌∙◌}
use Prim.Native.Nat.{ℕ, ◌<◌}
use native.Mathlib.Omega.{arith}
use lib.ListN.{length, replicate, length-set, length-replicate}
use Rattle.negotiation.proofs.FloodLaws.{same_from_set, queue-few, flood_start, flood_more, sinks-more, sinks-marked, flood_stop, flood_whole}
use Rattle.negotiation.proofs.flood.flood.Goals.{In-loop-next}
use Rattle.negotiation.proofs.flood.flood.Goals as goal

-- a turn's entry of the queue is one of at most as many as there are nodes
next-few : (t : In-loop-next) → t.loop-next.next < length t.args.tables.now.kind.now
next-few t = omega (arith, t.loop-next-test.true, queue-few t.loop-next.invariant.0.queue)

pub bounds-reached-source : goal.bounds-reached-source
bounds-reached-source c =
    let e : c.fill.new.self ≡ replicate (length c.args.reached.now) 0 = c.fill.ensures.after (λ y e. e) in
    let node = c.requires.source-node in
    let long = c.requires.marks_long in
    rw (e, length-replicate {A = ℕ} (length c.args.reached.now) 0) (omega arith)

pub bounds-work-0 : goal.bounds-work-0
bounds-work-0 c =
    let node = c.requires.source-node in
    let long = c.requires.work-long in
    let some : 0 < length c.args.work.now = omega arith in
    some

pub loop-next-init : goal.loop-next-init
loop-next-init c = (flood_start c.requires (c.fill.ensures.after (λ y e. e)), omega arith, λ p l. absurd (omega arith))

pub missing_sink-missing-requires : goal.missing_sink-missing-requires
missing_sink-missing-requires c =
    let i = c.loop-next.invariant in record { all_below = sinks-marked c.requires.graph i.0 c.args.sinks.now c.requires.sinks-nodes; from_in_bounds = i.1 }

pub shape_of-reached-then-missing-sinks : goal.shape_of-reached-then-missing-sinks
shape_of-reached-then-missing-sinks c = c.loop-next.invariant.0.queue.marks_long ∙ sym c.requires.marks_long

pub shape_of-work-then-missing-sinks : goal.shape_of-work-then-missing-sinks
shape_of-work-then-missing-sinks c = c.loop-next.invariant.0.same.long ∙ length-set c.args.work.now 0 c.args.source

pub returns-then-missing-sinks : goal.returns-then-missing-sinks
returns-then-missing-sinks c =
    let node = c.requires.source-node in
    flood_stop c.requires.graph c.loop-next.invariant.0 (same_from_set (length c.args.tables.now.kind.now) 0 c.args.source c.args.work.now (omega arith))
    c.requires.sinks-nodes c.loop-next.invariant.2 c.missing_sink-missing.ensures c.if-missing-sinks.true

pub offset_bounds-work-next : goal.offset_bounds-work-next
offset_bounds-work-next c = omega (arith, next-few (goal.at.offset_bounds-work-next c).In-loop-next, c.requires.graph.few)

pub bounds-work-next : goal.bounds-work-next
bounds-work-next c = omega (arith, next-few (goal.at.bounds-work-next c).In-loop-next, c.loop-next.invariant.0.queue.work-long)

pub flood_row-end-requires : goal.flood_row-end-requires
flood_row-end-requires c =
    let i = c.loop-next.invariant.0 in
    record { graph = c.requires.graph; node = i.queue.nodes-below c.loop-next.next c.loop-next-test.true; queue = i.queue }

pub overflow_add-next : goal.overflow_add-next
overflow_add-next c = omega (arith, next-few (goal.at.overflow_add-next c).In-loop-next, c.requires.graph.few)

pub loop-next-smaller : goal.loop-next-smaller
loop-next-smaller c = omega (arith, next-few (goal.at.loop-next-smaller c).In-loop-next)

pub loop-next-preserved : goal.loop-next-preserved
loop-next-preserved c =
    let row = c.flood_row-end.ensures in
    let found = c.missing_sink-missing.ensures in
    let i = c.loop-next.invariant in (
      flood_more c.requires.graph i.0 c.loop-next-test.true row,
      found.within,
      λ p l. row.marks_kept _ (sinks-more c.requires.graph i.0 c.requires.sinks-nodes i.2 found p l),
    )

pub shape_of-reached : goal.shape_of-reached
shape_of-reached c = c.loop-next.invariant.0.queue.marks_long ∙ sym c.requires.marks_long

pub shape_of-work : goal.shape_of-work
shape_of-work c = c.loop-next.invariant.0.same.long ∙ length-set c.args.work.now 0 c.args.source

pub returns : goal.returns
returns c =
    let node = c.requires.source-node in
    flood_whole c.requires.graph c.loop-next.invariant.0 c.loop-next-test.false
    (same_from_set (length c.args.tables.now.kind.now) 0 c.args.source c.args.work.now (omega arith))
