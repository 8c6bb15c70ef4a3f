-- `join::take_listed` meets its contract. The loop's invariant: of every beginning the places passed are taken.
-- Assumes nothing.
use Prim.Native.Nat.{◌<◌}
use native.Mathlib.Omega.{arith}
use lib.ListN.{length, get_or}
use Rattle.std.proofs.Common.{rules}
use Rattle.negotiation.proofs.join.JoinStepLaws.{taking-none, taking-kept, taking-more, taking-all}
use Rattle.negotiation.proofs.join.take_listed.Goals.{In-loop-p, else-seen-s, then-seen-s}
use Rattle.negotiation.proofs.join.take_listed.Goals as goal

-- the sink has a stamp, and there is room for its place
node : (c : In-loop-p) → get_or c.args.sink.now c.loop-p.p 0 < length c.loop-p.seen
node c = rw c.loop-p.invariant.seen-long (c.requires.all_below c.loop-p.p (search rules))

room : (c : In-loop-p) → c.loop-p.count < length c.loop-p.places
room c = omega arith

pub loop-p-init : goal.loop-p-init
loop-p-init c = taking-none _ _ _ _ _ _ _ (search rules)

pub overflow_cast-s : goal.overflow_cast-s
overflow_cast-s c = omega (arith, c.type_inv.sink c.loop-p.p)

pub offset_bounds-seen-s : goal.offset_bounds-seen-s
offset_bounds-seen-s c = omega (arith, node (goal.at.offset_bounds-seen-s c).In-loop-p)

pub bounds-seen-s : goal.bounds-seen-s
bounds-seen-s c = node (goal.at.bounds-seen-s c).In-loop-p

pub offset_bounds-seen-s-then-seen-s : goal.offset_bounds-seen-s-then-seen-s
offset_bounds-seen-s-then-seen-s c = omega (arith, node (goal.at.offset_bounds-seen-s-then-seen-s c).In-loop-p)

pub bounds-seen-s-then-seen-s : goal.bounds-seen-s-then-seen-s
bounds-seen-s-then-seen-s c = node (goal.at.bounds-seen-s-then-seen-s c).In-loop-p

pub bounds-places-count : goal.bounds-places-count
bounds-places-count c = room (goal.at.bounds-places-count c).In-loop-p

pub loop-p-preserved : goal.loop-p-preserved
loop-p-preserved c =
    let turn = (goal.at.loop-p-preserved c).In-loop-p in
    let inv = c.loop-p.invariant in
    let more = c.loop-p-test.true in
    elim c.if-seen-s.branch [
      | then-seen-s w ↦ rw (w.count-is, w.seen-is, w.places-is) (taking-more inv more (node turn) w.if-seen-s.true (room turn))
      | else-seen-s w ↦ rw (w.count-is, w.seen-is, w.places-is) (taking-kept inv more (node turn) w.if-seen-s.false)
    ]

pub shape_of-seen : goal.shape_of-seen
shape_of-seen c = c.loop-p.invariant.seen-long

pub shape_of-places : goal.shape_of-places
shape_of-places c = c.loop-p.invariant.places-long

pub returns : goal.returns
returns c = taking-all c.loop-p.invariant (search rules)
