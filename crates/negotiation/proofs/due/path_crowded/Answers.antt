-- `negotiation::due::path_crowded` meets its contract: no node that the loop has passed has more users than its capacity.
-- Assumes nothing.
use mathlib.Core.Path.{sym}
use Prim.Native.Nat.{◌<◌}
use native.Mathlib.Omega.{arith}
use lib.ListN.{length, get_or}
use lib.Seq.{slice_empty}
use Rattle.job.proofs.MarkLaws.{between_none, between_more, between-all, node-below}
use Rattle.negotiation.proofs.due.CrowdedLaws.{over_none, room-node, over-node}
use Rattle.negotiation.proofs.due.path_crowded.Goals.{In-loop-k}
use Rattle.negotiation.proofs.due.path_crowded.Goals as goal

node : (c : In-loop-k) → get_or c.args.log.now c.loop-k.k 0 < length c.args.users.now
node c = node-below c.loop-k-test.true c.requires.all_below c.loop-k.invariant.0

pub loop-k-init : goal.loop-k-init
loop-k-init c = (between_none _ _ _ c.requires.from_le_to.0 c.requires.from_le_to.1, rw slice_empty (over_none _ _))

pub overflow_cast-v : goal.overflow_cast-v
overflow_cast-v c = omega (arith, c.type_inv.log c.loop-k.k)

pub bounds-capacity-v : goal.bounds-capacity-v
bounds-capacity-v c = omega (arith, node (goal.at.bounds-capacity-v c).In-loop-k)

pub overflow_cast-capacity : goal.overflow_cast-capacity
overflow_cast-capacity c =
    omega (arith, c.type_inv.capacity (get_or c.args.log.now c.loop-k.k 0))

pub offset_bounds-users-v : goal.offset_bounds-users-v
offset_bounds-users-v c = omega (arith, node (goal.at.offset_bounds-users-v c).In-loop-k)

pub bounds-users-v : goal.bounds-users-v
bounds-users-v c = omega (arith, node (goal.at.bounds-users-v c).In-loop-k)

pub returns-then-capacity-v : goal.returns-then-capacity-v
returns-then-capacity-v c =
    let inv = c.loop-k.invariant in
    sym (over-node _ _ c.loop-k-test.true inv.0 inv.1 (omega (arith, c.if-capacity-v.true)))

pub loop-k-preserved : goal.loop-k-preserved
loop-k-preserved c =
    let inv = c.loop-k.invariant in (
      between_more c.loop-k-test.true inv.0,
      room-node _ _ c.loop-k-test.true inv.0 inv.1 (omega (arith, c.if-capacity-v.false)),
    )

pub returns : goal.returns
returns c =
    let inv = c.loop-k.invariant in
    sym (rw (between-all c.loop-k-test.false inv.0) at inv.1)
