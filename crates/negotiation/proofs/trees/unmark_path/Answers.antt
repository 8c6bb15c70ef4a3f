-- `negotiation::trees::unmark_path` meets its contract: after the turns up to k, the marks of the nodes at places below k are cleared.
-- Assumes nothing.
use Prim.Native.Nat.{◌<◌}
use native.Mathlib.Omega.{arith}
use lib.ListN.{length, get_or}
use lib.Seq.{slice_empty}
use Rattle.job.proofs.MarkLaws.{between_none, between_more, between-all, node-below, passed_more, stored_none, stored_one, stored_append}
use Rattle.negotiation.proofs.trees.unmark_path.Goals.{In-loop-k}
use Rattle.negotiation.proofs.trees.unmark_path.Goals as goal

node : (c : In-loop-k) → get_or c.args.log.now c.loop-k.k 0 < length c.loop-k.in_tree
node c =
    let inv = c.loop-k.invariant in
    rw inv.1.long (node-below c.loop-k-test.true c.requires.all_below inv.0)

pub loop-k-init : goal.loop-k-init
loop-k-init c = (between_none _ _ _ c.requires.from_le_to.0 c.requires.from_le_to.1, rw slice_empty (stored_none _ _))

pub bounds-in_tree-v : goal.bounds-in_tree-v
bounds-in_tree-v c = omega (arith, node (goal.at.bounds-in_tree-v c).In-loop-k)

pub loop-k-preserved : goal.loop-k-preserved
loop-k-preserved c =
    let inv = c.loop-k.invariant in
    (between_more c.loop-k-test.true inv.0, rw (passed_more c.loop-k-test.true inv.0) (stored_append inv.1 (stored_one _ _ _ (node (goal.at.loop-k-preserved c).In-loop-k))))

pub returns : goal.returns
returns c = let inv = c.loop-k.invariant in rw (between-all c.loop-k-test.false inv.0) at inv.1
