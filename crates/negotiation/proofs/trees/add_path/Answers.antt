-- `negotiation::trees::add_path` meets its contract: after the turns up to k, the marks of the nodes at places below k are cleared, and those that were set have one user more.
-- Assumes nothing.
use Prim.Native.Nat.{◌<◌}
use native.Mathlib.Omega.{arith}
use lib.ListN.{length, get_or}
use lib.Seq.{slice_empty}
use Rattle.job.proofs.MarkLaws.{between_none, between_more, between-all, node-below, passed_more}
use Rattle.negotiation.proofs.LeavingLaws.{added_none, added_one, added_kept, added_append}
use Rattle.negotiation.proofs.trees.add_path.Goals.{In-loop-k, else-in_tree-v-eq1, then-in_tree-v-eq1}
use Rattle.negotiation.proofs.trees.add_path.Goals as goal

node : (c : In-loop-k) → get_or c.args.log.now c.loop-k.k 0 < length c.loop-k.in_tree
node c =
    let inv = c.loop-k.invariant in
    rw inv.1.marks_cleared.long (node-below c.loop-k-test.true c.requires.all_below inv.0)

node-user : (c : In-loop-k) → get_or c.args.log.now c.loop-k.k 0 < length c.loop-k.users
node-user c = let inv = c.loop-k.invariant in omega (arith, node c, inv.1.users-long, inv.1.marks_cleared.long)

pub loop-k-init : goal.loop-k-init
loop-k-init c = (between_none _ _ _ c.requires.from_le_to.0 c.requires.from_le_to.1, rw slice_empty (added_none _ _ _))

pub bounds-in_tree-v : goal.bounds-in_tree-v
bounds-in_tree-v c = omega (arith, node (goal.at.bounds-in_tree-v c).In-loop-k)

pub bounds-in_tree-v-in-loop-k : goal.bounds-in_tree-v-in-loop-k
bounds-in_tree-v-in-loop-k c = omega (arith, node (goal.at.bounds-in_tree-v-in-loop-k c).In-loop-k)

pub loop-k-preserved : goal.loop-k-preserved
loop-k-preserved c =
    let inv = c.loop-k.invariant in (
      between_more c.loop-k-test.true inv.0,
      rw (passed_more c.loop-k-test.true inv.0)
          ((elim c.if-in_tree-v-eq1.branch [
            | then-in_tree-v-eq1 w ↦ rw w.users-is (added_append inv.1 (added_one _ _ _ _ (node (goal.at.loop-k-preserved c).In-loop-k) (node-user (goal.at.loop-k-preserved c).In-loop-k) w.if-in_tree-v-eq1.true))
            | else-in_tree-v-eq1 w ↦ rw w.users-is (added_append inv.1 (added_kept _ _ _ _ (node (goal.at.loop-k-preserved c).In-loop-k) w.if-in_tree-v-eq1.false))
          ])),
    )

pub returns : goal.returns
returns c = let inv = c.loop-k.invariant in rw (between-all c.loop-k-test.false inv.0) at inv.1
