-- `text::users::count_path` meets its contract: the nodes of the path that were passed are stamped, and those that were not have one user more.
-- Assumes nothing.
use Prim.Native.Nat.{◌<◌}
use native.Mathlib.Omega.{arith}
use lib.ListN.{length, get_or}
use Rattle.text.proofs.users.UserLaws.{counted_none, counted_one, counted-kept, path_more}
use Rattle.text.proofs.users.count_path.Goals.{else-stamps-v, then-stamps-v}
use Rattle.text.proofs.users.count_path.Goals as goal

pub loop-node-init : goal.loop-node-init
loop-node-init c = counted_none _ _ _

pub loop-node-preserved : goal.loop-node-preserved
loop-node-preserved c =
    let inv = c.loop-node.invariant in
    let node : get_or c.args.path.now c.loop-node.node-index 0 < length c.args.users.now = c.requires.all_below.0 _ c.loop-node-test.true in
    let users : get_or c.args.path.now c.loop-node.node-index 0 < length c.loop-node.users = omega (arith, node, inv.users-long) in
    let stamps : get_or c.args.path.now c.loop-node.node-index 0 < length c.loop-node.stamps = omega (arith, node, inv.stamps-set.long, c.requires.as_long) in
    elim c.if-stamps-v.branch [
      | then-stamps-v w ↦ rw w.users-is (path_more _ _ inv c.loop-node-test.true (counted_one _ _ _ _ stamps users w.if-stamps-v.true))
      | else-stamps-v w ↦ rw w.users-is (path_more _ _ inv c.loop-node-test.true (counted-kept _ _ _ _ stamps w.if-stamps-v.false))
    ]
