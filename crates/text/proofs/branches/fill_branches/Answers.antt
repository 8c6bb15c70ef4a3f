-- `text::branches::fill_branches` meets its contract. The loop's invariant: the branches of the nets passed are counted, and written where there is room.
-- Assumes nothing.
use Rattle.std.proofs.Common.{rules}
use Rattle.text.proofs.BranchLaws.{nets-none, nets-more}
use Rattle.text.proofs.branches.fill_branches.Goals as goal

pub loop-net-init : goal.loop-net-init
loop-net-init c = nets-none _ _ _ _ _ (search rules)

pub loop-net-preserved : goal.loop-net-preserved
loop-net-preserved c = nets-more c.loop-net.invariant (search rules) c.of.ensures c.fill_records-next.ensures
