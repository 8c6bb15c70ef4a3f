-- `join::gather` meets its contract. The loop's invariant: the entries at the places passed are gathered.
-- Assumes nothing.
use Rattle.negotiation.proofs.join.JoinStepLaws.{gathering_none, gathering_more, gathering_all, gather_within}
use Rattle.negotiation.proofs.join.gather.Goals as goal

pub loop-k-init : goal.loop-k-init
loop-k-init g c = gathering_none _ _ _ _

pub bounds-table-p : goal.bounds-table-p
bounds-table-p g c = gather_within _ _ _ _ c.requires.all_below c.loop-k-test.true c.requires.count_in_bounds.0

pub loop-k-preserved : goal.loop-k-preserved
loop-k-preserved g c =
    gathering_more _ _ _ c.loop-k-test.true c.requires.count_in_bounds.0 c.requires.count_in_bounds.1
    (gather_within _ _ _ _ c.requires.all_below c.loop-k-test.true c.requires.count_in_bounds.0) c.index-table-p.is c.loop-k.invariant

pub returns : goal.returns
returns g c = gathering_all _ _ _ c.loop-k.invariant c.loop-k-test.false
