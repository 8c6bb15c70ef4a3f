-- `text::branches::fill_records` meets its contract. The loop's invariant: the branches of the net's records passed are counted, and written where there is room.
-- Assumes nothing.
use Rattle.std.proofs.Common.{rules}
use Rattle.text.proofs.BranchLaws.{rest_fits, records-none, records-all, records_passed, records_met}
use Rattle.text.proofs.branches.fill_records.Goals as goal

pub loop-at-init : goal.loop-at-init
loop-at-init c = records-none _ _ _ _ _ (search rules) c.requires

pub record_at-record-requires : goal.record_at-record-requires
record_at-record-requires c = rest_fits c.loop-at.invariant.rest c.loop-at-test.true

pub loop-at-preserved-then-record-net : goal.loop-at-preserved-then-record-net
loop-at-preserved-then-record-net c = records_met c.loop-at.invariant c.loop-at-test.true c.record_at-record.ensures c.if-record-net.true c.fill_steps-next.ensures

pub loop-at-preserved : goal.loop-at-preserved
loop-at-preserved c = records_passed c.loop-at.invariant c.loop-at-test.true c.record_at-record.ensures c.if-record-net.false

pub returns : goal.returns
returns c = records-all c.loop-at.invariant (search rules)
