-- `text::users::count_records` meets its contract. The loop's invariant: the nodes of the net's records passed are counted.
-- Assumes nothing.
use mathlib.Core.Path.{◌≡◌, ◌∙◌}
use lib.ListN.{length}
use Rattle.std.proofs.Common.{rules}
use Rattle.text.proofs.BranchLaws.{rest_fits}
use Rattle.text.proofs.users.UserLaws.{path-below, records-none, records-all, records_passed, records_met}
use Rattle.text.proofs.users.count_records.Goals as goal

pub loop-at-init : goal.loop-at-init
loop-at-init c = records-none _ _ _ _ _ c.requires.all_sound.0 c.requires.few_users

pub record_at-record-requires : goal.record_at-record-requires
record_at-record-requires c = rest_fits c.loop-at.invariant.rest c.loop-at-test.true

pub count_path-requires-clause-all_below : goal.count_path-requires-clause-all_below
count_path-requires-clause-all_below c =
    let inv = c.loop-at.invariant in
    let long : length c.loop-at.users ≡ 4096 = inv.users-long ∙ c.requires.all_sound.1 in
    (rw long (path-below inv.rest inv.nodes-few c.loop-at-test.true c.record_at-record.ensures), inv.few)

pub loop-at-preserved-then-record-net : goal.loop-at-preserved-then-record-net
loop-at-preserved-then-record-net c =
    records_met c.loop-at.invariant c.loop-at-test.true c.record_at-record.ensures c.if-record-net.true c.count_path.ensures

pub loop-at-preserved : goal.loop-at-preserved
loop-at-preserved c = records_passed c.loop-at.invariant c.loop-at-test.true c.record_at-record.ensures c.if-record-net.false

pub returns : goal.returns
returns c = records-all c.loop-at.invariant (search rules)
