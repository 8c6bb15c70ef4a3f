-- `text::latest::latest_records` meets its contract. The loop's invariant: each net's latest records among those passed stand between its two places.
-- Assumes nothing.
use mathlib.Core.Path.{refl}
use Prim.Native.Nat.{◌<◌}
use Rattle.std.proofs.Common.{rules}
use Rattle.job.specs.Tables.{nets_most}
use Rattle.job.proofs.SinkMarkLaws.{unmarked_new}
use Rattle.text.proofs.BranchLaws.{rest_fits}
use Rattle.text.proofs.latest.LatestLaws.{finding_none, finding_net, finding_from, finding_anew, finding_same, finding_all}
use Rattle.text.proofs.latest.latest_records.Goals.{After-record_at-record, else-begins_anew, then-begins_anew}
use Rattle.text.proofs.latest.latest_records.Goals as goal

-- the record's net has its places
few : (c : After-record_at-record) → c.record_at-record.result.net < nets_most
few c = finding_net c.loop-at.invariant c.loop-at-test.true c.record_at-record.ensures

pub loop-at-init : goal.loop-at-init
loop-at-init c = finding_none _ _ _ c.requires refl refl (λ i. (unmarked_new 512 i, unmarked_new 512 i))

pub record_at-record-requires : goal.record_at-record-requires
record_at-record-requires c = rest_fits c.loop-at.invariant.rest c.loop-at-test.true

pub bounds-latest-net : goal.bounds-latest-net
bounds-latest-net c = few (goal.at.bounds-latest-net c).After-record_at-record

pub bounds-latest-net-in-loop-at : goal.bounds-latest-net-in-loop-at
bounds-latest-net-in-loop-at c = few (goal.at.bounds-latest-net-in-loop-at c).After-record_at-record

pub bounds-latest-net-then-begins_anew : goal.bounds-latest-net-then-begins_anew
bounds-latest-net-then-begins_anew c = few (goal.at.bounds-latest-net-then-begins_anew c).After-record_at-record

pub bounds-latest-net-in-loop-at-2 : goal.bounds-latest-net-in-loop-at-2
bounds-latest-net-in-loop-at-2 c = few (goal.at.bounds-latest-net-in-loop-at-2 c).After-record_at-record

pub begins_anew-requires : goal.begins_anew-requires
begins_anew-requires c = (finding_from c.loop-at.invariant c.loop-at-test.true c.record_at-record.ensures, c.loop-at-test.true)

pub loop-at-preserved : goal.loop-at-preserved
loop-at-preserved c =
    let read = c.record_at-record.ensures in
    elim c.if-begins_anew.branch [
      | then-begins_anew w ↦ rw w.latest-is (finding_anew c.loop-at.invariant c.loop-at-test.true read c.begins_anew.ensures w.if-begins_anew.true)
      | else-begins_anew w ↦ rw w.latest-is (finding_same c.loop-at.invariant c.loop-at-test.true read c.begins_anew.ensures w.if-begins_anew.false)
    ]

pub returns : goal.returns
returns c = finding_all c.loop-at.invariant (search rules)
