-- `negotiation::trees::drop_records` meets its contract: after the turns up to a record, the nodes of the records before it are marked,
-- and those that were not have one user less.
-- Assumes nothing.
use mathlib.Core.Path.{sym, ◌∙◌}
use native.Mathlib.Omega.{arith}
use Rattle.negotiation.proofs.LeavingLaws.{dropped_none, dropped_append}
use Rattle.negotiation.proofs.RegionLaws.{walking_none, walking_more, walking_all, walking_can, record_fits, record_nodes}
use Rattle.negotiation.proofs.trees.drop_records.Goals as goal

pub loop-at-init : goal.loop-at-init
loop-at-init c = walking_none _ _ _ _ c.requires.from_le_until.0 c.requires.from_le_until.1 c.requires.whole (dropped_none _ _ _)

pub drop_path-requires : goal.drop_path-requires
drop_path-requires c =
    let inv = c.loop-at.invariant in
    let fits = record_fits inv.rest c.loop-at-test.true inv.walk in
    record {
      from_le_to = (omega arith, omega arith, inv.done.users-long ∙ c.requires.from_le_until.2 ∙ sym inv.done.marks_set.long);
      all_below = rw inv.done.marks_set.long (record_nodes inv.rest c.loop-at-test.true inv.walk);
      can_drop = rw inv.done.marks_set.long (walking_can inv c.loop-at-test.true c.requires.ready);
    }

pub bounds-log-at : goal.bounds-log-at
bounds-log-at c = let fits = record_fits c.loop-at.invariant.rest c.loop-at-test.true c.loop-at.invariant.walk in omega arith

pub loop-at-preserved : goal.loop-at-preserved
loop-at-preserved c =
    let inv = c.loop-at.invariant in
    walking_more inv c.loop-at-test.true (λ xs done. dropped_append done (rw inv.done.marks_set.long at c.drop_path.ensures))

pub returns : goal.returns
returns c = walking_all c.loop-at.invariant c.loop-at-test.false
