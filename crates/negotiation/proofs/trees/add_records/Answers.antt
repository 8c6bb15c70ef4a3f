-- `negotiation::trees::add_records` meets its contract: after the turns up to a record, the marks of the nodes of the records before it are cleared,
-- and those that were set have one user more.
-- Assumes nothing.
use mathlib.Core.Path.{sym, ◌∙◌}
use native.Mathlib.Omega.{arith}
use Rattle.negotiation.proofs.LeavingLaws.{added_none, added_append, can-add_rest}
use Rattle.negotiation.proofs.RegionLaws.{walking_none, walking_more, walking_all, record_fits, record_nodes}
use Rattle.negotiation.proofs.trees.add_records.Goals as goal

pub loop-at-init : goal.loop-at-init
loop-at-init c = walking_none _ _ _ _ c.requires.from_le_until.0 c.requires.from_le_until.1 c.requires.whole (added_none _ _ _)

pub add_path-requires : goal.add_path-requires
add_path-requires c =
    let inv = c.loop-at.invariant in
    let fits = record_fits inv.rest c.loop-at-test.true inv.walk in
    record {
      from_le_to = (omega arith, omega arith, inv.done.users-long ∙ c.requires.from_le_until.2 ∙ sym inv.done.marks_cleared.long);
      all_below = rw inv.done.marks_cleared.long (record_nodes inv.rest c.loop-at-test.true inv.walk);
      can_add_marked = rw inv.done.marks_cleared.long (can-add_rest c.requires.can_add_marked inv.done);
    }

pub bounds-log-at : goal.bounds-log-at
bounds-log-at c = let fits = record_fits c.loop-at.invariant.rest c.loop-at-test.true c.loop-at.invariant.walk in omega arith

pub loop-at-preserved : goal.loop-at-preserved
loop-at-preserved c =
    let inv = c.loop-at.invariant in
    walking_more inv c.loop-at-test.true (λ xs done. added_append done (rw inv.done.marks_cleared.long at c.add_path.ensures))

pub returns : goal.returns
returns c = walking_all c.loop-at.invariant c.loop-at-test.false
