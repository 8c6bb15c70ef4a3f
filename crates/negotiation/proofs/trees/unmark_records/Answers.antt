-- `negotiation::trees::unmark_records` meets its contract: after the turns up to a record, the marks of the nodes of the records before it are cleared.
-- Assumes nothing.
use native.Mathlib.Omega.{arith}
use Rattle.job.proofs.MarkLaws.{stored_none, stored_append}
use Rattle.negotiation.proofs.RegionLaws.{walking_none, walking_more, walking_all, record_fits, record_nodes}
use Rattle.negotiation.proofs.trees.unmark_records.Goals.{In-loop-at}
use Rattle.negotiation.proofs.trees.unmark_records.Goals as goal

pub loop-at-init : goal.loop-at-init
loop-at-init c = walking_none _ _ _ _ c.requires.from_le_until.0 c.requires.from_le_until.1 c.requires.whole (stored_none 0 _)

pub unmark_path-requires : goal.unmark_path-requires
unmark_path-requires c =
    let inv = c.loop-at.invariant in
    let fits = record_fits inv.rest c.loop-at-test.true inv.walk in
    record {
      from_le_to = (omega arith, omega arith);
      all_below = rw inv.done.long (record_nodes inv.rest c.loop-at-test.true inv.walk);
    }

pub bounds-log-at : goal.bounds-log-at
bounds-log-at c = let fits = record_fits c.loop-at.invariant.rest c.loop-at-test.true c.loop-at.invariant.walk in omega arith

pub loop-at-preserved : goal.loop-at-preserved
loop-at-preserved c =
    walking_more c.loop-at.invariant c.loop-at-test.true (λ xs done. stored_append done c.unmark_path.ensures)

pub returns : goal.returns
returns c = walking_all c.loop-at.invariant c.loop-at-test.false
