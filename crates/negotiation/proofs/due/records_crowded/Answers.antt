-- `negotiation::due::records_crowded` meets its contract: no node of the records that the loop has passed has more users than its capacity.
-- Assumes nothing.
use mathlib.Core.Path.{sym, ◌∙◌}
use Prim.Native.Nat.{◌+◌, ◌≤◌}
use native.Mathlib.Omega.{arith}
use lib.ListN.{get_or}
use Rattle.negotiation.proofs.RegionLaws.{walking_none, walking_all, record_fits, record_nodes}
use Rattle.negotiation.proofs.due.CrowdedLaws.{over_none, room_record, over_record}
use Rattle.negotiation.proofs.due.records_crowded.Goals.{In-loop-at}
use Rattle.negotiation.proofs.due.records_crowded.Goals as goal

-- the record ends within the part
fits : (c : In-loop-at) → c.loop-at.at + 6 + get_or c.args.log.now (c.loop-at.at + 5) 0 ≤ c.args.until
fits c = let inv = c.loop-at.invariant in record_fits inv.rest c.loop-at-test.true inv.walk

pub loop-at-init : goal.loop-at-init
loop-at-init c = walking_none _ _ _ _ c.requires.from_le_until.0 c.requires.from_le_until.1 c.requires.whole (over_none _ _)

pub overflow_add-end : goal.overflow_add-end
overflow_add-end c = omega (arith, fits c)

pub overflow_add-end-in-loop-at : goal.overflow_add-end-in-loop-at
overflow_add-end-in-loop-at c = omega (arith, fits c)

pub offset_bounds-log-at : goal.offset_bounds-log-at
offset_bounds-log-at c = omega (arith, fits c)

pub bounds-log-at : goal.bounds-log-at
bounds-log-at c = omega (arith, fits (goal.at.bounds-log-at c).In-loop-at)

pub overflow_cast-end : goal.overflow_cast-end
overflow_cast-end c = omega (arith, fits (goal.at.overflow_cast-end c).In-loop-at)

pub overflow_add-end-in-loop-at-2 : goal.overflow_add-end-in-loop-at-2
overflow_add-end-in-loop-at-2 c = omega (arith, fits (goal.at.overflow_add-end-in-loop-at-2 c).In-loop-at)

pub overflow_add-at : goal.overflow_add-at
overflow_add-at c = omega (arith, fits (goal.at.overflow_add-at c).In-loop-at)

pub path_crowded-requires : goal.path_crowded-requires
path_crowded-requires c =
    let inv = c.loop-at.invariant in record { from_le_to = (omega arith, omega (arith, fits (goal.at.path_crowded-requires c).In-loop-at), c.requires.from_le_until.2); all_below = record_nodes inv.rest c.loop-at-test.true inv.walk }

pub returns-then-path_crowded : goal.returns-then-path_crowded
returns-then-path_crowded c =
    sym (over_record _ _ c.loop-at.invariant c.loop-at-test.true (sym c.path_crowded.ensures ∙ c.if-path_crowded.true))

pub loop-at-smaller : goal.loop-at-smaller
loop-at-smaller c = omega (arith, fits (goal.at.loop-at-smaller c).In-loop-at)

pub loop-at-preserved : goal.loop-at-preserved
loop-at-preserved c =
    room_record _ _ c.loop-at.invariant c.loop-at-test.true (sym c.path_crowded.ensures ∙ c.if-path_crowded.false)

pub returns : goal.returns
returns c = sym (walking_all c.loop-at.invariant c.loop-at-test.false)
