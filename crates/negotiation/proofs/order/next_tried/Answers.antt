-- `order::next_tried` meets its contract: all sinks in an untimed job, none or the one that is due in a timed one.
-- Assumes nothing.
use native.Mathlib.Omega.{arith}
use borrow.Author.Tests.{not-false}
use Rattle.negotiation.proofs.NextTriedLaws.{place_within, tried-none, tried_some}
use Rattle.negotiation.proofs.order.next_tried.Goals as goal

pub overflow_add-at : goal.overflow_add-at
overflow_add-at c =
    let most = place_within c.requires (not-false _ c.if-not-weighting.false) c.place_due.ensures in
    omega (arith, c.requires.order, c.ranges.to)

pub returns-then-at-to : goal.returns-then-at-to
returns-then-at-to c = tried_some c.requires (not-false _ c.if-not-weighting.false) c.place_due.ensures c.if-at-to.true

pub returns-else-at-to : goal.returns-else-at-to
returns-else-at-to c = tried-none c.requires (not-false _ c.if-not-weighting.false) c.place_due.ensures c.if-at-to.false
