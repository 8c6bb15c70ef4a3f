-- `search::estimate::scale_of` meets its contract.
-- Assumes nothing.
use native.Mathlib.Omega.{arith}
use borrow.Author.Tests.{not-true, not-false}
use Rattle.search.proofs.estimate.GiveLaws.{scale_plain, scale_weighed, scale_room}
use Rattle.search.proofs.estimate.scale_of.Goals as goal

pub returns-then-not-weighting : goal.returns-then-not-weighting
returns-then-not-weighting c = scale_plain _ (not-true _ c.if-not-weighting.true)

pub overflow_sub-result : goal.overflow_sub-result
overflow_sub-result c = omega (arith, scale_room c.args.weighting c.clamped_weighting-w.ensures)

pub returns : goal.returns
returns c = scale_weighed c.args.weighting c.clamped_weighting-w.ensures (not-false _ c.if-not-weighting.false)
