-- `negotiation::flood::missing_sink` meets its contract: every sink that the loop has passed is marked.
-- Assumes nothing.
use native.Mathlib.Omega.{arith}
use borrow.Author.Count.{below_more}
use Rattle.negotiation.proofs.flood.missing_sink.Goals as goal

pub loop-place-init : goal.loop-place-init
loop-place-init c = (c.requires.from_in_bounds, λ p l h. absurd (omega arith))

pub overflow_cast-s : goal.overflow_cast-s
overflow_cast-s c = omega (arith, c.type_inv.sinks c.loop-place.place)

pub bounds-reached-s : goal.bounds-reached-s
bounds-reached-s c = c.requires.all_below c.loop-place.place c.loop-place-test.true

pub returns-then-reached-s-eq0 : goal.returns-then-reached-s-eq0
returns-then-reached-s-eq0 c = let inv = c.loop-place.invariant in record { within = inv.0; before = inv.1; here = λ h. c.if-reached-s-eq0.true }

pub loop-place-preserved : goal.loop-place-preserved
loop-place-preserved c = (omega arith, below_more _ _ c.loop-place.invariant.1 (λ h. omega (arith, c.if-reached-s-eq0.false)))

pub returns : goal.returns
returns c = record { within = omega arith; before = λ p l. c.loop-place.invariant.1 p (omega arith); here = λ h. absurd (omega arith) }
