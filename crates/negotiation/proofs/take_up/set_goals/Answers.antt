-- `negotiation::take_up::set_goals` meets its contract. The loop's invariant: the entries at the sinks passed are 1, the others are as before.
-- Assumes nothing.
use native.Mathlib.Omega.{arith}
use Rattle.job.proofs.MarkLaws.{stored_none}
use Rattle.job.proofs.SinkMarkLaws.{stored_more, stored_all}
use Rattle.negotiation.proofs.take_up.set_goals.Goals as goal

pub loop-s-init : goal.loop-s-init
loop-s-init c = stored_none _ _

pub overflow_cast-goals : goal.overflow_cast-goals
overflow_cast-goals c = omega (arith, c.type_inv.sinks c.loop-s.s-index)

pub bounds-goals-s : goal.bounds-goals-s
bounds-goals-s c = omega (arith, c.loop-s.invariant.long, c.requires c.loop-s.s-index c.loop-s-test.true)

pub loop-s-preserved : goal.loop-s-preserved
loop-s-preserved c =
    stored_more c.args.sinks.now c.loop-s.s-index c.loop-s-test.true (c.requires c.loop-s.s-index c.loop-s-test.true) c.loop-s.invariant

pub shape_of-goals : goal.shape_of-goals
shape_of-goals c = c.loop-s.invariant.long

pub returns : goal.returns
returns c = stored_all _ c.loop-s-test.false c.loop-s.invariant
