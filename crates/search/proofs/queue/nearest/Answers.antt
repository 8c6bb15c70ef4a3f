-- `search::queue::nearest` meets its contract. The loop's invariant: entry i is the least of all.
-- The measure is how far i is from the end of the queue. Assumes nothing.
use mathlib.Core.Path.{refl}
use Rattle.std.proofs.Common.{rules}
use native.Mathlib.Omega.{arith}
use Rattle.search.proofs.QueueLaws.{down_left, down_right, down_leaf}
use Rattle.search.proofs.queue.nearest.Goals.{else-work-n, then-work-n}
use Rattle.search.proofs.queue.nearest.Goals as goal

pub loop-i-init : goal.loop-i-init
loop-i-init c = record { pos = omega arith; below = omega arith; least = refl }

pub loop-i-preserved : goal.loop-i-preserved
loop-i-preserved c =
    (elim c.if-work-n.branch [ then-work-n w ↦ down_left _ _ _ c.loop-i-test.true w.if-work-n.true w.right-is c.loop-i.invariant | else-work-n w ↦ down_right _ _ _ c.requires.2 c.loop-i-test.true w.if-work-n.false w.right-is c.loop-i.invariant ])

pub overflow_add-i : goal.overflow_add-i
overflow_add-i c = omega (arith, (loop-i-preserved c).below)

pub loop-i-smaller : goal.loop-i-smaller
loop-i-smaller c = omega (arith, (loop-i-preserved c).below, c.loop-i.invariant.pos)

pub returns : goal.returns
returns c = (search rules, down_leaf _ _ _ c.loop-i-test.false c.loop-i.invariant)
