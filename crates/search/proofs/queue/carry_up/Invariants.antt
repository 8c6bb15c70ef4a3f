-- `search::queue::carry_up` meets its contract. The loop's invariant: every inner entry but perhaps entry i is the least of its children.
-- The measure is i, which at least halves. Assumes nothing.
use Rattle.search.proofs.QueueLaws.{Carrying}
use Rattle.search.proofs.queue.carry_up.Given as goal

abbrev pub invariant-loop-i : goal.invariant-loop-i
invariant-loop-i l = Carrying l.n l.initial.work l.work l.i

abbrev pub decreases-loop-i : goal.decreases-loop-i
decreases-loop-i l = l.i
