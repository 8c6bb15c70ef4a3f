-- `search::queue::lower_above` meets its contract. The loop's invariant: every inner entry but perhaps entry i is the least of its children, and that one lacks only the key.
-- The measure is i, which at least halves. Assumes nothing.
use Rattle.search.proofs.QueueLaws.{Lowering}
use Rattle.search.proofs.queue.lower_above.Given as goal

abbrev pub invariant-loop-i : goal.invariant-loop-i
invariant-loop-i l = Lowering l.n l.initial.work l.work l.key l.i

abbrev pub decreases-loop-i : goal.decreases-loop-i
decreases-loop-i l = l.i
