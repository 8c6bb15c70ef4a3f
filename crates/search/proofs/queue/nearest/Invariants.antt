-- `search::queue::nearest` meets its contract. The loop's invariant: entry i is the least of all.
-- The measure is how far i is from the end of the queue. Assumes nothing.
use Prim.Native.Nat.{◌*◌, ◌-◌}
use Rattle.search.proofs.QueueLaws.{Descending}
use Rattle.search.proofs.queue.nearest.Given as goal

abbrev pub invariant-loop-i : goal.invariant-loop-i
invariant-loop-i l = Descending l.n l.work l.i

abbrev pub decreases-loop-i : goal.decreases-loop-i
decreases-loop-i l = 2 * l.n - l.i
