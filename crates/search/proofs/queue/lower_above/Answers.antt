-- `search::queue::lower_above` meets its contract. The loop's invariant: every inner entry but perhaps entry i is the least of its children, and that one lacks only the key.
-- The measure is i, which at least halves. Assumes nothing.
use Rattle.search.proofs.QueueLaws.{lowered_up}
use Rattle.search.proofs.queue.lower_above.Goals as goal

pub loop-i-preserved : goal.loop-i-preserved
loop-i-preserved c = lowered_up _ _ _ _ _ c.loop-i-test.true c.if-work-n.false c.loop-i.invariant
