-- `search::turn::next_marked` meets its contract. The invariant: no tree node stands before v. The measure is how many nodes are left.
-- Assumes nothing.
use Rattle.search.specs.TurnWork.{PassedOver}
use Rattle.search.proofs.turn.next_marked.Given as goal

abbrev pub invariant-loop-v : goal.invariant-loop-v
invariant-loop-v l = PassedOver l.in_tree l.from l.n l.v
