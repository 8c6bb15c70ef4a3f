-- `search::turn::path_length` meets its contract. The invariant: v is node number `count` of the path, counted from its end. The measure is v's label.
-- Assumes nothing.
use Rattle.search.specs.Labels.{label_at}
use Rattle.search.proofs.turn.FollowLaws.{Following}
use Rattle.search.proofs.turn.path_length.Given as goal

abbrev pub invariant-loop-v : goal.invariant-loop-v
invariant-loop-v l = Following l.n l.in_tree l.work l.sink l.v l.count

abbrev pub decreases-loop-v : goal.decreases-loop-v
decreases-loop-v l = label_at l.work l.v
