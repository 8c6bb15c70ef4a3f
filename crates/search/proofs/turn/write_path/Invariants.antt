-- `search::turn::write_path` meets its contract. The invariant: the end of the path stands at the places from i on, and v comes before it.
-- Assumes nothing.
use Rattle.search.proofs.turn.FollowLaws.{Writing}
use Rattle.search.proofs.turn.write_path.Given as goal

abbrev pub invariant-loop-i : goal.invariant-loop-i
invariant-loop-i l = Writing l.n l.in_tree l.initial.work l.sink l.count l.work l.v l.i
