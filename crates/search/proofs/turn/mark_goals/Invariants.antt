-- `search::turn::mark_goals` meets its contract. The invariant: the sinks passed are marked.
-- Assumes nothing.
use Rattle.search.specs.TurnWork.{GoalsMarked}
use Rattle.search.proofs.turn.mark_goals.Given as goal

abbrev pub invariant-loop-sink : goal.invariant-loop-sink
invariant-loop-sink l = GoalsMarked l.n l.sinks l.initial.work l.work l.sink-index
