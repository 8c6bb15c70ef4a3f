-- `search::turn::some_marked` meets its contract. The invariant: `some` tells of the nodes below v.
-- Assumes nothing.
use mathlib.Core.Bool.{false}
use mathlib.Core.Path.{◌≡◌}
use Rattle.search.specs.TurnWork.{Unmarked}
use Rattle.search.proofs.turn.some_marked.Given as goal

abbrev pub invariant-loop-v : goal.invariant-loop-v
invariant-loop-v l = l.some ≡ false → Unmarked l.in_tree l.from l.v
