-- `search::turn::mark_tree` meets its contract. The invariant: the nodes below v are marked, and v is in the tree. The measure is how many nodes are left.
-- Assumes nothing.
use mathlib.Core.Path.{◌≡◌}
use Prim.Native.Nat.{◌-◌, ◌<◌}
use lib.ListN.{get_or}
use Rattle.search.proofs.turn.TurnMarkLaws.{TreeSoFar}
use Rattle.search.proofs.turn.mark_tree.Given as goal

abbrev pub invariant-loop-v : goal.invariant-loop-v
invariant-loop-v l = TreeSoFar l.n l.in_tree l.initial.work l.work l.count l.v × (l.v < l.n → get_or l.in_tree l.v 0 ≡ 1)

abbrev pub decreases-loop-v : goal.decreases-loop-v
decreases-loop-v l = l.n - l.v
