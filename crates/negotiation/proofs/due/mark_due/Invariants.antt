-- `negotiation::due::mark_due` meets its contract: after the turns up to a net the marks below it are those that they shall be, the others stand.
-- Assumes nothing.
use mathlib.Core.Bool.{Bool}
use mathlib.Core.List.{List, ◌++◌}
use mathlib.Core.Path.{◌≡◌}
use Prim.Native.Nat.{ℕ, ◌≤◌}
use lib.ListN.{length, drop}
use Rattle.price.specs.Test.{choose}
use Rattle.price.specs.Lists.{up_to}
use Rattle.negotiation.specs.Steps.{takes}
use Rattle.negotiation.proofs.due.mark_due.Given as goal

-- a net's mark
abbrev pub mark : Bool → (capacities firsts log from to users : List ℕ) → ℕ → ℕ
mark all capacities firsts log from to users k = choose (takes all capacities firsts log from to users k) 1 0

abbrev pub invariant-loop-net : goal.invariant-loop-net
invariant-loop-net l =
    (l.net ≤ length l.initial.due) × (length l.due ≡ length l.initial.due) × (l.due ≡ up_to (mark l.all l.job.block.capacity.now l.job.first_sink.now l.log l.tree_from l.tree_to l.users) l.net ++ drop l.net l.initial.due)
