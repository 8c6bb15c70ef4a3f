-- `negotiation::congestion::grow_histories` meets its contract: after the turns up to v the histories below v have grown, the others stand.
-- Assumes nothing.
use mathlib.Core.List.{List, ◌++◌}
use mathlib.Core.Path.{◌≡◌}
use Prim.Native.Nat.{ℕ, ◌≤◌}
use lib.ListN.{length, get_or, drop}
use Rattle.price.specs.Lists.{up_to}
use Rattle.price.specs.Prices.{next_history}
use Rattle.price.specs.declared.Tuning.{Tuning}
use Rattle.negotiation.proofs.congestion.grow_histories.Given as goal

-- what a node's history becomes
abbrev pub next : Tuning → List ℕ → List ℕ → List ℕ → ℕ → ℕ
next g cs us hs v = next_history g (get_or hs v 0) (get_or us v 0) (get_or cs v 0)

abbrev pub invariant-loop-v : goal.invariant-loop-v
invariant-loop-v l =
    (l.v ≤ length l.initial.history) × (length l.history ≡ length l.initial.history)
    × (l.history ≡ up_to (next l.g l.capacity l.users l.initial.history) l.v ++ drop l.v l.initial.history)
