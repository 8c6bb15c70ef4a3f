-- `negotiation::congestion::over_count` meets its contract: after the turns up to v the nodes below v are counted.
-- Assumes nothing.
use mathlib.Core.Path.{◌≡◌}
use Prim.Native.Nat.{ℕ, ◌≤◌}
use lib.Dec.{ltb}
use lib.ListN.{length, get_or}
use Rattle.price.specs.Lists.{count_below}
use Rattle.negotiation.proofs.congestion.over_count.Given as goal

abbrev pub invariant-loop-v : goal.invariant-loop-v
invariant-loop-v l =
    (l.v ≤ length l.capacity) × (l.over ≡ count_below (λ (u : ℕ). ltb (get_or l.capacity u 0) (get_or l.users u 0)) l.v)
