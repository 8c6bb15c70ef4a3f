-- `first_net::first_of` meets its contract. The loop's invariant: no net passed has the source.
-- Assumes nothing.
use mathlib.Core.Path.{◌≡◌}
use Prim.Native.Nat.{ℕ, ◌<◌, ◌≤◌}
use lib.ListN.{length, get_or}
use Rattle.job.proofs.first_net.first_of.Given as goal

abbrev pub invariant-loop-i : goal.invariant-loop-i
invariant-loop-i l = ((k : ℕ) → k < l.i → get_or l.source k 0 ≡ l.node → ⊥) × (l.i ≤ length l.source)
