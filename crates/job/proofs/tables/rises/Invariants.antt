-- `tables::rises` meets its contract. The loop's invariant: every entry passed is above the one before it.
-- Assumes nothing.
use Prim.Native.Nat.{ℕ, ◌-◌, ◌<◌, ◌≤◌}
use lib.ListN.{get_or}
use Rattle.job.proofs.tables.rises.Given as goal

abbrev pub invariant-loop-i : goal.invariant-loop-i
invariant-loop-i l = (1 ≤ l.i) × ((k : ℕ) → k < l.i → 1 ≤ k → get_or l.first_sink (k - 1) 0 < get_or l.first_sink k 0)
