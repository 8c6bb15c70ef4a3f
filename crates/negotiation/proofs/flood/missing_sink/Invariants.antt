-- `negotiation::flood::missing_sink` meets its contract: every sink that the loop has passed is marked.
-- Assumes nothing.
use Prim.Native.Nat.{ℕ, ◌≤◌, ◌<◌}
use lib.ListN.{length, get_or}
use Rattle.negotiation.proofs.flood.missing_sink.Given as goal

abbrev pub invariant-loop-place : goal.invariant-loop-place
invariant-loop-place l = (l.place ≤ length l.sinks) × ((p : ℕ) → p < l.place → l.from ≤ p → 0 < get_or l.reached (get_or l.sinks p 0) 0)
