-- `negotiation::records::copy_path` meets its contract: after the turns up to k, k nodes are copied.
-- Assumes nothing.
use mathlib.Core.Path.{◌≡◌}
use Prim.Native.Nat.{◌≤◌}
use lib.ListN.{length}
use lib.Seq.{paste}
use Rattle.negotiation.proofs.records.copy_path.Given as goal

abbrev pub invariant-loop-k : goal.invariant-loop-k
invariant-loop-k l = (l.k ≤ l.count) × (length l.log ≡ length l.initial.log) × (l.log ≡ paste l.initial.log l.at l.work l.k)
