-- `fill::fill` meets its contract: after the turns up to k, the entries from `from` to below k are filled and the others as before.
-- Assumes nothing.
use Rattle.std.proofs.Common.{◌≡◌, ◌≤◌, length}
use Rattle.search.proofs.FillLaws.{filled}
use Rattle.search.proofs.fill.fill.Given as goal

abbrev pub invariant-loop-k : goal.invariant-loop-k
invariant-loop-k l = (l.from ≤ l.k) × (l.k ≤ l.to) × (length l.work ≡ length l.initial.work) × (l.work ≡ filled l.initial.work l.from l.k l.x)
