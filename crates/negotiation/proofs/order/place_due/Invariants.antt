-- `order::place_due` meets its contract. The loop's invariant: of the places passed the one found leads, or none is open.
-- Assumes nothing.
use Prim.Native.Nat.{◌≤◌}
use lib.ListN.{length}
use Rattle.search.specs.Distance.{tree_has}
use Rattle.negotiation.proofs.NextTriedLaws.{Leading}
use Rattle.negotiation.proofs.order.place_due.Given as goal

abbrev pub invariant-loop-place : goal.invariant-loop-place
invariant-loop-place l = Leading (tree_has l.in_tree) l.sinks l.criticality l.place l.due l.least × (l.place ≤ length l.sinks)
