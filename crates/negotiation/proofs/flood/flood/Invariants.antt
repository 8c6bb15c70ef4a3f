-- `negotiation::flood::flood` meets its contract. The invariant: the rows of the queue's entries before `next` are flooded, and the sinks before `missing` are marked.
-- No queue is longer than there are nodes.
-- Assumes nothing.
use mathlib.Core.Path.{◌≡◌}
use Prim.Native.Nat.{ℕ, ◌-◌, ◌≤◌, ◌<◌}
use lib.ListN.{length, get_or}
use Rattle.search.specs.Block.{graph_of}
use Rattle.negotiation.proofs.FloodLaws.{Flooding}
use Rattle.negotiation.proofs.flood.flood.Given as goal

abbrev pub invariant-loop-next : goal.invariant-loop-next
invariant-loop-next l =
    Flooding (graph_of l.tables.kind.now l.tables.first_edge.now l.tables.edge_target.now) l.source l.next l.end l.reached l.initial.work l.work × (l.missing ≤ length l.sinks) × ((p : ℕ) → p < l.missing → get_or l.reached (get_or l.sinks p 0) 0 ≡ 1)

abbrev pub decreases-loop-next : goal.decreases-loop-next
decreases-loop-next l = length l.tables.kind.now - l.next
