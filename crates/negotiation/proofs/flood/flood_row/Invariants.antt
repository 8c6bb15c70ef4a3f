-- `negotiation::flood::flood_row` meets its contract. The invariant: the row is flooded up to place e.
-- Assumes nothing.
use Prim.Native.Nat.{◌≤◌}
use Rattle.search.specs.Block.{graph_of, row_start}
use Rattle.negotiation.specs.Flood.{RowFlooded}
use Rattle.negotiation.proofs.flood.flood_row.Given as goal

abbrev pub invariant-loop-e : goal.invariant-loop-e
invariant-loop-e l = (row_start (graph_of l.tables.kind.now l.tables.first_edge.now l.tables.edge_target.now) l.u ≤ l.e) × (l.e ≤ l.to) × RowFlooded (graph_of l.tables.kind.now l.tables.first_edge.now l.tables.edge_target.now) l.u l.e l.end l.last l.initial.reached l.reached l.initial.work l.work
