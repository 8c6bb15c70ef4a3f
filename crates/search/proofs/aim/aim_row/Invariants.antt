-- `search::aim::aim_row` meets its contract. The invariant: the row has been looked at up to place e, and r has the least distances.
-- Assumes nothing.
use Rattle.search.specs.Block.{graph_of}
use Rattle.search.specs.Turn.{weighed_congestion}
use Rattle.search.specs.Clamped.{clamped_price}
use Rattle.search.proofs.aim.AimRows.{AimRowSoFar}
use Rattle.search.proofs.aim.aim_row.Given as goal

abbrev pub invariant-loop-e : goal.invariant-loop-e
invariant-loop-e l =
    AimRowSoFar (graph_of l.tables.kind.now l.tables.first_edge.now l.tables.edge_target.now) (graph_of l.tables.kind.now l.back.first_back.now l.back.back_source.now)
    (clamped_price l.tables.kind.now l.tables.capacity.now (weighed_congestion l.prices.weighting l.prices.delay.now l.prices.factor l.prices.history.now l.prices.others.now)) l.u l.e l.initial.r l.r l.initial.work l.work
