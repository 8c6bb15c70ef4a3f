-- `negotiation::follow::has_edge` meets its contract. The invariant: the row that is left has the target or not, as the whole row.
-- Assumes nothing.
use Rattle.search.specs.Block.{graph_of}
use Rattle.negotiation.proofs.follow.PassLoopLaws.{RowLeft}
use Rattle.negotiation.proofs.follow.has_edge.Given as goal

abbrev pub invariant-loop-e : goal.invariant-loop-e
invariant-loop-e l = RowLeft (graph_of l.tables.kind.now l.tables.first_edge.now l.tables.edge_target.now) l.u l.v l.e
