-- `negotiation::follow::path_cost` meets its contract. The invariant: the pass over the words that are left gives what the whole pass does.
-- Assumes nothing.
use Rattle.search.specs.Block.{block_of}
use Rattle.search.specs.Turn.{weighed_congestion}
use Rattle.negotiation.proofs.follow.PassLoopLaws.{Passing}
use Rattle.negotiation.proofs.follow.path_cost.Given as goal

abbrev pub invariant-loop-k : goal.invariant-loop-k
invariant-loop-k l =
    Passing (block_of l.tables.kind.now l.tables.capacity.now l.tables.first_edge.now l.tables.edge_target.now) (weighed_congestion l.prices.weighting l.prices.delay.now l.prices.factor l.prices.history.now l.prices.others.now) l.goals l.initial.in_tree l.log l.from l.to l.in_tree l.u l.cost l.k
