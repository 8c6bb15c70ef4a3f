-- `search::labels::settle` meets its contract. The invariant: the row has been looked at up to place e.
-- Assumes nothing.
use Rattle.search.specs.Block.{graph_in}
use Rattle.search.specs.Clamped.{price_read}
use Rattle.search.proofs.SpreadRun.{LabelRowSoFar}
use Rattle.search.proofs.labels.settle.Given as goal

abbrev pub invariant-loop-e : goal.invariant-loop-e
invariant-loop-e l =
    LabelRowSoFar (graph_in l.tables) (price_read l.tables l.prices) l.goals l.u l.initial.work l.work l.e l.initial.r.count l.r.count l.initial.r.best l.r.best
