-- `search::labels::leads_on` meets its contract. The invariant: the edges before place e lead to dead ends alone.
-- Assumes nothing.
use lib.ListN.{length}
use Rattle.search.proofs.labels.RelaxLaws.{NowhereSoFar}
use Rattle.search.proofs.labels.leads_on.Given as goal

abbrev pub invariant-loop-e : goal.invariant-loop-e
invariant-loop-e l = NowhereSoFar (length l.tables.kind.now) l.tables.first_edge.now l.tables.edge_target.now l.work l.v l.e
