-- `counts::first_over` meets its contract: no kind before k has too many uses.
-- Assumes nothing.
use Rattle.uses.specs.Uses.{kind_count}
use Rattle.uses.specs.Steps.{over_nodes}
use Rattle.uses.proofs.CountsLaws.{Scanning}
use Rattle.uses.proofs.counts.first_over.Given as goal

abbrev pub invariant-loop-k : goal.invariant-loop-k
invariant-loop-k l = Scanning (over_nodes l.uses l.nodes l.logs) l.k
