-- `search::aim::listed` meets its contract. The invariant: u stands at no place of row v before e.
-- Assumes nothing.
use Rattle.search.proofs.aim.ListedLaws.{NotListedSoFar}
use Rattle.search.proofs.aim.listed.Given as goal

abbrev pub invariant-loop-e : goal.invariant-loop-e
invariant-loop-e l = NotListedSoFar l.back.first_back.now l.back.back_source.now l.u l.v l.e
