-- `join::gather` meets its contract. The loop's invariant: the entries at the places passed are gathered.
-- Assumes nothing.
use Rattle.negotiation.proofs.join.JoinStepLaws.{Gathering}
use Rattle.negotiation.proofs.join.gather.Given as goal

abbrev pub invariant-loop-k : goal.invariant-loop-k
invariant-loop-k g l = Gathering l.table l.places l.count l.initial.entries l.entries l.k
