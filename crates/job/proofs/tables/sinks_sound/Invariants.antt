-- `tables::sinks_sound` meets its contract. The loop's invariant: every net passed keeps the rule, and no mark is left.
-- Assumes nothing.
use Rattle.job.proofs.NetTableLaws.{Passing}
use Rattle.job.proofs.tables.sinks_sound.Given as goal

abbrev pub invariant-loop-i : goal.invariant-loop-i
invariant-loop-i l = Passing l.n l.source l.first_sink l.sink l.seen l.i
