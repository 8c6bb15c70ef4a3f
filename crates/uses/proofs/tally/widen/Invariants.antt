-- `tally::widen` meets its contract: after the turns up to v, v entries are copied.
-- Assumes nothing.
use Rattle.uses.proofs.TallyLaws.{Copied}
use Rattle.uses.proofs.tally.widen.Given as goal

abbrev pub invariant-loop-v : goal.invariant-loop-v
invariant-loop-v l = Copied l.bytes l.initial.wide l.wide l.v
