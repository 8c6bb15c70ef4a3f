-- `cases::lines::next_line` meets its contract: it goes on to the first LF.
-- Assumes nothing.
use Rattle.cases.proofs.LineLaws.{InLine}
use Rattle.cases.proofs.lines.next_line.Given as goal

abbrev pub invariant-loop-k : goal.invariant-loop-k
invariant-loop-k l = InLine l.text l.at l.k
