-- `cases::lines::line` meets its contract: the line wanted is so many lines on from where it is.
-- Assumes nothing.
use Rattle.std.proofs.Common.{◌≡◌, ◌-◌}
use Rattle.cases.specs.Lines.{line_from}
use Rattle.cases.proofs.lines.line.Given as goal

abbrev pub invariant-loop : goal.invariant-loop
invariant-loop l = line_from l.case l.at (l.number - l.counter) ≡ line_from l.case 0 l.number
