-- `cases::lines::call` meets its contract: the letter stands after line 1's place, or the text ends before it.
-- Assumes nothing.
use Rattle.std.proofs.Common.{rules}
use Rattle.cases.proofs.LineLaws.{letter_past, letter_there}
use Rattle.cases.proofs.lines.call.Goals as goal

pub returns-then-case-at : goal.returns-then-case-at
returns-then-case-at c = let a = c.args in letter_past a.case.now a.letter c.line-at.ensures (search rules)

pub returns : goal.returns
returns c = let a = c.args in letter_there a.case.now a.letter c.line-at.ensures
