-- `cases::lines::is_empty` meets its contract: no byte, or an LF first.
-- Assumes nothing.
use Rattle.std.proofs.Common.{◌∙◌}
use Rattle.std.proofs.lemmas.Bool.{le-leb}
use Rattle.cases.proofs.LineLaws.{empty_past, empty_at}
use Rattle.cases.proofs.lines.is_empty.Goals as goal

pub returns-then-case-at : goal.returns-then-case-at
returns-then-case-at c = let ends = c.if-case-at.true in le-leb _ _ ends ∙ empty_past c.args.case.now c.args.at ends

pub returns-else-case-at : goal.returns-else-case-at
returns-else-case-at c = let a = c.args in empty_at a.case.now a.at c.if-case-at.false
