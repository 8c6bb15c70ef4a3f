-- `ask::is_digit` meets its contract.
-- Assumes nothing.
use Rattle.std.proofs.Common.{sym, ◌∙◌}
use borrow.Author.Tests.{lt-leb}
use Rattle.text.proofs.FieldLaws.{digit_below, digit_from}
use Rattle.generator.proofs.ask.is_digit.Goals as goal

pub returns-then-b-ge48 : goal.returns-then-b-ge48
returns-then-b-ge48 c = sym (digit_from _ c.if-b-ge48.true)

pub returns-else-b-ge48 : goal.returns-else-b-ge48
returns-else-b-ge48 c = let below = c.if-b-ge48.false in lt-leb 48 c.args.b below ∙ sym (digit_below _ below)
