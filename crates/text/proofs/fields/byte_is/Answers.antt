-- `fields::byte_is` meets its contract: past the end there is no byte.
-- Assumes nothing.
use mathlib.Core.Path.{sym, ◌∙◌}
use native.Mathlib.Omega.{arith}
use borrow.Author.Tests.{le-ltb}
use Rattle.std.proofs.Common.{rules}
use Rattle.text.proofs.FieldLaws.{begins_past, begins-at}
use Rattle.text.proofs.fields.byte_is.Goals as goal

pub returns-then-at-text : goal.returns-then-at-text
returns-then-at-text c = sym (begins-at _ c.args.at c.args.text.now (search rules))

pub returns-else-at-text : goal.returns-else-at-text
returns-else-at-text c = le-ltb _ _ (omega (arith, c.if-at-text.false)) ∙ sym (begins_past _ c.args.at c.args.text.now (omega (arith, c.if-at-text.false)))
