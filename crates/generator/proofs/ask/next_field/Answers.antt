-- `ask::next_field` meets its contract: a comma, then a whole field.
-- Assumes nothing.
use mathlib.Core.Bool.{not}
use Rattle.std.proofs.Common.{ap}
use Rattle.std.proofs.Common.{sym, ◌∙◌, arith}
use Rattle.search.proofs.KeptLaws.{refused, passed}
use Rattle.text.specs.Lines.{comma}
use Rattle.text.proofs.FieldLaws.{begins-within}
use Rattle.generator.proofs.ask.AskLaws.{next_other, next-comma}
use Rattle.generator.proofs.ask.next_field.Goals as goal

pub returns-then-not-byte_is : goal.returns-then-not-byte_is
returns-then-not-byte_is c = record { value = sym (next_other _ _ _ _ (refused c.byte_is.ensures (ap not c.if-not-byte_is.true))); field_within = tt }

pub overflow_add-at : goal.overflow_add-at
overflow_add-at c = omega (arith, begins-within comma c.args.at c.args.input.now (passed c.byte_is.ensures (ap not c.if-not-byte_is.false)))

pub returns : goal.returns
returns c = record {
  value = c.whole_field.ensures.value ∙ sym (next-comma _ _ _ c.args.at c.args.input.now (passed
      c.byte_is.ensures (ap not c.if-not-byte_is.false)));
  field_within = c.whole_field.ensures.field_within;
}
