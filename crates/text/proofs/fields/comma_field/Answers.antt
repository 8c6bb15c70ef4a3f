-- `fields::comma_field` meets its contract.
-- Assumes nothing.
use mathlib.Core.Bool.{not}
use Rattle.std.proofs.Common.{ap}
use mathlib.Core.Path.{sym}
use native.Mathlib.Omega.{arith}
use Rattle.search.proofs.KeptLaws.{refused, passed}
use Rattle.text.specs.Lines.{comma}
use Rattle.text.proofs.FieldLaws.{begins-within, comma_other, comma-begins, field-onward}
use Rattle.text.proofs.fields.comma_field.Goals as goal

pub returns-then-not-byte_is : goal.returns-then-not-byte_is
returns-then-not-byte_is c = record { value = sym (comma_other _ (refused c.byte_is.ensures (ap not c.if-not-byte_is.true))); field_place = tt }

pub overflow_add-at : goal.overflow_add-at
overflow_add-at c = omega (arith, begins-within comma c.args.at c.args.text.now (passed c.byte_is.ensures (ap not c.if-not-byte_is.false)))

pub returns : goal.returns
returns c =
    let p =
    field-onward c.args.at c.args.text.now c.number.result (c.number.ensures.value, c.number.ensures.field_place)
    (comma-begins c.args.at c.args.text.now (passed c.byte_is.ensures (ap not c.if-not-byte_is.false))) in
    record { value = p.0; field_place = p.1 }
