-- `fields::number` meets its contract: each return by the law of the first byte.
-- Assumes nothing.
use mathlib.Core.Bool.{not}
use Rattle.std.proofs.Common.{ap}
use mathlib.Core.Bool.{true}
use mathlib.Core.Path.{◌≡◌, sym}
use native.Mathlib.Omega.{arith}
use lib.ListN.{get_or}
use Rattle.std.specs.Prelude.{Some}
use Rattle.std.proofs.Common.{rules}
use Rattle.search.proofs.KeptLaws.{refused, passed}
use Rattle.text.specs.Decimal.{is_digit}
use Rattle.text.proofs.FieldLaws.{field_past, field_zero, field_other, field-digits, field-onward, digit_least, digit_most}
use Rattle.text.proofs.fields.number.Goals.{Else-not-is_digit}
use Rattle.text.proofs.fields.number.Goals as goal

digit : (c : Else-not-is_digit) → is_digit (get_or c.args.text.now c.args.at 0) ≡ true
digit c = passed c.is_digit.ensures (ap not c.if-not-is_digit.false)

pub returns-then-text-at : goal.returns-then-text-at
returns-then-text-at c = record { value = sym (field_past c.args.at c.args.text.now (search rules)); field_place = tt }

pub returns-then-b-eq48 : goal.returns-then-b-eq48
returns-then-b-eq48 c = record { value = sym (field_zero c.args.at c.args.text.now (search rules) (search rules)); field_place = (search rules, search rules) }

pub returns-then-not-is_digit : goal.returns-then-not-is_digit
returns-then-not-is_digit c = record { value = sym (field_other c.args.at c.args.text.now (search rules) (search rules) (refused c.is_digit.ensures (ap not c.if-not-is_digit.true))); field_place = tt }

pub overflow_sub-b : goal.overflow_sub-b
overflow_sub-b c = digit_least _ (digit c)

pub overflow_cast-b : goal.overflow_cast-b
overflow_cast-b c = omega (arith, digit_most _ (digit c))

pub further_digits-requires : goal.further_digits-requires
further_digits-requires c = (search rules, omega (arith, digit_most _ (digit c)))

pub returns : goal.returns
returns c =
    let p =
    field-onward c.args.at c.args.text.now (Some c.further_digits.result) (c.further_digits.ensures.value, c.further_digits.ensures.field_place)
    (field-digits c.args.at c.args.text.now (search rules) (search rules) (digit (goal.at.returns c).Else-not-is_digit)) in
    record { value = p.0; field_place = p.1 }
