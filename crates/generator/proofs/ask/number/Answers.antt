-- `ask::number` meets its contract: each return by the law of the first byte.
-- Assumes nothing.
use mathlib.Core.Bool.{not}
use Rattle.std.proofs.Common.{ap}
use Rattle.std.proofs.Common.{◌≡◌, true, get_or, sym, ◌∙◌, arith, rules}
use Rattle.search.proofs.KeptLaws.{refused, passed}
use Rattle.text.specs.Decimal.{is_digit}
use Rattle.text.proofs.FieldLaws.{digit_least, digit_most}
use Rattle.generator.proofs.ask.AskLaws.{number_past, number_zero, number_other, number_digits}
use Rattle.generator.proofs.ask.number.Goals.{Else-not-is_digit}
use Rattle.generator.proofs.ask.number.Goals as goal

digit : (c : Else-not-is_digit) → is_digit (get_or c.args.input.now c.args.at 0) ≡ true
digit c = passed c.is_digit.ensures (ap not c.if-not-is_digit.false)

pub returns-then-input-at : goal.returns-then-input-at
returns-then-input-at c = record { value = sym (number_past _ c.args.at c.args.input.now (search rules)); asked_field_place = tt }

pub returns-then-b-eq48 : goal.returns-then-b-eq48
returns-then-b-eq48 c = record { value = sym (number_zero _ c.args.at c.args.input.now (search rules) (search rules)); asked_field_place = search rules }

pub returns-then-not-is_digit : goal.returns-then-not-is_digit
returns-then-not-is_digit c = record { value = sym (number_other _ c.args.at c.args.input.now (search rules) (search rules) (refused c.is_digit.ensures (ap not c.if-not-is_digit.true))); asked_field_place = tt }

pub overflow_sub-b : goal.overflow_sub-b
overflow_sub-b c = digit_least _ (digit c)

pub overflow_cast-b : goal.overflow_cast-b
overflow_cast-b c = omega (arith, digit_most _ (digit c))

pub further_digits-requires : goal.further_digits-requires
further_digits-requires c = (search rules, omega (arith, digit_most _ (digit c)), search rules)

pub returns : goal.returns
returns c = record { value = c.further_digits.ensures.value ∙ sym (number_digits _ c.args.at c.args.input.now (search rules) (search rules) (digit (goal.at.returns c).Else-not-is_digit)); asked_field_place = c.further_digits.ensures.field_within }
