-- `fields::further_digits` meets its contract. The loop's invariant: the digits that are left go on from the number so far.
-- Assumes nothing.
use mathlib.Core.Path.{sym, ◌∙◌}
use native.Mathlib.Omega.{arith}
use Rattle.std.proofs.Common.{rules}
use Rattle.text.proofs.FieldLaws.{digits-start, digits_past, digits_other, digits_full, digits_step, digits-room, digit_least, digit_most}
use Rattle.text.proofs.fields.further_digits.Goals as goal

pub loop-left-init : goal.loop-left-init
loop-left-init c = digits-start _ _ _ c.requires.0 c.requires.1

pub overflow_mul-value : goal.overflow_mul-value
overflow_mul-value c = omega (arith, digits-room c.loop-left.invariant c.loop-left-test.true)

pub overflow_sub-value : goal.overflow_sub-value
overflow_sub-value c = digit_least _ (sym c.is_digit.ensures ∙ c.if-is_digit.true)

pub overflow_add-value : goal.overflow_add-value
overflow_add-value c = omega (arith, digits-room c.loop-left.invariant c.loop-left-test.true, digit_most _ (sym c.is_digit.ensures ∙ c.if-is_digit.true))

pub loop-left-preserved : goal.loop-left-preserved
loop-left-preserved c = digits_step c.loop-left.invariant c.loop-left-test.true (search rules) (sym c.is_digit.ensures ∙ c.if-is_digit.true)

pub returns-else-is_digit : goal.returns-else-is_digit
returns-else-is_digit c =
    let p = digits_other c.loop-left.invariant (search rules) (sym c.is_digit.ensures ∙ c.if-is_digit.false) in
    record { value = p.0; field_place = p.1 }

pub returns-else-next-text : goal.returns-else-next-text
returns-else-next-text c = let p = digits_past c.loop-left.invariant (search rules) in record { value = p.0; field_place = p.1 }

pub returns-after-loop-left : goal.returns-after-loop-left
returns-after-loop-left c = let p = digits_full c.loop-left.invariant (omega (arith, c.loop-left-test.false)) in record { value = p.0; field_place = p.1 }
