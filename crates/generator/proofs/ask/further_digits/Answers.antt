-- `ask::further_digits` meets its contract. The loop's invariant: the digits that are left go on from the number so far.
-- Assumes nothing.
use Rattle.std.proofs.Common.{◌≡◌, ℕ, ◌+◌, ◌-◌, ◌<◌, ◌≤◌, true, get_or, sym, ◌∙◌, arith, rules}
use Rattle.text.specs.Decimal.{is_digit}
use Rattle.text.proofs.FieldLaws.{digit_least, digit_most}
use Rattle.generator.proofs.ask.AskLaws.{digits-start, digits_past, digits_other, digits_full, digits_step, digits-room}
use Rattle.generator.proofs.ask.further_digits.Goals.{Else-not-is_digit, then-input-next-via-then-input-next, then-input-next-via-else-input-next+then-not-is_digit}
use Rattle.generator.proofs.ask.further_digits.Goals as goal

-- in a turn: a digit may still come, and it did
module _ (c : Else-not-is_digit) where
  some : 0 < c.args.more - c.loop.counter
  some = omega (arith, c.loop-test.true)

  digit : is_digit (get_or c.args.input.now c.loop.next 0) ≡ true
  digit = sym c.if-not-is_digit.ensures

pub loop-init : goal.loop-init
loop-init c =
    let all : c.args.more - 0 ≡ c.args.more = omega arith in
    rw all (digits-start _ _ _ _ c.requires.0 c.requires.1 c.requires.2)

pub returns-then-input-next : goal.returns-then-input-next
returns-then-input-next c = elim c.then-input-next.branch [
  | then-input-next-via-then-input-next w ↦
      let ended = digits_past c.loop.invariant w.if-input-next.true in
      record { value = ended.0; field_within = ended.1 }
  | then-input-next-via-else-input-next+then-not-is_digit w ↦
      let ended = digits_other c.loop.invariant w.if-input-next.false (sym w.is_digit.ensures ∙ w.if-not-is_digit.true) in
      record { value = ended.0; field_within = ended.1 }
]

pub overflow_mul-value : goal.overflow_mul-value
overflow_mul-value c = omega (arith, digits-room c.loop.invariant (some c))

pub overflow_sub-value : goal.overflow_sub-value
overflow_sub-value c = digit_least _ (digit (goal.at.overflow_sub-value c).Else-not-is_digit)

pub overflow_add-value : goal.overflow_add-value
overflow_add-value c =
    let turn = (goal.at.overflow_add-value c).Else-not-is_digit in
    omega (arith, digits-room c.loop.invariant (some turn), digit_most _ (digit turn))

pub loop-preserved : goal.loop-preserved
loop-preserved c =
    let turn = (goal.at.loop-preserved c).Else-not-is_digit in
    let left : c.args.more - (c.loop.counter + 1) ≡ c.args.more - c.loop.counter - 1 = omega arith in
    rw left (digits_step c.loop.invariant (some turn) c.if-input-next.false (digit turn))

pub returns : goal.returns
returns c =
    let ended = digits_full c.loop.invariant (omega (arith, c.loop-test.false)) in
    record { value = ended.0; field_within = ended.1 }
