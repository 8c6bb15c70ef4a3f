-- `fields::further_digits` meets its contract. The loop's invariant: the digits that are left go on from the number so far.
-- Assumes nothing.
use Rattle.text.proofs.FieldLaws.{Digits}
use Rattle.text.proofs.fields.further_digits.Given as goal

abbrev pub invariant-loop-left : goal.invariant-loop-left
invariant-loop-left l = Digits l.text l.at l.first l.value l.next l.left

abbrev pub decreases-loop-left : goal.decreases-loop-left
decreases-loop-left l = l.left
