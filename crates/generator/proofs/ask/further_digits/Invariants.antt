-- `ask::further_digits` meets its contract. The loop's invariant: the digits that are left go on from the number so far.
-- Assumes nothing.
use Rattle.std.proofs.Common.{◌-◌}
use Rattle.generator.proofs.ask.AskLaws.{Digits}
use Rattle.generator.proofs.ask.further_digits.Given as goal

abbrev pub invariant-loop : goal.invariant-loop
invariant-loop l = Digits l.input l.at l.first l.more l.value l.next (l.more - l.counter)
