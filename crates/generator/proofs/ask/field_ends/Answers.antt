-- `ask::field_ends` meets its contract.
-- Assumes nothing.
use Rattle.std.proofs.Common.{sym, ◌∙◌, le-leb, rules}
use Rattle.generator.proofs.ask.AskLaws.{ends_past, ends_mark, ends_other}
use Rattle.generator.proofs.ask.field_ends.Goals as goal

pub returns-then-input-at : goal.returns-then-input-at
returns-then-input-at c = let past = c.if-input-at.true in le-leb _ _ past ∙ sym (ends_past c.args.at c.args.input.now past)

pub returns-in-44 : goal.returns-in-44
returns-in-44 c = sym (ends_mark c.args.at c.args.input.now c.if-input-at.false c.in-44.is)

pub returns-in_default : goal.returns-in_default
returns-in_default c = sym (ends_other c.args.at c.args.input.now c.if-input-at.false (search rules) (search rules))
