-- `rule::longer_line` meets its contract: a line of two numbers, by its shape and by the first of them.
-- Assumes nothing.
use mathlib.Core.Path.{refl}
use Prim.Native.Nat.{◌+◌}
use lib.ListN.{drop}
use Rattle.text.proofs.JudgedLaws.{line-malformed, line_taken, line_place}
use Rattle.text.proofs.OptionalLineLaws.{rule-none, rule_one, rule-both}
use Rattle.text.proofs.rule.longer_line.Goals as goal

pub returns-in_default : goal.returns-in_default
returns-in_default c = (
  refl,
  refl,
  c.requires.0,
  rule-none (drop c.args.from.at c.args.text.now) c.requires.1 (line-malformed 2 c.args.text.now c.line_fields.ensures.value c.in_default.is),
)

pub returns-then-found-eq1 : goal.returns-then-found-eq1
returns-then-found-eq1 c = (
  refl,
  refl,
  c.requires.0,
  rule_one (drop c.args.from.at c.args.text.now) c.requires.1
      (line_taken 2 c.args.text.now c.line_fields.ensures.value c.in-Some.is) c.if-found-eq1.true,
)

pub returns : goal.returns
returns c =
    let known = c.in-Some.is in (
      c.requires.0,
      rule-both (drop c.args.from.at c.args.text.now) c.requires.1 (line_taken 2 c.args.text.now c.line_fields.ensures.value known) c.if-found-eq1.false,
      line_place (c.args.from.at + 1) c.args.text.now known c.line_fields.ensures.fields_place,
    )
