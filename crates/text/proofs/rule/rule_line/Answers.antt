-- `rule::rule_line` meets its contract: by the line's shape with one number.
-- Assumes nothing.
use mathlib.Core.Path.{◌∙◌, ap}
use lib.ListN.{drop}
use Rattle.std.specs.Prelude.{Ok}
use Rattle.text.specs.Lines.{letter_v, line}
use Rattle.text.proofs.OptionalLineLaws.{left_out, wrong_shape, line_given, rule-alone}
use Rattle.text.proofs.rule.rule_line.Goals as goal

pub longer_line-requires : goal.longer_line-requires
longer_line-requires c =
    let h = wrong_shape letter_v 1 (line letter_v 1) c.args.from c.args.text.now c.optional_line.ensures c.in_default.is in
    (h.2, h.3)

pub returns-in_default : goal.returns-in_default
returns-in_default c = c.longer_line.ensures

pub returns-in_default-found : goal.returns-in_default-found
returns-in_default-found c =
    left_out letter_v 1 (line letter_v 1) c.args.from c.args.text.now c.optional_line.ensures (c.in-Ok.is ∙ ap Ok c.in_default-found.is)

pub returns : goal.returns
returns c =
    let text = c.args.text.now in
    let h = line_given letter_v 1 (line letter_v 1) c.args.from text c.optional_line.ensures (c.in-Ok.is ∙ ap Ok c.in-Some.is) in
    (h.0, rule-alone (drop c.args.from.at text) h.1, h.2)
