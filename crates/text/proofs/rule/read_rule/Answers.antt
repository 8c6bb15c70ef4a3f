-- `rule::read_rule` meets its contract: the line that may be left out, with the bounds of rule and k.
-- Assumes nothing.
use mathlib.Core.Bool.{not}
use mathlib.Core.Path.{◌∙◌, ap}
use native.Mathlib.Omega.{arith}
use Rattle.std.specs.Prelude.{Ok}
use Rattle.search.proofs.KeptLaws.{refused, passed}
use Rattle.text.specs.Lines.{letter_v}
use Rattle.text.specs.JobText.{rule_fields, rule_within, rule_line, with_rule, rule_part}
use Rattle.text.proofs.OptionalLineLaws.{line_given, optional_none, optional_wrong, optional_beyond, optional_read, passed_on, terms_refused}
use Rattle.text.proofs.rule.read_rule.Goals as goal

pub returns-in_err-found : goal.returns-in_err-found
unfolding rule_part rule_line rule_within
returns-in_err-found c =
    let a = c.args in
    let p =
    terms_refused a.text.now (passed_on c.from_residual.result c.from_residual.ensures.1)
    (optional_wrong letter_v 2 rule_fields a.from a.text.now c.rule_line.ensures rule_within (with_rule a.terms) a.terms (c.in_err-found.was)) in
    record { value = p.0; terms_place = p.1 }

pub returns-in_default : goal.returns-in_default
unfolding rule_part rule_line rule_within
returns-in_default c =
    let a = c.args in
    record {
      value = optional_none letter_v 2 rule_fields a.from a.text.now c.rule_line.ensures rule_within (with_rule a.terms) a.terms (c.in_ok-found.was ∙ ap Ok c.in_default.is);
      terms_place = c.requires;
    }

pub returns-then-not-rule_sound : goal.returns-then-not-rule_sound
unfolding rule_part rule_line rule_within
returns-then-not-rule_sound c =
    let a = c.args in
    record {
      value = optional_beyond letter_v 2 rule_fields a.from a.text.now c.rule_line.ensures rule_within (with_rule a.terms) a.terms (c.in_ok-found.was ∙ ap Ok c.in-Some.is) (refused c.rule_sound.ensures (ap not c.if-not-rule_sound.true));
      terms_place = tt;
    }

pub returns : goal.returns
unfolding rule_part rule_line rule_within
returns c =
    let a = c.args in
    let is = c.in_ok-found.was ∙ ap Ok c.in-Some.is in
    let place = (line_given letter_v 2 rule_fields a.from a.text.now c.rule_line.ensures is).2 in
    record {
      value = optional_read letter_v 2 rule_fields a.from a.text.now c.rule_line.ensures rule_within (with_rule a.terms) a.terms is (passed c.rule_sound.ensures (ap not c.if-not-rule_sound.false));
      terms_place = (place.1, omega (arith, place.0, c.requires.1));
    }
