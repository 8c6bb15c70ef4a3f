-- `tuning::read_tuning` meets its contract: the line that may be left out, with the tuning's bounds.
-- Assumes nothing.
use mathlib.Core.Bool.{not}
use mathlib.Core.Path.{◌∙◌, ap}
use native.Mathlib.Omega.{arith}
use Rattle.std.specs.Prelude.{Ok}
use Rattle.search.proofs.KeptLaws.{refused, passed}
use Rattle.text.specs.Lines.{letter_p, line}
use Rattle.text.specs.JobText.{tuning_within, tuning_line, with_tuning, tuning_part}
use Rattle.text.proofs.OptionalLineLaws.{line_given, optional_none, optional_wrong, optional_beyond, optional_read, passed_on, terms_refused}
use Rattle.text.proofs.tuning.read_tuning.Goals as goal

pub returns-in_err-found : goal.returns-in_err-found
unfolding tuning_part tuning_line tuning_within
returns-in_err-found c =
    let a = c.args in
    let p =
    terms_refused a.text.now (passed_on c.from_residual.result c.from_residual.ensures.1)
    (optional_wrong letter_p 4 (line letter_p 4) a.from a.text.now c.optional_line.ensures tuning_within (with_tuning a.terms) a.terms (c.in_err-found.was)) in
    record { value = p.0; terms_place = p.1 }

pub returns-in_default : goal.returns-in_default
unfolding tuning_part tuning_line tuning_within
returns-in_default c =
    let a = c.args in
    record {
      value = optional_none letter_p 4 (line letter_p 4) a.from a.text.now c.optional_line.ensures tuning_within (with_tuning a.terms) a.terms (c.in_ok-found.was ∙ ap Ok c.in_default.is);
      terms_place = c.requires;
    }

pub returns-then-not-tuning_sound : goal.returns-then-not-tuning_sound
unfolding tuning_part tuning_line tuning_within
returns-then-not-tuning_sound c =
    let a = c.args in
    record {
      value = optional_beyond letter_p 4 (line letter_p 4) a.from a.text.now c.optional_line.ensures tuning_within (with_tuning a.terms) a.terms (c.in_ok-found.was ∙ ap Ok c.in-Some.is) (refused c.tuning_sound.ensures (ap not c.if-not-tuning_sound.true));
      terms_place = tt;
    }

pub returns : goal.returns
unfolding tuning_part tuning_line tuning_within
returns c =
    let a = c.args in
    let is = c.in_ok-found.was ∙ ap Ok c.in-Some.is in
    let place = (line_given letter_p 4 (line letter_p 4) a.from a.text.now c.optional_line.ensures is).2 in
    record {
      value = optional_read letter_p 4 (line letter_p 4) a.from a.text.now c.optional_line.ensures tuning_within (with_tuning a.terms) a.terms is (passed c.tuning_sound.ensures (ap not c.if-not-tuning_sound.false));
      terms_place = (place.1, omega (arith, place.0, c.requires.1));
    }
