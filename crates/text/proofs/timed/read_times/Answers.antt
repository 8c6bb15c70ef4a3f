-- `timed::read_times` meets its contract: the line that may be left out, which has no numbers.
-- Assumes nothing.
use mathlib.Core.Bool.{true}
use mathlib.Core.Path.{◌∙◌, ap, refl}
use native.Mathlib.Omega.{arith}
use Rattle.std.specs.Prelude.{Ok}
use Rattle.text.specs.Lines.{letter_w, line}
use Rattle.text.specs.JobText.{timed_line, with_times, timed_part}
use Rattle.text.proofs.OptionalLineLaws.{line_given, optional_none, optional_wrong, optional_read, passed_on, terms_refused}
use Rattle.text.proofs.timed.read_times.Goals as goal

pub returns-in_err-found : goal.returns-in_err-found
unfolding timed_part timed_line
returns-in_err-found c =
    let a = c.args in
    let p =
    terms_refused a.text.now (passed_on c.from_residual.result c.from_residual.ensures.1)
    (optional_wrong letter_w 0 (line letter_w 0) a.from a.text.now c.optional_line.ensures (λ vs. true) (with_times a.terms) a.terms (c.in_err-found.was)) in
    record { value = p.0; terms_place = p.1 }

pub returns-in_default : goal.returns-in_default
unfolding timed_part timed_line
returns-in_default c =
    let a = c.args in
    record {
      value = optional_none letter_w 0 (line letter_w 0) a.from a.text.now c.optional_line.ensures (λ vs. true) (with_times a.terms) a.terms (c.in_ok-found.was ∙ ap Ok c.in_default.is);
      terms_place = c.requires;
    }

pub returns : goal.returns
unfolding timed_part timed_line
returns c =
    let a = c.args in
    let is = c.in_ok-found.was ∙ ap Ok c.in-Some.is in
    let place = (line_given letter_w 0 (line letter_w 0) a.from a.text.now c.optional_line.ensures is).2 in
    record {
      value = optional_read letter_w 0 (line letter_w 0) a.from a.text.now c.optional_line.ensures (λ vs. true) (with_times a.terms) a.terms is refl;
      terms_place = (place.1, omega (arith, place.0, c.requires.1));
    }
