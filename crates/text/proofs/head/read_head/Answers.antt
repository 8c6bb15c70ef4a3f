-- `head::read_head` meets its contract: the counts of the first line, and the terms from where it ends.
-- Assumes nothing.
use native.Mathlib.Omega.{arith}
use Rattle.text.proofs.head.HeadLineLaws.{head_refused, head_counts, head_read_on, head_stopped, head_place}
use Rattle.text.proofs.OptionalLineLaws.{read_place, passed_on}
use Rattle.text.proofs.head.read_head.Goals as goal

pub read_terms-requires : goal.read_terms-requires
read_terms-requires c =
    let place = head_place c.args.text.now c.in-Ok.is c.head_line.ensures.head_place in
    (place.1, omega (arith, place.0))

pub returns-in-Err : goal.returns-in-Err
returns-in-Err c = record { value = head_refused c.args.text.now c.head_line.ensures.value c.in-Err.is; head_read_place = tt }

pub returns-in_err-read : goal.returns-in_err-read
returns-in_err-read c =
    rw (passed_on c.from_residual.result c.from_residual.ensures.1)
    (record { value = head_stopped c.args.text.now c.head_line.ensures.value c.in-Ok.is c.read_terms.ensures.value (c.in_err-read.was); head_read_place = tt })

pub returns : goal.returns
returns c =
    let text = c.args.text.now in
    let is = c.in-Ok.is in
    let place = read_place text (c.in_ok-read.was) c.read_terms.ensures.terms_place in
    record {
      value = head_read_on text c.head_line.ensures.value is c.read_terms.ensures.value (c.in_ok-read.was);
      head_read_place = (head_counts text c.head_line.ensures.value is, place);
    }
