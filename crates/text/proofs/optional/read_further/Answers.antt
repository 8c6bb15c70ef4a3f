-- `optional::read_further` meets its contract: the V line, then the W line after it.
-- Assumes nothing.
use Rattle.text.specs.JobText.{timed_part}
use Rattle.text.proofs.OptionalLineLaws.{read_place, then_on, then_stopped, passed_on, terms_refused}
use Rattle.text.proofs.optional.read_further.Goals as goal

pub read_times-requires : goal.read_times-requires
read_times-requires c = read_place c.args.text.now (c.in_ok-ruled.was) c.read_rule.ensures.terms_place

pub returns-in_err-ruled : goal.returns-in_err-ruled
returns-in_err-ruled c =
    let p =
    terms_refused c.args.text.now (passed_on c.from_residual.result c.from_residual.ensures.1)
    (then_stopped c.args.text.now c.read_rule.ensures.value timed_part (c.in_err-ruled.was)) in
    record { value = p.0; terms_place = p.1 }

pub returns : goal.returns
returns c = record {
  value = then_on c.args.text.now c.read_rule.ensures.value timed_part c.read_times.result (c.in_ok-ruled.was) c.read_times.ensures.value;
  terms_place = c.read_times.ensures.terms_place;
}
