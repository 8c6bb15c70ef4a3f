-- `optional::read_terms` meets its contract: the P line after the plain terms, then the V and the W line after these.
-- Assumes nothing.
use mathlib.Core.List.{List}
use Prim.Native.Nat.{ℕ}
use Rattle.job.specs.declared.Terms.{Terms}
use Rattle.text.specs.JobText.{Part, and_then, rule_part, timed_part, terms_part}
use Rattle.text.proofs.OptionalLineLaws.{read_place, then_on, then_stopped, passed_on, terms_refused}
use Rattle.text.proofs.optional.read_terms.Goals as goal

abbrev after : Terms → ℕ → List ℕ → Part Terms
after t l rest = and_then (rule_part t l rest) timed_part

pub read_further-requires : goal.read_further-requires
read_further-requires c = read_place c.args.text.now (c.in_ok-tuned.was) c.read_tuning.ensures.terms_place

pub returns-in_err-tuned : goal.returns-in_err-tuned
unfolding terms_part
returns-in_err-tuned c =
    let p =
    terms_refused c.args.text.now (passed_on c.from_residual.result c.from_residual.ensures.1)
    (then_stopped c.args.text.now (rw c.plain_terms.ensures at c.read_tuning.ensures.value) after (c.in_err-tuned.was)) in
    record { value = p.0; terms_place = p.1 }

pub returns : goal.returns
unfolding terms_part
returns c = record {
  value = then_on c.args.text.now (rw c.plain_terms.ensures at c.read_tuning.ensures.value) after c.read_further.result (c.in_ok-tuned.was) c.read_further.ensures.value;
  terms_place = c.read_further.ensures.terms_place;
}
