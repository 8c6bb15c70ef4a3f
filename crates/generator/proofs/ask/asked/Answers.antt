-- `ask::asked` meets its contract: the three fields and what follows them, each return by its law.
-- Assumes nothing.
use Rattle.std.proofs.Common.{◌≡◌, List, ℕ, length, drop, sym, ◌∙◌, arith, length-drop, rules}
use Rattle.text.proofs.FieldLaws.{begins-within}
use Rattle.generator.proofs.ask.AskLaws.{away_seed, away_nodes, away_nets, away_open, away_more, asked_is}
use Rattle.generator.proofs.ask.asked.Goals.{then-not-byte_is-via-then-not-byte_is, then-not-byte_is-via-else-not-byte_is+then-nets-input}
use Rattle.generator.proofs.ask.asked.Goals as goal

pub returns-in_default-clause-value : goal.returns-in_default-clause-value
returns-in_default-clause-value c = sym (away_seed _ (sym c.in_default.ensures.value))

pub returns-in_default-next_field-clause-value : goal.returns-in_default-next_field-clause-value
returns-in_default-next_field-clause-value c =
    sym (away_nodes _ (sym c.in-Some.ensures.value) (sym c.in_default-next_field.ensures.value))

pub returns-in_default-next_field-2-clause-value : goal.returns-in_default-next_field-2-clause-value
returns-in_default-next_field-2-clause-value c =
    sym (away_nets _ (sym c.in-Some.ensures.value) (sym c.in-Some-next_field.ensures.value) (sym c.in_default-next_field-2.ensures.value))

pub returns-then-not-byte_is-clause-value : goal.returns-then-not-byte_is-clause-value
returns-then-not-byte_is-clause-value c =
    let seed = sym c.in-Some.ensures.value in
    let nodes = sym c.in-Some-next_field.ensures.value in
    let nets = sym c.in-Some-next_field-2.ensures.value in
    elim c.then-not-byte_is.branch [
      | then-not-byte_is-via-then-not-byte_is w ↦ sym (away_open _ seed nodes nets (sym c.byte_is.ensures ∙ w.if-not-byte_is.true))
      | then-not-byte_is-via-else-not-byte_is+then-nets-input w ↦
          let next = c.in-Some-next_field-2.nets.next in
          let rest : List ℕ = drop next c.args.input.now in
          let more = length-drop next c.args.input.now in
          sym (away_more _ seed nodes nets (λ (e : length rest ≡ 1). omega (arith, w.if-nets-input.true)))
    ]

pub returns-clause-value : goal.returns-clause-value
returns-clause-value c =
    let text = c.args.input.now in
    let next = c.in-Some-next_field-2.nets.next in
    let ended = sym c.byte_is.ensures ∙ c.if-not-byte_is.false in
    let more = length-drop next text in
    let inside = begins-within 10 next text ended in
    sym
    (asked_is _ (sym c.in-Some.ensures.value) (sym c.in-Some-next_field.ensures.value) (sym c.in-Some-next_field-2.ensures.value) ended
    (omega (arith, c.if-nets-input.false)))
