-- `text::nets::net_line` meets its contract: the line goes by its letter, and what it adds keeps what holds between two lines.
-- Assumes nothing.
use mathlib.Core.Path.{sym, ◌∙◌}
use native.Mathlib.Omega.{arith}
use Rattle.text.proofs.nets.NetStepLaws.{due_below, due-is, source_step, source_undue, sink_step, other_letter, no_net}
use Rattle.text.proofs.nets.net_line.Goals as goal

pub add_source-requires : goal.add_source-requires
add_source-requires c =
    let a = c.args in
    let below = due_below a.c.nets a.counts.nets a.c.first a.c.sinks c.source_due.ensures c.if-source_due.true in
    omega (arith, below, c.requires)

pub returns-in-83 : goal.returns-in-83
returns-in-83 c =
    let a = c.args in
    let kept = c.requires in
    let due = c.source_due.ensures in
    let below = due_below a.c.nets a.counts.nets a.c.first a.c.sinks due c.if-source_due.true in
    let p = source_step kept.0 a.counts.terms.timed _ kept.1 c.add_source.result _ _ _ c.in-83.is (due-is kept.0 ∙ sym due ∙ c.if-source_due.true) below c.add_source.ensures in
    record { criticality_after = p.0; kept_after = p.1 }

pub returns-in-84 : goal.returns-in-84
returns-in-84 c =
    let kept = c.requires in
    let p = sink_step kept.0 c.args.counts.terms.timed _ kept.1 c.add_sink.result _ _ _ (λ e. omega (arith, e, c.in-84.is)) c.in-84.is c.if-c-ge1.true c.add_sink.ensures in
    record { criticality_after = p.0; kept_after = p.1 }

pub returns-in_default : goal.returns-in_default
returns-in_default c =
    let kept = c.requires in record { criticality_after = source_undue kept.0 c.args.counts.terms.timed _ kept.1 c.in-83.is (due-is kept.0 ∙ sym c.source_due.ensures ∙ c.if-source_due.false); kept_after = tt }

pub returns-in_default-2 : goal.returns-in_default-2
returns-in_default-2 c = record { criticality_after = no_net c.requires.0 c.args.counts.terms.timed _ c.requires.1 (λ e. omega (arith, e, c.in-84.is)) c.if-c-ge1.false; kept_after = tt }

pub returns-in_default-3 : goal.returns-in_default-3
returns-in_default-3 c = record { criticality_after = other_letter c.requires.0 c.args.counts.terms.timed _ c.requires.1 (λ e. grind (arith, e, c.in_default)) (λ e. grind (arith, e, c.in_default)); kept_after = tt }
