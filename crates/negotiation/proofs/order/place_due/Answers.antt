-- `order::place_due` meets its contract. The loop's invariant: of the places passed the one found leads, or none is open.
-- Assumes nothing.
use native.Mathlib.Omega.{arith}
use Rattle.negotiation.proofs.NextTriedLaws.{leading_start, leading_joined, leading_lower, leading_new, leading_all, marked, unmarked}
use Rattle.negotiation.proofs.order.place_due.Goals.{then-in_tree-s-ne1+then-least-criticality, else-in_tree-s-ne1, else-in_tree-s-ne1-via-then-in_tree-s-ne1+else-least-criticality, else-in_tree-s-ne1-via-else-in_tree-s-ne1}
use Rattle.negotiation.proofs.order.place_due.Goals as goal

pub loop-place-init : goal.loop-place-init
loop-place-init c = (leading_start _ _ _, omega arith)

pub loop-place-preserved : goal.loop-place-preserved
loop-place-preserved c =
    let so_far = c.loop-place.invariant.0 in
    let within = c.loop-place-test.true in
    elim c.if-in_tree-s-ne1.branch [
      | then-in_tree-s-ne1+then-least-criticality w ↦
          rw (w.due-is, w.least-is) (leading_new _ _ _ so_far (unmarked _ _ w.if-in_tree-s-ne1.true) w.if-least-criticality.true, omega arith)
      | else-in_tree-s-ne1 w ↦
          rw (w.due-is, w.least-is) (
            elim w.else-in_tree-s-ne1.branch [
              | else-in_tree-s-ne1-via-then-in_tree-s-ne1+else-least-criticality v ↦ leading_lower _ _ _ so_far v.if-least-criticality.false
              | else-in_tree-s-ne1-via-else-in_tree-s-ne1 v ↦ leading_joined _ _ _ so_far (marked _ _ v.if-in_tree-s-ne1.false)
            ],
            omega arith,
          )
    ]

pub returns : goal.returns
returns c =
    leading_all _ _ _ c.loop-place.invariant.0 c.requires.criticality_len.0 c.requires.all_below c.loop-place-test.false c.loop-place.invariant.1
