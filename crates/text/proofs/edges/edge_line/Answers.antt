-- `edges::edge_line` meets its contract: each return is one of the judgements of an E line, in their order.
-- Assumes nothing.
use mathlib.Core.Bool.{false}
use mathlib.Core.List.{[], ◌∷◌}
use mathlib.Core.Path.{◌≡◌}
use Rattle.text.specs.JobText.{edge_within, edge_ordered}
use Rattle.text.proofs.JudgedLaws.{line_place}
use Rattle.text.proofs.edges.EdgeLineLaws.{edge-beyond_from, edge-beyond-to, edge_within_lem, edge_loop, edge_order, edge_shape, edge-beyond, edge_wrong, edge-taken}
use Rattle.text.proofs.edges.edge_line.Goals.{then-nodes-first-via-then-nodes-first, then-nodes-first-via-else-nodes-first+then-nodes-second}
use Rattle.text.proofs.edges.edge_line.Goals.{then-first-second-via-then-first-second, then-first-second-via-else-first-second+then-not-edge_rises}
use Rattle.text.proofs.edges.edge_line.Goals as goal

pub returns-in_default : goal.returns-in_default
returns-in_default c = record { value = edge_shape _ _ _ _ c.args.at c.args.text.now c.line_fields.ensures.value c.in_default.is; edge_place = tt }

pub returns-then-nodes-first : goal.returns-then-nodes-first
returns-then-nodes-first c =
    let beyond : edge_within c.args.nodes (c.in-Some.field-0.first ∷ c.in-Some.field-0.second ∷ []) ≡ false =
    elim c.then-nodes-first.branch [
      | then-nodes-first-via-then-nodes-first w ↦ edge-beyond_from _ _ _ w.if-nodes-first.true
      | then-nodes-first-via-else-nodes-first+then-nodes-second w ↦ edge-beyond-to _ _ _ w.if-nodes-first.false w.if-nodes-second.true
    ] in
    record { value = edge-beyond _ _ _ _ c.args.at c.args.text.now c.line_fields.ensures.value c.in-Some.is beyond; edge_place = tt }

pub returns-then-first-second : goal.returns-then-first-second
returns-then-first-second c =
    let a = c.args in
    let wrong : edge_ordered a.count a.last_from a.last_to (c.in-Some.field-0.first ∷ c.in-Some.field-0.second ∷ []) ≡ false =
    elim c.then-first-second.branch [
      | then-first-second-via-then-first-second w ↦ edge_loop _ _ _ _ _ w.if-first-second.true
      | then-first-second-via-else-first-second+then-not-edge_rises w ↦ edge_order _ _ _ _ _ w.if-first-second.false w.if-not-edge_rises.true w.edge_rises.ensures
    ] in
    record {
      value = edge_wrong _ _ _ _ a.at a.text.now c.line_fields.ensures.value c.in-Some.is (edge_within_lem _ _ _ c.if-nodes-first.false c.if-nodes-second.false) wrong;
      edge_place = tt;
    }

pub returns : goal.returns
returns c = record {
  value = edge-taken _ _ _ _ c.args.at c.args.text.now c.line_fields.ensures.value c.in-Some.is (edge_within_lem _ _ _ c.if-nodes-first.false c.if-nodes-second.false)
      (edge_order _ _ _ _ _ c.if-first-second.false c.if-not-edge_rises.false c.edge_rises.ensures);
  edge_place = (line_place _ c.args.text.now c.in-Some.is c.line_fields.ensures.fields_place, c.if-nodes-first.false, c.if-nodes-second.false);
}
