-- `nodes::node_line` meets its contract: each return is one of the judgements of an N line, in their order.
-- Assumes nothing.
use mathlib.Core.Bool.{false}
use mathlib.Core.List.{[], ◌∷◌}
use mathlib.Core.Path.{◌≡◌}
use Prim.Native.Nat.{◌+◌}
use native.Mathlib.Omega.{arith}
use Rattle.text.specs.JobText.{node_within}
use Rattle.text.proofs.JudgedLaws.{line_place}
use Rattle.text.proofs.nodes.NodeLineLaws.{node-beyond-count, node-beyond_kind, node-beyond-least, node-beyond-most, node-beyond_delay, node_within_lem}
use Rattle.text.proofs.nodes.NodeLineLaws.{node-numbers, node_shape, node-beyond, node_wrong, node-taken}
use Rattle.text.proofs.nodes.node_line.Goals.{then-nodes-first-via-then-nodes-first, then-nodes-first-via-else-nodes-first+then-second-gt-KIND_MOST}
use Rattle.text.proofs.nodes.node_line.Goals.{then-nodes-first-via-else-nodes-first+else-second-gt-KIND_MOST+then-third-lt1}
use Rattle.text.proofs.nodes.node_line.Goals.{then-nodes-first-via-else-nodes-first+else-second-gt-KIND_MOST+else-third-lt1+then-third-gt-CAPACITY_MOST}
use Rattle.text.proofs.nodes.node_line.Goals.{then-nodes-first-via-else-nodes-first+else-second-gt-KIND_MOST+else-third-lt1+else-third-gt-CAPACITY_MOST+then-delay-gt-DELAY_MOST}
use Rattle.text.proofs.nodes.node_line.Goals as goal

pub line_fields-requires : goal.line_fields-requires
line_fields-requires c = rw c.one_of_two-count.ensures (node-numbers c.args.timed)

pub returns-in_default : goal.returns-in_default
returns-in_default c =
    let a = c.args in record { value = node_shape a.timed a.nodes a.v a.at a.text.now c.one_of_two-count.ensures c.line_fields.ensures.value c.in_default.is; node_place = tt }

pub returns-then-nodes-first : goal.returns-then-nodes-first
returns-then-nodes-first c =
    let a = c.args in
    let beyond : node_within a.nodes (c.in-Some.field-0.first ∷ c.in-Some.field-0.second ∷ c.in-Some.field-0.third ∷ c.one_of_two-delay.result ∷ []) ≡ false =
    elim c.then-nodes-first.branch [
      | then-nodes-first-via-then-nodes-first w ↦ node-beyond-count _ _ _ _ _ w.if-nodes-first.true
      | then-nodes-first-via-else-nodes-first+then-second-gt-KIND_MOST w ↦ node-beyond_kind _ _ _ _ _ w.if-nodes-first.false w.if-second-gt-KIND_MOST.true
      | then-nodes-first-via-else-nodes-first+else-second-gt-KIND_MOST+then-third-lt1 w ↦ node-beyond-least _ _ _ _ _ w.if-nodes-first.false w.if-second-gt-KIND_MOST.false w.if-third-lt1.true
      | then-nodes-first-via-else-nodes-first+else-second-gt-KIND_MOST+else-third-lt1+then-third-gt-CAPACITY_MOST w ↦ node-beyond-most _ _ _ _ _ w.if-nodes-first.false w.if-second-gt-KIND_MOST.false w.if-third-lt1.false w.if-third-gt-CAPACITY_MOST.true
      | then-nodes-first-via-else-nodes-first+else-second-gt-KIND_MOST+else-third-lt1+else-third-gt-CAPACITY_MOST+then-delay-gt-DELAY_MOST w ↦
          node-beyond_delay _ _ _ _ _ w.if-nodes-first.false w.if-second-gt-KIND_MOST.false w.if-third-lt1.false w.if-third-gt-CAPACITY_MOST.false (omega (arith, w.if-delay-gt-DELAY_MOST.true))
    ] in
    record {
      value = node-beyond a.timed a.nodes a.v a.at a.text.now c.one_of_two-count.ensures c.line_fields.ensures.value c.in-Some.is c.one_of_two-delay.ensures beyond;
      node_place = tt;
    }

pub returns-then-first-v : goal.returns-then-first-v
returns-then-first-v c =
    let a = c.args in record {
      value = node_wrong a.timed a.nodes a.v a.at a.text.now c.one_of_two-count.ensures c.line_fields.ensures.value c.in-Some.is c.one_of_two-delay.ensures
          (node_within_lem _ _ _ _ _ c.if-nodes-first.false c.if-second-gt-KIND_MOST.false c.if-third-lt1.false c.if-third-gt-CAPACITY_MOST.false (omega (arith, c.if-delay-gt-DELAY_MOST.false))) c.if-first-v.true;
      node_place = tt;
    }

pub returns : goal.returns
returns c =
    let a = c.args in record {
      value = node-taken a.timed a.nodes a.v a.at a.text.now c.one_of_two-count.ensures c.line_fields.ensures.value c.in-Some.is c.one_of_two-delay.ensures
          (node_within_lem _ _ _ _ _ c.if-nodes-first.false c.if-second-gt-KIND_MOST.false c.if-third-lt1.false c.if-third-gt-CAPACITY_MOST.false (omega (arith, c.if-delay-gt-DELAY_MOST.false))) c.if-first-v.false;
      node_place = line_place (a.at + 1) a.text.now c.in-Some.is c.line_fields.ensures.fields_place;
    }
