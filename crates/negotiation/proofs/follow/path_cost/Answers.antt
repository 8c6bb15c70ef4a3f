-- `negotiation::follow::path_cost` meets its contract. The invariant: the pass over the words that are left gives what the whole pass does.
-- Assumes nothing.
use mathlib.Core.Bool.{not}
use Rattle.std.proofs.Common.{ap}
use mathlib.Core.List.{[]}
use mathlib.Core.Path.{sym, ◌∙◌}
use Prim.Native.Nat.{◌+◌, ◌<◌}
use native.Mathlib.Omega.{arith}
use lib.ListN.{length, get_or}
use Rattle.search.specs.Turn.{congestion_of}
use Rattle.search.proofs.PriceableLaws.{sound-graph}
use Rattle.search.proofs.KeptLaws.{refused, passed}
use Rattle.negotiation.proofs.follow.PassLoopLaws.{step_answer, pass_off, pass_out, pass_first, step_strays, step_node, cost-fits, step_on, pass_done, pass_marked}
use Rattle.negotiation.proofs.follow.path_cost.Goals.{Else-not-step_passes}
use Rattle.negotiation.proofs.follow.path_cost.Goals as goal

-- a step that passes goes to a node
reached : (c : Else-not-step_passes) → get_or c.args.log.now c.loop-k.k 0 < length c.args.tables.now.kind.now
reached c =
    step_node c.requires c.loop-k.invariant c.loop-k-test.true
    (passed (step_answer _ _ _ _ _ _ _ _ (c.loop-k.k + 1) c.args.to c.step_passes.ensures c.last_mark-last.ensures) (ap not c.if-not-step_passes.false))

pub offset_bounds-log-from : goal.offset_bounds-log-from
offset_bounds-log-from c =
    let r = c.requires in
    let some = r.some in
    let within = r.turn.within in
    omega arith

pub bounds-log-from : goal.bounds-log-from
bounds-log-from c =
    let r = c.requires in
    let some = r.some in
    let within = r.turn.within in
    omega arith

pub overflow_cast-u : goal.overflow_cast-u
overflow_cast-u c = omega (arith, c.type_inv.log c.args.from)

pub returns-then-tables-u : goal.returns-then-tables-u
returns-then-tables-u c = record { value = pass_out c.requires c.if-tables-u.true; path_marked = tt }

pub bounds-in_tree-u : goal.bounds-in_tree-u
bounds-in_tree-u c =
    let long = c.requires.turn.marks_long in
    let below = c.if-tables-u.false in
    omega arith

pub returns-then-in_tree-u-ne1 : goal.returns-then-in_tree-u-ne1
returns-then-in_tree-u-ne1 c = record { value = pass_off c.requires c.if-in_tree-u-ne1.true; path_marked = tt }

pub overflow_add-k : goal.overflow_add-k
overflow_add-k c =
    let some = c.requires.some in
    omega arith

pub loop-k-init : goal.loop-k-init
loop-k-init c = pass_first c.requires c.if-tables-u.false c.if-in_tree-u-ne1.false

pub offset_bounds-log-k : goal.offset_bounds-log-k
offset_bounds-log-k c =
    let within = c.requires.turn.within in
    omega arith

pub bounds-log-k : goal.bounds-log-k
bounds-log-k c =
    let within = c.requires.turn.within in
    omega arith

pub overflow_cast-v : goal.overflow_cast-v
overflow_cast-v c = omega (arith, c.type_inv.log c.loop-k.k)

pub step_passes-requires : goal.step_passes-requires
step_passes-requires c =
    let r = c.requires in
    let s = c.loop-k.invariant in record { graph = (sound-graph _ _ _ _ (congestion_of 0 [] []) [] r.turn.sound, s.node); goals_len = (r.turn.goals-long, s.marks_long) }

pub shape_of-in_tree-then-not-step_passes : goal.shape_of-in_tree-then-not-step_passes
shape_of-in_tree-then-not-step_passes c =
    c.loop-k.invariant.marks_long ∙ sym c.requires.turn.marks_long

pub returns-then-not-step_passes : goal.returns-then-not-step_passes
returns-then-not-step_passes c = record {
  value = step_strays c.requires c.loop-k.invariant c.loop-k-test.true
      (refused (step_answer _ _ _ _ _ _ _ _ (c.loop-k.k + 1) c.args.to c.step_passes.ensures c.last_mark-last.ensures) (ap not c.if-not-step_passes.true));
  path_marked = tt;
}

pub node_price-cost-requires : goal.node_price-cost-requires
node_price-cost-requires c = c.requires.turn.prices _ (reached c)

pub overflow_add-cost : goal.overflow_add-cost
overflow_add-cost c =
    let fits = cost-fits c.requires c.loop-k.invariant c.loop-k-test.true _ c.node_price-cost.ensures.1 in
    omega arith

pub bounds-in_tree-v : goal.bounds-in_tree-v
bounds-in_tree-v c =
    let long = c.loop-k.invariant.marks_long in
    omega (arith, reached (goal.at.bounds-in_tree-v c).Else-not-step_passes)

pub loop-k-preserved : goal.loop-k-preserved
loop-k-preserved c =
    step_on c.requires c.loop-k.invariant c.loop-k-test.true _
    (passed (step_answer _ _ _ _ _ _ _ _ (c.loop-k.k + 1) c.args.to c.step_passes.ensures c.last_mark-last.ensures) (ap not c.if-not-step_passes.false))
    c.node_price-cost.ensures.0 c.node_price-cost.ensures.1

pub shape_of-in_tree : goal.shape_of-in_tree
shape_of-in_tree c = c.loop-k.invariant.marks_long ∙ sym c.requires.turn.marks_long

pub returns : goal.returns
returns c =
    let r = c.requires in
    let s = c.loop-k.invariant in record { value = pass_done r s c.loop-k-test.false; path_marked = pass_marked r s c.loop-k-test.false }
