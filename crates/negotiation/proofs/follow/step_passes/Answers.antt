-- `negotiation::follow::step_passes` meets its contract: an edge leads to a node, so that its mark and its goal can be read.
-- Assumes nothing.
use native.Mathlib.Omega.{arith}
use mathlib.Core.Path.{sym, ◌∙◌}
use Rattle.price.proofs.TestLaws.{true≢false}
use Rattle.search.proofs.BlockLaws.{edge_to}
use Rattle.negotiation.proofs.follow.step_passes.Goals.{then-has_edge, else-has_edge}
use Rattle.negotiation.proofs.follow.step_passes.Goals as goal

pub bounds-in_tree-v : goal.bounds-in_tree-v
bounds-in_tree-v c =
    let long = c.requires.goals_len.1 in
    let node = edge_to _ c.requires.graph.0 _ _ (sym c.has_edge.ensures ∙ c.if-has_edge.true) in
    omega arith

pub bounds-goals-v : goal.bounds-goals-v
bounds-goals-v c =
    let long = c.requires.goals_len.0 in
    elim c.if-has_edge.branch [
      | then-has_edge w ↦ let node = edge_to _ c.requires.graph.0 _ _ (sym c.has_edge.ensures ∙ w.if-has_edge.true) in omega arith
      | else-has_edge w ↦ absurd (true≢false (sym c.if-in_tree-v-eq0.true ∙ w.value-is ∙ w.if-has_edge.false))
    ]
