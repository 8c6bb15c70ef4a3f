-- `search::turn::mark_tree` meets its contract. The invariant: the nodes below v are marked, and v is in the tree. The measure is how many nodes are left.
-- Assumes nothing.
use Rattle.search.proofs.turn.TurnMarkLaws.{tree-start, tree_in, tree_over, tree_all}
use Rattle.search.proofs.turn.mark_tree.Goals as goal

pub loop-v-init : goal.loop-v-init
loop-v-init c = (tree-start c.fill_far.ensures c.next_marked-v.ensures.over, c.next_marked-v.ensures.marked)

pub loop-v-preserved : goal.loop-v-preserved
loop-v-preserved c =
    let next = c.next_marked-v-in-loop-v.ensures in
    let t = c.loop-v-test.true in
    let i = c.loop-v.invariant in
    (rw c.put.ensures (tree_over next.over (tree_in c.requires.2 c.fill_far.ensures t i.0 (i.1 t))), next.marked)

pub returns : goal.returns
returns c = tree_all c.loop-v-test.false c.fill_far.ensures c.loop-v.invariant.0
