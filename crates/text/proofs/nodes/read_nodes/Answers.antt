-- `nodes::read_nodes` meets its contract: between two lines the tables hold the nodes read, and the lines that follow give the rest (`NodesRead`).
-- Assumes nothing.
use Rattle.text.proofs.nodes.NodeLineLaws.{nodes-none, nodes-more, nodes_stop, nodes-end}
use Rattle.text.proofs.nodes.read_nodes.Goals as goal

pub loop-v-init : goal.loop-v-init
loop-v-init c =
    nodes-none _ _ _ _ _ _ _ _ c.requires.from_in_bounds.0.0 c.requires.from_in_bounds.0.1

pub loop-v-preserved : goal.loop-v-preserved
loop-v-preserved c =
    nodes-more c.requires.nodes_in_bounds c.loop-v.invariant c.loop-v-test.true c.in-Ok.is c.node_line.ensures.value c.node_line.ensures.node_place

pub returns-in-Err : goal.returns-in-Err
returns-in-Err c = record { delay_after = nodes_stop c.requires.nodes_in_bounds c.loop-v.invariant c.loop-v-test.true c.in-Err.is c.node_line.ensures.value; lines_place = tt }

pub returns : goal.returns
returns c = record { delay_after = nodes-end c.requires.nodes_in_bounds c.loop-v.invariant c.loop-v-test.false; lines_place = (c.loop-v.invariant.at_most, c.loop-v.invariant.line-most) }
