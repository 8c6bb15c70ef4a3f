-- `nodes::read_nodes` meets its contract: between two lines the tables hold the nodes read, and the lines that follow give the rest (`NodesRead`).
-- Assumes nothing.
use Rattle.text.proofs.nodes.NodeLineLaws.{NodesRead}
use Rattle.text.proofs.nodes.read_nodes.Given as goal

abbrev pub invariant-loop-v : goal.invariant-loop-v
invariant-loop-v l =
    NodesRead l.timed l.text l.fn.from.at l.fn.from.line l.nodes l.initial.kind l.initial.capacity l.initial.delay l.kind l.capacity l.delay l.at l.line l.v
