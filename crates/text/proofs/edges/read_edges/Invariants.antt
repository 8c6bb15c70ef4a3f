-- `edges::read_edges` meets its contract: between two lines the tables hold the edges read, and the lines that follow give the rest (`EdgesRead`).
-- Assumes nothing.
use Rattle.text.proofs.edges.EdgeLineLaws.{EdgesRead}
use Rattle.text.proofs.edges.read_edges.Given as goal

abbrev pub invariant-loop-k : goal.invariant-loop-k
invariant-loop-k l =
    EdgesRead l.text l.fn.from.at l.fn.from.line l.nodes l.edges l.initial.first_edge l.initial.edge_target l.first_edge l.edge_target l.at l.line l.row l.target l.k
