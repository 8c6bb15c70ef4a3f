-- `edges::read_edges` meets its contract: between two lines the tables hold the edges read, and the lines that follow give the rest (`EdgesRead`).
-- Assumes nothing.
use mathlib.Core.List.{List}
use Prim.Native.Nat.{ℕ, ◌+◌, ◌≤◌}
use lib.ListN.{length, set, length-set}
use Rattle.text.proofs.edges.EdgeLineLaws.{part_filled, edges_none, edges_rows, edges_more, edges_stop, edges-last_rows, edges-end}
use Rattle.text.proofs.edges.read_edges.Goals.{In-Ok}
use Rattle.text.proofs.edges.read_edges.Goals as goal

-- the tables' room, as the loop begins
room : (nodes edges : ℕ) (firsts targets : List ℕ) → (nodes + 1 ≤ length firsts) × (edges ≤ length targets) → (nodes + 1 ≤ length (set firsts 0 0)) × (edges ≤ length targets)
room nodes edges firsts targets fits = (rw length-set fits.0, fits.1)

-- the rows up to the edge that was read
rows : (c : In-Ok) → (c.loop-k.row + 1 ≤ c.in-Ok.edge.from + 1) × (c.in-Ok.edge.from + 1 ≤ length c.loop-k.first_edge)
rows c =
    edges_rows (room c.args.nodes c.args.edges c.args.first_edge.now c.args.edge_target.now c.requires.nodes_in_bounds) c.loop-k.invariant c.loop-k-test.true c.in-Ok.is c.edge_line.ensures.value c.edge_line.ensures.edge_place

pub loop-k-init : goal.loop-k-init
loop-k-init c = edges_none _ _ _ _ _ c.args.first_edge.now _ c.requires.from_in_bounds.0.0 c.requires.from_in_bounds.0.1 c.requires.nodes_in_bounds.0

pub slice_bounds-fill-count : goal.slice_bounds-fill-count
slice_bounds-fill-count c = (rows (goal.at.slice_bounds-fill-count c).In-Ok).0

pub slice_bounds-fill-start : goal.slice_bounds-fill-start
slice_bounds-fill-start c = (rows (goal.at.slice_bounds-fill-start c).In-Ok).0

pub loop-k-preserved : goal.loop-k-preserved
loop-k-preserved c =
    let wide = rows (goal.at.loop-k-preserved c).In-Ok in
    edges_more (room c.args.nodes c.args.edges c.args.first_edge.now c.args.edge_target.now c.requires.nodes_in_bounds) c.loop-k.invariant c.loop-k-test.true c.in-Ok.is c.edge_line.ensures.value c.edge_line.ensures.edge_place
    (part_filled c.loop-k.first_edge (c.loop-k.row + 1) (c.in-Ok.edge.from + 1) c.loop-k.k wide.0 wide.1 (c.fill.ensures.after (λ y same. same)))

pub returns-in-Err : goal.returns-in-Err
returns-in-Err c = record { edge_target_after = edges_stop (room c.args.nodes c.args.edges c.args.first_edge.now c.args.edge_target.now c.requires.nodes_in_bounds) c.loop-k.invariant c.loop-k-test.true c.in-Err.is c.edge_line.ensures.value; lines_place = tt }

pub returns : goal.returns
returns c =
    let room = room c.args.nodes c.args.edges c.args.first_edge.now c.args.edge_target.now c.requires.nodes_in_bounds in
    let wide = edges-last_rows room c.loop-k.invariant in
    record {
      edge_target_after =
          edges-end room c.loop-k.invariant c.loop-k-test.false
          (part_filled c.loop-k.first_edge (c.loop-k.row + 1) (c.args.nodes + 1) c.args.edges wide.0 wide.1 (c.fill-2.ensures.after (λ y same. same)));
      lines_place = (c.loop-k.invariant.at_most, c.loop-k.invariant.line-most);
    }
