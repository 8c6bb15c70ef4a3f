-- `text::reader::read_body` meets its contract: edges and nets are read from where the nodes end.
-- Assumes nothing.
use mathlib.Core.Path.{sym}
use Prim.Native.Nat.{◌≤◌}
use native.Mathlib.Omega.{arith}
use lib.ListN.{length, drop}
use lib.Seq.{length-take-le}
use Rattle.text.proofs.OptionalLineLaws.{passed_on}
use Rattle.text.proofs.reader.ReaderLaws.{nodes-wires, nodes_stop, read_place}
use Rattle.text.proofs.reader.read_body.Goals.{In_ok-place}
use Rattle.text.proofs.reader.read_body.Goals as goal

-- the table of kinds, as the nodes leave it, has an entry for each of them
kinds_fit : (c : In_ok-place) → c.args.counts.nodes ≤ length c.read_nodes.new.kind
kinds_fit c =
    omega (arith, c.read_nodes.auto.kind, c.requires.room_for_all.kinds-long, c.requires.counts_within.0.nodes_most_lem)

pub slice_bounds-read_edges_nets-end : goal.slice_bounds-read_edges_nets-end
slice_bounds-read_edges_nets-end c = kinds_fit c

pub slice_bounds-read_edges_nets-end-2 : goal.slice_bounds-read_edges_nets-end-2
slice_bounds-read_edges_nets-end-2 c = sym (length-take-le _ _ (kinds_fit c))

pub read_edges_nets-requires : goal.read_edges_nets-requires
read_edges_nets-requires c =
    let nodes = c.read_nodes in
    let place = read_place c.args.text.now c.in_ok-place.was nodes.ensures.lines_place in
    let long = length-take-le c.args.counts.nodes nodes.new.kind (kinds_fit (goal.at.read_edges_nets-requires c).In_ok-place) in
    record { counts_within = (c.requires.counts_within.0, place, omega (arith, long)); edge_room = (c.requires.room_for_all.edge-room, c.requires.room_for_all.net-room) }

pub returns : goal.returns
returns c =
    let a = c.args in
    let nodes = c.read_nodes in
    let wires = c.read_edges_nets in
    let n = nodes.new in
    let w = wires.new in
    let read = wires.ensures.criticality_after in record {
      criticality_after = (
        read.0,
        nodes-wires a.counts.terms.timed a.counts.nodes a.counts.edges a.counts.nets a.from.line read.0 a.text.now (drop a.from.at a.text.now) nodes.result wires.result
            n.kind n.capacity w.first_edge w.edge_target w.source w.first_sink w.sink n.delay w.criticality c.in_ok-place.was nodes.ensures.delay_after read.1,
      );
      nets_end = wires.ensures.nets_end;
    }

pub returns-in_err-place : goal.returns-in_err-place
returns-in_err-place c =
    rw (passed_on c.from_residual.result c.from_residual.ensures.1)
    (record { criticality_after = (0, nodes_stop _ _ _ _ _ _ _ _ _ _ _ c.in_err-place.was c.read_nodes.ensures.delay_after); nets_end = tt })
