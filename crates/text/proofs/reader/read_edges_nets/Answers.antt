-- `text::reader::read_edges_nets` meets its contract: the nets are read from where the edges end.
-- Assumes nothing.
use native.Mathlib.Omega.{arith}
use Rattle.text.proofs.OptionalLineLaws.{passed_on}
use Rattle.text.proofs.reader.ReaderLaws.{edges-nets, edges_stop, read_place}
use Rattle.text.proofs.reader.read_edges_nets.Goals as goal

pub read_nets-requires : goal.read_nets-requires
read_nets-requires c =
    let place = read_place c.args.text.now c.in_ok-place.was c.read_edges.ensures.lines_place in
    let room = c.requires.edge_room.1 in
    let within = c.requires.counts_within.0 in record {
      from_in_bounds = (place, within.nodes_most_lem, within.nets_most_lem, c.requires.counts_within.2);
      nets_in_bounds = (omega (arith, room.sources-long, within.nets_most_lem), omega (arith, room.firsts-long, within.nets_most_lem), room.sinks-long, room.criticalities-long);
    }

pub returns : goal.returns
returns c =
    let a = c.args in
    let edges = c.read_edges in
    let nets = c.read_nets in
    let l = nets.new in
    let read = nets.ensures.criticality_after in record {
      criticality_after = (
        read.0,
        edges-nets a.counts.terms.timed _ _ _ _ _ read.0 _ _ edges.result nets.result edges.new.first_edge edges.new.edge_target l.source l.first_sink l.sink l.criticality
            c.in_ok-place.was edges.ensures.edge_target_after read.1 nets.ensures.nets_end
            (omega (arith, nets.auto.first_sink, c.requires.edge_room.1.firsts-long, c.requires.counts_within.0.nets_most_lem)) (omega (arith, nets.auto.sink, c.requires.edge_room.1.sinks-long)),
      );
      nets_end = nets.ensures.nets_end;
    }

pub returns-in_err-place : goal.returns-in_err-place
returns-in_err-place c =
    rw (passed_on c.from_residual.result c.from_residual.ensures.1)
    (record { criticality_after = (0, edges_stop _ _ _ _ _ _ _ _ _ _ _ c.in_err-place.was c.read_edges.ensures.edge_target_after); nets_end = tt })
