-- `text::reader::read_lines` meets its contract: the lines before the nodes, then those from the nodes on.
-- Assumes nothing.
use mathlib.Core.Path.{sym, ap}
use Rattle.text.proofs.OptionalLineLaws.{passed_on}
use Rattle.text.proofs.reader.ReaderLaws.{job_lines, body_place, text_read, job_place, text_stop}
use Rattle.text.proofs.reader.read_lines.Goals as goal

pub read_body-requires : goal.read_body-requires
read_body-requires c = record { room_for_all = c.requires; counts_within = body_place c.args.text.now c.in_ok-head.was c.read_head.ensures.head_read_place }

pub returns-in_err-head : goal.returns-in_err-head
returns-in_err-head c =
    rw (passed_on c.from_residual.result c.from_residual.ensures.1)
    (record { criticality_after = (0, text_stop c.args.text.now c.in_err-head.was c.read_head.ensures.value); job_place = tt })

pub returns-in_err-sinks : goal.returns-in_err-sinks
returns-in_err-sinks c =
    let l = c.read_body.new in
    let h = c.in_ok-head.head.counts in
    let read = c.read_body.ensures.criticality_after in
    rw (passed_on c.from_residual-in_err-sinks.result c.from_residual-in_err-sinks.ensures.1)
    (record {
      criticality_after = (
        0,
        text_read c.args.text.now c.in_ok-head.was c.read_head.ensures.value read.0 l.kind l.capacity l.first_edge l.edge_target l.source l.first_sink l.sink
            l.delay l.criticality c.read_body.result read.1 (ap (job_lines h.nodes h.edges h.nets h.terms) (sym c.in_err-sinks.was)),
      );
      job_place = tt;
    })

pub returns : goal.returns
returns c =
    let l = c.read_body.new in
    let h = c.in_ok-head.head.counts in
    let read = c.read_body.ensures.criticality_after in
    let is = ap (job_lines h.nodes h.edges h.nets h.terms) (sym c.in_ok-sinks.was) in record {
      criticality_after = (
        read.0,
        text_read c.args.text.now c.in_ok-head.was c.read_head.ensures.value read.0 l.kind l.capacity l.first_edge l.edge_target l.source l.first_sink l.sink l.delay
            l.criticality c.read_body.result read.1 is,
      );
      job_place =
          job_place h.nodes h.edges h.nets h.terms l.first_sink (body_place c.args.text.now c.in_ok-head.was c.read_head.ensures.head_read_place).0
          c.read_body.result is c.read_body.ensures.nets_end;
    }
