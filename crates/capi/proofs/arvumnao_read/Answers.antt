-- `capi::arvumnao_read` meets its contract: a short `out` is left, else the answer's numbers are written.
-- Assumes nothing.
use Rattle.text.specs.ReadReplies.{tables_of}
use Rattle.capi.proofs.CallLaws.{read_short, read_called}
use Rattle.capi.proofs.arvumnao_read.Goals as goal

pub returns-then-out-lt-OUT_ENTRIES : goal.returns-then-out-lt-OUT_ENTRIES
returns-then-out-lt-OUT_ENTRIES c = read_short _ _ _ c.if-out-lt-OUT_ENTRIES.true

pub returns : goal.returns
returns c =
    let a = c.args in
    let l = c.read_job-answer.new in
    let tables = tables_of a.kind.now a.capacity.now a.first_edge.now a.edge_target.now a.source.now a.first_sink.now a.sink.now
    a.delay.now a.criticality.now in
    let left = tables_of l.kind l.capacity l.first_edge l.edge_target l.source l.first_sink l.sink l.delay l.criticality in
    read_called a.text.now tables a.out.now left _ c.read_job-answer.result c.if-out-lt-OUT_ENTRIES.false c.read_job-answer.ensures.answers c.put_read.ensures
