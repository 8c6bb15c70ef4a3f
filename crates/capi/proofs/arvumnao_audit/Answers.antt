-- `capi::arvumnao_audit` meets its contract: a short `out` is left, else what the audit answers is written.
-- Assumes nothing.
use Rattle.job.specs.Job.{job_of}
use Rattle.negotiation.specs.Audit.{audit_reply}
use Rattle.capi.specs.Calls.{terms_of}
use Rattle.capi.proofs.CallLaws.{audit_short, audit_called}
use Rattle.capi.proofs.arvumnao_audit.Goals as goal

pub returns-then-out-lt-OUT_ENTRIES : goal.returns-then-out-lt-OUT_ENTRIES
returns-then-out-lt-OUT_ENTRIES c = audit_short _ _ _ c.if-out-lt-OUT_ENTRIES.true

pub returns : goal.returns
returns c =
    let a = c.args in
    let job =
    job_of a.kind.now a.capacity.now a.first_edge.now a.edge_target.now a.source.now a.first_sink.now a.sink.now
    a.delay.now a.criticality.now (terms_of a.terms.now) in
    let answers = rw c.terms_of.ensures at c.audit.ensures.audited.as_audited in
    audit_called (audit_reply job a.used _ _) _ _ _ _ c.audit.result c.if-out-lt-OUT_ENTRIES.false answers c.put_audit.ensures
