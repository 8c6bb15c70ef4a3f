-- `capi::resume_by` meets its contract: a short `out` is left, else what the resumed run answers is written.
-- Assumes nothing.
use lib.ListN.{take}
use Rattle.job.specs.Job.{job_in}
use Rattle.negotiation.specs.Records.{decode}
use Rattle.negotiation.specs.Resume.{resume_reply}
use Rattle.capi.proofs.CallLaws.{route_short, route_called}
use Rattle.capi.proofs.resume_by.Goals as goal

pub returns-then-out-lt-OUT_ENTRIES : goal.returns-then-out-lt-OUT_ENTRIES
returns-then-out-lt-OUT_ENTRIES c = route_short _ _ _ _ _ c.if-out-lt-OUT_ENTRIES.true

pub returns : goal.returns
returns c =
    let a = c.args in
    let job = job_in a.job.now in
    let answer = c.resume.ensures in
    route_called (resume_reply job a.used _ _) _ _ _ _ _ _ c.resume.result a.aimed job (decode (take a.used a.log.now))
    c.if-out-lt-OUT_ENTRIES.false answer.resumed.as_resumed answer.expanded c.put_routed.ensures
