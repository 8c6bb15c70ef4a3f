-- `capi::route_by` meets its contract: a short `out` is left, else what the router answers is written.
-- Assumes nothing.
use mathlib.Core.List.{[]}
use Rattle.job.specs.Job.{job_in}
use Rattle.negotiation.specs.Outcome.{route_reply}
use Rattle.capi.proofs.CallLaws.{route_short, route_called}
use Rattle.capi.proofs.route_by.Goals as goal

pub returns-then-out-lt-OUT_ENTRIES : goal.returns-then-out-lt-OUT_ENTRIES
returns-then-out-lt-OUT_ENTRIES c = route_short _ _ _ _ _ c.if-out-lt-OUT_ENTRIES.true

pub returns : goal.returns
returns c =
    let job = job_in c.args.job.now in
    let answer = c.route.ensures in
    route_called (route_reply job _ _) _ _ _ _ _ _ c.route.result c.args.aimed job [] c.if-out-lt-OUT_ENTRIES.false
    answer.demand.as_negotiated answer.expanded c.put_routed.ensures
