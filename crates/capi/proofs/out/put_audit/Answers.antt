-- `out::put_audit` meets its contract: the outcome's numbers, then the call's own.
-- Assumes nothing.
use Rattle.std.proofs.Common.{◌≡◌, ◌∙◌, ap}
use Rattle.job.specs.Tables.{numbers_if}
use Rattle.negotiation.specs.Outcome.{route_refusal}
use Rattle.capi.specs.Calls.{padded}
use Rattle.capi.proofs.PutLaws.{three_told}
use Rattle.capi.proofs.out.put_audit.Goals as goal

pub returns : goal.returns
returns c =
    let r = c.args.r in
    let three : padded 3 (numbers_if c.refusal.result) ≡ padded 3 (route_refusal r.outcome 0 0) =
    ap (padded 3) c.refusal.ensures ∙ three_told (route_refusal r.outcome 0 0) in
    rw (← c.least_of.ensures) (rw three at c.put.ensures)
