-- `flow::route_job` meets its contract: the words used fit the log, and a refusal's numbers are the router's or the writer's.
-- Assumes nothing.
use mathlib.Core.Path.{◌∙◌, sym}
use lib.Seq.{length-take-le}
use Rattle.std.proofs.Common.{Ok, Err}
use Rattle.std.proofs.lemmas.Result.{err_from_is_err_and}
use Rattle.job.specs.Job.{job_in}
use Rattle.flow.proofs.RunLaws.{words_fit, run_accepted, run_refused, write_refused}
use Rattle.flow.proofs.route_job.Goals as goal

pub slice_bounds-write_style-end : goal.slice_bounds-write_style-end
slice_bounds-write_style-end c =
    let r = c.route-r in
    words_fit (job_in c.args.job.now) c.args.work.now c.args.log.now r.result r.new.work r.new.log r.ensures.demand.as_negotiated

pub slice_bounds-write_style-end-in-None : goal.slice_bounds-write_style-end-in-None
slice_bounds-write_style-end-in-None c =
    let r = c.route-r in
    sym (length-take-le _ _ (words_fit (job_in c.args.job.now) c.args.work.now c.args.log.now r.result r.new.work r.new.log r.ensures.demand.as_negotiated))

pub returns-in-Some : goal.returns-in-Some
returns-in-Some c =
    let a = c.args in
    let r = c.route-r in
    run_refused (job_in a.job.now) a.work.now a.log.now r.result r.new.work r.new.log r.ensures.demand.as_negotiated
    a.style a.routes.now c.in-Some.refused c.in-Some.ensures

pub returns-in_err-write_style-in-None : goal.returns-in_err-write_style-in-None
returns-in_err-write_style-in-None c =
    let a = c.args in
    let r = c.route-r in
    let p = err_from_is_err_and c.from_residual.result c.from_residual.ensures.1 in
    rw p.1
    (run_accepted (job_in a.job.now) a.work.now a.log.now r.result r.new.work r.new.log r.ensures.demand.as_negotiated
    a.style a.routes.now (Err p.0) c.write_style.new.buffer c.in-None.ensures
    (write_refused p.0 p.2 c.write_style.new.buffer ∙ c.in_err-write_style-in-None.ensures.answers))

pub returns-in_ok-write_style-in-None : goal.returns-in_ok-write_style-in-None
returns-in_ok-write_style-in-None c =
    let a = c.args in
    let r = c.route-r in
    run_accepted (job_in a.job.now) a.work.now a.log.now r.result r.new.work r.new.log r.ensures.demand.as_negotiated
    a.style a.routes.now (Ok c.in_ok-write_style-in-None.field-0) c.write_style.new.buffer c.in-None.ensures c.in_ok-write_style-in-None.ensures.answers
