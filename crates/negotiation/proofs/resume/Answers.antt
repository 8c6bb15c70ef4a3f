-- `negotiation::resume` meets its contract: a run from the words used, and what is promised of it.
-- Assumes nothing.
use Rattle.job.specs.Job.{Job}
use Rattle.job.specs.Job.{job_in}
use Rattle.negotiation.specs.Outcome.{route_reply_of}
use Rattle.negotiation.proofs.RouteLaws.{resume_answered}
use Rattle.negotiation.proofs.resume.Goals.{Start}
use Rattle.negotiation.proofs.resume.Goals as goal

-- the job that is lent
abbrev job : Start → Job
job e =
    job_in e.args.job.now

pub returns : goal.returns
returns c = record {
  resumed = resume_answered (job (goal.at.returns c).Start) c.args.used c.args.work.now c.args.log.now
      (route_reply_of c.routed_from.result c.routed_from.new.work c.routed_from.new.log) c.routed_from.ensures.answers;
  expanded = c.routed_from.ensures.expanded;
}
