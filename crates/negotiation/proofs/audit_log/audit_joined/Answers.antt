-- `negotiation::audit_log::audit_joined` meets its contract: refusal 7 by its law, the log by the contract of the audit.
-- Assumes nothing.
use mathlib.Core.Path.{sym}
use native.Mathlib.Nat.{le_of_eq, le_trans}
use native.Mathlib.Omega.{arith}
use Rattle.search.proofs.BlockLaws.{kinds-few}
use Rattle.job.specs.Job.{Job}
use Rattle.job.specs.Job.{job_in}
use Rattle.negotiation.proofs.audit_log.AuditLogLaws.{unreachable_audited, run_audited}
use Rattle.negotiation.proofs.audit_log.audit_joined.Goals.{After-unreachable}
use Rattle.negotiation.proofs.audit_log.audit_joined.Goals as goal

-- the job that is lent
abbrev job : After-unreachable → Job
job u = job_in u.args.job.now

pub overflow_mul-job : goal.overflow_mul-job
overflow_mul-job c =
    let few = kinds-few c.args.job.now.block.kind.now c.requires.0.block-sound.kinds_sound_lem in
    omega arith

pub audit_lists-requires : goal.audit_lists-requires
audit_lists-requires c =
    (c.requires.0, le_trans c.requires.1 (le_of_eq (sym c.unreachable.ensures.same_from.long)))

pub returns-in-Some : goal.returns-in-Some
returns-in-Some c =
    let tested = (goal.at.returns-in-Some c).After-unreachable in
    unreachable_audited (job tested) c.args.work.now _ c.unreachable.ensures.same_from _ c.unreachable.ensures.first_missing c.args.used c.args.log.now _ _ _
    c.in-Some.is c.refused.ensures c.clear.ensures

pub returns-in-None : goal.returns-in-None
returns-in-None c =
    let tested = (goal.at.returns-in-None c).After-unreachable in
    run_audited (job tested) c.args.work.now _ c.unreachable.ensures.same_from _ c.unreachable.ensures.first_missing c.args.used c.args.log.now _ c.in-None.is
    c.audit_lists.ensures
