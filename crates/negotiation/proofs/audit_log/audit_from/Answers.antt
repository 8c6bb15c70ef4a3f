-- `negotiation::audit_log::audit_from` meets its contract: more words used than the log has are 14, the others go by what the log comes to.
-- Assumes nothing.
use mathlib.Core.Path.{refl, sym}
use Prim.Native.Nat.{◌≤◌}
use native.Mathlib.Omega.{arith}
use lib.ListN.{length}
use lib.Seq.{length-take-le}
use Rattle.search.proofs.BlockLaws.{kinds-few}
use Rattle.job.specs.Job.{Job}
use Rattle.job.specs.Job.{job_in}
use Rattle.negotiation.proofs.audit_log.AuditLogLaws.{beyond_audited, taken_audited}
use Rattle.negotiation.proofs.audit_log.audit_from.Goals.{Start}
use Rattle.negotiation.proofs.audit_log.audit_from.Goals as goal

-- the job that is lent
abbrev job : Start → Job
job e = job_in e.args.job.now

few-nodes : (e : Start) → length e.args.job.now.block.kind.now ≤ 4096
few-nodes e = kinds-few _ e.requires.0.block-sound.kinds_sound_lem

pub overflow_mul-job : goal.overflow_mul-job
overflow_mul-job c = let few = few-nodes (goal.at.overflow_mul-job c).Start in omega arith

pub returns-then-log-used : goal.returns-then-log-used
returns-then-log-used c =
    beyond_audited (job (goal.at.returns-then-log-used c).Start) c.args.used c.args.work.now c.args.log.now c.args.work.now _ (record { long = refl; high = λ k l. refl })
    c.clear.ensures c.if-log-used.true c.refused.result c.refused.ensures

pub slice_bounds-take_up-end : goal.slice_bounds-take_up-end
slice_bounds-take_up-end c = sym (length-take-le _ _ c.if-log-used.false)

pub overflow_mul-job-2 : goal.overflow_mul-job-2
overflow_mul-job-2 c = let few = few-nodes (goal.at.overflow_mul-job-2 c).Start in omega arith

pub clear-requires-2 : goal.clear-requires-2
clear-requires-2 c =
    let enough = c.requires.1 in
    let same = c.take_up-taken.ensures.same_from.long in
    omega arith

pub returns : goal.returns
returns c =
    taken_audited (job (goal.at.returns c).Start) c.args.used c.args.work.now c.args.log.now _ _ c.take_up-taken.ensures.same_from c.clear-2.ensures
    c.if-log-used.false c.take_up-taken.result _ _ _ _ _ _ c.take_up-taken.ensures.taken c.answer.result c.answer.ensures
