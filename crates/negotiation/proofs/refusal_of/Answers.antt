-- `negotiation::refusal_of` meets its contract: its tests, one by one.
-- Assumes nothing.
use mathlib.Core.Path.{◌≡◌, sym, ◌∙◌}
use Prim.Native.Nat.{◌≤◌}
use native.Mathlib.Omega.{arith}
use lib.ListN.{length}
use Rattle.search.proofs.BlockLaws.{kinds-few}
use Rattle.job.specs.Job.{Job}
use Rattle.job.specs.Job.{job_in}
use Rattle.job.specs.Tables.{faulty_job}
use Rattle.job.proofs.JobLaws.{sound-job}
use Rattle.search.proofs.TestedLaws.{tested_none}
use Rattle.negotiation.proofs.RefusalLaws.{bad_told, large_told, work-told, nothing_told}
use Rattle.negotiation.proofs.refusal_of.Goals.{In_ok-faulty_job, Start}
use Rattle.negotiation.proofs.refusal_of.Goals as goal

-- the job that is lent
abbrev job : Start → Job
job e =
    job_in e.args.job.now

-- no table is faulty
none : (c : In_ok-faulty_job) → 0 ≡ faulty_job (job_in c.args.job.now)
none c = sym (tested_none _ (sym c.faulty_job.ensures ∙ c.in_ok-faulty_job.was))

few-nodes : (c : In_ok-faulty_job) → length c.args.job.now.block.kind.now ≤ 4096
few-nodes c = kinds-few _ (sound-job _ (sym (none c))).block-sound.kinds_sound_lem

pub returns-in_err-faulty_job : goal.returns-in_err-faulty_job
returns-in_err-faulty_job c =
    bad_told (job (goal.at.returns-in_err-faulty_job c).Start) _ c.from_residual.result (sym c.faulty_job.ensures ∙ c.in_err-faulty_job.was)
    c.from_residual.ensures.1

pub overflow_cast-result : goal.overflow_cast-result
overflow_cast-result c = let f = few-nodes (goal.at.overflow_cast-result c).In_ok-faulty_job in omega arith

pub returns-then-exceeds : goal.returns-then-exceeds
returns-then-exceeds c =
    let at = goal.at.returns-then-exceeds c in
    large_told (job at.Start) _ 0 (none at.In_ok-faulty_job) (omega arith) (sym c.exceeds.ensures ∙ c.if-exceeds.true)

pub overflow_mul-needed : goal.overflow_mul-needed
overflow_mul-needed c = let f = few-nodes (goal.at.overflow_mul-needed c).In_ok-faulty_job in omega arith

pub returns-then-entries-needed : goal.returns-then-entries-needed
returns-then-entries-needed c =
    let at = goal.at.returns-then-entries-needed c in
    work-told (job at.Start) _ 0 (none at.In_ok-faulty_job) (omega arith) (sym c.exceeds.ensures ∙ c.if-exceeds.false) c.if-entries-needed.true

pub returns : goal.returns
returns c =
    let at = goal.at.returns c in
    nothing_told (job at.Start) _ 0 (none at.In_ok-faulty_job) (omega arith) (sym c.exceeds.ensures ∙ c.if-exceeds.false) c.if-entries-needed.false
