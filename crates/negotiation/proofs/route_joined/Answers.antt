-- `negotiation::route_joined` meets its contract: refusal 7 by its law, the run by the negotiation's contract.
-- Assumes nothing.
use mathlib.Core.Path.{◌≡◌, sym}
use native.Mathlib.Nat.{le_of_eq, le_trans}
use native.Mathlib.Omega.{arith}
use Rattle.search.proofs.BlockLaws.{kinds-few}
use Rattle.job.specs.Job.{Job}
use Rattle.job.specs.Job.{job_in}
use Rattle.negotiation.specs.Steps.{missing, reach_numbers}
use Rattle.negotiation.proofs.RefusalLaws.{refused-counts}
use Rattle.negotiation.proofs.RouteLaws.{unreachable_refused, none-missing, run_answered}
use Rattle.negotiation.proofs.route_joined.Goals.{After-unreachable}
use Rattle.negotiation.proofs.route_joined.Goals as goal

-- the job that is lent
abbrev job : After-unreachable → Job
job u =
    job_in u.args.job.now

test : (u : After-unreachable) → reach_numbers u.unreachable.result ≡ missing (job u)
test u = u.unreachable.ensures.first_missing

pub unreachable-requires : goal.unreachable-requires
unreachable-requires c = c.requires

pub overflow_mul-job : goal.overflow_mul-job
overflow_mul-job c =
    let few = kinds-few c.args.job.now.block.kind.now c.requires.0.block-sound.kinds_sound_lem in
    omega arith

pub negotiate-requires : goal.negotiate-requires
negotiate-requires c =
    let at = (goal.at.negotiate-requires c).After-unreachable in
    (c.requires.0, none-missing (job at) _ (test at) c.in-None.is, le_trans c.requires.1 (le_of_eq (sym c.unreachable.ensures.same_from.long)))

pub returns-in-Some : goal.returns-in-Some
returns-in-Some c =
    let at = (goal.at.returns-in-Some c).After-unreachable in record {
      answers = unreachable_refused c.args.start (job at) _ _ _ (test at) _ c.unreachable.ensures.same_from
          _ _ _ c.in-Some.is c.refused.ensures c.clear.ensures;
      expanded = refused-counts c.args.aimed (job at) _ c.refused.result c.args.log.now c.refused.ensures;
    }

pub returns-in-None : goal.returns-in-None
returns-in-None c =
    let at = (goal.at.returns-in-None c).After-unreachable in record {
      answers = run_answered c.args.start (job at) _ _ _ (test at) _ c.unreachable.ensures.same_from
          c.negotiate.result c.negotiate.new.work c.negotiate.new.log c.in-None.is c.negotiate.ensures.answers;
      expanded = c.negotiate.ensures.expanded;
    }
