-- `negotiation::turns::run_from` meets its contract: a run that goes on does so from the progress of its start, and a log that is turned away is 14.
-- Assumes nothing.
use mathlib.Core.List.{List}
use mathlib.Core.Path.{◌∙◌, sym, ap}
use Prim.Native.Nat.{ℕ, ◌*◌, ◌≤◌}
use native.Mathlib.Omega.{arith}
use lib.ListN.{length}
use Rattle.search.proofs.BlockLaws.{kinds-few}
use Rattle.job.specs.Job.{Job}
use Rattle.job.specs.Job.{job_in}
use Rattle.negotiation.specs.Outcome.{RouteReply, route_reply_of, turns_logged}
use Rattle.negotiation.specs.declared.tariff.Tariff.{Tariff}
use Rattle.negotiation.proofs.RefusalLaws.{refused-counts}
use Rattle.negotiation.proofs.turns.StartLaws.{start_some_ready, start-ran, start-counts, turned_away_lem}
use Rattle.negotiation.proofs.turns.run_from.Goals.{After-start_at, Start}
use Rattle.negotiation.proofs.turns.run_from.Goals as goal

-- the job that is lent
abbrev job : Start → Job
job e =
    job_in e.args.job.now

-- what it leaves in the work slice, which is as long as before
abbrev work : After-start_at → List ℕ
work s = s.start_at.new.work

enough : (s : After-start_at) → 8 * length s.args.job.now.block.kind.now ≤ length (work s)
enough s =
    let lent-enough = s.requires.ready.0.2 in
    let long = s.start_at.auto.work in
    omega arith

pub start_at-requires : goal.start_at-requires
start_at-requires c =
    (c.requires.ready.0.0, c.requires.ready.0.2, c.requires.ready.1)

pub overflow_mul-job : goal.overflow_mul-job
overflow_mul-job c =
    let few = kinds-few c.args.job.now.block.kind.now c.requires.ready.0.0.block-sound.kinds_sound_lem in
    omega arith

pub clear-requires : goal.clear-requires
clear-requires c = enough (goal.at.clear-requires c).After-start_at

pub go_on-requires : goal.go_on-requires
go_on-requires c = record {
  ready = (
    (c.requires.ready.0.0, c.requires.ready.0.1, enough (goal.at.go_on-requires c).After-start_at),
    start_some_ready (job (goal.at.go_on-requires c).Start) c.args.start c.args.log.now c.start_at.ensures.started c.in-Ok.is _ c.going_on.ensures,
  );
  back_lent = λ aims. c.requires.back_lent (sym (ap (λ (t : Tariff). t.aimed) c.going_on.ensures) ∙ aims);
}

pub returns-in-Err : goal.returns-in-Err
returns-in-Err c = record {
  answers = turned_away_lem (job (goal.at.returns-in-Err c).Start) c.args.start c.args.log.now _ _ _ _ _ _ c.start_at.ensures.started
      c.in-Err.is _ c.words_at.ensures c.args.work.now (work (goal.at.returns-in-Err c).After-start_at)
      c.start_at.ensures.same_from c.refused.result c.refused.ensures _ c.clear.ensures;
  expanded = refused-counts c.args.begun.aimed (job (goal.at.returns-in-Err c).Start) _ c.refused.result c.args.log.now c.refused.ensures;
}

pub returns : goal.returns
returns c =
    let reply : RouteReply = route_reply_of c.go_on.result c.go_on.new.work c.go_on.new.log in record {
      answers = start-ran (job (goal.at.returns c).Start) c.args.start c.args.log.now c.start_at.ensures.started c.in-Ok.is _ c.going_on.ensures c.args.work.now
          (work (goal.at.returns c).After-start_at) c.start_at.ensures.same_from reply c.go_on.ensures.answers;
      expanded = start-counts (job (goal.at.returns c).Start) c.args.start c.args.log.now c.start_at.ensures.started c.in-Ok.is _ c.going_on.ensures
          c.go_on.result.expanded (turns_logged reply) c.go_on.ensures.expanded;
    }
