-- `negotiation::turns::start_at` meets its contract: what is begun is ready with any log, and what is taken up from the words used stands in the whole log.
-- Of the work slice only first entries change.
-- Assumes nothing.
use mathlib.Core.Path.{refl, sym}
use lib.ListN.{take}
use lib.Seq.{length-take-le}
use Rattle.job.specs.Job.{Job}
use Rattle.job.specs.Job.{job_in}
use Rattle.negotiation.proofs.turns.StartLaws.{begun_over, start_anew, start-beyond, start-taken}
use Rattle.negotiation.proofs.turns.start_at.Goals.{Start}
use Rattle.negotiation.proofs.turns.start_at.Goals as goal

-- the job that is lent
abbrev job : Start → Job
job e =
    job_in e.args.job.now

pub returns-then-log-used : goal.returns-then-log-used
returns-then-log-used c = record { started = start-beyond (job (goal.at.returns-then-log-used c).Start) c.args.start c.args.log.now _ c.in-Some.is c.if-log-used.true _ _ _ _ _ _; same_from = record { long = refl; high = λ k l. refl } }

pub slice_bounds-take_up-end : goal.slice_bounds-take_up-end
slice_bounds-take_up-end c = sym (length-take-le _ _ c.if-log-used.false)

pub take_up-requires : goal.take_up-requires
take_up-requires c =
    (c.requires.0, c.requires.1, begun_over (job (goal.at.take_up-requires c).Start) c.requires.2 (take c.in-Some.used c.args.log.now))

pub returns-in-None : goal.returns-in-None
returns-in-None c = record { started = start_anew (job (goal.at.returns-in-None c).Start) c.args.start c.args.log.now c.in-None.is c.requires.2; same_from = record { long = refl; high = λ k l. refl } }

pub shape_of-history : goal.shape_of-history
shape_of-history c = c.take_up.auto.history

pub shape_of-users : goal.shape_of-users
shape_of-users c = c.take_up.auto.users

pub shape_of-in_tree : goal.shape_of-in_tree
shape_of-in_tree c = c.take_up.auto.in_tree

pub shape_of-tree_from : goal.shape_of-tree_from
shape_of-tree_from c = c.take_up.auto.tree_from

pub shape_of-tree_to : goal.shape_of-tree_to
shape_of-tree_to c = c.take_up.auto.tree_to

pub shape_of-due : goal.shape_of-due
shape_of-due c = c.take_up.auto.due

pub shape_of-work : goal.shape_of-work
shape_of-work c = c.take_up.auto.work

pub returns-else-log-used : goal.returns-else-log-used
returns-else-log-used c = record {
  started = start-taken (job (goal.at.returns-else-log-used c).Start) c.args.start c.args.log.now _ c.in-Some.is c.if-log-used.false
      c.requires.0 c.take_up.result _ _ _ _ _ _ c.take_up.ensures.taken;
  same_from = c.take_up.ensures.same_from;
}
