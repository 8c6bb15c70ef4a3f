-- `negotiation::audit_log::audit_lists` meets its contract: the arrays' parts that it lends are the lists of a run that begins.
-- Assumes nothing.
use mathlib.Core.Bool.{false}
use mathlib.Core.List.{List}
use mathlib.Core.Path.{refl, sym}
use Prim.Native.Nat.{ℕ, ◌≤◌}
use lib.ListN.{length, take, replicate}
use lib.Seq.{length-take-le}
use Rattle.search.proofs.BlockLaws.{kinds-few}
use Rattle.job.specs.Job.{Job, nodes, nets}
use Rattle.job.specs.Job.{job_in}
use Rattle.negotiation.specs.Outcome.{first_progress}
use Rattle.negotiation.specs.Kept.{Ready}
use Rattle.negotiation.proofs.KeepStart.{take-replicate, begun_ready}
use Rattle.negotiation.proofs.audit_log.audit_lists.Goals.{Start}
use Rattle.negotiation.proofs.audit_log.audit_lists.Goals as goal

module _ (e : Start) where
  few-nodes : length e.args.job.now.block.kind.now ≤ 4096
  few-nodes = kinds-few _ e.requires.0.block-sound.kinds_sound_lem

  few-nets : length e.args.job.now.source.now ≤ 512
  few-nets = e.requires.0.nets-few

  abbrev job : Job
  job = job_in e.args.job.now

  -- what is lent is ready for a run that begins
  ready :
      (log : List ℕ)
      → Ready job (first_progress job) (record { iteration = 1; factor = 0; turns = 0; words = 0; aimed = false; expanded = 0 }) (take (nodes job) (replicate 4096 1)) (take (nodes job) (replicate 4096 0))
      (take (nodes job) (replicate 4096 0)) (take (nets job) (replicate 512 0)) (take (nets job) (replicate 512 0)) (take (nets job) (replicate 512 0)) log
  ready log =
      begun_ready job e.requires.0
      (record {
        iteration-is = refl;
        factor-is = refl;
        turns-is = refl;
        words-is = refl;
        history_is = take-replicate _ 4096 1 few-nodes;
        users-is = take-replicate _ 4096 0 few-nodes;
        no_marks = take-replicate _ 4096 0 few-nodes;
        from_is = take-replicate _ 512 0 few-nets;
        to_is = take-replicate _ 512 0 few-nets;
        due-long = length-take-le _ (replicate 512 0) few-nets;
      })
      log

pub slice_bounds-history-end : goal.slice_bounds-history-end
slice_bounds-history-end c = few-nodes (goal.at.slice_bounds-history-end c).Start

pub slice_bounds-audit_from-end : goal.slice_bounds-audit_from-end
slice_bounds-audit_from-end c = sym (length-take-le _ _ (few-nodes (goal.at.slice_bounds-audit_from-end c).Start))

pub slice_bounds-users-end : goal.slice_bounds-users-end
slice_bounds-users-end c = few-nodes (goal.at.slice_bounds-users-end c).Start

pub slice_bounds-audit_from-end-2 : goal.slice_bounds-audit_from-end-2
slice_bounds-audit_from-end-2 c = sym (length-take-le _ _ (few-nodes (goal.at.slice_bounds-audit_from-end-2 c).Start))

pub slice_bounds-in_tree-end : goal.slice_bounds-in_tree-end
slice_bounds-in_tree-end c = few-nodes (goal.at.slice_bounds-in_tree-end c).Start

pub slice_bounds-audit_from-end-3 : goal.slice_bounds-audit_from-end-3
slice_bounds-audit_from-end-3 c = sym (length-take-le _ _ (few-nodes (goal.at.slice_bounds-audit_from-end-3 c).Start))

pub slice_bounds-audit_from-end-4 : goal.slice_bounds-audit_from-end-4
slice_bounds-audit_from-end-4 c = sym (length-take-le _ _ (few-nets (goal.at.slice_bounds-audit_from-end-4 c).Start))

pub slice_bounds-audit_from-end-5 : goal.slice_bounds-audit_from-end-5
slice_bounds-audit_from-end-5 c = sym (length-take-le _ _ (few-nets (goal.at.slice_bounds-audit_from-end-5 c).Start))

pub slice_bounds-audit_from-end-6 : goal.slice_bounds-audit_from-end-6
slice_bounds-audit_from-end-6 c = sym (length-take-le _ _ (few-nets (goal.at.slice_bounds-audit_from-end-6 c).Start))

pub audit_from-requires : goal.audit_from-requires
audit_from-requires c =
    (c.requires.0, c.requires.1, ready (goal.at.audit_from-requires c).Start (take c.args.used c.args.log.now))
