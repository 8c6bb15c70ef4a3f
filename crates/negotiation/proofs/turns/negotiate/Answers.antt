-- `negotiation::turns::negotiate` meets its contract: the arrays' parts that it lends are the lists of a run that begins.
-- Assumes nothing.
use mathlib.Core.List.{List}
use mathlib.Core.Path.{refl, sym}
use Prim.Native.Nat.{ℕ, ◌≤◌}
use lib.ListN.{length, take, replicate}
use lib.Seq.{length-take-le}
use Rattle.search.proofs.BlockLaws.{kinds-few}
use Rattle.job.specs.Job.{Job, nodes, nets}
use Rattle.job.specs.Job.{job_in}
use Rattle.negotiation.specs.Records.{encode}
use Rattle.negotiation.specs.Outcome.{first_progress}
use Rattle.negotiation.specs.Kept.{Ready}
use Rattle.negotiation.proofs.KeepStart.{take-replicate, begun_ready}
use Rattle.negotiation.proofs.turns.negotiate.Goals.{Start}
use Rattle.negotiation.proofs.turns.negotiate.Goals as goal

module _ (e : Start) where
  few-nodes : length e.args.job.now.block.kind.now ≤ 4096
  few-nodes = kinds-few _ e.requires.0.block-sound.kinds_sound_lem

  few-nets : length e.args.job.now.source.now ≤ 512
  few-nets = e.requires.0.nets-few

  abbrev job : Job
  job =
      job_in e.args.job.now

  -- what is lent is ready for a run that begins
  ready :
      (log : List ℕ)
      → Ready job (first_progress job) (record { iteration = 1; factor = 0; turns = 0; words = 0; aimed = e.args.aimed; expanded = 0 }) (take (nodes job) (replicate 4096 1)) (take (nodes job) (replicate 4096 0))
      (take (nodes job) (replicate 4096 0)) (take (nets job) (replicate 512 0)) (take (nets job) (replicate 512 0)) (take (nets job) (replicate 512 0)) log
  ready log =
      begun_ready job e.requires.0
      (record {
        iteration-is = refl;
        factor-is = refl;
        turns-is = refl;
        words-is = refl;
        history_is = take-replicate _ 4096 1 few-nodes;
        users-is = take-replicate _ 4096 0 few-nodes;
        no_marks = take-replicate _ 4096 0 few-nodes;
        from_is = take-replicate _ 512 0 few-nets;
        to_is = take-replicate _ 512 0 few-nets;
        due-long = length-take-le _ (replicate 512 0) few-nets;
      })
      log

pub slice_bounds-history-end : goal.slice_bounds-history-end
slice_bounds-history-end c = few-nodes (goal.at.slice_bounds-history-end c).Start

pub slice_bounds-run_chosen-end : goal.slice_bounds-run_chosen-end
slice_bounds-run_chosen-end c = sym (length-take-le _ _ (few-nodes (goal.at.slice_bounds-run_chosen-end c).Start))

pub slice_bounds-users-end : goal.slice_bounds-users-end
slice_bounds-users-end c = few-nodes (goal.at.slice_bounds-users-end c).Start

pub slice_bounds-run_chosen-end-2 : goal.slice_bounds-run_chosen-end-2
slice_bounds-run_chosen-end-2 c = sym (length-take-le _ _ (few-nodes (goal.at.slice_bounds-run_chosen-end-2 c).Start))

pub slice_bounds-in_tree-end : goal.slice_bounds-in_tree-end
slice_bounds-in_tree-end c = few-nodes (goal.at.slice_bounds-in_tree-end c).Start

pub slice_bounds-run_chosen-end-3 : goal.slice_bounds-run_chosen-end-3
slice_bounds-run_chosen-end-3 c = sym (length-take-le _ _ (few-nodes (goal.at.slice_bounds-run_chosen-end-3 c).Start))

pub slice_bounds-tree_from-end : goal.slice_bounds-tree_from-end
slice_bounds-tree_from-end c = few-nets (goal.at.slice_bounds-tree_from-end c).Start

pub slice_bounds-run_chosen-end-4 : goal.slice_bounds-run_chosen-end-4
slice_bounds-run_chosen-end-4 c = sym (length-take-le _ _ (few-nets (goal.at.slice_bounds-run_chosen-end-4 c).Start))

pub slice_bounds-tree_to-end : goal.slice_bounds-tree_to-end
slice_bounds-tree_to-end c = few-nets (goal.at.slice_bounds-tree_to-end c).Start

pub slice_bounds-run_chosen-end-5 : goal.slice_bounds-run_chosen-end-5
slice_bounds-run_chosen-end-5 c = sym (length-take-le _ _ (few-nets (goal.at.slice_bounds-run_chosen-end-5 c).Start))

pub slice_bounds-due-end : goal.slice_bounds-due-end
slice_bounds-due-end c = few-nets (goal.at.slice_bounds-due-end c).Start

pub slice_bounds-run_chosen-end-6 : goal.slice_bounds-run_chosen-end-6
slice_bounds-run_chosen-end-6 c = sym (length-take-le _ _ (few-nets (goal.at.slice_bounds-run_chosen-end-6 c).Start))

-- the counts stand apart: an edit of one fails at its own equation
pub run_chosen-requires : goal.run_chosen-requires
unfolding encode
run_chosen-requires c =
    let r = ready (goal.at.run_chosen-requires c).Start c.args.log.now in (
      c.requires,
      record {
        can = r.can;
        iteration-is = r.iteration-is;
        factor-is = r.factor-is;
        kept = r.kept;
        due-long = r.due-long;
        tallied = record { turns-is = refl; words-is = refl; log_is = r.tallied.log_is; fits = r.tallied.fits };
      },
    )

pub returns : goal.returns
returns c = c.run_chosen.ensures
