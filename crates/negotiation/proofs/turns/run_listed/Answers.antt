-- `negotiation::turns::run_listed` meets its contract: the edges are listed by their target, and the run is lent these lists.
-- Assumes nothing.
use Rattle.negotiation.proofs.turns.BackLentLaws.{graph-alone, back_whole}
use Rattle.negotiation.proofs.turns.run_listed.Goals as goal

pub list_by_target-requires : goal.list_by_target-requires
list_by_target-requires c = record { graph = graph-alone _ c.args.job.now.block.capacity.now _ _ c.requires.ready.0.0.block-sound; fitting = c.requires.fitting }

pub run_from-requires : goal.run_from-requires
run_from-requires c = record { ready = c.requires.ready; back_lent = λ aims. back_whole _ _ _ _ c.requires.ready.0.0.block-sound c.list_by_target.ensures }
