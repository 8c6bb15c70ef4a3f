-- `negotiation::turns::run_aimed` meets its contract: the arrays' parts that it lends have the tables' lengths, and hold 0.
-- Assumes nothing.
use Prim.Native.Nat.{◌+◌, ◌≤◌}
use lib.ListN.{length}
use Rattle.search.specs.Tables.{edges_most}
use Rattle.negotiation.proofs.turns.BackLentLaws.{part-long, firsts_fit, sources_fit, parts_fit}
use Rattle.negotiation.proofs.turns.run_aimed.Goals.{Start}
use Rattle.negotiation.proofs.turns.run_aimed.Goals as goal

-- the arrays are long enough
few-firsts : (e : Start) → length e.args.job.now.block.kind.now + 1 ≤ 4097
few-firsts e = firsts_fit _ _ _ _ e.requires.0.0.block-sound

few-sources : (e : Start) → length e.args.job.now.block.edge_target.now ≤ edges_most
few-sources e = sources_fit _ _ _ _ e.requires.0.0.block-sound

pub slice_bounds-first_back-end : goal.slice_bounds-first_back-end
slice_bounds-first_back-end c = few-firsts (goal.at.slice_bounds-first_back-end c).Start

pub slice_bounds-run_listed-end : goal.slice_bounds-run_listed-end
slice_bounds-run_listed-end c = part-long _ 4097 (few-firsts (goal.at.slice_bounds-run_listed-end c).Start)

pub slice_bounds-back_source-end : goal.slice_bounds-back_source-end
slice_bounds-back_source-end c = few-sources (goal.at.slice_bounds-back_source-end c).Start

pub slice_bounds-run_listed-end-2 : goal.slice_bounds-run_listed-end-2
slice_bounds-run_listed-end-2 c = part-long _ 32768 (few-sources (goal.at.slice_bounds-run_listed-end-2 c).Start)

pub run_listed-requires : goal.run_listed-requires
run_listed-requires c = record { ready = c.requires; fitting = parts_fit _ _ _ _ c.requires.0.0.block-sound 4097 (few-firsts (goal.at.run_listed-requires c).Start) 32768 (few-sources (goal.at.run_listed-requires c).Start) }
