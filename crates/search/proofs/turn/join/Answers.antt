-- `search::turn::join` meets its contract: tree and goals are marked, the labels spread until they stop, and the path is read off.
-- Assumes nothing.
use mathlib.Core.Bool.{true}
use Rattle.search.specs.Block.{graph_in}
use Rattle.search.specs.Clamped.{price_read}
use Rattle.search.proofs.JoinLaws.{fitted-lent, goals-room, join_ready, join_halts, join_stuck, join_joins}
use Rattle.search.proofs.HaltLaws.{Halted, halted_found}
use Rattle.search.proofs.turn.join.Goals.{After-settle_all-cost}
use Rattle.search.proofs.turn.join.Goals as goal

pub least_price-last_step-requires : goal.least_price-last_step-requires
least_price-last_step-requires c =
    let f = c.requires in
    (fitted-lent _ _ _ _ f, goals-room _ _ _ _ f c.mark_tree-waits.ensures c.mark_goals.ensures)

pub settle_all-cost-requires : goal.settle_all-cost-requires
settle_all-cost-requires c =
    let f = c.requires in
    (fitted-lent _ _ _ _ f, join_ready _ _ _ _ _ f c.mark_tree-waits.ensures c.mark_goals.ensures c.least_price-last_step.ensures true)

-- the labels have stopped spreading
module _ (c : After-settle_all-cost) where
  halts :
      Halted (graph_in c.args.tables.now) (price_read c.args.tables.now c.args.prices.now)
      c.args.in_tree.now c.args.sinks.now c.args.work.now c.settle_all-cost.new.work c.settle_all-cost.result
  halts =
      join_halts _ _ _ _ _ c.requires c.mark_tree-waits.ensures c.mark_goals.ensures c.least_price-last_step.ensures true
      c.settle_all-cost.ensures

pub returns-then-cost : goal.returns-then-cost
returns-then-cost c =
    join_stuck _ _ _ _ _ (halts (goal.at.returns-then-cost c).After-settle_all-cost) c.if-cost.true c.fill.ensures

pub read_path-requires : goal.read_path-requires
read_path-requires c =
    halted_found (halts (goal.at.read_path-requires c).After-settle_all-cost) c.if-cost.false

pub returns : goal.returns
returns c =
    join_joins _ _ _ _ _ (halts (goal.at.returns c).After-settle_all-cost) c.if-cost.false c.read_path.ensures
