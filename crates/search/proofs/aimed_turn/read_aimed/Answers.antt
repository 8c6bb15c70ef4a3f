-- `search::aimed_turn::read_aimed` meets its contract: with no cost the work slice is cleared, else the predecessors are moved, the path is read off and the rest cleared.
-- Assumes nothing.
use mathlib.Core.Path.{refl}
use Rattle.search.specs.AimedTurn.{none, reads}
use Rattle.search.proofs.AimedTurnLaws.{all-cleared}
use Rattle.search.proofs.aimed_turn.read_aimed.Goals as goal

pub returns-then-cost : goal.returns-then-cost
returns-then-cost c = none c.if-cost.true refl refl (all-cleared _ _ c.fill.ensures)

pub read_path-joins-requires : goal.read_path-joins-requires
read_path-joins-requires c =
    c.requires.found c.if-cost.false _ c.move_predecessors.ensures

pub returns : goal.returns
returns c =
    reads c.if-cost.false _ _ c.move_predecessors.ensures _ refl c.read_path-joins.ensures refl c.fill-2.ensures
