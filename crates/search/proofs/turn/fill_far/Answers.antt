-- `search::turn::fill_far` meets its contract.
-- Assumes nothing.
use Rattle.search.proofs.turn.TurnMarkLaws.{blank_filled}
use Rattle.search.proofs.turn.fill_far.Goals as goal

pub returns : goal.returns
returns c = blank_filled _ _ c.requires c.fill.ensures
