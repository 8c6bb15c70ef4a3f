-- `search::estimate::wait_to_spread` meets its contract.
-- Assumes nothing.
use mathlib.Core.Logic.{inl}
use mathlib.Core.Path.{refl}
use Rattle.search.specs.Estimates.{no_edge}
use Rattle.search.proofs.estimate.GiveLaws.{lined_up}
use Rattle.search.proofs.estimate.wait_to_spread.Goals as goal

pub returns-then-back-u : goal.returns-then-back-u
returns-then-back-u c = (no_edge c.if-back-u.true refl refl refl, inl refl)

pub returns : goal.returns
returns c =
    lined_up _ _ _ _ _ _ c.requires.0 c.requires.2 c.base.ensures c.add.ensures.0 c.add.ensures.1
