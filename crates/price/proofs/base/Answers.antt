-- `price::base` meets its contract: the lesser of the two is a kind at most.
-- Assumes nothing.
use mathlib.Core.Path.{sym}
use native.Mathlib.Nat.{min-le_right}
use Rattle.price.proofs.base.Goals as goal

pub base_cost-requires : goal.base_cost-requires
base_cost-requires c = rw c.min.ensures (min-le_right _ _)

pub returns : goal.returns
returns c = rw (sym c.min.ensures) c.base_cost.ensures
