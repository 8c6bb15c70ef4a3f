-- `price::historic_cost` meets its contract: the product does not wrap, by the law of its largest value.
-- Assumes nothing.
use native.Mathlib.Omega.{arith}
use Rattle.price.specs.Running.{historic_cost}
use Rattle.price.proofs.RunningHolds.{historic-most}
use Rattle.price.proofs.historic_cost.Goals as goal

pub overflow_mul-result : goal.overflow_mul-result
unfolding historic_cost
overflow_mul-result c =
    let m = historic-most c.requires in
    rw c.congested_cost.ensures (omega arith)

pub returns : goal.returns
unfolding historic_cost
returns c = rw c.congested_cost.ensures
