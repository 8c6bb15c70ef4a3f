-- `price::congested_cost` meets its contract: nothing wraps, by the laws of the largest values.
-- Assumes nothing.
use mathlib.Core.Path.{◌≡◌}
use Prim.Native.Nat.{◌+◌, ◌*◌}
use native.Mathlib.Omega.{arith}
use Rattle.price.specs.Running.{congested_cost}
use Rattle.price.proofs.PriceLaws.{congestion_most}
use Rattle.price.proofs.RunningHolds.{congested-most}
use Rattle.price.proofs.congested_cost.Goals.{After-overuse-over}
use Rattle.price.proofs.congested_cost.Goals as goal

module _ (c : After-overuse-over) where
  is-congested :
      c.base_cost-base.result * (100 + c.args.n.factor * c.overuse-over.result)
      ≡ congested_cost
      c.args.n.kind
      c.args.n.factor
      c.args.n.others
      c.args.n.capacity
  unfolding congested_cost
  is-congested = rw (c.base_cost-base.ensures, c.overuse-over.ensures)

pub overflow_mul-present : goal.overflow_mul-present
overflow_mul-present c =
    let b = c.requires in
    let f = congestion_most _ _ _ b.1 b.2 b.3 in
    rw c.overuse-over.ensures (omega arith)

pub overflow_add-present : goal.overflow_add-present
overflow_add-present c =
    let b = c.requires in
    let f = congestion_most _ _ _ b.1 b.2 b.3 in
    rw c.overuse-over.ensures (omega arith)

pub overflow_mul-result : goal.overflow_mul-result
overflow_mul-result c =
    let b = c.requires in
    let m = congested-most b.0 b.1 b.2 b.3 in
    rw (is-congested (goal.at.overflow_mul-result c).After-overuse-over) (omega arith)

pub returns : goal.returns
returns c = is-congested (goal.at.returns c).After-overuse-over
