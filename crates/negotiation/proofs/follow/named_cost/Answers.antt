-- `negotiation::follow::named_cost` meets its contract: two words below 2^32.
-- Assumes nothing.
use Prim.Native.Nat.{◌+◌}
use native.Mathlib.Omega.{arith}
use Rattle.negotiation.proofs.follow.TurnTestLaws.{cost_named}
use Rattle.negotiation.proofs.follow.named_cost.Goals as goal

pub overflow_cast-result : goal.overflow_cast-result
overflow_cast-result c = omega (arith, c.type_inv.log (c.args.at + 3))

pub overflow_cast-result-2 : goal.overflow_cast-result-2
overflow_cast-result-2 c = omega (arith, c.type_inv.log (c.args.at + 4))

pub overflow_mul-result : goal.overflow_mul-result
overflow_mul-result c = omega (arith, c.type_inv.log (c.args.at + 4))

pub overflow_add-result-3 : goal.overflow_add-result-3
overflow_add-result-3 c =
    omega (arith, c.type_inv.log (c.args.at + 3), c.type_inv.log (c.args.at + 4))

pub returns : goal.returns
returns c = cost_named c.args.log.now c.args.at
