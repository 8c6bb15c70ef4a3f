-- `price::base_cost` meets its contract: each arm by the law of its case.
-- Assumes nothing.
use mathlib.Core.Path.{sym, ◌∙◌, ap}
use Prim.Native.Nat.{◌*◌}
use Rattle.std.proofs.Common.{rules}
use Rattle.price.proofs.PriceLaws.{base_input, base_pin, base-wire}
use Rattle.price.proofs.base_cost.Goals.{else-kind-lt3, then-kind-lt3}
use Rattle.price.proofs.base_cost.Goals as goal

pub returns-in-3 : goal.returns-in-3
returns-in-3 c = sym (base_input _ c.in-3.is)

pub returns-in-0 : goal.returns-in-0
returns-in-0 c = sym (base_pin _ (search rules))

pub returns-in-4-to-53 : goal.returns-in-4-to-53
returns-in-4-to-53 c =
    (elim c.if-kind-lt3.branch [ then-kind-lt3 w ↦ search rules | else-kind-lt3 w ↦ ap (λ t. 20 * t) w.tiles-is ∙ sym (base-wire _ (search rules)) ])
