-- Kinds 0 to 15 keep document 01's base costs, and so their prices.
-- Assumes nothing.
use mathlib.Core.Path.{◌≡◌, refl, sym, ◌∙◌, ap}
use Prim.Native.Nat.{ℕ, ◌<◌}
use lib.ListN.{get_or}
use Rattle.price.specs.Lists.{up_to}
use Rattle.price.specs.Prices.{base_cost, price_of}
use Rattle.price.specs.OlderKinds.{older_costs, OlderKept}
use Rattle.price.proofs.ListLaws.{get_or_up_to}

-- the sixteen costs, worked out
computed : up_to base_cost 16 ≡ older_costs
unfolding up_to base_cost
computed = refl

older_cost : (kind : ℕ) → kind < 16 → base_cost kind ≡ get_or older_costs kind 0
older_cost kind l = sym (get_or_up_to base_cost 16 kind 0 l) ∙ ap (λ cs. get_or cs kind 0) computed

pub older_kept : OlderKept
unfolding price_of
older_kept = record { base-costs = older_cost; prices = λ k f o c h l. rw (older_cost k l) }
