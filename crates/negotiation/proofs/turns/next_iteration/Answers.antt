-- `turns::next_iteration` meets its contract: the iteration's end, then the next one's start.
-- Assumes nothing.
use mathlib.Core.Path.{◌≡◌, sym, ◌∙◌, ap, subst}
use Prim.Native.Nat.{◌+◌, ◌<◌, ◌^◌}
use native.Mathlib.Omega.{arith}
use Rattle.negotiation.specs.TariffSteps.{started_tariff, ended_tariff}
use Rattle.negotiation.specs.declared.tariff.Tariff.{Tariff}
use Rattle.negotiation.proofs.turns.next_iteration.Goals as goal

-- the parts of a tariff that is known whole
parts : (u v : Tariff) → u ≡ v
    → (u.iteration ≡ v.iteration) × (u.factor ≡ v.factor) × (u.turns ≡ v.turns) × (u.words ≡ v.words) × (u.aimed ≡ v.aimed) × (u.expanded ≡ v.expanded)
parts u v e = (
  ap (λ (t : Tariff). t.iteration) e,
  ap (λ (t : Tariff). t.factor) e,
  ap (λ (t : Tariff). t.turns) e,
  ap (λ (t : Tariff). t.words) e,
  ap (λ (t : Tariff). t.aimed) e,
  ap (λ (t : Tariff). t.expanded) e,
)

pub iteration_started-requires : goal.iteration_started-requires
iteration_started-requires c =
    subst (λ (u : Tariff). u.iteration + 1 < 2 ^ 32) (sym c.iteration_ended.ensures) (omega (arith, c.requires))

pub returns : goal.returns
returns c =
    parts _ (started_tariff (ended_tariff c.args.g c.args.t)) (c.iteration_started.ensures ∙ ap started_tariff c.iteration_ended.ensures)
