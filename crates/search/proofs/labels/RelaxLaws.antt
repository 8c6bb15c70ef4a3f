-- What looking at one edge asks and gives, as its code has it; and at a row, whether any of its edges matters.
-- Assumes nothing.
use mathlib.Core.Bool.{Bool}
use mathlib.Core.List.{List}
use mathlib.Core.Path.{◌≡◌, subst}
use Prim.Native.Nat.{ℕ, ◌+◌, ◌≤◌, ◌<◌}
use lib.ListN.{get_or}
use Rattle.search.specs.Labels.{goal, label_at}
use Rattle.search.specs.Spread.{DeadEnd, Labelled, GoalMet, EdgeRelaxed, labels}

pub relax_labels :
    {n : ℕ} {firsts targets : List ℕ} {goals : Bool} {price : ℕ → ℕ} {u v d p : ℕ} {w w' : List ℕ} {count count' best best' : ℕ} → p ≡ price v → v < n → goal ≤ label_at w v
    → Labelled n firsts targets goals u v (d + p) w w' count count' → GoalMet (label_at w v) (d + p) best best'
    → EdgeRelaxed n firsts targets goals price u v d w w' count count' best best'
relax_labels {n} {firsts} {targets} {goals} {price} {u} {v} {d} {p} {w} {w'} {count} {count'} {best} {best'} e h l made met =
    labels h l (subst (λ (x : ℕ). Labelled n firsts targets goals u v (d + x) w w' count count') e made) (subst (λ (x : ℕ). GoalMet (label_at w v) (d + x) best best') e met)

-- ---- whether a row's edges matter

-- the edges of v before place e lead to dead ends alone
pub record NowhereSoFar (n : ℕ) (firsts targets w : List ℕ) (v e : ℕ) : Type 0 where
  pub from : get_or firsts v 0 ≤ e
  pub dead : (k : ℕ) → get_or firsts v 0 ≤ k → k < e → get_or targets k 0 < n → DeadEnd firsts w (get_or targets k 0)
