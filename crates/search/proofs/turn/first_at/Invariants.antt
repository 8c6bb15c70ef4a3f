-- `search::turn::first_at` meets its contract. The invariant: no sink that was passed has the label.
-- Assumes nothing.
use mathlib.Core.Path.{◌≡◌}
use Prim.Native.Nat.{ℕ, ◌<◌}
use lib.ListN.{get_or}
use Rattle.search.specs.Labels.{label_at}
use Rattle.search.proofs.turn.first_at.Given as goal

abbrev pub invariant-loop-place : goal.invariant-loop-place
invariant-loop-place l = (j : ℕ) → j < l.place → get_or l.sinks j 0 < l.n → label_at l.work (get_or l.sinks j 0) ≡ l.d → ⊥
