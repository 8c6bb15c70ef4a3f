-- Document 01, "Prices", in its order, with the tuning of request 2.1 and the long wires of 2.2.
-- Assumes nothing.
use Rattle.std.specs.Prelude.{ℕ, zero, suc, ◌+◌, ◌-◌, ◌*◌, ◌/◌, min, ltb, eqb}
use Rattle.price.specs.Test.{choose}
use Rattle.price.specs.Bounds.{factor_most}
use Rattle.price.specs.declared.Tuning.{Tuning}

-- "0 source, 1 sink and 2 output pin cost 20; 3 input pin costs 19", wires "cost 20 times the length", and
-- "Kinds 4 to 53 become lengths 1 to 50"
unfoldable pub base_cost : ℕ → ℕ
base_cost kind = choose (eqb kind 3) 19 (choose (ltb kind 3) 20 (20 * (kind - 3)))

-- "max(0, others + 1 − capacity)": the overuse of a node once the net takes it. Subtraction stops at 0.
unfoldable pub overuse : ℕ → ℕ → ℕ
overuse others capacity = others + 1 - capacity

-- "history × base × (100 + factor × max(0, others + 1 − capacity))"
unfoldable pub price_of : ℕ → ℕ → ℕ → ℕ → ℕ → ℕ
price_of kind factor others capacity history = history * base_cost kind * (100 + factor * overuse others capacity)

-- the factor of the iteration after this one: "0 in iteration 1", the first factor in iteration 2, and "Each next factor is factor × up,
-- divided by down and rounded down, at most 65,535"
unfoldable pub next_factor : Tuning → ℕ → ℕ → ℕ
next_factor g zero factor = 0
next_factor g (suc zero) factor = g.first
next_factor g (suc (suc t)) factor = min (factor * g.up / g.down) factor_most

-- the factor of an iteration, counted from 1
unfoldable pub factor_at : Tuning → ℕ → ℕ
factor_at g zero = 0
factor_at g (suc t) = next_factor g t (factor_at g t)

-- "History grows by step × overuse": by max(0, users − capacity) after an iteration, times the step
unfoldable pub next_history : Tuning → ℕ → ℕ → ℕ → ℕ
next_history g history users capacity = history + g.step * (users - capacity)
