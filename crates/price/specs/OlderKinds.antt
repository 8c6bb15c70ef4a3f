-- Request 2.2: "Every older job keeps its base costs, prices and log": what a node of kind 0 to 15 cost before the long wires.
-- Assumes nothing.
use Rattle.std.specs.Prelude.{List, [], ◌∷◌, ◌≡◌, ℕ, ◌+◌, ◌*◌, ◌<◌, get_or}
use Rattle.price.specs.Prices.{base_cost, overuse, price_of}

-- document 01's base costs of kinds 0 to 15: "0 source, 1 sink and 2 output pin cost 20; 3 input pin costs 19; 4 to 15 are wires of length
-- 1 to 12 and cost 20 times the length"
abbrev pub older_costs : List ℕ
older_costs =
    20 ∷ 20 ∷ 20 ∷ 19 ∷ 20 ∷ 40 ∷ 60 ∷ 80 ∷ 100 ∷ 120 ∷ 140 ∷ 160 ∷ 180 ∷ 200 ∷ 220 ∷ 240 ∷ []

-- each kind that an older job may have costs what it did, and its price is 01's formula with that base cost
pub record OlderKept : Type 0 where
  pub base-costs : (kind : ℕ) → kind < 16 → base_cost kind ≡ get_or older_costs kind 0
  pub prices :
      (kind factor others capacity history : ℕ) → kind < 16
      → price_of kind factor others capacity history ≡ history * get_or older_costs kind 0 * (100 + factor * overuse others capacity)
