-- How the cheapest path reads the entries of lists that have the right lengths but may break a rule: every number that prices a node
-- within its bounds.
-- Assumes nothing.
use Rattle.std.specs.Prelude.{true, List, ◌≡◌, ℕ, ◌*◌, ◌≤◌, ltb, length, get_or}
use Rattle.price.specs.Test.{choose}
use Rattle.price.specs.Bounds.{kind_most, factor_most, others_most, capacity_most, nodes_most, delay_most, criticality_most}
use Rattle.price.specs.Bounds.{timed_nodes_most}
use Rattle.price.specs.Prices.{base_cost, price_of}
use Rattle.price.specs.Timed.{weighed, history_bound}
use Rattle.price.specs.declared.Weighting.{Weighting}
use Rattle.search.specs.Turn.{Congestion}
use Rattle.search.specs.Aimed.{scale_of}
use Rattle.search.specs.Turn.{congestion_in}
use Rattle.search.specs.declared.Tables.{Tables}
use Rattle.search.specs.declared.Prices.{Prices}

-- x, but at least `low` and at most `high`
unfoldable pub clamped : ℕ → ℕ → ℕ → ℕ
clamped low high x = choose (ltb x low) low (choose (ltb high x) high x)

-- how delay is weighed, with the criticality clamped within its bounds
abbrev pub clamped_weighting : Weighting → Weighting
clamped_weighting w = record { timed = w.timed; criticality = clamped 0 criticality_most w.criticality }

-- the price of a node, each number clamped within the bounds of row 13; where they keep them it is the price
unfoldable pub clamped_price : List ℕ → List ℕ → Congestion → ℕ → ℕ
clamped_price kinds capacities c v =
    weighed (clamped_weighting c.weighting) (clamped 0 delay_most (get_or c.delays v 0))
    (price_of (clamped 0 kind_most (get_or kinds v 0)) (clamped 0 factor_most c.factor) (clamped 0 others_most (get_or c.others v 0))
    (clamped 1 capacity_most (get_or capacities v 0)) (clamped 1 (history_bound c.weighting) (get_or c.histories v 0)))

-- a node's base cost, its kind clamped within its bounds; and how many times it counts in an estimate, the criticality clamped
unfoldable pub clamped_base : List ℕ → ℕ → ℕ
clamped_base kinds v = base_cost (clamped 0 kind_most (get_or kinds v 0))

unfoldable pub clamped_scale : Weighting → ℕ
clamped_scale w = 100 * scale_of (clamped_weighting w)

-- what a node costs in an estimate; where kind and criticality keep their bounds it is `weight_at`
unfoldable pub clamped_weight : List ℕ → Weighting → ℕ → ℕ
clamped_weight kinds w v = clamped_scale w * clamped_base kinds v

-- every list has an entry for each node, and there are few enough nodes; of delays only where they are weighed
pub record ListsLong (kinds capacities : List ℕ) (c : Congestion) : Type 0 where
  pub few : length kinds ≤ nodes_most
  pub capacities-long : length capacities ≡ length kinds
  pub histories-long : length kinds ≤ length c.histories
  pub others-long : length kinds ≤ length c.others
  pub delays-long : c.weighting.timed ≡ true → length kinds ≤ length c.delays
  pub timed_few : c.weighting.timed ≡ true → length kinds ≤ timed_nodes_most

-- the price of a node of the tables and lists that a caller lends, each number read within its bounds
abbrev pub price_read : Tables → Prices → ℕ → ℕ
price_read t p = clamped_price t.kind.now t.capacity.now (congestion_in p)

-- every list has an entry for each node
abbrev pub Long : Tables → Prices → Type 0
Long t p = ListsLong t.kind.now t.capacity.now (congestion_in p)
