-- Request 2.13, "A search that aims": what a turn estimates, which nodes it expands and how many they are, over any price and any weight of
-- a node. The sinks are the net's, in a timed turn the one sink whose turn it is.
-- Assumes nothing.
use Rattle.std.specs.Prelude.{Bool, List, map, ℕ, ◌+◌, ◌-◌, ◌*◌, eqb, leb, get_or}
use Rattle.price.specs.Test.{choose}
use Rattle.price.specs.Lists.{up_to, least, count_below}
use Rattle.price.specs.Prices.{base_cost}
use Rattle.price.specs.declared.Weighting.{Weighting}
use Rattle.search.specs.Block.{Block, nodes}
use Rattle.search.specs.Distance.{far, distances, distance}
use Rattle.search.specs.Turn.{open_distance, nearest_distance}

-- "under 2.9 .. the estimate also takes the (10 − criticality) weight", else 1
unfoldable pub scale_of : Weighting → ℕ
scale_of w = choose w.timed (10 - w.criticality) 1

-- what a node costs in an estimate: "from 100 × base costs alone", times that weight, "and no delay"
unfoldable pub weight_at : Block → Weighting → ℕ → ℕ
weight_at b w v = scale_of w * (100 * base_cost (get_or b.kinds v 0))

-- the marks of a tree that has node v alone
unfoldable pub alone : Block → ℕ → List ℕ
alone b v = up_to (λ u. choose (eqb u v) 1 0) (nodes b)

-- "the least cost from each node to the nearest sink not yet joined, or under 2.9 to the one sink": as in a path's cost, the node's own is
-- left out and the sink's counts; 2^64 − 1 where no path leads to such a sink
unfoldable pub estimate : Block → (ℕ → ℕ) → List ℕ → List ℕ → ℕ → ℕ
estimate b weight marks sinks v = least far (map (open_distance marks (distances b weight (alone b v))) sinks)

-- "A turn expands .. exactly the nodes whose distance plus that estimate is at most the joined sink's distance": by these estimates
unfoldable pub expands_by : Block → (ℕ → ℕ) → (ℕ → ℕ) → List ℕ → List ℕ → ℕ → Bool
expands_by b price est marks sinks v = leb (distance b price marks v + est v) (nearest_distance b price marks sinks)

-- "The aimed answer also counts the nodes expanded": those of one turn, "each once". A turn that joins no sink expands none.
unfoldable pub expanded_by : Block → (ℕ → ℕ) → (ℕ → ℕ) → List ℕ → List ℕ → ℕ
expanded_by b price est marks sinks =
    choose (eqb (nearest_distance b price marks sinks) far) 0 (count_below (expands_by b price est marks sinks) (nodes b))

-- by the estimates over the same block
abbrev pub expands : Block → (ℕ → ℕ) → (ℕ → ℕ) → List ℕ → List ℕ → ℕ → Bool
expands b price weight marks sinks v = expands_by b price (estimate b weight marks sinks) marks sinks v

abbrev pub expanded : Block → (ℕ → ℕ) → (ℕ → ℕ) → List ℕ → List ℕ → ℕ
expanded b price weight marks sinks = expanded_by b price (estimate b weight marks sinks) marks sinks
