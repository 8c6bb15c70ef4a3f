-- The definitions of the aimed search compute: a turn over a block of five nodes, worked out by hand.
--     0 source, 1 and 2 wires of one tile, 3 the sink, 4 a wire that leads nowhere; edges 0 to 1 and 2, 1 to 3, 2 to 3 and 4
-- Every node weighs 2,000, so the estimates are 4,000, 2,000, 2,000, 0 and none.
-- Assumes nothing.
use mathlib.Core.List.{List, [], ◌∷◌}
use mathlib.Core.Path.{◌≡◌, refl}
use Prim.Native.Nat.{ℕ}
use Rattle.price.specs.Lists.{up_to, least, count_below, has}
use Rattle.price.specs.Prices.{base_cost, overuse, price_of}
use Rattle.price.specs.Timed.{weighed, timed_price}
use Rattle.search.specs.Block.{Block, block_of, graph_of, row, has_edge}
use Rattle.search.specs.Distance.{far, tree_has, tree_distances, nearer, round, rounds, distances}
use Rattle.search.specs.Turn.{Congestion, congestion_of, timed_congestion, congested_at, price_at, open_distance, open_distances}
use Rattle.search.specs.Aimed.{scale_of, weight_at, alone, estimate, expands_by, expanded_by, expanded}
use Rattle.search.specs.ByTarget.{firsts_of, targets_of, agreed, turned}

-- all that such a turn computes with
unfoldable computing : Unit {0}
unfolding expanded_by expands_by estimate alone weight_at scale_of open_distances open_distance price_at congested_at weighed timed_price price_of overuse
    distances rounds round nearer tree_distances tree_has firsts_of targets_of has_edge row base_cost up_to least has count_below
computing = tt

abbrev fork : Block
fork = block_of (0 ∷ 4 ∷ 4 ∷ 1 ∷ 4 ∷ []) (1 ∷ 1 ∷ 1 ∷ 1 ∷ 1 ∷ []) (0 ∷ 2 ∷ 3 ∷ 5 ∷ 5 ∷ 5 ∷ []) (1 ∷ 2 ∷ 3 ∷ 3 ∷ 4 ∷ [])

-- how many nodes a turn expands there, with this tree
abbrev counted : Congestion → List ℕ → ℕ
counted c marks = expanded fork (price_at fork c) (weight_at fork c.weighting) marks (3 ∷ [])

abbrev source : List ℕ
source = 1 ∷ 0 ∷ 0 ∷ 0 ∷ 0 ∷ []

abbrev unused : List ℕ
unused = 0 ∷ 0 ∷ 0 ∷ 0 ∷ 0 ∷ []

estimates : up_to (estimate fork (weight_at fork (congestion_of 0 unused unused).weighting) source (3 ∷ [])) 5 ≡ 4000 ∷ 2000 ∷ 2000 ∷ 0 ∷ far ∷ []
unfolding computing
estimates = refl

-- all but the wire that leads nowhere: both ways cost 4,000
ties_count : counted (congestion_of 0 (1 ∷ 1 ∷ 1 ∷ 1 ∷ 1 ∷ []) unused) source ≡ 4
unfolding computing
ties_count = refl

-- wire 2 has been overfull and costs 6,000: over it the sink would be 8,000 far
dear_left-out : counted (congestion_of 0 (1 ∷ 1 ∷ 3 ∷ 1 ∷ 1 ∷ []) unused) source ≡ 3
unfolding computing
dear_left-out = refl

-- criticality 7, and wire 1 is slow: it costs 7 × 10 × 100 + 3 × 2,000, wire 2 only 3 × 2,000
slow_left-out : counted (timed_congestion 7 (0 ∷ 10 ∷ 0 ∷ 0 ∷ 0 ∷ []) 0 (1 ∷ 1 ∷ 1 ∷ 1 ∷ 1 ∷ []) unused) source ≡ 3
unfolding computing
slow_left-out = refl

-- the sink is in the tree
joined-none : counted (congestion_of 0 (1 ∷ 1 ∷ 1 ∷ 1 ∷ 1 ∷ []) unused) (1 ∷ 1 ∷ 0 ∷ 1 ∷ 0 ∷ []) ≡ 0
unfolding computing
joined-none = refl

-- ---- tables by target that lack the edge from wire 1 to the sink: it does not count, and wire 1 has no estimate

abbrev lacking : Block
lacking = graph_of fork.kinds (0 ∷ 0 ∷ 1 ∷ 2 ∷ 3 ∷ 4 ∷ []) (0 ∷ 0 ∷ 2 ∷ 2 ∷ [])

agreed-count :
    expanded_by (agreed fork lacking) (price_at fork (congestion_of 0 (1 ∷ 1 ∷ 1 ∷ 1 ∷ 1 ∷ []) unused))
    (estimate (turned lacking) (weight_at fork (congestion_of 0 unused unused).weighting) source (3 ∷ [])) source (3 ∷ [])
    ≡ 3
unfolding computing
agreed-count = refl
