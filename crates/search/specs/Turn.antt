-- Document 01, "One turn": which sink is joined, by which path, at which cost.
-- Assumes nothing.
use Rattle.std.specs.Prelude.{true, List, [], ◌∷◌, map, ℕ, zero, suc, ◌+◌, eqb, get_or}
use Rattle.price.specs.Test.{choose, both}
use Rattle.price.specs.Lists.{first_below, least, place_of}
use Rattle.price.specs.Prices.{price_of}
use Rattle.price.specs.Timed.{untimed, weighed}
use Rattle.price.specs.declared.Weighting.{Weighting}
use Rattle.search.specs.Block.{Block, nodes, has_edge}
use Rattle.search.specs.Paths.{path_cost}
use Rattle.search.specs.Distance.{far, tree_has, distances}
use Rattle.search.specs.declared.Prices.{Prices}

-- what prices a turn beside the block: the factor, and of each node its history and how many other nets have it; in a timed job the
-- criticality of the sink whose turn it is, and each node's delay
pub record Congestion : Type 0 where
  pub factor : ℕ
  pub histories : List ℕ
  pub others : List ℕ
  pub weighting : Weighting
  pub delays : List ℕ

-- a turn that weighs delay so
abbrev pub weighed_congestion : Weighting → List ℕ → ℕ → List ℕ → List ℕ → Congestion
weighed_congestion w delays factor histories others =
    record { factor = factor; histories = histories; others = others; weighting = w; delays = delays }

-- a turn of an untimed job
abbrev pub congestion_of : ℕ → List ℕ → List ℕ → Congestion
congestion_of factor histories others = weighed_congestion untimed [] factor histories others

-- a turn of a timed job, for a sink of this criticality
abbrev pub timed_congestion : ℕ → List ℕ → ℕ → List ℕ → List ℕ → Congestion
timed_congestion criticality delays factor histories others =
    weighed_congestion (record { timed = true; criticality = criticality }) delays factor histories others

-- the congestion price of a node for the net whose turn it is
unfoldable pub congested_at : Block → Congestion → ℕ → ℕ
congested_at b c v =
    price_of (get_or b.kinds v 0) c.factor (get_or c.others v 0) (get_or b.capacities v 0) (get_or c.histories v 0)

-- its price: the congestion price, in a timed job weighed with the delay
unfoldable pub price_at : Block → Congestion → ℕ → ℕ
price_at b c v = weighed c.weighting (get_or c.delays v 0) (congested_at b c v)

-- what one turn does: it joins the sink at a place of the net's list by a path at a cost, or no unjoined sink has a path
pub data Turn : Type 0 where
  joins : (place cost : ℕ) (path : List ℕ) → Turn
  stuck : Turn

-- the distance of a sink that is still to be joined; a sink in the tree is joined
unfoldable pub open_distance : List ℕ → List ℕ → ℕ → ℕ
open_distance marks ds s = choose (tree_has marks s) far (get_or ds s far)

-- "before v comes the lowest-numbered u that has an edge to v and distance(u) + price(v) = distance(v)"
unfoldable pub before : Block → (ℕ → ℕ) → List ℕ → ℕ → ℕ
before b price ds v =
    first_below (λ u. both (has_edge b u v) (eqb (get_or ds u far + price v) (get_or ds v far))) (nodes b)

-- "The path is built backwards": from v, in front of the part built so far. "It ends at the first tree node."
unfoldable pub back : Block → (ℕ → ℕ) → List ℕ → List ℕ → ℕ → ℕ → List ℕ → List ℕ
back b price marks ds zero v path = v ∷ path
back b price marks ds (suc k) v path =
    choose (tree_has marks v) (v ∷ path) (back b price marks ds k (before b price ds v) (v ∷ path))

-- the path to a sink; it has at most as many steps as there are nodes
unfoldable pub path_to : Block → (ℕ → ℕ) → List ℕ → ℕ → List ℕ
path_to b price marks sink = back b price marks (distances b price marks) (nodes b) sink []

-- the distances of the net's sinks that are still to be joined, as listed
unfoldable pub open_distances : Block → (ℕ → ℕ) → List ℕ → List ℕ → List ℕ
open_distances b price marks sinks = map (open_distance marks (distances b price marks)) sinks

-- the turn that joins the sink at this place
unfoldable pub join_at : Block → (ℕ → ℕ) → List ℕ → List ℕ → ℕ → Turn
join_at b price marks sinks place =
    joins place (path_cost price (path_to b price marks (get_or sinks place 0))) (path_to b price marks (get_or sinks place 0))

-- "least distance": the least of them, 2^64 − 1 where no unjoined sink has a path
abbrev pub nearest_distance : Block → (ℕ → ℕ) → List ℕ → List ℕ → ℕ
nearest_distance b price marks sinks = least far (open_distances b price marks sinks)

-- "ties to the first listed": the first place at which it stands
abbrev pub nearest_place : Block → (ℕ → ℕ) → List ℕ → List ℕ → ℕ
nearest_place b price marks sinks = place_of (nearest_distance b price marks sinks) (open_distances b price marks sinks)

-- "The turn joins the unjoined sink of least distance, ties to the first listed"
unfoldable pub turn : Block → (ℕ → ℕ) → List ℕ → List ℕ → Turn
turn b price marks sinks =
    choose (eqb (nearest_distance b price marks sinks) far)
    stuck
    (join_at b price marks sinks (nearest_place b price marks sinks))

-- what prices a turn, in the lists that a caller lends
abbrev pub congestion_in : Prices → Congestion
congestion_in p = weighed_congestion p.weighting p.delay.now p.factor p.history.now p.others.now
