-- Request 2.9: which sink's turn it is in a timed job, and what a turn joins and how it weighs delay in a job of either kind.
-- Assumes nothing.
use Rattle.std.specs.Prelude.{Bool, true, List, [], ◌∷◌, ◌++◌, ℕ, zero, suc, ◌+◌, eqb, ltb, length, get_or}
use Rattle.price.specs.Test.{choose}
use Rattle.price.specs.Bounds.{criticality_most}
use Rattle.price.specs.Lists.{has}
use Rattle.price.specs.Timed.{untimed}
use Rattle.price.specs.declared.Weighting.{Weighting}
use Rattle.search.specs.Turn.{Congestion, weighed_congestion}
use Rattle.job.specs.Job.{Job, net_sinks, net_criticalities}

-- ---- of a list of sinks and their criticalities, by a test of what is joined

-- the places at which this criticality stands, "ties as listed", from a place on
unfoldable pub places_with : ℕ → ℕ → List ℕ → List ℕ
places_with c at [] = []
places_with c at (x ∷ xs) = choose (eqb x c) (at ∷ places_with c (at + 1) xs) (places_with c (at + 1) xs)

-- "Sinks go by falling criticality": the places from this criticality down
unfoldable pub falling_from : ℕ → List ℕ → List ℕ
falling_from zero cs = places_with zero 0 cs
falling_from (suc c) cs = places_with (suc c) 0 cs ++ falling_from c cs

-- the first of these places whose sink is not joined, the sink count where all are: "a sink already in the tree is joined without a turn"
unfoldable pub first_open : (ℕ → Bool) → List ℕ → List ℕ → ℕ
first_open joined sinks [] = length sinks
first_open joined sinks (p ∷ ps) = choose (joined (get_or sinks p 0)) (first_open joined sinks ps) p

-- the place of "the sink whose turn it is", the sink count where all are joined
unfoldable pub place_due : (ℕ → Bool) → List ℕ → List ℕ → ℕ
place_due joined sinks cs = first_open joined sinks (falling_from criticality_most cs)

-- that sink alone; none where all are joined
unfoldable pub sink_due : (ℕ → Bool) → List ℕ → List ℕ → List ℕ
sink_due joined sinks cs =
    choose (ltb (place_due joined sinks cs) (length sinks)) (get_or sinks (place_due joined sinks cs) 0 ∷ []) []

-- the sinks of which a turn joins one: all, in a timed job the one whose turn it is
abbrev pub sinks_tried : Bool → (ℕ → Bool) → List ℕ → List ℕ → List ℕ
sinks_tried timed joined sinks cs = choose timed (sink_due joined sinks cs) sinks

-- how such a turn weighs delay
abbrev pub weighting_due : Bool → (ℕ → Bool) → List ℕ → List ℕ → Weighting
weighting_due timed joined sinks cs =
    choose timed (record { timed = true; criticality = get_or cs (place_due joined sinks cs) 0 }) untimed

-- ---- of a net with this tree

-- the sinks of which its turn joins one: "the unjoined sink of least distance" of all, in a timed job "the sink whose turn it is"
unfoldable pub turn_sinks : Job → ℕ → List ℕ → List ℕ
turn_sinks j i tree = sinks_tried j.terms.timed (λ s. has s tree) (net_sinks j i) (net_criticalities j i)

-- how its turn weighs delay: in a timed job by that sink's criticality, "A node's price for that sink"
unfoldable pub turn_weighting : Job → ℕ → List ℕ → Weighting
turn_weighting j i tree = weighting_due j.terms.timed (λ s. has s tree) (net_sinks j i) (net_criticalities j i)

-- what prices the net's turn from this tree, where these are its factor, histories and others
unfoldable pub turn_congestion : Job → Congestion → ℕ → List ℕ → Congestion
turn_congestion j c i tree = weighed_congestion (turn_weighting j i tree) j.delays c.factor c.histories c.others
