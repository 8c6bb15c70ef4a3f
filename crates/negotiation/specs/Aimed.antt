-- Request 2.13, "A search that aims": how many nodes the turns of a call expand, read off its log. "For every job and every rule, the aimed
-- search gives the plain search's log and outcome": the contracts of router and resume equate these with the same definitions, whichever
-- search is chosen.
-- Assumes nothing.
use Rattle.std.specs.Prelude.{Bool, List, [], ◌∷◌, ◌++◌, ℕ, ◌+◌, length, drop}
use Rattle.price.specs.Test.{choose}
use Rattle.search.specs.Aimed.{weight_at, expanded}
use Rattle.job.specs.Job.{Job}
use Rattle.negotiation.specs.Records.{Record}
use Rattle.negotiation.specs.Order.{turn_sinks, turn_weighting}
use Rattle.negotiation.specs.Machine.{marks_of}
use Rattle.negotiation.specs.Demand.{own_tree, price_read}

-- how many nodes the turn of a record expands, after these earlier records, with this tree: at the prices that demand 3 reads off the log,
-- for "the nearest sink not yet joined, or under 2.9 .. the one sink"
abbrev pub expanded_from : Job → List Record → Record → List ℕ → ℕ
expanded_from j earlier r tree =
    expanded j.block (price_read j r.net r.iteration earlier) (weight_at j.block (turn_weighting j r.net tree)) (marks_of j tree)
    (turn_sinks j r.net tree)

unfoldable pub turn_expanded : Job → List Record → Record → ℕ
turn_expanded j earlier r = expanded_from j earlier r (own_tree j r.net r.iteration earlier)

-- the turns of these records, after the earlier ones
unfoldable pub expanded_in : Job → List Record → List Record → ℕ
expanded_in j earlier [] = 0
expanded_in j earlier (r ∷ rs) = turn_expanded j earlier r + expanded_in j (earlier ++ (r ∷ [])) rs

-- "The aimed answer also counts the nodes expanded, over the turns that call logged": of all records in its words used, those after the
-- lent ones. "Callers of router and resume choose either search, over the work slice of 8 × nodes entries that there is": `aimed` is that
-- choice, and `tested` of Outcome.antt asks for as many entries whichever it is. With the plain search nothing is counted
unfoldable pub expanded_after : Bool → Job → (lent all : List Record) → ℕ
expanded_after aimed j lent all = choose aimed (expanded_in j lent (drop (length lent) all)) 0
