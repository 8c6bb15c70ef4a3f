-- Document 01, "The negotiation, as a machine". Limit and log length only cut the run short that is defined here.
-- Assumes nothing.
use Rattle.std.specs.Prelude.{Bool, true, false, not, List, [], ◌∷◌, ◌++◌, ℕ, zero, suc, ◌+◌, eqb, ltb, leb, length, get_or, set, replicate}
use Rattle.price.specs.Test.{choose, both, either}
use Rattle.price.specs.Lists.{every, has, up_to, count_below}
use Rattle.price.specs.Prices.{next_factor, next_history}
use Rattle.search.specs.Turn.{Congestion, congestion_of, price_at, Turn, joins, stuck, turn}
use Rattle.job.specs.Job.{Job, nodes, nets, source, net_sinks}
use Rattle.negotiation.specs.Order.{turn_sinks, turn_congestion}
use Rattle.negotiation.specs.Records.{Record, path_nodes}
use Rattle.job.specs.declared.Terms.{Terms}

-- "Its state is iteration, factor, histories and one tree a net"
pub record State : Type 0 where
  pub iteration : ℕ
  pub factor : ℕ
  pub histories : List ℕ
  pub trees : List (List ℕ)

-- a net's tree, as the list of its nodes
abbrev pub tree_at : List (List ℕ) → ℕ → List ℕ
tree_at trees i = get_or trees i []

-- "others counts the nets besides i whose tree has v now"
unfoldable pub others_of : Job → List (List ℕ) → ℕ → ℕ → ℕ
others_of j trees i v = count_below (λ k. both (not (eqb k i)) (has v (tree_at trees k))) (nets j)

-- the nets whose tree has v
unfoldable pub users_of : Job → List (List ℕ) → ℕ → ℕ
users_of j trees v = count_below (λ k. has v (tree_at trees k)) (nets j)

-- the marks of a tree's nodes
unfoldable pub marks_of : Job → List ℕ → List ℕ
marks_of j tree = up_to (λ v. choose (has v tree) 1 0) (nodes j)

-- the congestion that prices the turns of net i in this state; in a timed job `turn_congestion` adds how delay is weighed
unfoldable pub congestion_for : Job → State → ℕ → Congestion
congestion_for j s i = congestion_of s.factor s.histories (up_to (others_of j s.trees i) (nodes j))

-- one turn of net i with this tree in an iteration; by request 2.9 a timed job's is for the sink whose turn it is
unfoldable pub turn_of : Job → Congestion → ℕ → List ℕ → Turn
turn_of j c i tree = turn j.block (price_at j.block (turn_congestion j c i tree)) (marks_of j tree) (turn_sinks j i tree)

-- a turn that joins is logged, "Its nodes join the tree", and the net goes on with the rest
abbrev pub log_turn : Job → ℕ → ℕ → List ℕ → Turn → (List ℕ → List Record) → List Record
log_turn j t i tree (joins place cost path) rest =
    record { iteration = t; net = i; sink = get_or (turn_sinks j i tree) place 0; cost = cost; path = path } ∷ rest (tree ++ path)
log_turn j t i tree stuck rest = []

-- so many turns of net i, at most, from this tree
unfoldable pub turns_of : Job → ℕ → Congestion → ℕ → ℕ → List ℕ → List Record
turns_of j t c i zero tree = []
turns_of j t c i (suc k) tree = log_turn j t i tree (turn_of j c i tree) (turns_of j t c i k)

-- net i's records in an iteration: from its source, "turns until its sinks are joined"
unfoldable pub net_records : Job → State → ℕ → List Record
net_records j s i = turns_of j s.iteration (congestion_for j s i) i (length (net_sinks j i)) (source j i ∷ [])

-- "The tree begins as the source", and the records' paths join it
abbrev pub tree_from : Job → ℕ → List Record → List ℕ
tree_from j i rs = source j i ∷ path_nodes rs

-- the state with net i's tree replaced
abbrev pub with_tree : State → ℕ → List ℕ → State
with_tree s i tree =
    record { iteration = s.iteration; factor = s.factor; histories = s.histories; trees = set s.trees i tree }

-- records so far, of the first nets of an iteration or of a whole run, and the state after them
pub record Progress : Type 0 where
  pub records : List Record
  pub state : State

-- net i's records are logged, and its tree is theirs
abbrev pub with_net : Job → ℕ → Progress → List Record → Progress
with_net j i p rs =
    record { records = p.records ++ rs; state = with_tree p.state i (tree_from j i rs) }

abbrev pub route_net : Job → ℕ → Progress → Progress
route_net j i p = with_net j i p (net_records j p.state i)

-- a net has sinks
unfoldable pub has_sinks : Job → ℕ → Bool
has_sinks j i = leb 1 (length (net_sinks j i))

-- a node has more users than its capacity
unfoldable pub overfull : Job → List (List ℕ) → ℕ → Bool
overfull j trees v = ltb (get_or j.block.capacities v 0) (users_of j trees v)

-- request 2.7: "Under rule 1, or without the line, negotiation and log are as before." Under rule 2 only some nets make turns, by request
-- 2.8 from the iteration after k on: "rule 1 up to iteration k, rule 2 after it". Else an iteration takes every net
unfoldable pub all_due : Terms → ℕ → Bool
all_due g t = either (eqb g.rule 1) (leb t g.until)

-- "nets whose tree at the iteration's start has an overfull node"
unfoldable pub crowded : Job → List (List ℕ) → ℕ → Bool
crowded j trees i = not (every (λ v. not (overfull j trees v)) (tree_at trees i))

-- the nets that an iteration takes, by the state at its start; they "drop their tree and make turns; the other trees remain". A net without
-- sinks makes none
unfoldable pub due : Job → State → ℕ → Bool
due j s i = both (has_sinks j i) (either (all_due j.terms s.iteration) (crowded j s.trees i))

-- a net that is not due makes no turns and keeps its tree
abbrev pub route_if : Bool → Job → ℕ → Progress → Progress
route_if true j i p = route_net j i p
route_if false j i p = p

-- "An iteration takes nets in order; each drops its old tree, then makes turns"; the price of a turn counts no tree of the net itself
unfoldable pub after_nets : Job → State → ℕ → Progress
after_nets j s zero = record { records = []; state = s }
after_nets j s (suc i) = route_if (due j s i) j i (after_nets j s i)

-- a whole iteration
unfoldable pub iterate : Job → State → Progress
iterate j s = after_nets j s (nets j)

-- "nodes over capacity"
unfoldable pub over_count : Job → List (List ℕ) → ℕ
over_count j trees = count_below (overfull j trees) (nodes j)

-- a node's history after the iteration
abbrev pub moved_history : Job → State → ℕ → ℕ
moved_history j s v =
    next_history j.terms.tuning (get_or s.histories v 0) (users_of j s.trees v) (get_or j.block.capacities v 0)

-- "else histories and factor move on": the state at the next iteration's start
unfoldable pub move_on : Job → State → State
move_on j s =
    record {
      iteration = s.iteration + 1;
      factor = next_factor j.terms.tuning s.iteration s.factor;
      histories = up_to (moved_history j s) (nodes j);
      trees = s.trees;
    }

-- iteration 1: factor 0, "History is 1 at first", trees "empty at first"
unfoldable pub first_state : Job → State
first_state j =
    record { iteration = 1; factor = next_factor j.terms.tuning 0 0; histories = replicate (nodes j) 1; trees = replicate (nets j) [] }

-- the state at the start of an iteration, after so many whole ones from a state
unfoldable pub state_after : Job → State → ℕ → State
state_after j s zero = s
state_after j s (suc m) = move_on j (iterate j (state_after j s m)).state

-- the iteration after m whole ones
abbrev pub iteration_after : Job → State → ℕ → Progress
iteration_after j s m = iterate j (state_after j s m)

-- the records of the first m iterations from a state
unfoldable pub records_after : Job → State → ℕ → List Record
records_after j s zero = []
records_after j s (suc m) = records_after j s m ++ (iteration_after j s m).records

-- the iteration after m whole ones leaves "nothing over capacity"
unfoldable pub settles_at : Job → State → ℕ → Bool
settles_at j s m = eqb (over_count j (iteration_after j s m).state.trees) 0
