-- Demand 3, whole, as one statement about a call: its job, its log and its answer. Only its first clause mentions the machine: trees and
-- prices are read off the log as document 01's section "Trees and prices read off the log" says.
-- Assumes nothing.
use Rattle.std.specs.Prelude.{Bool, true, not, List, [], ◌∷◌, ◌++◌, ◌≡◌, ℕ, zero, suc, ◌+◌, ◌-◌, ◌^◌, ◌≤◌, ◌<◌, max, eqb, leb, length}
use Rattle.std.specs.Prelude.{get_or, drop}
use Rattle.price.specs.Test.{choose, both}
use Rattle.price.specs.Bounds.{price_most, path_most, timed_price_most}
use Rattle.price.specs.Lists.{has, distinct, count_below}
use Rattle.price.specs.Prices.{price_of, factor_at, next_history}
use Rattle.price.specs.Timed.{weighed}
use Rattle.search.specs.Block.{Block}
use Rattle.search.specs.Paths.{JoiningPath, CheapestPath}
use Rattle.job.specs.Job.{Job, nodes, nets, source, net_sinks}
use Rattle.job.specs.Join.{joined}
use Rattle.negotiation.specs.Records.{Record, encode}
use Rattle.negotiation.specs.Order.{turn_sinks, turn_weighting}
use Rattle.negotiation.specs.Outcome.{RouteReply, words_used, turns_logged, route_reply}
use Rattle.negotiation.specs.Unreachable.{AllReachable}

-- ---- trees

-- the nodes of net i's records of iteration t
unfoldable pub nodes_in : ℕ → ℕ → List Record → List ℕ
nodes_in i t [] = []
nodes_in i t (r ∷ rs) = choose (both (eqb r.net i) (eqb r.iteration t)) (r.path ++ nodes_in i t rs) (nodes_in i t rs)

-- "the latest iteration in which it has an earlier record", 0 without one
unfoldable pub latest : ℕ → List Record → ℕ
latest i [] = 0
latest i (r ∷ rs) = choose (eqb r.net i) (max r.iteration (latest i rs)) (latest i rs)

-- "Before a turn of net i in iteration t, the tree of i is its source with the nodes of its earlier records of iteration t."
unfoldable pub own_tree : Job → ℕ → ℕ → List Record → List ℕ
own_tree j i t earlier = source j i ∷ nodes_in i t earlier

-- "Any other net's tree is the nodes of its records in the latest iteration in which it has an earlier record; without one it is empty."
-- "After an iteration's last record, and after the whole log (the final trees), every net's tree is read in this second way."
unfoldable pub tree_read : ℕ → List Record → List ℕ
tree_read i rs = nodes_in i (latest i rs) rs

-- ---- prices

-- "The trees before a turn give others."
unfoldable pub others_read : Job → ℕ → List Record → ℕ → ℕ
others_read j i earlier v = count_below (λ k. both (not (eqb k i)) (has v (tree_read k earlier))) (nets j)

-- the records of iterations 1 to t
unfoldable pub up_to_iteration : ℕ → List Record → List Record
up_to_iteration t [] = []
up_to_iteration t (r ∷ rs) = choose (leb r.iteration t) (r ∷ up_to_iteration t rs) (up_to_iteration t rs)

-- "A node's load is the number of nets whose final tree has it.": the same after any records
unfoldable pub users_read : Job → List Record → ℕ → ℕ
users_read j rs v = count_below (λ k. has v (tree_read k rs)) (nets j)

-- "The trees after each earlier iteration give users, and so the histories, as under Prices": the history after so many iterations
unfoldable pub history_read : Job → List Record → ℕ → ℕ → ℕ
history_read j rs zero v = 1
history_read j rs (suc m) v =
    next_history j.terms.tuning (history_read j rs m v) (users_read j (up_to_iteration (suc m) rs) v) (get_or j.block.capacities v 0)

-- the congestion price of a node for net i in iteration t, "t gives the factor"
unfoldable pub congested_read : Job → ℕ → ℕ → List Record → ℕ → ℕ
congested_read j i t earlier v =
    price_of (get_or j.block.kinds v 0) (factor_at j.terms.tuning t) (others_read j i earlier v) (get_or j.block.capacities v 0)
    (history_read j earlier (t - 1) v)

-- its price for the net's next turn: in a timed job weighed with its delay, for the sink whose turn it is
unfoldable pub price_read : Job → ℕ → ℕ → List Record → ℕ → ℕ
price_read j i t earlier v =
    weighed (turn_weighting j i (own_tree j i t earlier)) (get_or j.delays v 0) (congested_read j i t earlier v)

-- ---- the demand

-- what is asked of a turn's path and cost, at prices and from a tree that are read off the earlier turns, to the sinks that it tries
abbrev pub OfTurn : (Block → (ℕ → ℕ) → (ℕ → Bool) → List ℕ → ℕ → ℕ → List ℕ → Type 0) → Job → List Record → Record → Type 0
OfTurn Asked j earlier r =
    Asked j.block (price_read j r.net r.iteration earlier) (λ v. has v (own_tree j r.net r.iteration earlier))
    (turn_sinks j r.net (own_tree j r.net r.iteration earlier)) r.sink r.cost r.path

-- "the logged path follows edges from a node of that net's tree before the turn to one of its sinks not yet joined. The logged cost is that
-- path's cost, at prices worked out from the job and the log's earlier turns alone."
abbrev pub TurnJoins : Job → List Record → Record → Type 0
TurnJoins j earlier r = OfTurn JoiningPath j earlier r

-- a logged turn: it joins so, and "At these prices every other path in the graph, from any node of that tree to any of the net's sinks not
-- yet joined, costs at least as much." Request 2.9: "The cheapest-path claim for timed jobs is about the sink whose turn it is", which is
-- then the only one of `turn_sinks`
abbrev pub TurnHolds : Job → List Record → Record → Type 0
TurnHolds j earlier r = OfTurn CheapestPath j earlier r

-- the nodes in which branches of net i end, of its records of iteration t: "The branches of a final tree are the path steps of the records
-- that it is read from."
unfoldable pub ends_in : ℕ → ℕ → List Record → List ℕ
ends_in i t [] = []
ends_in i t (r ∷ rs) = choose (both (eqb r.net i) (eqb r.iteration t)) (drop 1 r.path ++ ends_in i t rs) (ends_in i t rs)

-- the final trees "miss no sink, reach no node of one net twice and load no node beyond its capacity"
pub record FinalTrees (j : Job) (rs : List Record) : Type 0 where
  pub no_sink_missed : (i s : ℕ) → i < nets j → has s (net_sinks j i) ≡ true → has s (tree_read i rs) ≡ true
  -- "A node is reached twice when two of them end in it, or when it is the source and one ends in it."
  pub none_twice : (i : ℕ) → i < nets j → distinct (source j i ∷ ends_in i (latest i rs) rs) ≡ true
  pub within_capacity : (v : ℕ) → v < nodes j → users_read j rs v ≤ get_or j.block.capacities v 0

-- "The new bound on a path's cost still fits 64 bits, with 2.1's step of 2 too": every logged turn's cost is below `path_most`, which fits
-- 64 bits with one more price, timed or not
pub record CostsFit (r : RouteReply) : Type 0 where
  pub below : (earlier later : List Record) (t : Record) → turns_logged r ≡ earlier ++ (t ∷ later) → t.cost < path_most
  pub fits : path_most + price_most < 2 ^ 64
  pub timed_fits : path_most + timed_price_most < 2 ^ 64

-- Demand 3 of one call: a job, the work slice and the log that it is lent, and the reply. It is asked of jobs with sound tables and enough
-- work memory; it holds of every call, since after refusals 5 and 6 no words are used. Request 2.3: "Negotiation and all of demand 3 are
-- those of joined nets".
pub record Demand3 (j : Job) (work log : List ℕ) (r : RouteReply) : Type 0 where
  -- "the outcome and the log are those of 01's negotiation"
  pub as_negotiated : r ≡ route_reply j work log
  -- "these words hold nothing else"
  pub nothing_else : encode (turns_logged r) ≡ words_used r
  -- "for every turn in that log, whatever the outcome"
  pub every-turn : (earlier later : List Record) (t : Record) → turns_logged r ≡ earlier ++ (t ∷ later) → TurnHolds (joined j) earlier t
  -- "In every accepted job"
  pub final_trees : r.refusal ≡ [] → FinalTrees (joined j) (turns_logged r)
  -- "No job is refused as unreachable if every sink has a path from its source."
  pub not_unreachable : AllReachable (joined j) → (net place : ℕ) → r.refusal ≡ 7 ∷ net ∷ place ∷ [] → ⊥
  -- "Whatever the outcome, the reported turn count is the number of logged turns."
  pub turns-counted : r.turns ≡ length (turns_logged r)
  -- no part of the demand: the bound on a path's cost
  pub costs_fit : CostsFit r
