-- Request 2.2: "Every older job keeps its base costs, prices and log": of a node's kind a reply takes its base cost alone; and a job all of
-- whose kinds are 01's makes its turns at 01's prices, and each turn in its log is such a one. Trees, histories and others are read off the
-- log as in demand 3. Request 2.7: "Under rule 1, or without the line, negotiation and log are as before."
-- Assumes nothing.
use Rattle.std.specs.Prelude.{Bool, List, [], ◌∷◌, ◌++◌, ◌≡◌, ℕ, zero, suc, ◌+◌, ◌-◌, ◌*◌, ◌<◌, ltb, length, get_or}
use Rattle.price.specs.Lists.{up_to}
use Rattle.price.specs.Prices.{base_cost, overuse, factor_at}
use Rattle.price.specs.Timed.{weighed}
use Rattle.price.specs.OlderKinds.{older_costs}
use Rattle.search.specs.Block.{Block, block_of}
use Rattle.search.specs.Distance.{far, distance}
use Rattle.search.specs.Turn.{Congestion, congestion_of, Turn, turn}
use Rattle.job.specs.Job.{Job, nodes, nets, source}
use Rattle.job.specs.Tables.{SoundJob}
use Rattle.job.specs.Join.{joined}
use Rattle.negotiation.specs.Records.{Record}
use Rattle.negotiation.specs.Order.{turn_sinks, turn_congestion}
use Rattle.negotiation.specs.Machine.{State, Progress, marks_of, congestion_for, turn_of, log_turn, has_sinks, due, route_if, iterate}
use Rattle.negotiation.specs.Machine.{over_count, move_on, first_state}
use Rattle.negotiation.specs.Outcome.{has_path, RouteReply, turns_logged, route_reply}
use Rattle.negotiation.specs.Demand.{own_tree, others_read, history_read}
use Rattle.negotiation.specs.Resume.{resume_reply}

-- ---- replies by base costs

-- as many nodes, each of the base cost that it has
pub record SameCosts (kinds others : List ℕ) : Type 0 where
  pub as_many : length others ≡ length kinds
  pub same : (v : ℕ) → v < length kinds → base_cost (get_or others v 0) ≡ base_cost (get_or kinds v 0)

-- the job with another table 1
abbrev pub with_kinds : Job → List ℕ → Job
with_kinds j kinds =
    record {
      block = block_of kinds j.block.capacities j.block.first_edges j.block.edge_targets;
      sources = j.sources;
      first_sinks = j.first_sinks;
      sinks = j.sinks;
      delays = j.delays;
      criticalities = j.criticalities;
      terms = j.terms;
    }

-- answer, work slice and log of either call are the same
pub record RepliesKept (j : Job) (kinds : List ℕ) : Type 0 where
  pub routed : (work log : List ℕ) → route_reply (with_kinds j kinds) work log ≡ route_reply j work log
  pub resumed : (used : ℕ) (work log : List ℕ) → resume_reply (with_kinds j kinds) used work log ≡ resume_reply j used work log

-- where both jobs are sound: the rules of table 1 and, by request 2.5, of tables 5 and 7 ask kinds too, and nothing after them does
abbrev pub ByCosts : Job → List ℕ → Type 0
ByCosts j kinds = SoundJob j → SoundJob (with_kinds j kinds) → SameCosts j.block.kinds kinds → RepliesKept j kinds

-- where a run begins, which nets are due, how histories move on and how many nodes are over capacity hang on no kind, of whatever base cost
pub record KindsUnread (j : Job) (kinds : List ℕ) : Type 0 where
  pub first : first_state (with_kinds j kinds) ≡ first_state j
  pub nets-due : (s : State) (i : ℕ) → due (with_kinds j kinds) s i ≡ due j s i
  pub moved : (s : State) → move_on (with_kinds j kinds) s ≡ move_on j s
  pub over : (trees : List (List ℕ)) → over_count (with_kinds j kinds) trees ≡ over_count j trees

-- so of a run only its turns, and the test for paths before iteration 1, ask kinds, for prices
abbrev pub OnlyPricesAsk : Job → List ℕ → Type 0
OnlyPricesAsk j kinds = length kinds ≡ nodes j → KindsUnread j kinds

-- ---- an iteration under rule 1

-- 01: "An iteration takes nets in order; each drops its old tree, then makes turns until its sinks are joined", so every net that has sinks
unfoldable pub every_net : Job → State → ℕ → Progress
every_net j s zero = record { records = []; state = s }
every_net j s (suc i) = route_if (has_sinks j i) j i (every_net j s i)

-- request 2.7, of every iteration, from any state
abbrev pub AsBefore : Job → Type 0
AsBefore j = j.terms.rule ≡ 1 → (s : State) → iterate j s ≡ every_net j s (nets j)

-- ---- 01's prices

-- "codes 0 to 15"
abbrev pub OlderJob : Job → Type 0
OlderJob j = (v : ℕ) → v < nodes j → get_or j.block.kinds v 0 < 16

-- 01's price of a node, of its table of base costs; in a timed job weighed with the delay
unfoldable pub older_price_at : Block → Congestion → ℕ → ℕ
older_price_at b c v =
    let base = get_or older_costs (get_or b.kinds v 0) 0 in
    let over = overuse (get_or c.others v 0) (get_or b.capacities v 0) in
    weighed c.weighting (get_or c.delays v 0) (get_or c.histories v 0 * base * (100 + c.factor * over))

-- the turn of `turn_of` at these prices
unfoldable pub older_turn_of : Job → Congestion → ℕ → List ℕ → Turn
older_turn_of j c i tree =
    turn j.block (older_price_at j.block (turn_congestion j c i tree)) (marks_of j tree) (turn_sinks j i tree)

-- the test of `has_path` at them
unfoldable pub older_has_path : Job → ℕ → ℕ → Bool
older_has_path j i s =
    ltb (distance j.block (older_price_at j.block (congestion_for j (first_state j) i)) (marks_of j (source j i ∷ [])) s) far

-- whatever the congestion, the net and its tree
pub record TurnsKept (j : Job) : Type 0 where
  pub paths : (i s : ℕ) → has_path j i s ≡ older_has_path j i s
  pub turns : (c : Congestion) (i : ℕ) (tree : List ℕ) → turn_of j c i tree ≡ older_turn_of j c i tree

-- what prices a turn of net i in iteration t, read off the earlier records
unfoldable pub congestion_read : Job → ℕ → ℕ → List Record → Congestion
congestion_read j i t earlier =
    congestion_of (factor_at j.terms.tuning t) (up_to (history_read j earlier (t - 1)) (nodes j))
    (up_to (others_read j i earlier) (nodes j))

-- what the turn at 01's prices logs after the earlier records is this record: its sink, cost and path
abbrev pub OlderTurn : Job → List Record → Record → Type 0
OlderTurn j earlier r =
    let tree = own_tree j r.net r.iteration earlier in
    let made = older_turn_of j (congestion_read j r.net r.iteration earlier) r.net tree in
    log_turn j r.iteration r.net tree made (λ _. []) ≡ r ∷ []

-- of one call's reply, whatever the outcome
pub record LogKept (j : Job) (r : RouteReply) : Type 0 where
  pub every-turn : (earlier later : List Record) (t : Record) → turns_logged r ≡ earlier ++ (t ∷ later) → OlderTurn (joined j) earlier t
