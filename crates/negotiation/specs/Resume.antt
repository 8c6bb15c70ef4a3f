-- Request 2.8, "Going on from a finished log": whether a lent log follows the job, what is rebuilt from it, and what resume answers and
-- leaves. The replay goes over the log's words with the machine's own steps, so what is rebuilt is a state of the machine. An audit
-- (Audit.antt) is the same replay with two more questions: it is the test `audit` of these definitions, false where a log is taken up.
-- Assumes nothing.
use Rattle.std.specs.Prelude.{Option, Some, None}
use Rattle.std.specs.Prelude.{Bool, false, not, List, [], ◌∷◌, ◌++◌, ◌≡◌, ℕ, zero, suc, ◌+◌, ◌-◌, ◌/◌, ◌%◌, ◌^◌, ◌≤◌, ◌<◌, eqb, leb}
use Rattle.std.specs.Prelude.{ltb, length, get_or, take, drop}
use Rattle.price.specs.Test.{choose, both, either}
use Rattle.price.specs.Lists.{every, neighbours, has, distinct}
use Rattle.search.specs.Block.{has_edge}
use Rattle.search.specs.Paths.{path_cost}
use Rattle.search.specs.Distance.{far}
use Rattle.search.specs.Turn.{price_at, Turn, joins, stuck}
use Rattle.search.specs.Replies.{cleared}
use Rattle.job.specs.Job.{Job, nodes, nets, net_sinks}
use Rattle.job.specs.Join.{joined}
use Rattle.negotiation.specs.Records.{Record, record_of, encode, decode}
use Rattle.negotiation.specs.Order.{turn_sinks, turn_congestion}
use Rattle.negotiation.specs.Machine.{State, Progress, congestion_for, turn_of, tree_from, with_net, due, over_count, move_on, first_state}
use Rattle.negotiation.specs.Machine.{records_after, settles_at}
use Rattle.negotiation.specs.Outcome.{RouteReply, refused_reply, continued, negotiated, tested}

-- ---- one record

-- the path of the record that the words begin with
abbrev pub record_path : List ℕ → List ℕ
record_path ws = take (get_or ws 5 0) (drop 6 ws)

-- the record that the words begin with, where its cost follows
abbrev pub record_in : (ℕ → ℕ) → List ℕ → Record
record_in price ws = record_of (get_or ws 0 0) (get_or ws 1 0) (get_or ws 2 0) (path_cost price (record_path ws)) (record_path ws)

-- "a record cut short .. doesn't follow"
unfoldable pub whole_record : List ℕ → Bool
whole_record ws = both (leb 6 (length ws)) (leb (6 + get_or ws 5 0) (length ws))

-- a sink that the tree lacks
unfoldable pub unjoined : List ℕ → List ℕ → ℕ → Bool
unjoined sinks tree v = both (has v sinks) (not (has v tree))

-- "its first node alone in the tree"
unfoldable pub first_alone : List ℕ → List ℕ → Bool
first_alone tree path = both (has (get_or path 0 0) tree) (every (λ v. not (has v tree)) (drop 1 path))

-- "its last the record's sink"
unfoldable pub ends_at : ℕ → List ℕ → Bool
ends_at sink path = eqb (get_or path (length path - 1) 0) sink

-- "with no other unjoined sink on it"
unfoldable pub no_other : List ℕ → List ℕ → ℕ → List ℕ → Bool
no_other sinks tree sink path = every (λ v. either (eqb v sink) (not (unjoined sinks tree v))) path

-- "each turn a path along edges, no node twice, its first node alone in the tree, its last the record's sink, unjoined, with no other
-- unjoined sink on it". Nothing asks that the path be cheapest or the sink nearest. Request 2.9: in a timed job "a resumed record must join
-- that sink", the one whose turn it is, "and any path may pass other unjoined ones"
unfoldable pub path_follows : Job → ℕ → List ℕ → ℕ → List ℕ → Bool
path_follows j i tree sink path =
    both (neighbours (has_edge j.block) path)
    (both (distinct path)
    (both (first_alone tree path)
    (both (ends_at sink path)
    (both (unjoined (turn_sinks j i tree) tree sink)
    (no_other (turn_sinks j i tree) tree sink path)))))

-- "its cost the sum of its prices": the two words of a cost are that cost's
unfoldable pub cost_follows : (ℕ → ℕ) → List ℕ → Bool
cost_follows price ws =
    both (eqb (get_or ws 3 0) (path_cost price (record_path ws) % 2 ^ 32)) (eqb (get_or ws 4 0) (path_cost price (record_path ws) / 2 ^ 32))

-- what a node costs in the next turn of net i, which has this tree, in this state
abbrev pub turn_price : Job → State → ℕ → List ℕ → ℕ → ℕ
turn_price j s i tree = price_at j.block (turn_congestion j (congestion_for j s i) i tree)

-- the words begin with a turn of net i, which has this tree, in this state
unfoldable pub turn_follows : Job → State → ℕ → List ℕ → List ℕ → Bool
turn_follows j s i tree ws =
    both (whole_record ws)
    (both (eqb (get_or ws 0 0) s.iteration)
    (both (eqb (get_or ws 1 0) i)
    (both (path_follows j i tree (get_or ws 2 0) (record_path ws))
    (cost_follows (turn_price j s i tree) ws))))

-- ---- the log, record after record

-- The records so far follow and lead to this progress, or the log stops following the job at this word. Of an audit: its words end behind
-- these records, or the next record, which follows, costs more than the least.
pub data Replay : Type 0 where
  on : (p : Progress) → Replay
  off : (word : ℕ) → Replay
  ends : (p : Progress) → Replay
  not_cheapest : (p : Progress) (cost least : ℕ) → Replay

abbrev pub if_on : Replay → (Progress → Replay) → Replay
if_on (on p) next = next p
if_on (off word) next = off word
if_on (ends p) next = ends p
if_on (not_cheapest p cost least) next = not_cheapest p cost least

-- the words after these records
abbrev pub after : List ℕ → List Record → List ℕ
after ws rs = drop (length (encode rs)) ws

-- no words come after these records
abbrev pub at_end : List ℕ → List Record → Bool
at_end ws rs = leb (length ws) (length (encode rs))

-- where the next record begins: "the word place of the first record that doesn't follow, the words used if only the end is wrong"
abbrev pub off_after : List Record → Replay
off_after rs = off (length (encode rs))

-- every sink of net i is joined by these turns
unfoldable pub all_joined : Job → ℕ → List Record → Bool
all_joined j i made = every (λ x. has x (tree_from j i made)) (net_sinks j i)

-- what a turn costs, 2^64 − 1 where it is stuck
abbrev pub cost_of : Turn → ℕ
cost_of (joins place cost path) = cost
cost_of stuck = far

-- the least cost of a path that the next turn of net i, which has this tree, can take in this state
unfoldable pub least_cost : Job → State → ℕ → List ℕ → ℕ
least_cost j s i tree = cost_of (turn_of j (congestion_for j s i) i tree)

-- the records of a net that has begun, behind those before it
abbrev pub gone_to : Progress → List Record → Progress
gone_to p made = record { records = p.records ++ made; state = p.state }

-- so many turns of net i, at most, after those that it has made: "each until its sinks are joined"
unfoldable pub replay_turns : Bool → Job → List ℕ → ℕ → Progress → ℕ → List Record → Replay
replay_turns audit j ws i p zero made = choose (all_joined j i made) (on (with_net j i p made)) (off_after (p.records ++ made))
replay_turns audit j ws i p (suc k) made =
    let tree = tree_from j i made in
    let price = turn_price j p.state i tree in
    let there = after ws (p.records ++ made) in
    let cost = path_cost price (record_path there) in
    let least = least_cost j p.state i tree in
    choose (all_joined j i made) (on (with_net j i p made))
    (choose (both audit (at_end ws (p.records ++ made))) (ends (gone_to p made))
    (choose (turn_follows j p.state i tree there)
    (choose (both audit (ltb least cost)) (not_cheapest (gone_to p made) cost least)
    (replay_turns audit j ws i p k (made ++ (record_in price there ∷ []))))
    (off_after (p.records ++ made))))

-- "the nets due to be routed, in order": the first nets of an iteration from state s, after these records
unfoldable pub replay_nets : Bool → Job → List ℕ → State → List Record → ℕ → Replay
replay_nets audit j ws s rs zero = on (record { records = rs; state = s })
replay_nets audit j ws s rs (suc i) =
    if_on (replay_nets audit j ws s rs i)
    (λ p. choose (due j s i) (replay_turns audit j ws i p (length (net_sinks j i)) []) (on p))

-- an audit that ends inside an iteration tells of the state at its start, which is that after the last whole one
abbrev pub since_start : State → Replay → Replay
since_start s (on p) = on p
since_start s (off word) = off word
since_start s (ends p) = ends (record { records = p.records; state = s })
since_start s (not_cheapest p cost least) = not_cheapest (record { records = p.records; state = s }) cost least

-- the progress at the next iteration's start
abbrev pub moved_on : Job → Progress → Progress
moved_on j p = record { records = p.records; state = move_on j p.state }

-- after a whole iteration: "one or more iterations, each leaving a node overfull, the last whole and below the limit"; an audit's words may
-- end behind any
abbrev pub replay_next : Bool → Job → List ℕ → Progress → (State → List Record → Replay) → Replay
replay_next audit j ws p next =
    choose (both audit (at_end ws p.records)) (ends (moved_on j p))
    (choose (either (eqb (over_count j p.state.trees) 0) (leb j.terms.limit p.state.iteration)) (off_after p.records)
    (choose (at_end ws p.records) (on (moved_on j p))
    (next (move_on j p.state) p.records)))

-- so many iterations, at most; as many as the limit are never all made, since the last must be below it
unfoldable pub replay_from : Bool → Job → List ℕ → ℕ → State → List Record → Replay
replay_from audit j ws zero s rs = off_after rs
replay_from audit j ws (suc k) s rs =
    if_on (since_start s (replay_nets audit j ws s rs (nets j))) (λ p. replay_next audit j ws p (replay_from audit j ws k))

-- "The log must follow the job: from iteration 1", over the words used; "or the log's length if the words used exceed it"
unfoldable pub replay_by : Bool → Job → ℕ → List ℕ → Replay
replay_by audit j used log =
    choose (ltb (length log) used) (off (length log)) (replay_from audit j (take used log) j.terms.limit (first_state j) [])

-- a log that is taken up
abbrev pub replay : Job → ℕ → List ℕ → Replay
replay j used log = replay_by false j used log

-- ---- a job's own log

-- "this job's own run over one or more whole iterations", of which each leaves a node overfull and the last is below the limit, stands in
-- the words used
pub record OwnLog (j : Job) (m used : ℕ) (log : List ℕ) : Type 0 where
  pub some : 1 ≤ m
  pub below : m < j.terms.limit
  pub unsettled : (k : ℕ) → k < m → settles_at j (first_state j) k ≡ false
  pub within : used ≤ length log
  pub words_are : take used log ≡ encode (records_after j (first_state j) m)

-- ---- what resume answers

-- a log that doesn't follow: "Turned away: number 14 with the word place of the first record that doesn't follow, ..", "the work is zeroed,
-- and the log stays as lent". One that follows: "rebuilds histories, factor and trees, and appends turns". The last two are an audit's: no
-- replay that takes a log up comes to them (`never_ends` of ReplayLaws)
abbrev pub resumed_reply : Job → Replay → List ℕ → List ℕ → RouteReply
resumed_reply j (off word) work log = refused_reply (14 ∷ word ∷ []) (cleared (nodes j) [] work) log
resumed_reply j (on p) work log = continued j p work log
resumed_reply j (ends p) work log = refused_reply (14 ∷ length (encode p.records) ∷ []) (cleared (nodes j) [] work) log
resumed_reply j (not_cheapest p cost least) work log = refused_reply (14 ∷ length (encode p.records) ∷ []) (cleared (nodes j) [] work) log

-- the reply of a run of joined nets that starts with iteration 1, or after the words used of a lent log
abbrev pub run_from : Option ℕ → Job → List ℕ → List ℕ → RouteReply
run_from None j work log = negotiated j work log
run_from (Some used) j work log = resumed_reply j (replay j used log) work log

-- the records that are lent with such a start
abbrev pub lent_records : Option ℕ → List ℕ → List Record
lent_records None log = []
lent_records (Some used) log = decode (take used log)

-- "it comes after 7": the tests of a job as it is given come first, as `route` has them
unfoldable pub resume_reply : Job → ℕ → List ℕ → List ℕ → RouteReply
resume_reply j used work log = tested j work log (resumed_reply (joined j) (replay (joined j) used log) work log)
