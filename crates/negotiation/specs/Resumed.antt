-- Request 2.8, "Going on from a finished log": what is promised of a resumed call beside the definition of its reply. A job's own log ends
-- as its straight run; what is rebuilt from any log that passes is read off it, its turns are legal at prices read off it, and the
-- appended turns are as demand 3 asks.
-- Assumes nothing.
use Rattle.std.specs.Prelude.{Bool, true, false, List, [], ◌∷◌, ◌++◌, ◌≡◌, ℕ, ◌+◌, ◌≤◌, ◌<◌, eqb, length, get_or, take, drop}
use Rattle.price.specs.Test.{either}
use Rattle.price.specs.Lists.{has, distinct}
use Rattle.price.specs.Prices.{factor_at}
use Rattle.search.specs.Replies.{work_needed}
use Rattle.job.specs.Job.{Job, nodes, nets, net_sinks}
use Rattle.job.specs.Tables.{SoundJob}
use Rattle.job.specs.Join.{joined}
use Rattle.negotiation.specs.Records.{Record, encode, decode}
use Rattle.negotiation.specs.Order.{turn_sinks}
use Rattle.negotiation.specs.Machine.{Progress, tree_at}
use Rattle.negotiation.specs.Outcome.{RouteReply, words_used, turns_logged, route_reply}
use Rattle.negotiation.specs.Unreachable.{AllReachable}
use Rattle.negotiation.specs.Demand.{own_tree, tree_read, history_read, TurnJoins, TurnHolds, FinalTrees, CostsFit}
use Rattle.negotiation.specs.Longer.{with_limit, AllowedLimit, SameLog}
use Rattle.negotiation.specs.Resume.{on, replay, OwnLog, resume_reply}

-- ---- this job's own log

-- "log and outcome end as in a straight run in as long a log"
pub record EndsStraight (j : Job) (used : ℕ) (work log : List ℕ) : Type 0 where
  -- in the same work slice and log it is the whole reply, whatever comes first
  pub in_place : resume_reply j used work log ≡ route_reply j work log
  -- a straight run that is lent its own work slice and log
  pub as_long :
      (work' log' : List ℕ) → work_needed (nodes j) ≤ length work → work_needed (nodes j) ≤ length work' → length log' ≡ length log
      → SameLog (route_reply j work' log') (resume_reply j used work log)

-- "From this job's own run over one or more whole iterations, so taken up"
abbrev pub OwnResumed : (j : Job) (m used : ℕ) (work log : List ℕ) → Type 0
OwnResumed j m used work log = OwnLog (joined j) m used log → EndsStraight j used work log

-- "After refusal 9 a long run shouldn't begin again": its log and words used, taken up under a larger allowed limit in any work slice that
-- is long enough, end as the straight run under that limit
abbrev pub ResumedAfterLimit : (j : Job) (low high : ℕ) (work log work' : List ℕ) → Type 0
ResumedAfterLimit j low high work log work' =
    (over : ℕ) → (route_reply (with_limit j low) work log).refusal ≡ 9 ∷ low ∷ over ∷ [] → AllowedLimit j high → low < high
    → work_needed (nodes j) ≤ length work'
    → resume_reply (with_limit j high) (route_reply (with_limit j low) work log).used work' (route_reply (with_limit j low) work log).log
    ≡ route_reply (with_limit j high) work' log

-- ---- any log

-- whether the log was taken up: the call is accepted or ends by 8 or 9, since every other refusal comes before that
unfoldable pub taken_up : List ℕ → Bool
taken_up [] = true
taken_up (number ∷ numbers) = either (eqb number 8) (eqb number 9)

-- "a resume refused before that reports 0 of each, as in 01, and no turn of its lent log counts as logged"; "the log stays as lent"
pub record NotTakenUp (lent : List ℕ) (r : RouteReply) : Type 0 where
  pub refused : r.refusal ≡ [] → ⊥
  pub no_turns : r.turns ≡ 0
  pub no_words : r.used ≡ 0
  pub log-stays : r.log ≡ lent

-- "Once the log is taken up, turns and words used count the whole of it": the lent words and their turns stand first
pub record LentFirst (used : ℕ) (lent : List ℕ) (r : RouteReply) : Type 0 where
  pub counted : used ≤ r.used
  pub words : take used r.log ≡ take used lent
  pub turns : (later : List Record) × (turns_logged r ≡ decode (take used lent) ++ later)

-- A lent turn of a log that is taken up. Demand 3 is about "every turn in that log, whatever the outcome"; of a lent one 2.8 takes back
-- that its path be cheapest, and nothing else. It asks besides for "a path along edges, no node twice, its first node alone in the tree,
-- its last the record's sink, unjoined, with no other unjoined sink on it, its cost the sum of its prices".
pub record LentTurn (j : Job) (earlier : List Record) (t : Record) : Type 0 where
  pub joins : TurnJoins j earlier t
  pub no_node_twice : distinct t.path ≡ true
  pub first_alone : (v : ℕ) → has v (drop 1 t.path) ≡ true → has v (own_tree j t.net t.iteration earlier) ≡ false
  pub no_other-sink :
      j.terms.timed ≡ false → (v : ℕ) → has v t.path ≡ true → has v (net_sinks j t.net) ≡ true
      → has v (own_tree j t.net t.iteration earlier) ≡ false → v ≡ t.sink
  -- 2.9, of a timed job: "a resumed record must join that sink, and any path may pass other unjoined ones"
  pub sink_due_lem : j.terms.timed ≡ true → turn_sinks j t.net (own_tree j t.net t.iteration earlier) ≡ t.sink ∷ []

-- "rebuilds histories, factor and trees": after so many whole iterations, those that demand 3 reads off the lent turns
pub record Rebuilt (j : Job) (m : ℕ) (lent : List Record) (p : Progress) : Type 0 where
  pub turns : p.records ≡ lent
  -- "one or more iterations, .. the last whole and below the limit"
  pub some : 1 ≤ m
  pub below : m < j.terms.limit
  pub iteration : p.state.iteration ≡ m + 1
  pub factor : p.state.factor ≡ factor_at j.terms.tuning (m + 1)
  pub histories : (v : ℕ) → v < nodes j → get_or p.state.histories v 0 ≡ history_read j lent m v
  pub trees : (i v : ℕ) → i < nets j → has v (tree_at p.state.trees i) ≡ has v (tree_read i lent)

-- of any log that passes
abbrev pub RebuiltAsRead : (j : Job) (used : ℕ) (lent : List ℕ) → Type 0
RebuiltAsRead j used lent =
    SoundJob j → (p : Progress) → replay (joined j) used lent ≡ on p → (m : ℕ) × Rebuilt (joined j) m (decode (take used lent)) p

-- of one call: a job, the words used and the log that are lent, the work slice, and the reply. "From any other log that passes, the
-- negotiation goes on from what was rebuilt, and the cheapest-path claim covers the appended turns."
pub record Resumed (j : Job) (used : ℕ) (work lent : List ℕ) (r : RouteReply) : Type 0 where
  pub as_resumed : r ≡ resume_reply j used work lent
  -- 01: "these words hold nothing else"
  pub nothing_else : encode (turns_logged r) ≡ words_used r
  -- demand 3: "Whatever the outcome, the reported turn count is the number of logged turns."
  pub turns-counted : r.turns ≡ length (turns_logged r)
  pub lent_first : taken_up r.refusal ≡ true → LentFirst used lent r
  pub not_taken_up : taken_up r.refusal ≡ false → NotTakenUp lent r
  -- each at prices worked out from the job and the lent turns before it
  pub lent-turns :
      taken_up r.refusal ≡ true → (earlier later : List Record) (t : Record) → decode (take used lent) ≡ earlier ++ (t ∷ later)
      → LentTurn (joined j) earlier t
  -- each at prices worked out from the job and all turns before it, lent or appended
  pub appended :
      (earlier later : List Record) (t : Record) → turns_logged r ≡ decode (take used lent) ++ (earlier ++ (t ∷ later))
      → TurnHolds (joined j) (decode (take used lent) ++ earlier) t
  -- "In every accepted job"
  pub final_trees : r.refusal ≡ [] → FinalTrees (joined j) (turns_logged r)
  -- "No job is refused as unreachable if every sink has a path from its source."
  pub not_unreachable : AllReachable (joined j) → (net place : ℕ) → r.refusal ≡ 7 ∷ net ∷ place ∷ [] → ⊥
  -- the bound on a path's cost, of lent and appended turns
  pub costs_fit : CostsFit r
