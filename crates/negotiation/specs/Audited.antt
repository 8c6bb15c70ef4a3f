-- What is promised of an audit beside the definition of its reply, whoever wrote the log: of a sound log every turn is as demand 3 asks,
-- and of one that settles the final trees too; a turn that is told is a legal path, and a cheaper one exists. A job's own log is sound.
-- Assumes nothing.
use Rattle.std.specs.Prelude.{true, List, [], ◌∷◌, ◌++◌, ◌≡◌, ℕ, ◌≤◌, ◌<◌, length, take}
use Rattle.price.specs.Lists.{has}
use Rattle.search.specs.Paths.{CheapestPath}
use Rattle.search.specs.Replies.{work_needed}
use Rattle.job.specs.Job.{Job, nodes}
use Rattle.job.specs.Join.{joined}
use Rattle.negotiation.specs.Records.{Record, words, encode, decode}
use Rattle.negotiation.specs.Order.{turn_sinks}
use Rattle.negotiation.specs.Outcome.{route_reply}
use Rattle.negotiation.specs.Demand.{own_tree, price_read, TurnHolds, FinalTrees}
use Rattle.negotiation.specs.Resume.{OwnLog, resume_reply}
use Rattle.negotiation.specs.Resumed.{taken_up, LentTurn}
use Rattle.negotiation.specs.Audit.{AuditReply, audit_reply}

-- "every turn in that log" is as demand 3 asks, at prices worked out from the job and the turns before it
abbrev pub EveryTurn : Job → List Record → Type 0
EveryTurn j rs = (earlier later : List Record) (t : Record) → rs ≡ earlier ++ (t ∷ later) → TurnHolds j earlier t

-- a sound log: its words are records and nothing else, and all of them were audited
pub record SoundLog (j : Job) (used : ℕ) (log : List ℕ) (r : AuditReply) : Type 0 where
  pub within : used ≤ length log
  pub nothing_else : encode (decode (take used log)) ≡ take used log
  pub turns-counted : r.turns ≡ length (decode (take used log))
  pub every-turn : EveryTurn j (decode (take used log))
  -- an iteration is whole and leaves nothing over capacity: it is the last, and the final trees are those of an accepted job
  pub final_trees : 1 ≤ r.whole → r.over ≡ 0 → FinalTrees j (decode (take used log))

-- a cheapest path of a turn's net, from its tree before the turn to a sink that the turn could have joined, of this cost
pub record CheaperPath (j : Job) (earlier : List Record) (t : Record) (least : ℕ) : Type 0 where
  pub sink : ℕ
  pub path : List ℕ
  pub cheapest :
      CheapestPath j.block (price_read j t.net t.iteration earlier) (λ v. has v (own_tree j t.net t.iteration earlier))
      (turn_sinks j t.net (own_tree j t.net t.iteration earlier)) sink least path

-- the turn whose record stands at this word: those before it are as demand 3 asks, and so is this one but for its cost, since a cheaper
-- path exists
pub record FirstNotCheapest (j : Job) (used : ℕ) (log : List ℕ) (word cost least turns : ℕ) : Type 0 where
  pub earlier : List Record
  pub turn : Record
  pub rest : List ℕ
  pub words_are : take used log ≡ encode earlier ++ (words turn ++ rest)
  pub word_is : word ≡ length (encode earlier)
  pub turns-is : turns ≡ length earlier
  pub every-earlier : EveryTurn j earlier
  pub legal : LentTurn j earlier turn
  pub cost_is_lem : turn.cost ≡ cost
  pub cheaper : least < cost
  pub there-is : CheaperPath j earlier turn least

-- of one call: a job, the words used, the work slice and the log that are lent, and the reply. By request 2.3 the nets are joined ones
pub record Audited (j : Job) (used : ℕ) (work log : List ℕ) (r : AuditReply) : Type 0 where
  pub as_audited : r ≡ audit_reply j used work log
  pub sound : r.told ≡ [] → SoundLog (joined j) used log r
  pub not_cheapest_lem :
      (word cost least : ℕ) → r.told ≡ 18 ∷ word ∷ cost ∷ least ∷ []
      → FirstNotCheapest (joined j) used log word cost least r.turns

-- every log that `route` leaves is sound, in any work slice that is long enough: accepted, or ended by 8 or 9
abbrev pub OwnLogSound : (j : Job) (work log work' : List ℕ) → Type 0
OwnLogSound j work log work' =
    taken_up (route_reply j work log).refusal ≡ true → work_needed (nodes j) ≤ length work'
    → (audit_reply j (route_reply j work log).used work' (route_reply j work log).log).told ≡ []

-- and so is the log that `resume` leaves after it has taken up this job's own
abbrev pub OwnResumeSound : (j : Job) (m used : ℕ) (work log work' : List ℕ) → Type 0
OwnResumeSound j m used work log work' =
    OwnLog (joined j) m used log → taken_up (resume_reply j used work log).refusal ≡ true → work_needed (nodes j) ≤ length work'
    → (audit_reply j (resume_reply j used work log).used work' (resume_reply j used work log).log).told ≡ []
