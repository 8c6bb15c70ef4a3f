-- Request 2.6: a job called again with another limit of iterations, or with a log of another length, and how the two answers and logs
-- compare. Each of the two calls is lent its own work slice and log.
-- Assumes nothing.
use Rattle.std.specs.Prelude.{true, false, List, [], ◌∷◌, ◌++◌, ◌≡◌, ℕ, ◌≤◌, ◌<◌, length, take}
use Rattle.search.specs.Replies.{work_needed}
use Rattle.job.specs.Job.{Job, nodes}
use Rattle.job.specs.Tables.{limit_sound, exceeds}
use Rattle.job.specs.Join.{joined}
use Rattle.negotiation.specs.Records.{Record, encode, fitting}
use Rattle.negotiation.specs.Outcome.{RouteReply, words_used, turns_logged, first_progress, all_records, route_reply}

-- "one job under two allowed limits": the job under another limit
abbrev pub with_limit : Job → ℕ → Job
with_limit j limit =
    record {
      block = j.block;
      sources = j.sources;
      first_sinks = j.first_sinks;
      sinks = j.sinks;
      delays = j.delays;
      criticalities = j.criticalities;
      terms = record {
        limit = limit;
        tuning = j.terms.tuning;
        rule = j.terms.rule;
        until = j.terms.until;
        timed = j.terms.timed;
      };
    }

-- an allowed limit: 1 to 100, of a timed job at most 40
pub record AllowedLimit (j : Job) (limit : ℕ) : Type 0 where
  pub sound : limit_sound limit ≡ true
  pub within : exceeds (nodes j) (with_limit j limit).terms ≡ false

-- "work and log long enough": 8 × nodes entries, and the words of all turns of its joined nets
pub record LongEnough (j : Job) (work log : List ℕ) : Type 0 where
  pub work-long : work_needed (nodes j) ≤ length work
  pub log-long : length (encode (all_records (joined j) (first_progress (joined j)))) ≤ length log

-- "is the beginning of": of the words used, and of the turns that they hold
pub record Begins (a b : RouteReply) : Type 0 where
  pub shorter : a.used ≤ b.used
  pub words : take a.used b.log ≡ words_used a
  pub turns : (later : List Record) × (turns_logged b ≡ turns_logged a ++ later)

-- "the same log", and the same answer with it
pub record SameLog (a b : RouteReply) : Type 0 where
  pub refusal : b.refusal ≡ a.refusal
  pub iteration : b.iteration ≡ a.iteration
  pub turns : b.turns ≡ a.turns
  pub used : b.used ≡ a.used
  pub words : words_used b ≡ words_used a

-- the reply of the call under the smaller limit, and that of the call under the larger
pub record LimitRaised (low high : ℕ) (a b : RouteReply) : Type 0 where
  -- "the log under the smaller is the beginning of the log under the larger"
  pub begins : Begins a b
  -- "a job accepted under the smaller has the same log under both"
  pub same : a.refusal ≡ [] → SameLog a b
  -- "People raise the limit after refusal 9": the run then goes on past the smaller
  pub goes_on : (over : ℕ) → a.refusal ≡ 9 ∷ low ∷ over ∷ [] → low < high → low < b.iteration

-- "for one job under two allowed limits, with work and log long enough for both"
abbrev pub LimitsCompared : (j : Job) (low high : ℕ) (work log work' log' : List ℕ) → Type 0
LimitsCompared j low high work log work' log' =
    AllowedLimit j low → AllowedLimit j high → low ≤ high
    → LongEnough (with_limit j low) work log → LongEnough (with_limit j high) work' log'
    → LimitRaised low high (route_reply (with_limit j low) work log) (route_reply (with_limit j high) work' log')

-- in the same work slice and log both hold at any length, and it is the whole reply that is the same
pub record RaisedInPlace (j : Job) (low high : ℕ) (work log : List ℕ) : Type 0 where
  pub begins : Begins (route_reply (with_limit j low) work log) (route_reply (with_limit j high) work log)
  pub same :
      (route_reply (with_limit j low) work log).refusal ≡ []
      → route_reply (with_limit j high) work log ≡ route_reply (with_limit j low) work log

-- "The same for two log lengths, up to the last whole record that fits the shorter": the reply of the call with the shorter log, which has
-- room for so many words, and that of the call with the longer
pub record LogLengthened (room : ℕ) (a b : RouteReply) : Type 0 where
  pub begins : Begins a b
  -- the turns in the shorter are all of the longer's that fit it whole
  pub fits : turns_logged a ≡ fitting room (turns_logged b)
  pub same : a.refusal ≡ [] → SameLog a b
  -- no other end of the run depends on the log's length: without refusal 8 answer and log are the same
  pub unless_full : ((iteration turns : ℕ) → a.refusal ≡ 8 ∷ iteration ∷ turns ∷ [] → ⊥) → SameLog a b

abbrev pub LogsCompared : (j : Job) (work short work' long : List ℕ) → Type 0
LogsCompared j work short work' long =
    work_needed (nodes j) ≤ length work → work_needed (nodes j) ≤ length work' → length short ≤ length long
    → LogLengthened (length short) (route_reply j work short) (route_reply j work' long)
