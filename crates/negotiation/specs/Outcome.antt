-- Document 01, "The negotiation, as a machine" and "Numbers for a stopped call": how a call of the router ends, and what it leaves.
-- Assumes nothing.
use Rattle.std.specs.Prelude.{Bool, not, List, [], ◌∷◌, ◌++◌, map, ℕ, ◌+◌, ◌-◌, leb, ltb, length, get_or, take, drop}
use Rattle.price.specs.Test.{choose}
use Rattle.price.specs.Lists.{every, first_below}
use Rattle.search.specs.Distance.{far, distance}
use Rattle.search.specs.Turn.{price_at}
use Rattle.search.specs.Replies.{work_needed, cleared}
use Rattle.job.specs.Job.{Job, nodes, nets, source, net_sinks}
use Rattle.job.specs.Tables.{faulty_job, exceeds}
use Rattle.job.specs.Join.{joined}
use Rattle.negotiation.specs.Records.{Record, encode, decode, fitting}
use Rattle.negotiation.specs.Machine.{State, Progress, marks_of, congestion_for, over_count}
use Rattle.negotiation.specs.Machine.{first_state, iteration_after, records_after, settles_at}
use Rattle.negotiation.specs.declared.RouteAnswer.{RouteAnswer}
use Rattle.negotiation.specs.declared.Outcome.{Outcome}
use Rattle.negotiation.specs.declared.Outcome.TheVariants as o

-- "Before iteration 1, any sink without a path from its source stops the job": a path is there where the distance is not 2^64 − 1
unfoldable pub has_path : Job → ℕ → ℕ → Bool
has_path j i s =
    ltb (distance j.block (price_at j.block (congestion_for j (first_state j) i)) (marks_of j (source j i ∷ [])) s) far

-- "first net, first sink place in it (from 0), without a path"; the net count where every sink has one
unfoldable pub unreachable_net : Job → ℕ
unreachable_net j = first_below (λ i. not (every (has_path j i) (net_sinks j i))) (nets j)

unfoldable pub unreachable_place : Job → ℕ
unreachable_place j =
    first_below (λ p. not (has_path j (unreachable_net j) (get_or (net_sinks j (unreachable_net j)) p 0)))
    (length (net_sinks j (unreachable_net j)))

-- how many iterations a run from a state makes under a limit of so many: up to the first that settles
unfoldable pub iterations_made : Job → State → ℕ → ℕ
iterations_made j s most =
    choose (ltb (first_below (settles_at j s) most) most) (first_below (settles_at j s) most + 1) most

-- a run begins with no records
abbrev pub first_progress : Job → Progress
first_progress j = record { records = []; state = first_state j }

-- how many iterations the limit leaves to a run that goes on from a state, and how many it makes
unfoldable pub iterations_left : Job → State → ℕ
iterations_left j s = j.terms.limit + 1 - s.iteration

abbrev pub made_from : Job → State → ℕ
made_from j s = iterations_made j s (iterations_left j s)

-- all turns of a run that goes on from these records and this state, in a log of any length
unfoldable pub all_records : Job → Progress → List Record
all_records j p = p.records ++ records_after j p.state (made_from j p.state)

-- the turns that are logged in so many words
unfoldable pub logged_records : Job → Progress → ℕ → List Record
logged_records j p room = fitting room (all_records j p)

-- the iteration of the first turn whose record does not fit
unfoldable pub cut_iteration : Job → Progress → ℕ → ℕ
cut_iteration j p room = get_or (map (λ (r : Record). r.iteration) (all_records j p)) (length (logged_records j p room)) 0

-- what a call answers and leaves: the refusal's numbers, none where the job is accepted; iteration, turns and words used; work slice
-- and log
pub record RouteReply : Type 0 where
  pub refusal : List ℕ
  pub iteration : ℕ
  pub turns : ℕ
  pub used : ℕ
  pub work : List ℕ
  pub log : List ℕ

-- the log that a call made: the words used
abbrev pub words_used : RouteReply → List ℕ
words_used r = take r.used r.log

-- "The logged turns are the records in the words used, in order"
abbrev pub turns_logged : RouteReply → List Record
turns_logged r = decode (words_used r)

-- 01's numbers for each case of the outcome, request 2.8's 14 and 2.9's 15, beside iteration and turns; 18 is an audit's, and no refusal
abbrev pub route_refusal : Outcome → ℕ → ℕ → List ℕ
route_refusal o.Accepted iteration turns = []
route_refusal (o.Unreachable net place) iteration turns = 7 ∷ net ∷ place ∷ []
route_refusal o.LogFull iteration turns = 8 ∷ iteration ∷ turns ∷ []
route_refusal (o.Limit over) iteration turns = 9 ∷ iteration ∷ over ∷ []
route_refusal (o.BadTable table) iteration turns = 5 ∷ table ∷ []
route_refusal (o.ShortWork needed) iteration turns = 6 ∷ needed ∷ []
route_refusal (o.Diverges word) iteration turns = 14 ∷ word ∷ []
route_refusal (o.TooLarge count limit) iteration turns = 15 ∷ count ∷ limit ∷ []
route_refusal (o.NotCheapest word cost least) iteration turns = 18 ∷ word ∷ cost ∷ least ∷ []

-- the answer with work slice and log at the call's end, as one value
abbrev pub route_reply_of : RouteAnswer → List ℕ → List ℕ → RouteReply
route_reply_of r work log =
    record {
      refusal = route_refusal r.outcome r.iteration r.turns;
      iteration = r.iteration;
      turns = r.turns;
      used = r.used;
      work = work;
      log = log;
    }

-- the answer of a call that is refused before any turn
abbrev pub refused_answer : Outcome → RouteAnswer
refused_answer outcome = record { outcome = outcome; iteration = 0; turns = 0; used = 0; expanded = 0 }

-- "After any refusal but 8 and 9 all three are 0, and memory not named is untouched."
abbrev pub refused_reply : List ℕ → List ℕ → List ℕ → RouteReply
refused_reply numbers work log =
    record { refusal = numbers; iteration = 0; turns = 0; used = 0; work = work; log = log }

-- the log with these records at its beginning; the words past them stay
unfoldable pub log_with : List Record → List ℕ → List ℕ
log_with rs log = encode rs ++ drop (length (encode rs)) log

-- the reply of a run that logged these records and ended in this iteration
abbrev pub ran_reply : Job → List ℕ → ℕ → List Record → List ℕ → List ℕ → RouteReply
ran_reply j numbers iteration rs work log =
    record {
      refusal = numbers;
      iteration = iteration;
      turns = length rs;
      used = length (encode rs);
      work = cleared (nodes j) [] work;
      log = log_with rs log;
    }

-- the run's end where every record fits: "nothing over capacity, accepted; else limit reached, refusal 9"
unfoldable pub end_numbers : Job → State → List ℕ
end_numbers j s =
    choose (settles_at j s (made_from j s - 1))
    []
    (9 ∷ j.terms.limit ∷ over_count j (iteration_after j s (made_from j s - 1)).state.trees ∷ [])

-- the iteration in which a run from a state ends
abbrev pub end_iteration : Job → State → ℕ
end_iteration j s = s.iteration + made_from j s - 1

-- the reply of a negotiation that goes on from these records and this state
unfoldable pub continued : Job → Progress → List ℕ → List ℕ → RouteReply
continued j p work log =
    let logged = logged_records j p (length log) in
    let cut = cut_iteration j p (length log) in
    choose (ltb (length logged) (length (all_records j p)))
    (ran_reply j (8 ∷ cut ∷ length logged ∷ []) cut logged work log)
    (ran_reply j (end_numbers j p.state) (end_iteration j p.state) (all_records j p) work log)

-- and of one that begins
abbrev pub negotiated : Job → List ℕ → List ℕ → RouteReply
negotiated j work log = continued j (first_progress j) work log

-- what a job of joined nets comes to where a run that has begun comes to this, and `refuse` makes a reply of a refusal's numbers and the
-- work slice that it leaves: by request 2.3, "7 gives the first net's number and the place among its joined sinks"
abbrev pub reached : {R : Type 0} → (List ℕ → List ℕ → R) → Job → List ℕ → R → R
reached refuse j work run =
    choose (ltb (unreachable_net j) (nets j)) (refuse (7 ∷ unreachable_net j ∷ unreachable_place j ∷ []) (cleared (nodes j) [] work)) run

-- the same of a job as it is given, whose tables are tested with its nets as listed. Request 2.9: "number 15 with the node count and the
-- limit when a timed job exceeds either, after 5"
abbrev pub tested_by : {R : Type 0} → (List ℕ → List ℕ → R) → Job → List ℕ → R → R
tested_by refuse j work run =
    choose (leb 1 (faulty_job j)) (refuse (5 ∷ faulty_job j ∷ []) work)
    (choose (exceeds (nodes j) j.terms) (refuse (15 ∷ nodes j ∷ j.terms.limit ∷ []) work)
    (choose (ltb (length work) (work_needed (nodes j))) (refuse (6 ∷ work_needed (nodes j) ∷ []) work)
    (reached refuse (joined j) work run)))

-- the router's replies: a refusal leaves the log as it was
abbrev pub reached_reply : Job → List ℕ → List ℕ → RouteReply → RouteReply
reached_reply j work log run = reached (λ numbers left. refused_reply numbers left log) j work run

abbrev pub tested : Job → List ℕ → List ℕ → RouteReply → RouteReply
tested j work log run = tested_by (λ numbers left. refused_reply numbers left log) j work run

-- "The router tests 5, 6, 7, then 8 and 9 as they arise", with 15 after 5, and by request 2.3 "Negotiation and all of demand 3 are those of
-- joined nets"
unfoldable pub route_reply : Job → List ℕ → List ℕ → RouteReply
route_reply j work log = tested j work log (negotiated (joined j) work log)
