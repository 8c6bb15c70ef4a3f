-- From a job text to its routes text: the words used fit the log, the counts mark out the job in the tables, and each answer is the reply.
-- Assumes nothing.
use mathlib.Core.Bool.{Bool, true, false}
use mathlib.Core.List.{List, [], ◌∷◌}
use mathlib.Core.Path.{◌≡◌, refl, sym, ◌∙◌, ap, subst}
use Prim.Native.Nat.{ℕ, ◌+◌, ◌-◌, ◌≤◌, ◌<◌, zero-le}
use native.Mathlib.Omega.{arith}
use Rattle.std.specs.Prelude.{Result, Ok, Err}
use lib.Dec.{leb, ltb, eqb}
use lib.ListN.{length, get_or, take, drop, length-append}
use lib.Seq.{take_at}
use borrow.Author.Tests.{lt-ltb, le-ltb}
use Rattle.price.specs.Test.{choose}
use Rattle.price.specs.Bounds.{nodes_most}
use Rattle.price.proofs.TestLaws.{by_test}
use Rattle.search.specs.Replies.{work_needed}
use Rattle.search.proofs.BlockLaws.{kinds-few, capacities-long}
use Rattle.search.proofs.BlockLaws as block
use Rattle.job.specs.Tables.{nets_most, faulty_job, exceeds, SoundJob}
use Rattle.job.specs.Job.{Job, job_of, if_timed, nodes, nets}
use Rattle.job.specs.Join.{joined}
use Rattle.job.specs.Tables.{told, refused_numbers}
use Rattle.job.specs.declared.refused.Refused.{Refused}
use Rattle.negotiation.specs.Records.{Record, encode}
use Rattle.negotiation.specs.Machine.{Progress, settles_at}
use Rattle.negotiation.specs.Outcome.{RouteReply, route_refusal, route_reply_of, log_with, first_progress, made_from, logged_records, all_records, end_numbers, unreachable_net, continued, route_reply}
use Rattle.negotiation.specs.declared.RouteAnswer.{RouteAnswer}
use Rattle.job.specs.declared.Terms.{Terms}
use Rattle.negotiation.specs.declared.Outcome.{Outcome}
use Rattle.negotiation.specs.declared.Outcome.TheVariants.{Accepted, Unreachable, LogFull, Limit, BadTable, ShortWork, Diverges, TooLarge, NotCheapest}
use Rattle.negotiation.specs.Routable.{Routable}
use Rattle.negotiation.proofs.RoutableLaws.{routable_of}
use Rattle.job.proofs.JobLaws as job
use Rattle.text.specs.Lines.{letter_x}
use Rattle.text.specs.LineReplies.{PlaceReply, place_reply_of, line_reply}
use Rattle.text.specs.JobText.{Part, part, stopped, read_text}
use Rattle.text.specs.Printed.{PrintedAs}
use Rattle.text.specs.ReadReplies.{Tables, short_table, written_over, tables_with, ReadReply, not_read, terms_numbers, job_numbers, read_whole, stored_reply, reply_to, read_reply}
use Rattle.text.specs.Accepted.{AllowedText, AcceptedText}
use Rattle.text.specs.Routes.{WriteReply}
use Rattle.text.specs.Dot.{style_reply}
use Rattle.text.specs.declared.Style.{Style}
use Rattle.flow.specs.RunReplies.{Lent, lent_of, RunReply, run_reply_with, after_write, after_route, route_run, after_read, run_of, run_reply, written_reply_of, run_reply_of, input_most, response_of, line_response, answered, response}
use Rattle.flow.specs.Steps.{answer_line}
use Rattle.text.proofs.TextHolds.{printed_read, reader_exact}
use Rattle.flow.proofs.ResponseLaws.{over-long}

-- ---- the router's reply

-- records that stand at the beginning of the log
ran-fits : (rs : List Record) (log : List ℕ) → length (encode rs) ≤ length (log_with rs log)
unfolding log_with
ran-fits rs log = let long = length-append (encode rs) (drop (length (encode rs)) log) in omega arith

-- the words that a run uses are words of the log
run_fits : (j : Job) (p : Progress) (work log : List ℕ) → (continued j p work log).used ≤ length (continued j p work log).log
unfolding continued
run_fits j p work log =
    by_test (ltb (length (logged_records j p (length log))) (length (all_records j p)))
    (λ w. rw w (ran-fits (logged_records j p (length log)) log))
    (λ w. rw w (ran-fits (all_records j p) log))

used-fits : (j : Job) (work log : List ℕ) → (route_reply j work log).used ≤ length (route_reply j work log).log
unfolding route_reply
used-fits j work log =
    by_test (leb 1 (faulty_job j))
    (λ t. rw t zero-le)
    (λ t.
    by_test (exceeds (nodes j) j.terms)
    (λ x. rw (t, x) zero-le)
    (λ x.
    by_test (ltb (length work) (work_needed (nodes j)))
    (λ u. rw (t, x, u) zero-le)
    (λ u.
    by_test (ltb (unreachable_net (joined j)) (nets j))
    (λ v. rw (t, x, u, v) zero-le)
    (λ v. rw (t, x, u, v) (run_fits (joined j) (first_progress (joined j)) work log)))))

-- the router's numbers are refusals, all of them below an audit's 18
run_refusals : (j : Job) (p : Progress) (work log : List ℕ) → get_or (continued j p work log).refusal 0 0 ≤ 15
unfolding continued end_numbers
run_refusals j p work log =
    by_test (ltb (length (logged_records j p (length log))) (length (all_records j p)))
    (λ w. rw w (omega arith))
    (λ w.
    by_test (settles_at j p.state (made_from j p.state - 1))
    (λ e. rw (w, e) zero-le)
    (λ e. rw (w, e) (omega arith)))

refusals : (j : Job) (work log : List ℕ) → get_or (route_reply j work log).refusal 0 0 ≤ 15
unfolding route_reply
refusals j work log =
    by_test (leb 1 (faulty_job j))
    (λ t. rw t (omega arith))
    (λ t.
    by_test (exceeds (nodes j) j.terms)
    (λ x. rw (t, x) (omega arith))
    (λ x.
    by_test (ltb (length work) (work_needed (nodes j)))
    (λ u. rw (t, x, u) (omega arith))
    (λ u.
    by_test (ltb (unreachable_net (joined j)) (nets j))
    (λ v. rw (t, x, u, v) (omega arith))
    (λ v. rw (t, x, u, v) (run_refusals (joined j) (first_progress (joined j)) work log)))))

-- where none of the first three numbers is there, none is
nothing_told : (numbers : List ℕ) → take 3 numbers ≡ [] → numbers ≡ []
nothing_told [] e = refl
nothing_told (n ∷ ns) e = cc e

-- no run is an audit, which alone tells four
all_told : (o : Outcome) (iteration turns : ℕ) → get_or (route_refusal o iteration turns) 0 0 ≤ 15 → take 3 (route_refusal o iteration turns) ≡ route_refusal o iteration turns
all_told Accepted iteration turns few = refl
all_told (Unreachable net place) iteration turns few = refl
all_told LogFull iteration turns few = refl
all_told (Limit over) iteration turns few = refl
all_told (BadTable table) iteration turns few = refl
all_told (ShortWork needed) iteration turns few = refl
all_told (Diverges word) iteration turns few = refl
all_told (TooLarge n limit) iteration turns few = refl
all_told (NotCheapest word cost least) iteration turns few = absurd (omega (arith, few))

module _ (j : Job) (work log : List ℕ) (r : RouteAnswer) (work' log' : List ℕ) (is : route_reply_of r work' log' ≡ route_reply j work log) where
  pub words_fit : r.used ≤ length log'
  words_fit = subst (λ (x : RouteReply). x.used ≤ length x.log) (sym is) (used-fits j work log)

  -- an accepted job's routes are written
  pub run_accepted :
      (style : Style) (routes : List ℕ) (a : Result ℕ Refused) (routes' : List ℕ) → [] ≡ take 3 (route_refusal r.outcome r.iteration r.turns)
      → written_reply_of a routes' ≡ style_reply style j.sources (take r.used log') routes
      → (t : Tables) → run_reply_of a (lent_of t work' log' routes') ≡ route_run style j t work log routes
  unfolding route_run
  run_accepted style routes a routes' none wrote t =
      subst (λ (x : RouteReply). run_reply_of a (lent_of t work' log' routes') ≡ after_route style x.refusal j.sources t x routes) is
      (subst
      (λ (l : List ℕ). run_reply_of a (lent_of t work' log' routes') ≡ after_route style l j.sources t (route_reply_of r work' log') routes)
      (sym (nothing_told (route_refusal r.outcome r.iteration r.turns) (sym none)))
      (ap (λ (w : WriteReply). after_write t (route_reply_of r work' log') w) wrote))

  -- a refused one has none
  pub run_refused :
      (style : Style) (routes : List ℕ) (refused : Refused) → refused_numbers refused ≡ take 3 (route_refusal r.outcome r.iteration r.turns)
      → (t : Tables) → run_reply_of (Err refused) (lent_of t work' log' routes) ≡ route_run style j t work log routes
  unfolding route_run
  run_refused style routes refused told_lem t =
      let few = subst (λ (x : RouteReply). get_or x.refusal 0 0 ≤ 15) (sym is) (refusals j work log) in
      subst (λ (x : RouteReply). run_reply_of (Err refused) (lent_of t work' log' routes) ≡ after_route style x.refusal j.sources t x routes) is
      (subst
      (λ (l : List ℕ). run_reply_of (Err refused) (lent_of t work' log' routes) ≡ after_route style l j.sources t (route_reply_of r work' log') routes)
      (told_lem ∙ all_told r.outcome r.iteration r.turns few)
      refl)

-- ---- the run

-- a text that is refused
refused_of :
    (style : Style) (p : Part Job) (k : ℕ) (ks : List ℕ) (t t' : Tables) (work log routes : List ℕ) → not_read (k ∷ ks) t' ≡ reply_to p t
    → run_reply_with (k ∷ ks) 0 (lent_of t' work log routes) ≡ run_of style p (lent_of t work log routes)
refused_of style (stopped n at) k ks t t' work log routes e =
    ap (λ (x : ReadReply). run_reply_with x.refusal 0 (lent_of x.tables work log routes)) e
refused_of style (part j at rest) k ks t t' work log routes e =
    subst (λ (x : ReadReply). run_reply_with (k ∷ ks) 0 (lent_of t' work log routes) ≡ after_read style j x.refusal x.tables (lent_of t work log routes)) e refl

pub read_refused :
    (style : Style) (text : List ℕ) (refused : Refused) {numbers : List ℕ} → refused_numbers refused ≡ numbers
    → (t t' : Tables) (work log routes : List ℕ) → not_read numbers t' ≡ read_reply text t
    → run_reply_of (Err refused) (lent_of t' work log routes) ≡ run_reply style text (lent_of t work log routes)
unfolding read_reply run_reply
read_refused style text refused is t t' work log routes e =
    refused_of style (read_text text) refused.number (refused.first ∷ told refused.second) t t' work log routes
    (ap (λ (ns : List ℕ). not_read ns t') is ∙ e)

-- a log that the writer refuses
pub write_refused :
    (refused : Refused) {numbers : List ℕ} → refused_numbers refused ≡ numbers → (buffer : List ℕ)
    → written_reply_of (Err refused) buffer ≡ record { refusal = numbers; bytes = 0; buffer = buffer }
write_refused refused is buffer = ap (λ (ns : List ℕ). record { refusal = ns; bytes = 0; buffer = buffer }) is

-- the reply for a text that is taken
abbrev read_taken_lem : List ℕ → Tables → ReadReply
read_taken_lem numbers t = record { refusal = []; numbers = numbers; tables = t }

-- what the counts mark out in the tables afterwards: each part is within its table, and together they are the job that is run
pub record Taken (style : Style) (text : List ℕ) (n edges m count : ℕ) (terms : Terms) (t t' : Tables) : Type 0 where
  pub few-nodes : n ≤ nodes_most
  pub few-nets : m ≤ nets_most
  pub kinds_fit : n ≤ length t'.kinds
  pub capacities_fit : n ≤ length t'.capacities
  pub first_edges_fit : n + 1 ≤ length t'.first_edges
  pub edge_targets_fit : edges ≤ length t'.edge_targets
  pub sources_fit : m ≤ length t'.sources
  pub first_sinks_fit : m + 1 ≤ length t'.first_sinks
  pub sinks_fit : count ≤ length t'.sinks
  pub delays_fit : (d : ℕ) → d ≡ choose terms.timed n 0 → d ≤ length t'.delays
  pub criticalities_fit : (k : ℕ) → k ≡ choose terms.timed count 0 → k ≤ length t'.criticalities
  pub runs :
      (d k : ℕ) → d ≡ choose terms.timed n 0 → k ≡ choose terms.timed count 0 → (work log routes : List ℕ)
      → route_run style
      (job_of (take n t'.kinds) (take n t'.capacities) (take (n + 1) t'.first_edges) (take edges t'.edge_targets)
      (take m t'.sources) (take (m + 1) t'.first_sinks) (take count t'.sinks)
      (take d t'.delays) (take k t'.criticalities) terms)
      t' work log routes
      ≡ run_reply style text (lent_of t work log routes)

module _ (new old : List ℕ) (n : ℕ) (long : length new ≡ n) where
  over-fits : n ≤ length (written_over new old)
  over-fits = let all = over-long new old in omega arith

  over-part : take n (written_over new old) ≡ new
  unfolding written_over
  over-part = take_at new (drop (length new) old) n long

-- a table that timed jobs alone have, of a job that was read: so many entries, which are all that is read
if_timed_lem :
    (terms : Terms) (table : List ℕ) (n : ℕ) → (terms.timed ≡ true → length table ≡ n) → (terms.timed ≡ false → table ≡ [])
    → (length table ≡ choose terms.timed n 0) × (if_timed terms table ≡ table)
if_timed_lem terms table n long none =
    by_test terms.timed
    (λ e. rw e (long e, refl))
    (λ e. rw (e, none e) (refl, refl))

job_taken_lem :
    (style : Style) (text : List ℕ) (t : Tables) (j : Job) → AllowedText text j → short_table j t ≡ 0
    → Taken style text (nodes j) (length j.block.edge_targets) (nets j) (length j.sinks) j.terms t (tables_with j t)
unfolding tables_with run_reply stored_reply
job_taken_lem style text t j allowed long =
    let s : SoundJob j = allowed.written.sound in
    let form : PrintedAs text j = allowed.written.printed in
    let capacities_are : length j.block.capacities ≡ nodes j = capacities-long (nodes j) j.block.capacities s.block-sound.capacities_sound_lem in
    let first-edges-are : length j.block.first_edges ≡ nodes j + 1 =
    block.firsts-long (nodes j) (length j.block.edge_targets) j.block.first_edges s.block-sound.first_edges_sound_lem in
    let first-sinks-are : length j.first_sinks ≡ nets j + 1 = job.firsts-long (nets j) (length j.sinks) j.first_sinks s.first_sinks_sound_lem in
    let routable : Routable j = routable_of j s allowed.within in
    let delays_are = if_timed_lem j.terms j.delays (nodes j) (λ e. (routable.timing e).delays-long) form.no_delays in
    let criticalities_are = if_timed_lem j.terms j.criticalities (length j.sinks) (λ e. (routable.timing e).criticalities-long) form.no_criticalities in
    record {
      few-nodes = kinds-few j.block.kinds s.block-sound.kinds_sound_lem;
      few-nets = routable.nets-few;
      kinds_fit = over-fits j.block.kinds t.kinds (nodes j) refl;
      capacities_fit = over-fits j.block.capacities t.capacities (nodes j) capacities_are;
      first_edges_fit = over-fits j.block.first_edges t.first_edges (nodes j + 1) first-edges-are;
      edge_targets_fit = over-fits j.block.edge_targets t.edge_targets (length j.block.edge_targets) refl;
      sources_fit = over-fits j.sources t.sources (nets j) refl;
      first_sinks_fit = over-fits j.first_sinks t.first_sinks (nets j + 1) first-sinks-are;
      sinks_fit = over-fits j.sinks t.sinks (length j.sinks) refl;
      delays_fit = λ d e. over-fits j.delays t.delays d (delays_are.0 ∙ sym e);
      criticalities_fit = λ k e. over-fits j.criticalities t.criticalities k (criticalities_are.0 ∙ sym e);
      runs = λ d k e f work log routes.
          rw (
            (printed_read text j s form).1,
            long,
            allowed.within,
            over-part j.block.kinds t.kinds (nodes j) refl,
            over-part j.block.capacities t.capacities (nodes j) capacities_are,
            over-part j.block.first_edges t.first_edges (nodes j + 1) first-edges-are,
            over-part j.block.edge_targets t.edge_targets (length j.block.edge_targets) refl,
            over-part j.sources t.sources (nets j) refl,
            over-part j.first_sinks t.first_sinks (nets j + 1) first-sinks-are,
            over-part j.sinks t.sinks (length j.sinks) refl,
            over-part j.delays t.delays d (delays_are.0 ∙ sym e),
            over-part j.criticalities t.criticalities k (criticalities_are.0 ∙ sym f),
            delays_are.1,
            criticalities_are.1,
          );
    }

-- the terms among the numbers of a job
abbrev terms_in : List ℕ → Terms
terms_in xs =
    record {
      limit = get_or xs 4 0;
      tuning = record { first = get_or xs 5 0; up = get_or xs 6 0; down = get_or xs 7 0; step = get_or xs 8 0 };
      rule = get_or xs 9 0;
      until = get_or xs 10 0;
      timed = eqb (get_or xs 11 0) 1;
    }

terms-back : (n edges m count : ℕ) (t : Terms) → terms_in (n ∷ edges ∷ m ∷ count ∷ terms_numbers t) ≡ t
terms-back n edges m count t =
    ap (λ (timed : Bool). record { limit = t.limit; tuning = t.tuning; rule = t.rule; until = t.until; timed = timed })
    (by_test t.timed
    (λ e. let is : eqb (choose t.timed 1 0) 1 ≡ t.timed = rw e in is)
    (λ e. let is : eqb (choose t.timed 1 0) 1 ≡ t.timed = rw e in is))

pub read_taken :
    (style : Style) (text : List ℕ) (n edges m count : ℕ) (terms : Terms) (t t' : Tables)
    → read_taken_lem (n ∷ edges ∷ m ∷ count ∷ terms_numbers terms) t' ≡ read_reply text t → Taken style text n edges m count terms t t'
unfolding job_numbers
read_taken style text n edges m count terms t t' e =
    let numbers : List ℕ = n ∷ edges ∷ m ∷ count ∷ terms_numbers terms in
    let accepted : AcceptedText text t = (reader_exact text t).only (sym (ap (λ (x : ReadReply). x.refusal) e)) in
    let j : Job = accepted.job in
    let same : read_whole j t ≡ read_taken_lem numbers t' = sym (e ∙ accepted.given_back) in
    let numbers-are : job_numbers j ≡ numbers = ap (λ (x : ReadReply). x.numbers) same in
    let terms-are : j.terms ≡ terms = sym (terms-back (nodes j) (length j.block.edge_targets) (nets j) (length j.sinks) j.terms) ∙ ap terms_in numbers-are ∙ terms-back n edges m count terms in
    subst (λ (x : Tables). Taken style text n edges m count terms t x) (ap (λ (x : ReadReply). x.tables) same)
    (subst (λ (x : Terms). Taken style text n edges m count x t (tables_with j t)) terms-are
    (subst
    (λ (x : List ℕ). Taken style text (get_or x 0 0) (get_or x 1 0) (get_or x 2 0) (get_or x 3 0) j.terms t (tables_with j t))
    numbers-are
    (job_taken_lem style text t j accepted.allowed accepted.long-enough)))

-- ---- the response

-- an input that is too long
pub too_long :
    (style : Style) (input : List ℕ) (t : Tables) (work log routes : List ℕ) (bytes : ℕ) (routes' : List ℕ) → input_most < length input
    → place_reply_of bytes routes' ≡ line_reply letter_x (12 ∷ input_most ∷ []) 0 routes
    → response_of bytes (lent_of t work log routes') ≡ response style input (lent_of t work log routes)
unfolding response
too_long style input t work log routes bytes routes' h e =
    rw (lt-ltb input_most (length input) h) (ap (λ (x : PlaceReply). line_response x (lent_of t work log routes)) e)

module _ (style : Style) (input : List ℕ) (l : Lent) (short : length input ≤ input_most) where
  pub responded : (r : RunReply) → r ≡ run_reply style input l → answered r.refusal r ≡ response style input l
  unfolding response
  responded r e = rw (le-ltb input_most (length input) short) (ap (λ (x : RunReply). answered x.refusal x) e)

  -- the routes text, or the line of the refusal
  pub shown_out :
      (r : Result ℕ Refused) (t : Tables) (work log routes : List ℕ) (bytes : ℕ) (routes' : List ℕ)
      → run_reply_of r (lent_of t work log routes) ≡ run_reply style input l → place_reply_of bytes routes' ≡ answer_line r routes
      → response_of bytes (lent_of t work log routes') ≡ response style input l
  shown_out (Ok b) t work log routes bytes routes' e shown =
      ap (λ (x : PlaceReply). line_response x (lent_of t work log routes)) shown
      ∙ responded (run_reply_with [] b (lent_of t work log routes)) e
  shown_out (Err refused) t work log routes bytes routes' e shown =
      ap (λ (x : PlaceReply). line_response x (lent_of t work log routes)) shown
      ∙ responded (run_reply_with (refused_numbers refused) 0 (lent_of t work log routes)) e
