-- A larger limit or a longer log only makes a job's log longer.
-- Assumes nothing.
use mathlib.Core.Bool.{true}
use mathlib.Core.List.{List, [], ◌∷◌, ◌++◌}
use mathlib.Core.Logic.{◌⊎◌, ⊎_elim, inl, inr}
use mathlib.Core.Path.{◌≡◌, refl, sym, ◌∙◌, ap}
use Prim.Native.Nat.{ℕ, ◌≤◌, ◌<◌}
use native.Mathlib.Omega.{arith}
use lib.Dec.{leb, ltb}
use lib.ListN.{length}
use borrow.Author.Tests.{le-ltb}
use Rattle.price.proofs.TestLaws.{by_test}
use Rattle.search.specs.Replies.{work_needed, cleared}
use Rattle.job.specs.Job.{Job, nodes, nets, net_sinks}
use Rattle.job.specs.Tables.{limit_sound, terms_sound, faulty_nets, faulty_untimed, faulty_times, faulty_job, exceeds}
use Rattle.job.specs.Join.{joined}
use Rattle.negotiation.specs.Records.{Record, encode, fitting}
use Rattle.negotiation.specs.Machine.{Progress, others_of, marks_of, congestion_for, first_state}
use Rattle.negotiation.specs.Outcome.{RouteReply, has_path, unreachable_net, unreachable_place, first_progress, end_iteration, all_records, end_numbers, refused_reply, ran_reply, continued, negotiated, reached_reply, tested, route_reply}
use Rattle.negotiation.specs.Longer.{with_limit, AllowedLimit, Begins, SameLog, LimitsCompared, RaisedInPlace, LogLengthened, LogsCompared}
use Rattle.job.proofs.JobLaws.{limit_least}
use Rattle.negotiation.proofs.JoiningLaws.{places_same}
use Rattle.negotiation.proofs.RecordLaws.{fitting-begins, fitting-less, fitting-append}
use Rattle.negotiation.proofs.EndLaws.{whole_reply}
use Rattle.negotiation.proofs.LimitLaws.{left_under, first_alike, all_alike, made-same, made_again, not_accepted, made_under, run_alike, end_settles, settled-end, end-unsettled, raised_records}
use Rattle.negotiation.proofs.ReplyLogLaws.{LogHas, log-words, log-turns, log-begins, refused-log, ran-log, run_log, full_or_fits, run_same, run_as_long}

-- ---- the refusals before any turn

-- both work slices are long enough, or neither is
abbrev pub Alike : Job → List ℕ → List ℕ → Type 0
Alike j work work' = ltb (length work) (work_needed (nodes j)) ≡ ltb (length work') (work_needed (nodes j))

pub enough_alike : (j : Job) (work work' : List ℕ) → work_needed (nodes j) ≤ length work → work_needed (nodes j) ≤ length work' → Alike j work work'
enough_alike j work work' h k = le-ltb (length work) (work_needed (nodes j)) h ∙ sym (le-ltb (length work') (work_needed (nodes j)) k)

-- a job is refused before any turn, by 5, 15, 6 or 7, in both work slices, whatever the log and the run
pub record Refused (j : Job) (work work' : List ℕ) : Type 0 where
  pub number : ℕ
  pub numbers : List ℕ
  -- the work slices that are left
  pub left : List ℕ
  pub left' : List ℕ
  pub not_limit : number ≡ 9 → ⊥
  pub reply : (log : List ℕ) (run : RouteReply) → tested j work log run ≡ refused_reply (number ∷ numbers) left log
  pub reply' : (log : List ℕ) (run : RouteReply) → tested j work' log run ≡ refused_reply (number ∷ numbers) left' log

-- or it runs in both
pub record Runs (j : Job) (work work' : List ℕ) : Type 0 where
  pub reply : (log : List ℕ) (run : RouteReply) → tested j work log run ≡ run
  pub reply' : (log : List ℕ) (run : RouteReply) → tested j work' log run ≡ run

pub refused_or_runs : (j : Job) (work work' : List ℕ) → Alike j work work' → Refused j work work' ⊎ Runs j work work'
refused_or_runs j work work' alike =
    by_test (leb 1 (faulty_job j))
    (λ t.
    inl
    (record {
      number = 5;
      numbers = faulty_job j ∷ [];
      left = work;
      left' = work';
      not_limit = λ z. omega arith;
      reply = λ log run. rw t;
      reply' = λ log run. rw t;
    }))
    (λ t.
    by_test (exceeds (nodes j) j.terms)
    (λ x.
    inl
    (record {
      number = 15;
      numbers = nodes j ∷ j.terms.limit ∷ [];
      left = work;
      left' = work';
      not_limit = λ z. omega arith;
      reply = λ log run. rw (t, x);
      reply' = λ log run. rw (t, x);
    }))
    (λ x.
    by_test (ltb (length work) (work_needed (nodes j)))
    (λ u.
    inl
    (record {
      number = 6;
      numbers = work_needed (nodes j) ∷ [];
      left = work;
      left' = work';
      not_limit = λ z. omega arith;
      reply = λ log run. rw (t, x, u);
      reply' = λ log run. rw (t, x, sym alike ∙ u);
    }))
    (λ u.
    by_test (ltb (unreachable_net (joined j)) (nets j))
    (λ v.
    inl
    (record {
      number = 7;
      numbers = unreachable_net (joined j) ∷ unreachable_place (joined j) ∷ [];
      left = cleared (nodes j) [] work;
      left' = cleared (nodes j) [] work';
      not_limit = λ z. omega arith;
      reply = λ log run. rw (t, x, u, v);
      reply' = λ log run. rw (t, x, sym alike ∙ u, v);
    }))
    (λ v.
    inr (record { reply = λ log run. rw (t, x, u, v); reply' = λ log run. rw (t, x, sym alike ∙ u, v) })))))

-- two refusals by the same numbers
refused-same : (numbers left left' log log' : List ℕ) → SameLog (refused_reply numbers left log) (refused_reply numbers left' log')
refused-same numbers left left' log log' = record { refusal = refl; iteration = refl; turns = refl; used = refl; words = refl }

reply_tested : (j : Job) (work log : List ℕ) → route_reply j work log ≡ tested j work log (negotiated (joined j) work log)
unfolding route_reply
reply_tested j work log = refl

-- joining does not read the limit
pub joined_limit : (j : Job) (limit : ℕ) → joined (with_limit j limit) ≡ with_limit (joined j) limit
joined_limit j limit = simp (places_same (with_limit j limit) j refl refl refl)

-- and every run begins alike
begun_limit : (j : Job) (limit : ℕ) (work log : List ℕ) → negotiated (joined (with_limit j limit)) work log ≡ continued (with_limit (joined j) limit) (first_progress (joined j)) work log
begun_limit j limit work log = rw (joined_limit j limit, first_alike (joined j) limit)

begun_records : (j : Job) (limit : ℕ) → all_records (joined (with_limit j limit)) (first_progress (joined (with_limit j limit))) ≡ all_records (with_limit (joined j) limit) (first_progress (joined j))
begun_records j limit = rw (joined_limit j limit, first_alike (joined j) limit)

-- of the tests of tables only that of table 8 reads it
faulty_alike : (j : Job) (low high : ℕ) → limit_sound low ≡ true → limit_sound high ≡ true → faulty_job (with_limit j high) ≡ faulty_job (with_limit j low)
unfolding faulty_job faulty_untimed faulty_times faulty_nets terms_sound
faulty_alike j low high l h = rw (l, h)

-- nor do paths
reached_alike : (j : Job) (low high : ℕ) (work log : List ℕ) (run : RouteReply) → reached_reply (with_limit j high) work log run ≡ reached_reply (with_limit j low) work log run
unfolding unreachable_net unreachable_place has_path congestion_for others_of first_state marks_of net_sinks
reached_alike j low high work log run = refl

tested_alike : (j : Job) (low high : ℕ) → AllowedLimit j low → AllowedLimit j high → (work log : List ℕ) (run : RouteReply)
    → tested (with_limit j high) work log run ≡ tested (with_limit j low) work log run
tested_alike j low high l h work log run =
    let seven : reached_reply (joined (with_limit j high)) work log run ≡ reached_reply (joined (with_limit j low)) work log run =
    ap (λ (k : Job). reached_reply k work log run) (joined_limit j high) ∙ reached_alike (joined j) low high work log run
    ∙ sym (ap (λ (k : Job). reached_reply k work log run) (joined_limit j low)) in
    rw (faulty_alike j low high l.sound h.sound, l.within, h.within, seven)

-- ---- a longer log

module _ (j : Job) (work short work' long : List ℕ) (more : length short ≤ length long) where
  -- from the records of which each log has those that fit
  lengthened :
      (all : List Record) → LogHas (route_reply j work short) (fitting (length short) all) → LogHas (route_reply j work' long) (fitting (length long) all)
      → (((iteration turns : ℕ) → (route_reply j work short).refusal ≡ 8 ∷ iteration ∷ turns ∷ [] → ⊥)
      → SameLog (route_reply j work short) (route_reply j work' long))
      → LogLengthened (length short) (route_reply j work short) (route_reply j work' long)
  lengthened all Has-short has-long same =
      let a = route_reply j work short in
      let b = route_reply j work' long in
      let less = fitting-less (length short) (length long) all more in
      let later = fitting-begins (length short) (fitting (length long) all) in
      record {
        begins =
            log-begins a b (fitting (length short) all) later.0 (fitting (length long) all) Has-short has-long
            (later.1 ∙ ap (λ (l : List Record). l ++ later.0) less);
        fits =
            log-turns a (fitting (length short) all) Has-short ∙ sym less
            ∙ ap (fitting (length short)) (sym (log-turns b (fitting (length long) all) has-long));
        same = λ accepted. same (λ iteration turns e. not_accepted 8 (iteration ∷ turns ∷ []) (sym accepted ∙ e));
        unless_full = same;
      }

-- "The same for two log lengths, up to the last whole record that fits the shorter."
pub log_lengthened : (j : Job) (work short work' long : List ℕ) → LogsCompared j work short work' long
unfolding fitting
log_lengthened j work short work' long enough enough' more =
    ⊎_elim
    (λ (r : Refused j work work').
    let left = reply_tested j work short ∙ r.reply short (negotiated (joined j) work short) in
    let right = reply_tested j work' long ∙ r.reply' long (negotiated (joined j) work' long) in
    lengthened j work short work' long more []
    (rw left (refused-log (r.number ∷ r.numbers) r.left short)) (rw right (refused-log (r.number ∷ r.numbers) r.left' long))
    (λ _. rw (left, right) (refused-same (r.number ∷ r.numbers) r.left r.left' short long)))
    (λ (r : Runs j work work').
    let left = reply_tested j work short ∙ r.reply short (negotiated (joined j) work short) in
    let right = reply_tested j work' long ∙ r.reply' long (negotiated (joined j) work' long) in
    let p : Progress = first_progress (joined j) in
    lengthened j work short work' long more (all_records (joined j) p) (rw left (run_log (joined j) p work short)) (rw right (run_log (joined j) p work' long))
    (λ unfilled.
    rw (left, right)
    (⊎_elim
    (λ full. absurd (unfilled full.0 full.1 (ap (λ (r : RouteReply). r.refusal) left ∙ full.2)))
    (λ (fits : length (encode (all_records (joined j) p)) ≤ length short). run_same (joined j) p work short work' long fits (omega arith))
    (full_or_fits (joined j) p work short))))
    (refused_or_runs j work work' (enough_alike j work work' enough enough'))

-- in logs of one length every call answers and logs the same
pub same_length :
    (j : Job) (work log work' log' : List ℕ) → work_needed (nodes j) ≤ length work → work_needed (nodes j) ≤ length work' → length log ≡ length log'
    → SameLog (route_reply j work log) (route_reply j work' log')
same_length j work log work' log' enough enough' long =
    ⊎_elim
    (λ (r : Refused j work work').
    rw (reply_tested j work log ∙ r.reply log (negotiated (joined j) work log), reply_tested j work' log' ∙ r.reply' log' (negotiated (joined j) work' log'))
    (refused-same (r.number ∷ r.numbers) r.left r.left' log log'))
    (λ (r : Runs j work work').
    rw (reply_tested j work log ∙ r.reply log (negotiated (joined j) work log), reply_tested j work' log' ∙ r.reply' log' (negotiated (joined j) work' log'))
    (run_as_long (joined j) (first_progress (joined j)) work log work' log' long))
    (refused_or_runs j work work' (enough_alike j work work' enough enough'))

-- ---- a larger limit

-- of a run that goes on from p
module _ (j : Job) (p : Progress) (low high : ℕ) (more : low ≤ high) where
  -- where it settles under the smaller, it makes as many iterations under the larger, and ends as accepted
  settled-made : p.state.iteration ≤ low → end_numbers (with_limit j low) p.state ≡ [] → made_under j high p.state ≡ made_under j low p.state
  settled-made some end = made-same j p.state (left_under low p.state) (left_under high p.state) (omega arith) (omega arith) (end_settles j low p.state end)

  settled-records : p.state.iteration ≤ low → end_numbers (with_limit j low) p.state ≡ [] → all_records (with_limit j high) p ≡ all_records (with_limit j low) p
  settled-records some end = rw (all_alike j high p, all_alike j low p, settled-made some end)

  settled-iterations :
      p.state.iteration ≤ low → end_numbers (with_limit j low) p.state ≡ [] → end_iteration (with_limit j high) p.state ≡ end_iteration (with_limit j low) p.state
  settled-iterations some end = rw (run_alike j low p.state, run_alike j high p.state, settled-made some end)

  settled-numbers : p.state.iteration ≤ low → end_numbers (with_limit j low) p.state ≡ [] → end_numbers (with_limit j high) p.state ≡ []
  settled-numbers some end = settled-end j high p.state (rw (settled-made some end) (end_settles j low p.state end))

  -- in the same slices
  placed-begins : (work log : List ℕ) → Begins (continued (with_limit j low) p work log) (continued (with_limit j high) p work log)
  placed-begins work log =
      let all = raised_records j p low high more in
      let later = fitting-append (length log) (all_records (with_limit j low) p) all.0 in
      log-begins (continued (with_limit j low) p work log) (continued (with_limit j high) p work log)
      (fitting (length log) (all_records (with_limit j low) p)) later.0 (fitting (length log) (all_records (with_limit j high) p))
      (run_log (with_limit j low) p work log) (run_log (with_limit j high) p work log)
      (ap (fitting (length log)) all.1 ∙ later.1)

  placed_same :
      p.state.iteration ≤ low → (work log : List ℕ) → (continued (with_limit j low) p work log).refusal ≡ []
      → continued (with_limit j high) p work log ≡ continued (with_limit j low) p work log
  placed_same some work log accepted =
      ⊎_elim
      (λ full. absurd (not_accepted _ _ (sym accepted ∙ full.2)))
      (λ (fits : length (encode (all_records (with_limit j low) p)) ≤ length log).
      let left = whole_reply (with_limit j low) p work log (all_records (with_limit j low) p) refl fits in
      let end : end_numbers (with_limit j low) p.state ≡ [] = sym (ap (λ (r : RouteReply). r.refusal) left) ∙ accepted in
      let right = whole_reply (with_limit j high) p work log (all_records (with_limit j low) p) (settled-records some end) fits in
      rw (right, left, end, settled-numbers some end, settled-iterations some end))
      (full_or_fits (with_limit j low) p work log)

  -- each in its own slices, with room for all its turns
  module _ (work log work' log' : List ℕ)
      (fits : length (encode (all_records (with_limit j low) p)) ≤ length log) (fits' : length (encode (all_records (with_limit j high) p)) ≤ length log') where
    abbrev a : RouteReply
    a = continued (with_limit j low) p work log

    abbrev b : RouteReply
    b = continued (with_limit j high) p work' log'

    left : a ≡ ran_reply (with_limit j low) (end_numbers (with_limit j low) p.state) (end_iteration (with_limit j low) p.state) (all_records (with_limit j low) p) work log
    left = whole_reply (with_limit j low) p work log (all_records (with_limit j low) p) refl fits

    right : b ≡ ran_reply (with_limit j high) (end_numbers (with_limit j high) p.state) (end_iteration (with_limit j high) p.state) (all_records (with_limit j high) p) work' log'
    right = whole_reply (with_limit j high) p work' log' (all_records (with_limit j high) p) refl fits'

    low-log : LogHas a (all_records (with_limit j low) p)
    low-log = rw left (ran-log (with_limit j low) _ _ (all_records (with_limit j low) p) work log)

    high-log : LogHas b (all_records (with_limit j high) p)
    high-log = rw right (ran-log (with_limit j high) _ _ (all_records (with_limit j high) p) work' log')

    raised_begins : Begins a b
    raised_begins =
        let all = raised_records j p low high more in
        log-begins a b (all_records (with_limit j low) p) all.0 (all_records (with_limit j high) p) low-log high-log all.1

    raised_same : p.state.iteration ≤ low → a.refusal ≡ [] → SameLog a b
    raised_same some accepted =
        let end : end_numbers (with_limit j low) p.state ≡ [] = sym (ap (λ (r : RouteReply). r.refusal) left) ∙ accepted in
        let same = settled-records some end in
        record {
          refusal = rw (left, right) (settled-numbers some end ∙ sym end);
          iteration = rw (left, right) (settled-iterations some end);
          turns = rw (left, right) (ap length same);
          used = rw (left, right) (ap (λ (rs : List Record). length (encode rs)) same);
          words = log-words b (all_records (with_limit j high) p) high-log ∙ ap encode same ∙ sym (log-words a (all_records (with_limit j low) p) low-log);
        }

    raised_on : (over : ℕ) → p.state.iteration ≤ low → a.refusal ≡ 9 ∷ low ∷ over ∷ [] → low < high → low < b.iteration
    raised_on over some limited less =
        let s = p.state in
        let end : end_numbers (with_limit j low) s ≡ 9 ∷ low ∷ over ∷ [] = sym (ap (λ (r : RouteReply). r.refusal) left) ∙ limited in
        let again : left_under low s < made_under j high s =
        made_again j s (left_under low s) (left_under high s) (omega arith) (end-unsettled j low s 9 (low ∷ over ∷ []) end) (omega arith) in
        rw (right, run_alike j high s) (omega arith)

-- an allowed limit lets a run begin
begins-below : (j : Job) (limit : ℕ) → 1 ≤ limit → (first_state j).iteration ≤ limit
unfolding first_state
begins-below j limit h = h

-- both replies under two allowed limits: refused alike, or the runs'
module _ (j : Job) (low high : ℕ) (l : AllowedLimit j low) (h : AllowedLimit j high) (work log work' log' : List ℕ) where
  pub low-refused : (r : Refused (with_limit j low) work work') → route_reply (with_limit j low) work log ≡ refused_reply (r.number ∷ r.numbers) r.left log
  low-refused r = reply_tested (with_limit j low) work log ∙ r.reply log (negotiated (joined (with_limit j low)) work log)

  high-refused : (r : Refused (with_limit j low) work work') → route_reply (with_limit j high) work' log' ≡ refused_reply (r.number ∷ r.numbers) r.left' log'
  high-refused r =
      reply_tested (with_limit j high) work' log' ∙ tested_alike j low high l h work' log' _ ∙ r.reply' log' (negotiated (joined (with_limit j high)) work' log')

  pub low_runs : Runs (with_limit j low) work work' → route_reply (with_limit j low) work log ≡ continued (with_limit (joined j) low) (first_progress (joined j)) work log
  low_runs r =
      reply_tested (with_limit j low) work log ∙ r.reply log (negotiated (joined (with_limit j low)) work log)
      ∙ begun_limit j low work log

  pub high_runs : Runs (with_limit j low) work work' → route_reply (with_limit j high) work' log' ≡ continued (with_limit (joined j) high) (first_progress (joined j)) work' log'
  high_runs r =
      reply_tested (with_limit j high) work' log' ∙ tested_alike j low high l h work' log' _ ∙ r.reply' log' (negotiated (joined (with_limit j high)) work' log')
      ∙ begun_limit j high work' log'

  refused-begins : (r : Refused (with_limit j low) work work') → Begins (route_reply (with_limit j low) work log) (route_reply (with_limit j high) work' log')
  refused-begins r =
      rw (low-refused r, high-refused r)
      (log-begins _ _ [] [] [] (refused-log (r.number ∷ r.numbers) r.left log) (refused-log (r.number ∷ r.numbers) r.left' log') refl)

-- "for one job under two allowed limits, with work and log long enough for both, the log under the smaller is the beginning of the log under the larger,
-- and a job accepted under the smaller has the same log under both"
pub limit_raised : (j : Job) (low high : ℕ) (work log work' log' : List ℕ) → LimitsCompared j low high work log work' log'
limit_raised j low high work log work' log' l h more enough enough' =
    ⊎_elim
    (λ (r : Refused (with_limit j low) work work').
    let left = low-refused j low high l h work log work' log' r in
    let right = high-refused j low high l h work log work' log' r in
    record {
      begins = refused-begins j low high l h work log work' log' r;
      same = λ _. rw (left, right) (refused-same (r.number ∷ r.numbers) r.left r.left' log log');
      goes_on =
          λ over limited less.
          absurd (let both = sym (ap (λ (r : RouteReply). r.refusal) left) ∙ limited in r.not_limit (cc));
    })
    (λ (r : Runs (with_limit j low) work work').
    let left = low_runs j low high l h work log work' log' r in
    let right = high_runs j low high l h work log work' log' r in
    let p : Progress = first_progress (joined j) in
    let fits = rw (begun_records j low) at enough.log-long in
    let fits' = rw (begun_records j high) at enough'.log-long in
    let some = begins-below (joined j) low (limit_least low l.sound) in
    record {
      begins = rw (left, right) (raised_begins (joined j) p low high more work log work' log' fits fits');
      same =
          λ accepted.
          rw (left, right)
          (raised_same (joined j) p low high more work log work' log' fits fits' some (rw left at accepted));
      goes_on =
          λ over limited less.
          rw right
          (raised_on (joined j) p low high more work log work' log' fits fits' over some (rw left at limited) less);
    })
    (refused_or_runs (with_limit j low) work work' (enough_alike j work work' enough.work-long enough'.work-long))

-- the same slices at any length
pub raised_in_place :
    (j : Job) (low high : ℕ) (work log : List ℕ) → AllowedLimit j low → AllowedLimit j high → low ≤ high
    → RaisedInPlace j low high work log
raised_in_place j low high work log l h more =
    ⊎_elim
    (λ (r : Refused (with_limit j low) work work).
    record {
      begins = refused-begins j low high l h work log work log r;
      same = λ _. high_refused' r ∙ sym (low-refused j low high l h work log work log r);
    })
    (λ (r : Runs (with_limit j low) work work).
    let left = low_runs j low high l h work log work log r in
    let right = high_runs j low high l h work log work log r in
    record {
      begins = rw (left, right) (placed-begins (joined j) (first_progress (joined j)) low high more work log);
      same = λ accepted. right ∙ placed_same (joined j) (first_progress (joined j)) low high more (begins-below (joined j) low (limit_least low l.sound)) work log (rw left at accepted) ∙ sym left;
    })
    (refused_or_runs (with_limit j low) work work refl)
  where
    high_refused' : (r : Refused (with_limit j low) work work) → route_reply (with_limit j high) work log ≡ refused_reply (r.number ∷ r.numbers) r.left log
    high_refused' r =
        reply_tested (with_limit j high) work log ∙ tested_alike j low high l h work log _ ∙ r.reply log (negotiated (joined (with_limit j high)) work log)
