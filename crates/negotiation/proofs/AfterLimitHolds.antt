-- Request 2.8, of a run that refusal 9 ended: its log is the job's own under a larger limit, and taken up there it ends as the straight run.
-- Assumes nothing.
use mathlib.Core.Bool.{true, false}
use mathlib.Core.List.{List, [], ◌∷◌, ◌++◌}
use mathlib.Core.Logic.{⊎_elim}
use mathlib.Core.Path.{◌≡◌, refl, sym, ◌∙◌, ap, subst}
use Prim.Native.Nat.{ℕ, ◌+◌, ◌≤◌, ◌<◌}
use native.Mathlib.Omega.{arith}
use lib.ListN.{length, drop, length-append}
use lib.Seq.{drop-append-add, drop-drop}
use Rattle.price.specs.Lists.{first_below}
use Rattle.price.proofs.TestLaws.{by_test, both_left, le_or_lt}
use Rattle.price.proofs.BelowLaws.{first_below-below}
use Rattle.search.specs.Replies.{work_needed}
use Rattle.job.specs.Job.{Job, nodes}
use Rattle.job.specs.Tables.{limit_sound, terms_sound, faulty_job, exceeds}
use Rattle.job.specs.Join.{joined}
use Rattle.negotiation.specs.Records.{Record, encode, fitting}
use Rattle.negotiation.specs.Machine.{State, Progress, first_state, records_after, settles_at}
use Rattle.negotiation.specs.Outcome.{RouteReply, first_progress, all_records, logged_records, end_iteration, end_numbers, log_with, refused_reply, ran_reply, continued, route_reply}
use Rattle.negotiation.specs.Longer.{with_limit, AllowedLimit}
use Rattle.negotiation.specs.Resume.{OwnLog}
use Rattle.negotiation.specs.Resumed.{ResumedAfterLimit}
use Rattle.job.proofs.JobLaws.{sound-job, limit_least}
use Rattle.negotiation.proofs.RecordLaws.{encode-append, fitting-all, fitting-append}
use Rattle.negotiation.proofs.TurnStepLaws.{log-length}
use Rattle.negotiation.proofs.EndLaws.{whole_reply}
use Rattle.negotiation.proofs.LimitLaws.{left_under, settles_alike, records_alike, first_alike, all_alike, none_settles, made_late, end-unsettled, raised_records}
use Rattle.negotiation.proofs.RefusalLaws.{route_table, route_large, route_work}
use Rattle.negotiation.proofs.ReplyLogLaws.{LogHas, log-words, ran-log, full_or_fits}
use Rattle.negotiation.proofs.LongerHolds.{Refused, Runs, enough_alike, refused_or_runs, joined_limit, low_runs, low-refused, high_runs}
use Rattle.negotiation.proofs.OwnResumeHolds.{own-resumed}

-- ---- a log that has the run's first records

log_again : (rs later : List Record) (log : List ℕ) → log_with (rs ++ later) (log_with rs log) ≡ log_with (rs ++ later) log
unfolding log_with
log_again rs later log =
    rw (
      encode-append rs later,
      length-append (encode rs) (encode later),
      drop-append-add (encode rs) (drop (length (encode rs)) log) (length (encode later)),
      drop-drop (length (encode later)) (length (encode rs)) log,
    )

-- a run leaves in it what it leaves in the log without them
continued_again :
    (j : Job) (p : Progress) (rs later : List Record) (work log : List ℕ) → all_records j p ≡ rs ++ later → length (encode rs) ≤ length log
    → continued j p work (log_with rs log) ≡ continued j p work log
unfolding continued logged_records
continued_again j p rs later work log is fits =
    let more = fitting-append (length log) rs later in
    let logged : fitting (length log) (all_records j p) ≡ rs ++ more.0 =
    ap (fitting (length log)) is ∙ more.1 ∙ ap (λ (l : List Record). l ++ more.0) (fitting-all (length log) rs fits) in
    rw (log-length rs log fits, logged, is, log_again rs more.0 log, log_again rs later log)

-- ---- after refusal 9

-- a refusal has one number
one_number : (n m : ℕ) (ns ms left log : List ℕ) (r : RouteReply) → r ≡ refused_reply (n ∷ ns) left log → r.refusal ≡ m ∷ ms → n ≡ m
one_number n m ns ms left log r e f = let both = sym (ap (λ (r : RouteReply). r.refusal) e) ∙ f in cc

module _ (j : Job) (work log : List ℕ) (numbers : List ℕ) (limited : (route_reply j work log).refusal ≡ 9 ∷ numbers) where
  -- 5, 15 and 6 have not come first
  not_faulty : faulty_job j < 1
  not_faulty =
      ⊎_elim
      (λ (h : 1 ≤ faulty_job j).
      let z : 5 ≡ 9 = one_number 5 9 (faulty_job j ∷ []) numbers work log (route_reply j work log) (route_table j work log h) limited in
      absurd (omega arith))
      (λ h. h)
      (le_or_lt 1 (faulty_job j))

  not_large : exceeds (nodes j) j.terms ≡ false
  not_large =
      by_test (exceeds (nodes j) j.terms)
      (λ h.
      let z : 15 ≡ 9 = one_number 15 9 (nodes j ∷ j.terms.limit ∷ []) numbers work log (route_reply j work log) (route_large j work log not_faulty h) limited in
      absurd (omega arith))
      (λ h. h)

  not_short : work_needed (nodes j) ≤ length work
  not_short =
      ⊎_elim
      (λ h. h)
      (λ (h : length work < work_needed (nodes j)).
      let z : 6 ≡ 9 =
      one_number 6 9 (work_needed (nodes j) ∷ []) numbers work log (route_reply j work log) (route_work j work log not_faulty not_large h) limited in
      absurd (omega arith))
      (le_or_lt (work_needed (nodes j)) (length work))

  limit_sound_lem : limit_sound j.terms.limit ≡ true
  unfolding terms_sound
  limit_sound_lem = let none = not_faulty in let sound = sound-job j (omega arith) in both_left _ _ sound.terms_sound_lem

-- a run of joined nets that a limit ends: its records fit, and none of its iterations settles
module _ (k : Job) (low over : ℕ) (work log : List ℕ) (some : 1 ≤ low)
    (limited : (continued (with_limit k low) (first_progress k) work log).refusal ≡ 9 ∷ low ∷ over ∷ []) where
  abbrev rs : List Record
  rs = all_records (with_limit k low) (first_progress k)

  low_fits : length (encode rs) ≤ length log
  low_fits =
      ⊎_elim
      (λ full. let both = sym full.2 ∙ limited in let z : ◌≡◌ {A = ℕ} 8 9 = cc in absurd (omega arith))
      (λ fits. fits)
      (full_or_fits (with_limit k low) (first_progress k) work log)

  low_reply : continued (with_limit k low) (first_progress k) work log ≡ ran_reply (with_limit k low) (end_numbers (with_limit k low) (first_state k)) (end_iteration (with_limit k low) (first_state k)) rs work log
  low_reply = whole_reply (with_limit k low) (first_progress k) work log rs refl low_fits

  all_left : left_under low (first_state k) ≡ low
  unfolding first_state
  all_left = omega arith

  low-none : low ≤ first_below (settles_at k (first_state k)) low
  low-none =
      let end : end_numbers (with_limit k low) (first_state k) ≡ 9 ∷ low ∷ over ∷ [] = sym (ap (λ (r : RouteReply). r.refusal) low_reply) ∙ limited in
      none_settles k (first_state k) low (rw all_left at (end-unsettled k low (first_state k) 9 (low ∷ over ∷ []) end))

  -- so its records are those of as many iterations as the limit
  low-records : rs ≡ records_after k (first_state k) low
  low-records = all_alike k low (first_progress k) ∙ rw (all_left, made_late k (first_state k) low low-none)

  -- and its log is the job's own under a larger limit
  low-own :
      (high : ℕ) → low < high
      → OwnLog (with_limit k high) low (continued (with_limit k low) (first_progress k) work log).used (continued (with_limit k low) (first_progress k) work log).log
  low-own high less =
      let r : RouteReply = continued (with_limit k low) (first_progress k) work log in
      let has : LogHas r rs = rw low_reply (ran-log (with_limit k low) _ _ rs work log) in
      let size : length r.log ≡ length (encode rs) + length has.rest = ap length has.log ∙ length-append (encode rs) has.rest in
      let used = has.used in
      record {
        some = some;
        below = less;
        unsettled = λ i h.
            ap (λ (s : State). settles_at (with_limit k high) s i) (first_alike k high) ∙ settles_alike k high (first_state k) i
            ∙ first_below-below (settles_at k (first_state k)) low i (let none = low-none in omega arith);
        within = omega arith;
        words_are =
            log-words r rs has
            ∙ ap encode (low-records ∙ sym (records_alike k high (first_state k) low) ∙ ap (λ (s : State). records_after (with_limit k high) s low) (sym (first_alike k high)));
      }

  -- in which a run under that limit leaves what it leaves in the log as it was
  low_again :
      (high : ℕ) → low < high → (work' : List ℕ)
      → continued (with_limit k high) (first_progress k) work' (continued (with_limit k low) (first_progress k) work log).log ≡ continued (with_limit k high) (first_progress k) work' log
  low_again high less work' =
      let all = raised_records k (first_progress k) low high (omega arith) in
      ap (λ (l : List ℕ). continued (with_limit k high) (first_progress k) work' l) (ap (λ (r : RouteReply). r.log) low_reply)
      ∙ continued_again (with_limit k high) (first_progress k) rs all.0 work' log all.1 low_fits

pub resumed-after_limit : (j : Job) (low high : ℕ) (work log work' : List ℕ) → ResumedAfterLimit j low high work log work'
resumed-after_limit j low high work log work' over limited h less enough' =
    let a : RouteReply = route_reply (with_limit j low) work log in
    let sound : limit_sound low ≡ true = limit_sound_lem (with_limit j low) work log (low ∷ over ∷ []) limited in
    let l : AllowedLimit j low = record { sound = sound; within = not_large (with_limit j low) work log (low ∷ over ∷ []) limited } in
    let enough : work_needed (nodes j) ≤ length work = not_short (with_limit j low) work log (low ∷ over ∷ []) limited in
    ⊎_elim
    (λ (r : Refused (with_limit j low) work work').
    absurd
    (r.not_limit
    (one_number r.number 9 r.numbers (low ∷ over ∷ []) r.left log a (low-refused j low high l h work log work' log r) limited)))
    (λ (r : Runs (with_limit j low) work work').
    let k : Job = joined j in
    let left : a ≡ continued (with_limit k low) (first_progress k) work log = low_runs j low high l h work log work' log r in
    let ended : (continued (with_limit k low) (first_progress k) work log).refusal ≡ 9 ∷ low ∷ over ∷ [] = sym (ap (λ (r : RouteReply). r.refusal) left) ∙ limited in
    let own : OwnLog (joined (with_limit j high)) low a.used a.log =
    subst (λ (q : Job). OwnLog q low a.used a.log) (sym (joined_limit j high))
    (subst (λ (r : RouteReply). OwnLog (with_limit k high) low r.used r.log) (sym left) (low-own k low over work log (limit_least low sound) ended high less)) in
    (own-resumed (with_limit j high) low a.used work' a.log own).in_place
    ∙ high_runs j low high l h work log work' a.log r
    ∙ ap (λ (r : RouteReply). continued (with_limit k high) (first_progress k) work' r.log) left
    ∙ low_again k low over work log (limit_least low sound) ended high less work'
    ∙ sym (high_runs j low high l h work log work' log r))
    (refused_or_runs (with_limit j low) work work' (enough_alike (with_limit j low) work work' enough enough'))
