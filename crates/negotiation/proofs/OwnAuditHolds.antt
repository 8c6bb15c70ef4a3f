-- A job's own log is sound: every log that `route` leaves, and that `resume` leaves after it took up this job's own.
-- Assumes nothing.
use mathlib.Core.Bool.{true, false}
use mathlib.Core.List.{List, []}
use mathlib.Core.Path.{◌≡◌, sym, ◌∙◌, ap, subst}
use Prim.Native.Nat.{ℕ, suc, ◌+◌, ◌≤◌, ◌<◌}
use native.Mathlib.Omega.{arith}
use lib.Dec.{leb, ltb}
use lib.ListN.{length, length-append}
use borrow.Author.Tests.{leb-false, le-ltb, ltb-false}
use Rattle.price.specs.Lists.{first_below}
use Rattle.price.proofs.TestLaws.{by_test, true≢false}
use Rattle.price.proofs.BelowLaws.{first_below-below}
use Rattle.search.specs.Replies.{work_needed}
use Rattle.job.specs.Job.{Job, nodes, nets}
use Rattle.job.specs.Tables.{SoundJob, faulty_job, exceeds}
use Rattle.job.specs.Join.{joined}
use Rattle.job.proofs.JobLaws.{sound-job}
use Rattle.negotiation.specs.Routable.{Routable}
use Rattle.negotiation.specs.Records.{Record, encode, fitting}
use Rattle.negotiation.specs.Machine.{State, iterate, first_state, state_after, settles_at}
use Rattle.negotiation.specs.Outcome.{RouteReply, unreachable_net, iterations_made, first_progress, made_from, all_records, negotiated, tested_by, route_reply}
use Rattle.negotiation.specs.Resume.{Replay, replay_by}
use Rattle.negotiation.specs.Resumed.{taken_up}
use Rattle.negotiation.specs.Runs.{start}
use Rattle.negotiation.specs.Audit.{AuditReply, refused_audit, audited_reply, audit_reply}
use Rattle.negotiation.specs.Audited.{OwnLogSound, OwnResumeSound}
use Rattle.negotiation.proofs.JoinedHolds.{joined-routable}
use Rattle.negotiation.proofs.RecordLaws.{fitting-begins}
use Rattle.negotiation.proofs.StateLaws.{nets-iteration}
use Rattle.negotiation.proofs.RanLaws.{ran-iteration}
use Rattle.negotiation.proofs.MachineRan.{Reached}
use Rattle.negotiation.proofs.DemandLaws.{all-reached}
use Rattle.negotiation.proofs.ReplyLogLaws.{LogHas, log-words, run_log}
use Rattle.negotiation.proofs.DemandHolds.{made_some, made-few}
use Rattle.negotiation.proofs.OwnRunLaws.{nets_follow, ran-after}
use Rattle.negotiation.proofs.OwnAuditLaws.{Ends, OwnTurns, own-ends}
use Rattle.negotiation.proofs.OwnResumeHolds.{own-resumed}

-- ---- a run of joined nets

-- each iteration but the last leaves a node overfull
made-unsettled : (j : Job) (s : State) (most k : ℕ) → suc k < iterations_made j s most → settles_at j s k ≡ false
unfolding iterations_made
made-unsettled j s most k h =
    by_test (ltb (first_below (settles_at j s) most) most)
    (λ t. let l : suc k < first_below (settles_at j s) most + 1 = rw t at h in first_below-below (settles_at j s) most k (omega arith))
    (λ t.
    let l : suc k < most = rw t at h in
    let all = ltb-false (first_below (settles_at j s) most) most t in
    first_below-below (settles_at j s) most k (omega arith))

module _ (j : Job) (sound : Routable j) (all : Reached j) where
  abbrev made : ℕ
  made = made_from j (first_state j)

  few : made ≤ j.terms.limit
  few = let most = made-few j sound all start sound.limit_some in omega arith

  own-turns : OwnTurns j (first_state j) made
  unfolding iterate
  own-turns =
      let most = few in
      record {
        follow = λ k h. nets_follow j sound all (ran-after j sound all k (omega arith)) (omega arith);
        unsettled = λ k h. made-unsettled j (first_state j) _ k h;
        below = λ k h.
            let now = nets-iteration j (state_after j (first_state j) k) (nets j) in
            let at = ran-iteration j (ran-after j sound all k (omega arith)) in
            omega arith;
      }

  -- what it leaves ends an audit
  run_ends : (work log : List ℕ) → Ends (replay_by true j (negotiated j work log).used (negotiated j work log).log)
  unfolding replay_by all_records
  run_ends work log =
      let r : RouteReply = negotiated j work log in
      let logged : List Record = fitting (length log) (all_records j (first_progress j)) in
      let has : LogHas r logged = run_log j (first_progress j) work log in
      let long : length r.log ≡ length (encode logged) + length has.rest = ap length has.log ∙ length-append (encode logged) has.rest in
      let used = has.used in
      let within : r.used ≤ length r.log = omega arith in
      let later = fitting-begins (length log) (all_records j (first_progress j)) in
      let end = own-ends j _ (first_state j) made own-turns logged later.0 later.1 (log-words r logged has) j.terms.limit (made_some j sound all start sound.limit_some) few in
      (end.0, rw (le-ltb (length r.log) r.used within) end.1)

-- ---- a job as it is given

-- what its reply and an audit's come to where a run has begun
record Begun (j : Job) (work log work' : List ℕ) : Type 0 where
  sound : Routable (joined j)
  all : Reached (joined j)
  run_is : route_reply j work log ≡ negotiated (joined j) work log
  audit_is : (run : AuditReply) → tested_by refused_audit j work' run ≡ run

begun : (j : Job) (work log work' : List ℕ) → taken_up (route_reply j work log).refusal ≡ true → work_needed (nodes j) ≤ length work' → Begun j work log work'
unfolding taken_up route_reply
begun j work log work' taken enough =
    by_test (leb 1 (faulty_job j))
    (λ t. absurd (true≢false (sym (rw t at taken))))
    (λ t.
    let none : faulty_job j < 1 = leb-false 1 (faulty_job j) t in
    let tables : SoundJob j = sound-job j (omega arith) in
    by_test (exceeds (nodes j) j.terms)
    (λ x. absurd (true≢false (sym (rw (t, x) at taken))))
    (λ x.
    by_test (ltb (length work) (work_needed (nodes j)))
    (λ u. absurd (true≢false (sym (rw (t, x, u) at taken))))
    (λ u.
    by_test (ltb (unreachable_net (joined j)) (nets j))
    (λ v. absurd (true≢false (sym (rw (t, x, u, v) at taken))))
    (λ v.
    record {
      sound = joined-routable j tables x;
      all = all-reached (joined j) (ltb-false _ _ v);
      run_is = rw (t, x, u, v);
      audit_is = λ run. rw (t, x, le-ltb (length work') (work_needed (nodes j)) enough, v);
    }))))

-- an audit of it in such a work slice tells nothing
none_told :
    (j : Job) (work log work' : List ℕ) → Begun j work log work'
    → (audit_reply j (negotiated (joined j) work log).used work' (negotiated (joined j) work log).log).told ≡ []
unfolding audit_reply
none_told j work log work' b =
    let r : RouteReply = negotiated (joined j) work log in
    let end = run_ends (joined j) b.sound b.all work log in
    ap (λ (a : AuditReply). a.told) (b.audit_is (audited_reply (joined j) (replay_by true (joined j) r.used r.log) work'))
    ∙ ap (λ (a : Replay). (audited_reply (joined j) a work').told) end.1

pub own-sound : (j : Job) (work log work' : List ℕ) → OwnLogSound j work log work'
own-sound j work log work' taken enough =
    let b : Begun j work log work' = begun j work log work' taken enough in
    subst (λ (r : RouteReply). (audit_reply j r.used work' r.log).told ≡ []) (sym b.run_is) (none_told j work log work' b)

pub own_resume_sound : (j : Job) (m used : ℕ) (work log work' : List ℕ) → OwnResumeSound j m used work log work'
own_resume_sound j m used work log work' own taken enough =
    let same = (own-resumed j m used work log own).in_place in
    subst (λ (r : RouteReply). (audit_reply j r.used work' r.log).told ≡ []) (sym same)
    (own-sound j work log work' (subst (λ (r : RouteReply). taken_up r.refusal ≡ true) same taken) enough)
