-- The answers of route, resume and audit, refusal by refusal, and what is promised of them.
-- Assumes nothing.
use mathlib.Core.Bool.{Bool, true}
use mathlib.Core.List.{List, [], ◌∷◌, ◌++◌}
use mathlib.Core.Logic.{⊎_elim}
use mathlib.Core.Path.{◌≡◌, refl, sym, ◌∙◌, ap, subst}
use Prim.Native.Nat.{ℕ, ◌≤◌, ◌<◌}
use native.Mathlib.Omega.{arith}
use lib.ListN.{length, drop, replicate}
use borrow.Author.Tests.{lt-ltb, le-ltb}
use Rattle.price.proofs.TestLaws.{le_or_lt}
use Rattle.std.specs.Prelude.{Option, Some, None, Result, Ok, Err}
use Rattle.search.specs.Replies.{work_needed, cleared}
use Rattle.job.specs.Job.{Job, if_timed, nodes, nets}
use Rattle.job.specs.Tables.{SoundJob}
use Rattle.job.specs.Join.{joined}
use Rattle.negotiation.specs.Records.{Record}
use Rattle.negotiation.specs.Machine.{Progress}
use Rattle.negotiation.specs.Outcome.{RouteReply, unreachable_net, unreachable_place, first_progress, continued, refused_answer, refused_reply, route_reply_of, reached, reached_reply, tested_by, tested, route_reply}
use Rattle.negotiation.specs.Resume.{Replay, on, off, ends, not_cheapest, replay_by, replay, resumed_reply, run_from, resume_reply}
use Rattle.negotiation.specs.Resumed.{Resumed}
use Rattle.negotiation.specs.Demand.{Demand3}
use Rattle.negotiation.specs.Audit.{AuditReply, audit_reply_of, refused_audit, audited_reply, audit_reply}
use Rattle.negotiation.specs.Audited.{Audited}
use Rattle.negotiation.specs.AuditSteps.{job_refusal, refused_audit_answer}
use Rattle.negotiation.specs.Routable.{Routable}
use Rattle.negotiation.specs.JoinSteps.{Joinable}
use Rattle.negotiation.specs.Aimed.{expanded_after}
use Rattle.negotiation.specs.Steps.{SameFrom, missing, reach_numbers}
use Rattle.negotiation.specs.declared.RouteAnswer.{RouteAnswer}
use Rattle.negotiation.specs.declared.AuditAnswer.{AuditAnswer}
use Rattle.negotiation.specs.declared.Outcome.{Outcome}
use Rattle.negotiation.specs.declared.Outcome.TheVariants.{Unreachable}
use Rattle.negotiation.specs.declared.reach.Missing.{Missing}
use Rattle.job.proofs.JobLaws.{sound-job, criticalities-long}
use Rattle.negotiation.proofs.RefusalLaws.{TestsPass, tests_refuse, tests_accept}
use Rattle.negotiation.proofs.JoiningLaws.{if_timed_lem}
use Rattle.negotiation.proofs.JoinedHolds.{joinable_of, joined-routable}
use Rattle.negotiation.proofs.EndLaws.{cleared-same}
use Rattle.negotiation.proofs.DemandHolds.{demand_3}
use Rattle.negotiation.proofs.ResumeHolds.{resumed}
use Rattle.negotiation.proofs.AuditHolds.{audited}

-- ---- a job of joined nets: refusal 7, then the run

module _ (j : Job) (found : Option Missing) (test : reach_numbers found ≡ missing j) where
  -- the test before iteration 1 finds no sink without a path
  pub none-missing : found ≡ None → nets j ≤ unreachable_net j
  none-missing f =
      let e : [] ≡ missing j = subst (λ (x : Option Missing). reach_numbers x ≡ missing j) f test in
      ⊎_elim
      (λ (l : nets j ≤ unreachable_net j). l)
      (λ (l : unreachable_net j < nets j).
      let q : missing j ≡ unreachable_net j ∷ unreachable_place j ∷ [] = rw (lt-ltb (unreachable_net j) (nets j) l) in
      let z : ◌≡◌ {A = ℕ} 0 1 = cc in
      absurd (omega arith))
      (le_or_lt (nets j) (unreachable_net j))

  -- which sink is missing
  is-missing : (m : Missing) → found ≡ Some m → (unreachable_net j < nets j) × (m.net ≡ unreachable_net j) × (m.place ≡ unreachable_place j)
  is-missing at f =
      let e : (at.net ∷ at.place ∷ []) ≡ missing j = subst (λ (x : Option Missing). reach_numbers x ≡ missing j) f test in
      ⊎_elim
      (λ (l : nets j ≤ unreachable_net j).
      let q : missing j ≡ [] = rw (le-ltb (unreachable_net j) (nets j) l) in
      let z : ◌≡◌ {A = ℕ} 0 1 = cc in
      absurd (omega arith))
      (λ (l : unreachable_net j < nets j).
      let q : missing j ≡ unreachable_net j ∷ unreachable_place j ∷ [] = rw (lt-ltb (unreachable_net j) (nets j) l) in
      (l, (cc), (cc)))
      (le_or_lt (nets j) (unreachable_net j))

  -- so that refusal 7 is answered, whatever is made of it, or the run
  module _ {R : Type 0} (refuse : List ℕ → List ℕ → R) (work : List ℕ) (run : R) where
    pub reached-missing : (at : Missing) → found ≡ Some at → reached refuse j work run ≡ refuse (7 ∷ at.net ∷ at.place ∷ []) (cleared (nodes j) [] work)
    reached-missing at f =
        let m = is-missing at f in
        rw (lt-ltb (unreachable_net j) (nets j) m.0, m.1, m.2)

    pub reached_run : found ≡ None → reached refuse j work run ≡ run
    reached_run f = rw (le-ltb (unreachable_net j) (nets j) (none-missing f))

-- what is cleared is the same after the test
pub left-same : (j : Job) (work w : List ℕ) → SameFrom (work_needed (nodes j)) work w → cleared (nodes j) [] w ≡ cleared (nodes j) [] work
left-same j work w kept = sym (cleared-same (nodes j) w w (record { long = refl; high = λ k l. refl })) ∙ cleared-same (nodes j) work w kept

module _ (start : Option ℕ) (j : Job) (work log : List ℕ) where
  -- what is answered and left
  abbrev pub Reaches : RouteReply → Type 0
  Reaches r = r ≡ reached_reply j work log (run_from start j work log)

  module _ (found : Option Missing) (test : reach_numbers found ≡ missing j) (w : List ℕ) (kept : SameFrom (work_needed (nodes j)) work w) where
    continued-same : (p : Progress) → continued j p w log ≡ continued j p work log
    unfolding continued
    continued-same p = rw (left-same j work w kept)

    resumed-same : (a : Replay) → resumed_reply j a w log ≡ resumed_reply j a work log
    resumed-same (on p) = continued-same p
    resumed-same (off word) = rw (left-same j work w kept)
    resumed-same (ends p) = rw (left-same j work w kept)
    resumed-same (not_cheapest p cost least) = rw (left-same j work w kept)

    run_same : (s : Option ℕ) → run_from s j w log ≡ run_from s j work log
    run_same None = continued-same (first_progress j)
    run_same (Some used) = resumed-same (replay j used log)

    pub unreachable_refused :
        (at : Missing) (r : RouteAnswer) (w' : List ℕ) → found ≡ Some at → r ≡ refused_answer (Unreachable at.net at.place)
        → w' ≡ replicate (work_needed (nodes j)) 0 ++ drop (work_needed (nodes j)) w
        → Reaches (route_reply_of r w' log)
    unreachable_refused at r w' f q e =
        rw (q, e ∙ cleared-same (nodes j) work w kept)
        (sym (reached-missing j found test (λ numbers left. refused_reply numbers left log) work (run_from start j work log) at f))

    pub run_answered :
        (r : RouteAnswer) (w' log' : List ℕ) → found ≡ None → route_reply_of r w' log' ≡ run_from start j w log → Reaches (route_reply_of r w' log')
    run_answered r w' log' f e =
        e ∙ run_same start ∙ sym (reached_run j found test (λ numbers left. refused_reply numbers left log) work (run_from start j work log) f)

-- ---- a job as it is given

-- where its tests pass, its nets can be joined, and the joined ones be routed
module _ (j : Job) {entries : ℕ} (p : TestsPass j entries) where
  given_sound : SoundJob j
  given_sound = sound-job j p.tables

  pub given_joinable : Joinable j.sources j.first_sinks j.sinks
  given_joinable = joinable_of j given_sound

  -- a timed job's sinks have a criticality each
  pub given_critical : (table : List ℕ) → j.criticalities ≡ if_timed j.terms table → j.terms.timed ≡ true → length table ≡ length j.sinks
  given_critical table is w = ap length (sym (is ∙ if_timed_lem j.terms w table)) ∙ criticalities-long _ _ (given_sound.criticalities_sound_lem w)

  pub given_routable : Routable (joined j)
  given_routable = joined-routable j given_sound p.fits

module _ (start : Option ℕ) (j : Job) (work log : List ℕ) where
  abbrev run : RouteReply
  run = run_from start (joined j) work log

  -- what is answered and left
  abbrev pub Tests : RouteReply → Type 0
  Tests r = r ≡ tested j work log run

  module _ {refusal : Result (Unit {0}) Outcome} (told : refusal ≡ job_refusal j (length work)) where
    pub job-refused : {outcome : Outcome} → refusal ≡ Err outcome → (r : RouteAnswer) → r ≡ refused_answer outcome → Tests (route_reply_of r work log)
    job-refused refused r q =
        ap (λ (x : RouteAnswer). route_reply_of x work log) q ∙ sym (tests_refuse (λ numbers left. refused_reply numbers left log) j work run told refused)

    -- the answer of the joined nets, which are a job of their own in the code
    pub joined-answered : refusal ≡ Ok tt → (k : Job) → k ≡ joined j → (r : RouteReply) → Reaches start k work log r → Tests r
    joined-answered accepted k e r answered =
        subst (λ (x : Job). Reaches start x work log r) e answered
        ∙ sym (tests_accept (λ numbers left. refused_reply numbers left log) j work run told accepted)

-- so is their count
pub joined-counts :
    (k : Job) {j : Job} → k ≡ j → (aimed : Bool) (lent made : List Record) (count : ℕ) → count ≡ expanded_after aimed k lent made → count ≡ expanded_after aimed j lent made
joined-counts k e aimed lent made count counts = subst (λ (x : Job). count ≡ expanded_after aimed x lent made) e counts

-- the same of an audit
module _ (j : Job) (used : ℕ) (work log : List ℕ) where
  abbrev audit : AuditReply
  audit = audited_reply (joined j) (replay_by true (joined j) used log) work

  -- what is answered and left
  abbrev pub Audits : AuditReply → Type 0
  Audits r = r ≡ tested_by refused_audit j work audit

  module _ {refusal : Result (Unit {0}) Outcome} (told : refusal ≡ job_refusal j (length work)) where
    pub audit_refused : {outcome : Outcome} → refusal ≡ Err outcome → (r : AuditAnswer) → r ≡ refused_audit_answer outcome → Audits (audit_reply_of r work)
    audit_refused refused r q = ap (λ (x : AuditAnswer). audit_reply_of x work) q ∙ sym (tests_refuse refused_audit j work audit told refused)

    pub joined_audited :
        refusal ≡ Ok tt → (k : Job) → k ≡ joined j → (r : AuditReply) → r ≡ reached refused_audit k work (audited_reply k (replay_by true k used log) work) → Audits r
    joined_audited accepted k e r answered =
        subst (λ (x : Job). r ≡ reached refused_audit x work (audited_reply x (replay_by true x used log) work)) e answered
        ∙ sym (tests_accept refused_audit j work audit told accepted)

-- ---- the three calls

pub route_answered : (j : Job) (work log : List ℕ) (r : RouteReply) → Tests None j work log r → Demand3 j work log r
unfolding route_reply
route_answered j work log r e = subst (Demand3 j work log) (sym e) (demand_3 j work log)

pub resume_answered :
    (j : Job) (used : ℕ) (work log : List ℕ) (r : RouteReply) → Tests (Some used) j work log r → Resumed j used work log r
unfolding resume_reply
resume_answered j used work log r e = subst (Resumed j used work log) (sym e) (resumed j used work log)

pub audit_answered : (j : Job) (used : ℕ) (work log : List ℕ) (r : AuditReply) → Audits j used work log r → Audited j used work log r
unfolding audit_reply
audit_answered j used work log r e = subst (Audited j used work log) (sym e) (audited j used work log)
