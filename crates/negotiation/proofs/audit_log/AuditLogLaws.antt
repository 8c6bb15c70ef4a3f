-- What an audit of joined nets answers: by what its log came to, and after the test of its sinks.
-- Assumes nothing.
use mathlib.Core.Bool.{true}
use mathlib.Core.List.{List, [], ◌++◌}
use mathlib.Core.Path.{◌≡◌, sym, ◌∙◌, ap}
use Prim.Native.Nat.{ℕ, ◌-◌, ◌*◌, ◌≤◌, ◌<◌}
use native.Mathlib.Omega.{arith}
use lib.ListN.{length, take, drop, replicate}
use borrow.Author.Tests.{lt-ltb, le-ltb}
use Rattle.std.specs.Prelude.{Option, Some, None, Result, Ok, Err}
use Rattle.search.specs.Replies.{work_needed, cleared}
use Rattle.job.specs.Job.{Job, nodes}
use Rattle.negotiation.specs.Machine.{first_state}
use Rattle.negotiation.specs.Outcome.{reached}
use Rattle.negotiation.specs.Resume.{Replay, on, off, ends, not_cheapest, replay_from, replay_by}
use Rattle.negotiation.specs.Audit.{AuditReply, audit_reply_of, refused_audit, audited_reply}
use Rattle.negotiation.specs.AuditSteps.{refused_audit_answer, audit_answer}
use Rattle.negotiation.specs.TakeSteps.{ToldAt, LogTaken}
use Rattle.negotiation.specs.Records.{Record}
use Rattle.negotiation.specs.Steps.{SameFrom, missing, reach_numbers}
use Rattle.negotiation.specs.declared.AuditAnswer.{AuditAnswer}
use Rattle.negotiation.specs.declared.Outcome.TheVariants.{Diverges, Unreachable}
use Rattle.negotiation.specs.declared.reach.Missing.{Missing}
use Rattle.negotiation.specs.declared.tariff.Tariff.{Tariff}
use Rattle.negotiation.specs.declared.take_up.Stopped.{Stopped}
use Rattle.negotiation.specs.declared.take_up.Stopped.TheVariants as stopped
use Rattle.negotiation.specs.declared.take_up.Told.{Told}
use Rattle.negotiation.proofs.EndLaws.{cleared-same}
use Rattle.negotiation.proofs.RouteLaws.{left-same, reached-missing, reached_run}

-- ---- what the log came to

-- the iterations before the one that is begun are whole
whole_before : {rs : List Record} {iteration over : ℕ} {at : Told} → ToldAt rs iteration over at → at.whole ≡ iteration - 1
whole_before t = let w = t.whole_is in omega arith

-- the work slice was changed below, and is cleared
module _ (j : Job) (used : ℕ) (work log w w' : List ℕ) (kept : SameFrom (8 * nodes j) work w)
    (left : w' ≡ replicate (8 * nodes j) 0 ++ drop (8 * nodes j) w) where
  -- what is answered and left
  abbrev pub Audits : AuditAnswer → Type 0
  Audits r = audit_reply_of r w' ≡ audited_reply j (replay_by true j used log) work

  left_is : w' ≡ cleared (nodes j) [] work
  left_is = left ∙ cleared-same (nodes j) work w kept

  pub beyond_audited : length log < used → (r : AuditAnswer) → r ≡ refused_audit_answer (Diverges (length log)) → Audits r
  unfolding replay_by
  beyond_audited l r q = rw (q, lt-ltb (length log) used l, left_is)

  module _ (within : used ≤ length log) where
    replay-is : replay_by true j used log ≡ replay_from true j (take used log) j.terms.limit (first_state j) []
    unfolding replay_by
    replay-is = rw (le-ltb (length log) used within)

    by_taken : (t : Result Tariff Stopped) (history users marks from to dues : List ℕ) → LogTaken true t j history users marks from to dues (take used log) → Audits (audit_answer t)
    by_taken (Ok t) history users marks from to dues o = rw (replay-is ∙ o.is, left_is, o.ready.tallied.words-is)
    by_taken (Err (stopped.Off word)) history users marks from to dues q = rw (replay-is ∙ q, left_is)
    by_taken (Err (stopped.Ends at)) history users marks from to dues o =
        let t = o.told_at in
        rw (replay-is ∙ o.is, left_is, t.turns-is, whole_before t, t.over-is)
    by_taken (Err (stopped.NotCheapest at cost least)) history users marks from to dues o =
        let t = o.told_at in
        rw (replay-is ∙ o.is, left_is, t.turns-is, t.words-is, whole_before t, t.over-is)

    pub taken_audited :
        (t : Result Tariff Stopped) (history users marks from to dues : List ℕ) → LogTaken true t j history users marks from to dues (take used log)
        → (r : AuditAnswer) → r ≡ audit_answer t → Audits r
    taken_audited t history users marks from to dues came r q = ap (λ (x : AuditAnswer). audit_reply_of x w') q ∙ by_taken t history users marks from to dues came

-- ---- the test of its sinks

module _ (j : Job) (work w : List ℕ) (kept : SameFrom (work_needed (nodes j)) work w) where
  audited_same : (a : Replay) → audited_reply j a w ≡ audited_reply j a work
  audited_same (on p) = rw (left-same j work w kept)
  audited_same (off word) = rw (left-same j work w kept)
  audited_same (ends p) = rw (left-same j work w kept)
  audited_same (not_cheapest p cost least) = rw (left-same j work w kept)

  module _ (found : Option Missing) (test : reach_numbers found ≡ missing j) (used : ℕ) (log : List ℕ) where
    abbrev run : AuditReply
    run = audited_reply j (replay_by true j used log) work

    -- what is answered and left
    abbrev pub Reaches : AuditReply → Type 0
    Reaches r = r ≡ reached refused_audit j work run

    pub unreachable_audited :
        (at : Missing) (r : AuditAnswer) (w' : List ℕ) → found ≡ Some at → r ≡ refused_audit_answer (Unreachable at.net at.place)
        → w' ≡ replicate (work_needed (nodes j)) 0 ++ drop (work_needed (nodes j)) w → Reaches (audit_reply_of r w')
    unreachable_audited at r w' f q e =
        rw (q, e ∙ cleared-same (nodes j) work w kept) (sym (reached-missing j found test refused_audit work run at f))

    pub run_audited : (r : AuditReply) → found ≡ None → r ≡ audited_reply j (replay_by true j used log) w → Reaches r
    run_audited r f e = e ∙ audited_same (replay_by true j used log) ∙ sym (reached_run j found test refused_audit work run f)
