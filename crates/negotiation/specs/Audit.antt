-- An audit of a log, whoever wrote it: the first turn that doesn't follow the job, or that follows and is not a cheapest one. It is the
-- replay of request 2.8 with two more questions (Resume.antt): whether each turn that follows is a cheapest one, and its words may end
-- behind any record. 01's rows are refusals; a turn that is not cheapest is a finding, and has number 18.
-- Assumes nothing.
use Rattle.std.specs.Prelude.{true, List, [], ◌∷◌, ℕ, ◌-◌, length}
use Rattle.search.specs.Replies.{cleared}
use Rattle.job.specs.Job.{Job, nodes}
use Rattle.job.specs.Join.{joined}
use Rattle.negotiation.specs.Records.{encode}
use Rattle.negotiation.specs.Machine.{Progress, over_count}
use Rattle.negotiation.specs.Outcome.{route_refusal, tested_by}
use Rattle.negotiation.specs.Resume.{Replay, on, off, ends, not_cheapest, replay_by}
use Rattle.negotiation.specs.declared.AuditAnswer.{AuditAnswer}

-- what an audit answers and leaves: the numbers of a refusal or of the finding, none where the log is sound; the turns before it, of a
-- sound log all; the iterations that are whole, and the nodes over capacity after the last of them; the work slice. The log is only read
pub record AuditReply : Type 0 where
  pub told : List ℕ
  pub turns : ℕ
  pub whole : ℕ
  pub over : ℕ
  pub work : List ℕ

-- the answer with the work slice at the call's end, as one value
abbrev pub audit_reply_of : AuditAnswer → List ℕ → AuditReply
audit_reply_of r work =
    record { told = route_refusal r.outcome 0 0; turns = r.turns; whole = r.whole; over = r.over; work = work }

-- after a refusal the other numbers are 0
abbrev pub refused_audit : List ℕ → List ℕ → AuditReply
refused_audit numbers work = record { told = numbers; turns = 0; whole = 0; over = 0; work = work }

-- an audit that came to this progress, whose state is that at an iteration's start: the iterations before it are whole
abbrev pub audited_to : Job → List ℕ → Progress → List ℕ → AuditReply
audited_to j told p work =
    record {
      told = told;
      turns = length p.records;
      whole = p.state.iteration - 1;
      over = over_count j p.state.trees;
      work = cleared (nodes j) [] work;
    }

-- what a replay comes to; no audit comes to the last one (`never_on` of ReplayLaws), which is where a log is taken up
abbrev pub audited_reply : Job → Replay → List ℕ → AuditReply
audited_reply j (off word) work = refused_audit (14 ∷ word ∷ []) (cleared (nodes j) [] work)
audited_reply j (ends p) work = audited_to j [] p work
audited_reply j (not_cheapest p cost least) work = audited_to j (18 ∷ length (encode p.records) ∷ cost ∷ least ∷ []) p work
audited_reply j (on p) work = refused_audit (14 ∷ length (encode p.records) ∷ []) (cleared (nodes j) [] work)

-- 5, 15, 6 and 7 are tested as `route` does, then the turns of the log
unfoldable pub audit_reply : Job → ℕ → List ℕ → List ℕ → AuditReply
audit_reply j used work log = tested_by refused_audit j work (audited_reply (joined j) (replay_by true (joined j) used log) work)
