-- What the private functions of an audit answer, and the one that tests a job for route, resume and audit. Only their contracts cite
-- this file: no caller has to believe it.
-- Assumes nothing.
use Rattle.std.specs.Prelude.{Result, Ok, Err, ℕ, leb, ltb}
use Rattle.price.specs.Test.{choose}
use Rattle.search.specs.Replies.{work_needed}
use Rattle.job.specs.Job.{Job, nodes}
use Rattle.job.specs.Tables.{faulty_job, exceeds}
use Rattle.negotiation.specs.declared.AuditAnswer.{AuditAnswer}
use Rattle.negotiation.specs.declared.Outcome.{Outcome}
use Rattle.negotiation.specs.declared.Outcome.TheVariants.{Accepted, BadTable, ShortWork, Diverges, TooLarge, NotCheapest}
use Rattle.negotiation.specs.declared.take_up.Told.{Told}
use Rattle.negotiation.specs.declared.tariff.Tariff.{Tariff}
use Rattle.negotiation.specs.declared.take_up.Stopped.{Stopped}
use Rattle.negotiation.specs.declared.take_up.Stopped.TheVariants as stopped

-- refusal 5, 15 or 6 of a call with so many entries of work memory, if any
abbrev pub job_refusal : Job → ℕ → Result (Unit {0}) Outcome
job_refusal j entries =
    choose (leb 1 (faulty_job j)) (Err (BadTable (faulty_job j)))
    (choose (exceeds (nodes j) j.terms) (Err (TooLarge (nodes j) j.terms.limit))
    (choose (ltb entries (work_needed (nodes j))) (Err (ShortWork (work_needed (nodes j)))) (Ok tt)))

-- the answer of an audit that is refused
abbrev pub refused_audit_answer : Outcome → AuditAnswer
refused_audit_answer outcome = record { outcome = outcome; turns = 0; whole = 0; over = 0 }

-- the answer of an audit that came so far
abbrev pub told_answer : Outcome → Told → AuditAnswer
told_answer outcome at = record { outcome = outcome; turns = at.turns; whole = at.whole; over = at.over }

-- the answer by what the log came to; an audit never comes to `Ok`
abbrev pub audit_answer : Result Tariff Stopped → AuditAnswer
audit_answer (Ok t) = refused_audit_answer (Diverges t.words)
audit_answer (Err (stopped.Off word)) = refused_audit_answer (Diverges word)
audit_answer (Err (stopped.Ends at)) = told_answer Accepted at
audit_answer (Err (stopped.NotCheapest at cost least)) = told_answer (NotCheapest at.words cost least) at
