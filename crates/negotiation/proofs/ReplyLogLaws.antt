-- The log of a reply as the records whose words it holds: where its records are a beginning of another's, its log is, and which of a run's records fit it.
-- Assumes nothing.
use mathlib.Core.List.{List, [], ◌∷◌, ◌++◌, append_assoc}
use mathlib.Core.Logic.{◌⊎◌, inl, inr}
use mathlib.Core.Path.{◌≡◌, refl, sym, ◌∙◌, ap}
use Prim.Native.Nat.{ℕ, ◌+◌, ◌≤◌}
use native.Mathlib.Omega.{arith}
use lib.Dec.{ltb}
use lib.ListN.{length, drop, length-append}
use lib.Seq.{take-append_seam}
use borrow.Author.Tests.{ltb-false}
use Rattle.price.proofs.TestLaws.{by_test}
use Rattle.job.specs.Job.{Job}
use Rattle.negotiation.specs.Records.{Record, encode, decode, fitting}
use Rattle.negotiation.specs.Machine.{Progress}
use Rattle.negotiation.specs.Outcome.{RouteReply, words_used, turns_logged, all_records, logged_records, cut_iteration, log_with, refused_reply, ran_reply, continued}
use Rattle.negotiation.specs.Longer.{Begins, SameLog}
use Rattle.negotiation.proofs.RecordLaws.{decode-encode, encode-append, fitting-fits, fitting_whole}
use Rattle.negotiation.proofs.EndLaws.{whole_reply}

-- the words used are those of these records
pub record LogHas (r : RouteReply) (rs : List Record) : Type 0 where
  pub rest : List ℕ
  pub used : r.used ≡ length (encode rs)
  pub log : r.log ≡ encode rs ++ rest

pub log-words : (r : RouteReply) (rs : List Record) → LogHas r rs → words_used r ≡ encode rs
log-words r rs l = rw (l.used, l.log) (take-append_seam (encode rs) l.rest)

pub log-turns : (r : RouteReply) (rs : List Record) → LogHas r rs → turns_logged r ≡ rs
log-turns r rs l = ap decode (log-words r rs l) ∙ decode-encode rs

-- a beginning of the records is a beginning of the log
pub log-begins : (a b : RouteReply) (rs later ss : List Record) → LogHas a rs → LogHas b ss → ss ≡ rs ++ later → Begins a b
log-begins a b rs later ss l m e =
    let both : encode ss ≡ encode rs ++ encode later = ap encode e ∙ encode-append rs later in
    let long : length (encode ss) ≡ length (encode rs) + length (encode later) = ap length both ∙ length-append (encode rs) (encode later) in
    record {
      shorter = rw (l.used, m.used) (omega arith);
      words = rw (l.used, m.log, both, append_assoc) (take-append_seam (encode rs) (encode later ++ m.rest)) ∙ sym (log-words a rs l);
      turns = (later, log-turns b ss m ∙ e ∙ ap (λ (l : List Record). l ++ later) (sym (log-turns a rs l)));
    }

pub refused-log : (numbers work log : List ℕ) → LogHas (refused_reply numbers work log) []
unfolding encode
refused-log numbers work log = record { rest = log; used = refl; log = refl }

pub ran-log : (j : Job) (numbers : List ℕ) (iteration : ℕ) (rs : List Record) (work log : List ℕ) → LogHas (ran_reply j numbers iteration rs work log) rs
unfolding log_with
ran-log j numbers iteration rs work log = record { rest = drop (length (encode rs)) log; used = refl; log = refl }

-- a run from here, in some slices
module _ (j : Job) (p : Progress) (work log : List ℕ) where
  -- it logs the records that fit
  pub run_log : LogHas (continued j p work log) (fitting (length log) (all_records j p))
  unfolding continued logged_records
  run_log =
      by_test (ltb (length (fitting (length log) (all_records j p))) (length (all_records j p)))
      (λ t.
      rw t (ran-log j _ _ (fitting (length log) (all_records j p)) work log))
      (λ t.
      rw (t, fitting_whole (length log) (all_records j p) (ltb-false _ _ t)) (ran-log j _ _ (all_records j p) work log))

  -- it fills its log, or all its records fit
  pub full_or_fits :
      ((iteration : ℕ) × (turns : ℕ) × ((continued j p work log).refusal ≡ 8 ∷ iteration ∷ turns ∷ []))
      ⊎ (length (encode (all_records j p)) ≤ length log)
  unfolding continued logged_records
  full_or_fits =
      by_test (ltb (length (fitting (length log) (all_records j p))) (length (all_records j p)))
      (λ t.
      inl (cut_iteration j p (length log), length (logged_records j p (length log)), rw t))
      (λ t.
      let whole : fitting (length log) (all_records j p) ≡ all_records j p = fitting_whole (length log) (all_records j p) (ltb-false _ _ t) in
      inr (rw whole at (fitting-fits (length log) (all_records j p))))

-- where all fit both logs, the run ends alike, whatever the work slices
pub run_same :
    (j : Job) (p : Progress) (work short work' long : List ℕ) → length (encode (all_records j p)) ≤ length short → length (encode (all_records j p)) ≤ length long
    → SameLog (continued j p work short) (continued j p work' long)
unfolding log_with
run_same j p work short work' long fits more =
    rw (whole_reply j p work short (all_records j p) refl fits, whole_reply j p work' long (all_records j p) refl more)
    (record {
      refusal = refl;
      iteration = refl;
      turns = refl;
      used = refl;
      words =
          take-append_seam (encode (all_records j p)) (drop (length (encode (all_records j p))) long)
          ∙ sym (take-append_seam (encode (all_records j p)) (drop (length (encode (all_records j p))) short));
    })

-- in logs of one length it does, whether they are filled or not
module _ (j : Job) (p : Progress) (work log work' log' : List ℕ) (long : length log ≡ length log') where
  as_long-words : words_used (continued j p work' log') ≡ words_used (continued j p work log)
  as_long-words =
      log-words (continued j p work' log') (fitting (length log') (all_records j p)) (run_log j p work' log')
      ∙ ap (λ (n : ℕ). encode (fitting n (all_records j p))) (sym long)
      ∙ sym (log-words (continued j p work log) (fitting (length log) (all_records j p)) (run_log j p work log))

  pub run_as_long : SameLog (continued j p work log) (continued j p work' log')
  unfolding continued
  run_as_long =
      let same = as_long-words in
      by_test (ltb (length (logged_records j p (length log'))) (length (all_records j p)))
      (λ t.
      record { refusal = rw (long, t); iteration = rw (long, t); turns = rw (long, t); used = rw (long, t); words = same })
      (λ t.
      record { refusal = rw (long, t); iteration = rw (long, t); turns = rw (long, t); used = rw (long, t); words = same })
