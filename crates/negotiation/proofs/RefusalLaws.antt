-- The replies of route, resume and audit, refusal by refusal: which of their cases it is, by the tests in their order.
-- Assumes nothing.
use mathlib.Core.Bool.{Bool, true, false}
use mathlib.Core.List.{List, [], ◌∷◌}
use mathlib.Core.Path.{◌≡◌, refl, sym, ◌∙◌, ap, subst}
use Prim.Native.Nat.{ℕ, ◌≤◌, ◌<◌}
use native.Mathlib.Omega.{arith}
use lib.Dec.{leb, ltb}
use lib.ListN.{length, take}
use borrow.Author.Tests.{le-leb, lt-leb, lt-ltb, le-ltb, leb-false, ltb-false}
use Rattle.std.specs.Prelude.{Result, Ok, Err}
use Rattle.price.proofs.TestLaws.{by_test, true≢false}
use Rattle.std.proofs.lemmas.Result.{err_from_is_err_and}
use Rattle.std.specs.Result.{IsErrAnd}
use Rattle.search.specs.Replies.{tested}
use Rattle.search.specs.declared.BadTable.{BadTable as Bad}
use Rattle.search.proofs.TestedLaws.{tested_bad}
use Rattle.search.specs.Replies.{work_needed, cleared}
use Rattle.job.specs.Job.{Job, nodes, nets}
use Rattle.job.specs.Tables.{faulty_job, exceeds}
use Rattle.job.specs.Join.{joined}
use Rattle.negotiation.specs.Outcome.{unreachable_net, unreachable_place, negotiated, route_refusal, refused_answer, refused_reply, reached, tested_by, route_reply}
use Rattle.negotiation.specs.Records.{Record, decode_up_to, decode}
use Rattle.negotiation.specs.Aimed.{expanded_after}
use Rattle.negotiation.specs.AuditSteps.{job_refusal}
use Rattle.negotiation.specs.declared.Outcome.{Outcome}
use Rattle.negotiation.specs.declared.Outcome.TheVariants.{BadTable, ShortWork, TooLarge}
use Rattle.negotiation.specs.declared.RouteAnswer.{RouteAnswer}
use Rattle.negotiation.proofs.AimedCountLaws.{after-short}

-- a refusal logs nothing, and no nodes are counted
pub refused-counts :
    (aimed : Bool) (j : Job) (lent : List Record) {outcome : Outcome} (r : RouteAnswer) (log : List ℕ) → r ≡ refused_answer outcome
    → r.expanded ≡ expanded_after aimed j lent (decode (take r.used log))
unfolding decode decode_up_to
refused-counts aimed j lent r log e = rw e (sym (after-short aimed j lent))

-- the tests of a job as it is given, whatever is made of a refusal and whatever run stands behind them
module _ {R : Type 0} (refuse : List ℕ → List ℕ → R) (j : Job) (work : List ℕ) (run : R) where
  pub tested_table : 1 ≤ faulty_job j → tested_by refuse j work run ≡ refuse (5 ∷ faulty_job j ∷ []) work
  tested_table h = rw (le-leb 1 (faulty_job j) h)

  module _ (sound : faulty_job j < 1) where
    pub tested_large : exceeds (nodes j) j.terms ≡ true → tested_by refuse j work run ≡ refuse (15 ∷ nodes j ∷ j.terms.limit ∷ []) work
    tested_large x = rw (lt-leb 1 (faulty_job j) sound, x)

    module _ (fits : exceeds (nodes j) j.terms ≡ false) where
      pub tested-work : length work < work_needed (nodes j) → tested_by refuse j work run ≡ refuse (6 ∷ work_needed (nodes j) ∷ []) work
      tested-work h = rw (lt-leb 1 (faulty_job j) sound, fits, lt-ltb (length work) (work_needed (nodes j)) h)

      -- what stays is the reply of the joined nets
      pub tested-joined : work_needed (nodes j) ≤ length work → tested_by refuse j work run ≡ reached refuse (joined j) work run
      tested-joined enough = rw (lt-leb 1 (faulty_job j) sound, fits, le-ltb (length work) (work_needed (nodes j)) enough)

-- ---- the tests as one function makes them for all three calls

-- what a job as it is given comes to by them
abbrev by_refusal : {R : Type 0} → (List ℕ → List ℕ → R) → List ℕ → R → Result (Unit {0}) Outcome → R
by_refusal refuse work rest (Ok u) = rest
by_refusal refuse work rest (Err outcome) = refuse (route_refusal outcome 0 0) work

module _ {R : Type 0} (refuse : List ℕ → List ℕ → R) (j : Job) (work : List ℕ) (run : R) where
  tested_so : tested_by refuse j work run ≡ by_refusal refuse work (reached refuse (joined j) work run) (job_refusal j (length work))
  tested_so =
      by_test (leb 1 (faulty_job j))
      (λ t. rw t)
      (λ t.
      by_test (exceeds (nodes j) j.terms)
      (λ x. rw (t, x))
      (λ x. by_test (ltb (length work) (work_needed (nodes j))) (λ w. rw (t, x, w)) (λ w. rw (t, x, w))))

  module _ {r : Result (Unit {0}) Outcome} (told : r ≡ job_refusal j (length work)) where
    pub tests_refuse : {outcome : Outcome} → r ≡ Err outcome → tested_by refuse j work run ≡ refuse (route_refusal outcome 0 0) work
    tests_refuse e = tested_so ∙ ap (by_refusal refuse work (reached refuse (joined j) work run)) (sym told ∙ e)

    pub tests_accept : r ≡ Ok tt → tested_by refuse j work run ≡ reached refuse (joined j) work run
    tests_accept e = tested_so ∙ ap (by_refusal refuse work (reached refuse (joined j) work run)) (sym told ∙ e)

-- no table is faulty, the job isn't too large, and the work memory is enough
pub record TestsPass (j : Job) (entries : ℕ) : Type 0 where
  pub tables : faulty_job j ≡ 0
  pub fits : exceeds (nodes j) j.terms ≡ false
  pub enough : work_needed (nodes j) ≤ entries

abbrev is_ok : Result (Unit {0}) Outcome → Bool
is_ok (Ok u) = true
is_ok (Err outcome) = false

-- an answer that is no refusal
pub no_refusal : (r : Result (Unit {0}) Outcome) → ((outcome : Outcome) → r ≡ Err outcome → ⊥) → r ≡ Ok tt
no_refusal (Ok u) other = refl
no_refusal (Err outcome) other = absurd (other outcome refl)

module _ (j : Job) (entries : ℕ) where
  none_told : job_refusal j entries ≡ Ok tt → TestsPass j entries
  none_told q =
      by_test (leb 1 (faulty_job j))
      (λ t. let e : job_refusal j entries ≡ Err (BadTable (faulty_job j)) = rw t in absurd (true≢false (sym (ap is_ok q) ∙ ap is_ok e)))
      (λ t.
      by_test (exceeds (nodes j) j.terms)
      (λ x. let e : job_refusal j entries ≡ Err (TooLarge (nodes j) j.terms.limit) = rw (t, x) in absurd (true≢false (sym (ap is_ok q) ∙ ap is_ok e)))
      (λ x.
      by_test (ltb entries (work_needed (nodes j)))
      (λ w. let e : job_refusal j entries ≡ Err (ShortWork (work_needed (nodes j))) = rw (t, x, w) in absurd (true≢false (sym (ap is_ok q) ∙ ap is_ok e)))
      (λ w.
      let none : faulty_job j < 1 = leb-false 1 (faulty_job j) t in
      record { tables = omega arith; fits = x; enough = ltb-false entries (work_needed (nodes j)) w })))

  pub accepted_passes : {r : Result (Unit {0}) Outcome} → r ≡ job_refusal j entries → r ≡ Ok tt → TestsPass j entries
  accepted_passes told e = none_told (sym told ∙ e)

  -- the refusal, test by test
  module _ (table : ℕ) (is : table ≡ faulty_job j) where
    pub table_told : 1 ≤ table → Err (BadTable table) ≡ job_refusal j entries
    table_told h = rw (le-leb 1 (faulty_job j) (subst (λ (k : ℕ). 1 ≤ k) is h), is)

    module _ (none : table < 1) where
      fine : faulty_job j < 1
      fine = subst (λ (k : ℕ). k < 1) is none

      pub large_told : exceeds (nodes j) j.terms ≡ true → Err (TooLarge (nodes j) j.terms.limit) ≡ job_refusal j entries
      large_told x = rw (lt-leb 1 (faulty_job j) fine, x)

      module _ (fits : exceeds (nodes j) j.terms ≡ false) where
        pub work-told : entries < work_needed (nodes j) → Err (ShortWork (work_needed (nodes j))) ≡ job_refusal j entries
        work-told h = rw (lt-leb 1 (faulty_job j) fine, fits, lt-ltb entries (work_needed (nodes j)) h)

        pub nothing_told : work_needed (nodes j) ≤ entries → Ok tt ≡ job_refusal j entries
        nothing_told h = rw (lt-leb 1 (faulty_job j) fine, fits, le-ltb entries (work_needed (nodes j)) h)

-- where tables are refused, the lowest that breaks its rule is told
pub bad_told :
    (j : Job) (entries : ℕ) {bad : Bad} (r : Result (Unit {0}) Outcome) → tested (faulty_job j) ≡ Err bad → IsErrAnd r (λ o. o ≡ BadTable bad.table)
    → r ≡ job_refusal j entries
bad_told j entries {bad} r e is =
    let p = err_from_is_err_and r is in
    let t = tested_bad (faulty_job j) e in
    p.1 ∙ ap Err p.2 ∙ table_told j entries bad.table (sym t.0) (omega (arith, t.0, t.1))

-- ---- what the router answers

-- the router's run begins
module _ (j : Job) (work log : List ℕ) where
  pub route_table : 1 ≤ faulty_job j → route_reply j work log ≡ refused_reply (5 ∷ faulty_job j ∷ []) work log
  unfolding route_reply
  route_table = tested_table (λ numbers left. refused_reply numbers left log) j work (negotiated (joined j) work log)

  module _ (sound : faulty_job j < 1) where
    pub route_large : exceeds (nodes j) j.terms ≡ true → route_reply j work log ≡ refused_reply (15 ∷ nodes j ∷ j.terms.limit ∷ []) work log
    unfolding route_reply
    route_large = tested_large (λ numbers left. refused_reply numbers left log) j work (negotiated (joined j) work log) sound

    module _ (fits : exceeds (nodes j) j.terms ≡ false) where
      pub route_work : length work < work_needed (nodes j) → route_reply j work log ≡ refused_reply (6 ∷ work_needed (nodes j) ∷ []) work log
      unfolding route_reply
      route_work = tested-work (λ numbers left. refused_reply numbers left log) j work (negotiated (joined j) work log) sound fits

      module _ (enough : work_needed (nodes j) ≤ length work) where
        pub route_unreachable :
            unreachable_net (joined j) < nets j
            → route_reply j work log ≡ refused_reply (7 ∷ unreachable_net (joined j) ∷ unreachable_place (joined j) ∷ []) (cleared (nodes j) [] work) log
        unfolding route_reply
        route_unreachable h = tested-joined (λ numbers left. refused_reply numbers left log) j work (negotiated (joined j) work log) sound fits enough ∙ rw (lt-ltb (unreachable_net (joined j)) (nets j) h)

        pub route_run_lem : nets j ≤ unreachable_net (joined j) → route_reply j work log ≡ negotiated (joined j) work log
        unfolding route_reply
        route_run_lem h = tested-joined (λ numbers left. refused_reply numbers left log) j work (negotiated (joined j) work log) sound fits enough ∙ rw (le-ltb (unreachable_net (joined j)) (nets j) h)
