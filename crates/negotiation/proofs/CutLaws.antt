-- A run cut in two: so many whole iterations, none of which settles, and the run that goes on from where they lead. It ends as the whole run does.
-- Assumes nothing.
use mathlib.Core.Bool.{true, false}
use mathlib.Core.List.{List, ◌++◌, append-nil, append_assoc}
use mathlib.Core.Logic.{⊎_elim}
use mathlib.Core.Path.{◌≡◌, sym, ◌∙◌, ap}
use Prim.Native.Nat.{ℕ, zero, suc, ◌+◌, ◌-◌, ◌≤◌, ◌<◌}
use native.Mathlib.Nat.{not-suc-le-zero, le_refl}
use native.Mathlib.Omega.{arith}
use borrow.Author.Tests.{lt-ltb, le-ltb}
use Rattle.price.specs.Lists.{first_below}
use Rattle.price.proofs.TestLaws.{le_or_lt}
use Rattle.price.proofs.BelowLaws.{first_below-below, first_below_holds, first_below-is, first_below-all}
use Rattle.job.specs.Job.{Job}
use Rattle.negotiation.specs.Machine.{State, Progress, state_after, iteration_after, records_after, settles_at}
use Rattle.negotiation.specs.Outcome.{iterations_made, iterations_left, made_from, all_records, logged_records, cut_iteration, end_numbers, end_iteration, continued}
use Rattle.negotiation.proofs.StateLaws.{state-iteration}
use Rattle.negotiation.proofs.EndLaws.{made-least}

-- ---- the machine goes on from where m iterations lead

module _ (j : Job) (s : State) (m : ℕ) where
  state_cut : (n : ℕ) → state_after j s (m + n) ≡ state_after j (state_after j s m) n
  unfolding state_after
  state_cut zero = let e : m + 0 ≡ m = omega arith in ap (state_after j s) e
  state_cut (suc n) = let e : m + suc n ≡ suc (m + n) = omega arith in rw (e, state_cut n)

  records_cut : (n : ℕ) → records_after j s (m + n) ≡ records_after j s m ++ records_after j (state_after j s m) n
  unfolding records_after
  records_cut zero = let e : m + 0 ≡ m = omega arith in ap (records_after j s) e ∙ sym (append-nil (records_after j s m))
  records_cut (suc n) =
      let e : m + suc n ≡ suc (m + n) = omega arith in
      rw (e, records_cut n, state_cut n)
      (append_assoc (records_after j s m) (records_after j (state_after j s m) n) (iteration_after j (state_after j s m) n).records)

  settles_cut : (n : ℕ) → settles_at j s (m + n) ≡ settles_at j (state_after j s m) n
  unfolding settles_at
  settles_cut n = rw (state_cut n)

-- ---- how many iterations

module _ (j : Job) (s : State) (m : ℕ) (unsettled : (k : ℕ) → k < m → settles_at j s k ≡ false) where
  -- none settles before, and none of the next
  unsettled-on : (n : ℕ) → ((k : ℕ) → k < n → settles_at j (state_after j s m) k ≡ false) → (k : ℕ) → k < m + n → settles_at j s k ≡ false
  unsettled-on n none k h =
      ⊎_elim
      (λ (past : m ≤ k).
      let e : k ≡ m + (k - m) = omega arith in
      ap (settles_at j s) e ∙ settles_cut j s m (k - m) ∙ none (k - m) (omega arith))
      (λ (before : k < m). unsettled k before)
      (le_or_lt m k)

  made_cut : (most : ℕ) → iterations_made j s (m + most) ≡ m + iterations_made j (state_after j s m) most
  unfolding iterations_made
  made_cut most =
      let first : ℕ = first_below (settles_at j (state_after j s m)) most in
      ⊎_elim
      (λ (none : most ≤ first).
      let all : first_below (settles_at j s) (m + most) ≡ m + most =
      first_below-all (settles_at j s) (m + most) (unsettled-on most (λ k h. first_below-below (settles_at j (state_after j s m)) most k (omega arith))) in
      rw (all, le-ltb (m + most) (m + most) (le_refl (m + most)), le-ltb first most none))
      (λ (some : first < most).
      let settles : settles_at j s (m + first) ≡ true = settles_cut j s m first ∙ first_below_holds (settles_at j (state_after j s m)) most some in
      let same : first_below (settles_at j s) (m + most) ≡ m + first =
      first_below-is (settles_at j s) (m + most) (m + first) (omega arith) settles (unsettled-on first (first_below-below (settles_at j (state_after j s m)) most)) in
      let next : m + first + 1 ≡ m + (first + 1) = omega arith in
      rw (same, lt-ltb (m + first) (m + most) (omega arith), lt-ltb first most some) next)
      (le_or_lt most first)

  -- the limit leaves an iteration after them
  module _ (below : s.iteration + m ≤ j.terms.limit) where
    left_cut : iterations_left j s ≡ m + iterations_left j (state_after j s m)
    unfolding iterations_left
    left_cut = let at = state-iteration j s m in omega arith

    run_cut : made_from j s ≡ m + made_from j (state_after j s m)
    run_cut = ap (iterations_made j s) left_cut ∙ made_cut (iterations_left j (state_after j s m))

    goes_on : 1 ≤ made_from j (state_after j s m)
    unfolding iterations_left
    goes_on =
        let at = state-iteration j s m in
        made-least j (state_after j s m) (iterations_left j (state_after j s m)) 0 (omega arith) (λ k h. absurd (not-suc-le-zero h))

    end_cut : end_numbers j (state_after j s m) ≡ end_numbers j s
    unfolding end_numbers
    end_cut =
        let some = goes_on in
        let whole = run_cut in
        let last : made_from j s - 1 ≡ m + (made_from j (state_after j s m) - 1) = omega arith in
        rw (last, settles_cut j s m (made_from j (state_after j s m) - 1), state_cut j s m (made_from j (state_after j s m) - 1))

    last_cut : end_iteration j (state_after j s m) ≡ end_iteration j s
    last_cut =
        let some = goes_on in
        let whole = run_cut in
        let at = state-iteration j s m in
        omega arith

-- ---- the reply

-- it rests on all records, on how the run ends, and in which iteration
reply_by :
    (j : Job) (p q : Progress) (work log : List ℕ) → all_records j p ≡ all_records j q → end_numbers j p.state ≡ end_numbers j q.state
    → end_iteration j p.state ≡ end_iteration j q.state → continued j p work log ≡ continued j q work log
unfolding continued logged_records cut_iteration
reply_by j p q work log records end last = rw (records, end, last)

-- m whole iterations of the machine from p
abbrev pub moved_by : Job → Progress → ℕ → Progress
moved_by j p m = record { records = p.records ++ records_after j p.state m; state = state_after j p.state m }

module _ (j : Job) (p : Progress) (m : ℕ) (unsettled : (k : ℕ) → k < m → settles_at j p.state k ≡ false) (below : p.state.iteration + m ≤ j.terms.limit) where
  all_cut : all_records j (moved_by j p m) ≡ all_records j p
  unfolding all_records
  all_cut =
      let s = state_after j p.state m in
      rw (run_cut j p.state m unsettled below, records_cut j p.state m (made_from j s))
      (append_assoc p.records (records_after j p.state m) (records_after j s (made_from j s)))

  pub continued_cut : (work log : List ℕ) → continued j (moved_by j p m) work log ≡ continued j p work log
  continued_cut work log =
      reply_by j (moved_by j p m) p work log all_cut (end_cut j p.state m unsettled below) (last_cut j p.state m unsettled below)
