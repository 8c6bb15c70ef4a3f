-- A job under two limits of iterations: no turn depends on the limit, the larger makes as many iterations at least, and its records begin with the smaller's.
-- Assumes nothing.
use mathlib.Core.Bool.{Bool, true, false}
use mathlib.Core.List.{List, [], ◌∷◌, ◌++◌, append_assoc}
use mathlib.Core.Logic.{⊎_elim}
use mathlib.Core.Path.{◌≡◌, refl, sym, ◌∙◌, ap, fun_ext}
use Prim.Native.Nat.{ℕ, zero, suc, ◌+◌, ◌-◌, ◌≤◌, ◌<◌}
use native.Mathlib.Nat.{le_refl}
use native.Mathlib.Omega.{arith}
use lib.Dec.{ltb}
use lib.ListN.{length}
use borrow.Author.Tests.{lt-ltb, le-ltb, ltb-true}
use Rattle.price.specs.Test.{choose}
use Rattle.price.specs.Lists.{first_below}
use Rattle.price.proofs.TestLaws.{by_test, le_or_lt, true≢false}
use Rattle.price.proofs.BelowLaws.{first_below_holds, first_below-below, first_below-is}
use Rattle.search.specs.Turn.{Congestion, Turn, joins, stuck}
use Rattle.job.specs.Job.{Job, nets, source, net_sinks, net_criticalities}
use Rattle.negotiation.specs.Order.{turn_sinks, turn_weighting, turn_congestion}
use Rattle.negotiation.specs.Records.{Record}
use Rattle.negotiation.specs.Machine.{State, Progress, others_of, users_of, marks_of, congestion_for, turn_of, log_turn, turns_of, net_records, has_sinks, all_due, crowded, due, route_if, after_nets, iterate, overfull, over_count, move_on, first_state, state_after, records_after, settles_at}
use Rattle.negotiation.specs.Outcome.{iterations_made, iterations_left, made_from, all_records, end_numbers}
use Rattle.negotiation.specs.Longer.{with_limit}
use Rattle.negotiation.proofs.EndLaws.{records-more}

-- how many iterations a limit leaves to a run from a state
abbrev pub left_under : ℕ → State → ℕ
left_under limit s = limit + 1 - s.iteration

-- ---- no turn depends on the limit

module _ (j : Job) (limit : ℕ) where
  turn_alike : (t i : ℕ) (tree : List ℕ) (made : Turn) (rest rest' : List ℕ → List Record) → ((tree : List ℕ) → rest tree ≡ rest' tree)
      → log_turn (with_limit j limit) t i tree made rest ≡ log_turn j t i tree made rest'
  unfolding turn_sinks net_sinks net_criticalities
  turn_alike t i tree (joins place cost path) rest rest' same = rw (same (tree ++ path))
  turn_alike t i tree stuck rest rest' same = refl

  turns_alike : (t : ℕ) (c : Congestion) (i k : ℕ) (tree : List ℕ) → turns_of (with_limit j limit) t c i k tree ≡ turns_of j t c i k tree
  unfolding turns_of turn_of marks_of turn_sinks turn_weighting turn_congestion net_sinks net_criticalities
  turns_alike t c i zero tree = refl
  turns_alike t c i (suc k) tree = turn_alike t i tree (turn_of j c i tree) _ _ (turns_alike t c i k)

  net_alike : (s : State) (i : ℕ) → net_records (with_limit j limit) s i ≡ net_records j s i
  unfolding net_records congestion_for others_of net_sinks
  net_alike s i = turns_alike s.iteration (congestion_for j s i) i (length (net_sinks j i)) (source j i ∷ [])

  due_alike : (s : State) (i : ℕ) → due (with_limit j limit) s i ≡ due j s i
  unfolding due has_sinks net_sinks all_due crowded overfull users_of
  due_alike s i = refl

  route_alike : (d : Bool) (i : ℕ) (p : Progress) → route_if d (with_limit j limit) i p ≡ route_if d j i p
  route_alike true i p = rw (net_alike p.state i)
  route_alike false i p = refl

  nets_alike : (s : State) (i : ℕ) → after_nets (with_limit j limit) s i ≡ after_nets j s i
  unfolding after_nets
  nets_alike s zero = refl
  nets_alike s (suc i) = rw (nets_alike s i, due_alike s i) (route_alike (due j s i) i (after_nets j s i))

  iterate_alike : (s : State) → iterate (with_limit j limit) s ≡ iterate j s
  unfolding iterate
  iterate_alike s = nets_alike s (nets j)

  move_alike : (s : State) → move_on (with_limit j limit) s ≡ move_on j s
  unfolding move_on users_of
  move_alike s = refl

  state_alike : (s : State) (m : ℕ) → state_after (with_limit j limit) s m ≡ state_after j s m
  unfolding state_after
  state_alike s zero = refl
  state_alike s (suc m) = rw (state_alike s m, iterate_alike (state_after j s m), move_alike (iterate j (state_after j s m)).state)

  pub records_alike : (s : State) (m : ℕ) → records_after (with_limit j limit) s m ≡ records_after j s m
  unfolding records_after
  records_alike s zero = refl
  records_alike s (suc m) = rw (records_alike s m, state_alike s m, iterate_alike (state_after j s m))

  over_alike : (trees : List (List ℕ)) → over_count (with_limit j limit) trees ≡ over_count j trees
  unfolding over_count overfull users_of
  over_alike trees = refl

  pub settles_alike : (s : State) (m : ℕ) → settles_at (with_limit j limit) s m ≡ settles_at j s m
  unfolding settles_at
  settles_alike s m = rw (state_alike s m, iterate_alike (state_after j s m), over_alike (iterate j (state_after j s m)).state.trees)

  pub first_alike : first_state (with_limit j limit) ≡ first_state j
  unfolding first_state
  first_alike = refl

  pub made_alike : (s : State) (most : ℕ) → iterations_made (with_limit j limit) s most ≡ iterations_made j s most
  unfolding iterations_made
  made_alike s most =
      ap (λ (t : ℕ → Bool). choose (ltb (first_below t most) most) (first_below t most + 1) most) (fun_ext (settles_alike s))

  pub all_alike : (p : Progress) → all_records (with_limit j limit) p ≡ p.records ++ records_after j p.state (iterations_made j p.state (left_under limit p.state))
  unfolding all_records iterations_left
  all_alike p =
      rw (made_alike p.state (left_under limit p.state))
      (ap (λ (l : List Record). p.records ++ l) (records_alike p.state (iterations_made j p.state (left_under limit p.state))))

-- ---- how many iterations are made under two limits

module _ (j : Job) (s : State) (low : ℕ) where
  -- where the last iteration under a limit does not settle, none does
  pub none_settles : settles_at j s (iterations_made j s low - 1) ≡ false → low ≤ first_below (settles_at j s) low
  unfolding iterations_made
  none_settles unsettled =
      ⊎_elim
      (λ (l : low ≤ first_below (settles_at j s) low). l)
      (λ (l : first_below (settles_at j s) low < low).
      let first : ℕ = first_below (settles_at j s) low in
      let last : first + 1 - 1 ≡ first = omega arith in
      absurd (true≢false (sym (first_below_holds (settles_at j s) low l) ∙ (rw (lt-ltb first low l, last) at unsettled))))
      (le_or_lt low (first_below (settles_at j s) low))

  -- and the limit ends the run
  pub made_late : low ≤ first_below (settles_at j s) low → iterations_made j s low ≡ low
  unfolding iterations_made
  made_late l = rw (le-ltb (first_below (settles_at j s) low) low l)

module _ (j : Job) (s : State) (low high : ℕ) (more : low ≤ high) where
  -- a run that settles below the smaller limit ends there under both
  made_early : first_below (settles_at j s) low < low → iterations_made j s high ≡ iterations_made j s low
  unfolding iterations_made
  made_early l =
      let first : ℕ = first_below (settles_at j s) low in
      let settles : settles_at j s first ≡ true = first_below_holds (settles_at j s) low l in
      let same : first_below (settles_at j s) high ≡ first =
      first_below-is (settles_at j s) high first (omega arith) settles (first_below-below (settles_at j s) low) in
      rw (same, lt-ltb first high (omega arith), lt-ltb first low l)

  -- one that does not goes on under the larger, by one iteration at least where that is larger
  made_past : low ≤ first_below (settles_at j s) low → (k : ℕ) → k ≤ low + 1 → k ≤ high → k ≤ iterations_made j s high
  unfolding iterations_made
  made_past l k near below =
      by_test (ltb (first_below (settles_at j s) high) high)
      (λ t.
      let settles : settles_at j s (first_below (settles_at j s) high) ≡ true = first_below_holds (settles_at j s) high (ltb-true _ _ t) in
      ⊎_elim
      (λ (h : low ≤ first_below (settles_at j s) high). rw t (omega arith))
      (λ (h : first_below (settles_at j s) high < low).
      absurd (true≢false (sym settles ∙ first_below-below (settles_at j s) low (first_below (settles_at j s) high) (omega arith))))
      (le_or_lt low (first_below (settles_at j s) high)))
      (λ t. rw t below)

  made_more : iterations_made j s low ≤ iterations_made j s high
  made_more =
      ⊎_elim
      (λ (l : low ≤ first_below (settles_at j s) low). rw (made_late j s low l) (made_past l low (omega arith) more))
      (λ (l : first_below (settles_at j s) low < low). rw (made_early l) (le_refl (iterations_made j s low)))
      (le_or_lt low (first_below (settles_at j s) low))

  -- where the last iteration under the smaller settles, no more are made under the larger
  pub made-same : 1 ≤ low → settles_at j s (iterations_made j s low - 1) ≡ true → iterations_made j s high ≡ iterations_made j s low
  made-same some settles =
      ⊎_elim
      (λ (l : low ≤ first_below (settles_at j s) low).
      let last : settles_at j s (low - 1) ≡ true = rw (made_late j s low l) at settles in
      absurd (true≢false (sym last ∙ first_below-below (settles_at j s) low (low - 1) (omega arith))))
      (λ (l : first_below (settles_at j s) low < low). made_early l)
      (le_or_lt low (first_below (settles_at j s) low))

  -- where it does not, more are
  pub made_again : settles_at j s (iterations_made j s low - 1) ≡ false → low < high → low < iterations_made j s high
  made_again unsettled less =
      let past = made_past (none_settles j s low unsettled) (low + 1) (omega arith) (omega arith) in
      omega arith

-- ---- the run's end and its records under a limit

-- an accepted job has no numbers
pub not_accepted : (number : ℕ) (numbers : List ℕ) → [] ≡ number ∷ numbers → ⊥
not_accepted number numbers e = let z : ◌≡◌ {A = ℕ} 0 1 = cc in omega arith

-- the run's end under a limit has no numbers where its last iteration settles, and only there
module _ (j : Job) (limit : ℕ) (s : State) where
  -- how many iterations it makes
  abbrev pub made_under : ℕ
  made_under = iterations_made j s (left_under limit s)

  pub run_alike : made_from (with_limit j limit) s ≡ made_under
  unfolding iterations_left
  run_alike = made_alike j limit s (left_under limit s)

  last_alike : settles_at (with_limit j limit) s (made_from (with_limit j limit) s - 1) ≡ settles_at j s (made_under - 1)
  last_alike = rw run_alike (settles_alike j limit s (made_under - 1))

  pub end_settles : end_numbers (with_limit j limit) s ≡ [] → settles_at j s (made_under - 1) ≡ true
  unfolding end_numbers
  end_settles e =
      by_test (settles_at j s (made_under - 1))
      (λ t. t)
      (λ t. absurd (not_accepted _ _ (sym (rw (last_alike, t) at e))))

  pub settled-end : settles_at j s (made_under - 1) ≡ true → end_numbers (with_limit j limit) s ≡ []
  unfolding end_numbers
  settled-end t = rw (last_alike, t)

  pub end-unsettled : (number : ℕ) (numbers : List ℕ) → end_numbers (with_limit j limit) s ≡ number ∷ numbers → settles_at j s (made_under - 1) ≡ false
  end-unsettled number numbers e =
      by_test (settles_at j s (made_under - 1))
      (λ t. absurd (not_accepted number numbers (sym (settled-end t) ∙ e)))
      (λ t. t)

module _ (j : Job) (p : Progress) (low high : ℕ) (more : low ≤ high) where
  -- the records under the smaller are a beginning of those under the larger
  pub raised_records : (later : List Record) × (all_records (with_limit j high) p ≡ all_records (with_limit j low) p ++ later)
  raised_records =
      let s : State = p.state in
      let rest = records-more j s (made_under j high s) (made_under j low s) (made_more j s (left_under low s) (left_under high s) (omega arith)) in (
        rest.0,
        rw (all_alike j high p, all_alike j low p, rest.1) (sym (append_assoc p.records (records_after j s (made_under j low s)) rest.0)),
      )
