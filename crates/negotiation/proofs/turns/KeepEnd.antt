-- How a run ends: the log is full, nothing is over capacity, or the limit is reached; else the next iteration begins.
-- Assumes nothing.
use mathlib.Core.Bool.{true, false}
use mathlib.Core.List.{List, [], ◌∷◌, ◌++◌, append-nil, append_assoc}
use mathlib.Core.Logic.{⊎_elim}
use mathlib.Core.Path.{◌≡◌, sym, ◌∙◌, ap, subst}
use Prim.Native.Nat.{ℕ, suc, ◌+◌, ◌-◌, ◌*◌, ◌≤◌, ◌<◌}
use native.Mathlib.Nat.{eq-or-lt_of_le, le_antisymm}
use native.Mathlib.Numerals.{add-one}
use native.Mathlib.Omega.{arith}
use lib.ListN.{length, get_or, drop, replicate}
use borrow.Author.Tests.{eq-eqb, ne_eqb}
use Rattle.price.specs.Lists.{up_to}
use Rattle.price.specs.Prices.{next_factor}
use Rattle.search.specs.Turn.{joins}
use Rattle.job.specs.Job.{Job, nodes, nets}
use Rattle.negotiation.specs.Routable.{Routable}
use Rattle.negotiation.specs.Records.{Record, record_of, words, encode}
use Rattle.negotiation.specs.Order.{turn_sinks}
use Rattle.negotiation.specs.Machine.{State, Progress, congestion_for, turn_of, turns_of, net_records, tree_from, after_nets, over_count, state_after, iteration_after, records_after, settles_at, iterate, move_on}
use Rattle.negotiation.specs.Outcome.{continued, iterations_left, made_from, route_reply_of, ran_reply, route_refusal, end_numbers}
use Rattle.negotiation.specs.Steps.{SameFrom, Overflows, TurnDone}
use Rattle.negotiation.specs.declared.tariff.Tariff.{Tariff}
use Rattle.negotiation.specs.declared.turns.NoRoom.{NoRoom}
use Rattle.std.specs.Prelude.{Option, Result, Err}
use Rattle.negotiation.specs.declared.RouteAnswer.{RouteAnswer}
use Rattle.negotiation.specs.declared.Outcome.TheVariants.{Accepted, LogFull, Limit}
use Rattle.negotiation.proofs.StateLaws.{nets-iteration, nets-factor, state-iteration}
use Rattle.negotiation.proofs.RecordLaws.{words-length}
use Rattle.negotiation.proofs.TurnStepLaws.{log-length}
use Rattle.negotiation.proofs.EndLaws.{made-settled, unsettled-more, made_limit, all_split, full_reply, whole_reply, end-settled, end_limit, last_made, all_made, reply_same}
use Rattle.negotiation.proofs.KeepLaws.{start_of, reached, Under, AtIteration, AtNet, AtTurn, AtTurns}
use Rattle.negotiation.proofs.KeepProgress.{dues_long, over_used, over-is, grow, kept-moved}
use Rattle.negotiation.proofs.KeepTurn.{Lent, tried_by, turn_by, count_by, ready-state, same_twice, at_more, overflows}

-- the answer's numbers beside its outcome
pub record Answers (r : RouteAnswer) (t : Tariff) : Type 0 where
  pub iteration-is : r.iteration ≡ t.iteration
  pub turns-is : r.turns ≡ t.turns
  pub words-is : r.used ≡ t.words

-- ---- the log is full

-- the first turn whose record does not fit
module _ (j : Job) {p : Progress} {work₀ log₀ : List ℕ} {m i left : ℕ} {t : Tariff} {history users marks from to dues work log : List ℕ} {first : ℕ}
    (at : AtTurn j p work₀ log₀ m i (suc left) t history users marks from to dues work log first) where
  abbrev here : State
  here = (reached j p m i).state

  abbrev last : ℕ
  last = p.state.iteration + m

  -- the turn's record stands among the net's
  pub turn_first :
      (place cost : ℕ) (path : List ℕ) → turn_of j (congestion_for j here i) i (tree_from j i at.made) ≡ joins place cost path
      → net_records j here i
      ≡ at.made ++ (record_of last i (get_or (turn_sinks j i (tree_from j i at.made)) place 0) cost path
      ∷ turns_of j last (congestion_for j here i) i left (tree_from j i at.made ++ path))
  unfolding turns_of
  turn_first place cost path e = at.rest_is ∙ rw e

  pub keep_full :
      {log' work' : List ℕ} → Overflows (turn_of j (congestion_for j here i) i (tree_from j i at.made)) t log log'
      → SameFrom (8 * nodes j) work work' → (r : RouteAnswer) → r.outcome ≡ LogFull → Answers r t
      → route_reply_of r (replicate (8 * nodes j) 0 ++ drop (8 * nodes j) work') log' ≡ continued j p work₀ log₀
  keep_full {log'} {work'} o kept r is a =
      let rs : List Record = (reached j p m i).records ++ at.made in
      let next : Record = record_of last i (get_or (turn_sinks j i (tree_from j i at.made)) o.place 0) o.cost o.path in
      let split =
      all_split j p m i at.under.below at.under.unsettled at.net at.taken at.made next
      (turns_of j last (congestion_for j here i) i left (tree_from j i at.made ++ o.path))
      (turn_first o.place o.cost o.path o.is-turn) in
      let iteration-is : r.iteration ≡ last = a.iteration-is ∙ at.under.iteration-is in
      let turns-is : r.turns ≡ length rs = a.turns-is ∙ at.tallied.turns-is in
      let long : length log ≡ length log₀ = ap length at.tallied.log_is ∙ log-length rs log₀ at.tallied.fits in
      let over : length log₀ < length (encode rs) + length (words next) =
      omega (arith, o.no_room, words-length next, at.tallied.words-is) in
      reply_same j r last (8 ∷ last ∷ length rs ∷ []) rs work₀ work' log₀ log' (rw (is, iteration-is, turns-is)) iteration-is turns-is
      (a.words-is ∙ at.tallied.words-is) (same_twice at.work-same kept) (o.log-same ∙ at.tallied.log_is)
      ∙ sym (full_reply j p work₀ log₀ rs next split.0 split.1 at.tallied.fits over)

-- the same where the attempt at a turn found no room
pub after_full :
    (j : Job) (sound : Routable j) {p : Progress} {work₀ log₀ : List ℕ} (enough : 8 * nodes j ≤ length work₀) {m i left : ℕ} {t : Tariff}
    {history users marks from to dues work log : List ℕ} {first : ℕ} (head : AtTurns j p work₀ log₀ m i left t history users marks from to dues work log first)
    (some : 0 < left) {delays cs : List ℕ} (lent : Lent j delays cs) (work' log' marks' : List ℕ) (kept : SameFrom (8 * nodes j) work work') (made : Result (Option Tariff) NoRoom)
    (done : TurnDone made (turn_by j i marks cs delays t history users) (count_by j i marks cs delays t history users) t i (tried_by j i marks cs) log marks log' marks')
    → {full : NoRoom} → made ≡ Err full → (w : List ℕ) → w ≡ replicate (8 * nodes j) 0 ++ drop (8 * nodes j) work' → (r : RouteAnswer) → r.outcome ≡ LogFull → Answers r t
    → route_reply_of r w log' ≡ continued j p work₀ log₀
after_full j sound {p} {work₀} {log₀} enough head some lent work' log' marks' kept made done e w q r o a =
    subst (λ (x : List ℕ). route_reply_of r x log' ≡ continued j p work₀ log₀) (sym q)
    (keep_full j (at_more j sound enough head some lent) (overflows j sound enough head some lent work' log' marks' kept made done e) kept r o a)

-- ---- every net is routed

-- past the last net
pub all-routed :
    (j : Job) {p : Progress} {work₀ log₀ : List ℕ} {m i : ℕ} {t : Tariff} {history users marks from to dues work log : List ℕ}
    → AtNet j p work₀ log₀ m i t history users marks from to dues work log → nets j ≤ i
    → AtNet j p work₀ log₀ m (nets j) t history users marks from to dues work log
all-routed j {p} {work₀} {log₀} {m} {t = t} {history} {users} {marks} {from} {to} {dues} {work} {log} at l =
    subst (λ (k : ℕ). AtNet j p work₀ log₀ m k t history users marks from to dues work log) (le_antisymm at.upto l) at

module _ (j : Job) (sound : Routable j) {p : Progress} {work₀ log₀ : List ℕ} {m : ℕ} {t : Tariff} {history users marks from to dues work log : List ℕ}
    (at : AtNet j p work₀ log₀ m (nets j) t history users marks from to dues work log) where
  abbrev end : Progress
  end = reached j p m (nets j)

  -- are the machine's
  over-same : over_used j users ≡ over_count j (iteration_after j p.state m).state.trees
  unfolding iterate
  over-same = over-is j at.kept

  settled : over_used j users ≡ 0 → settles_at j p.state m ≡ true
  unfolding settles_at
  settled e = eq-eqb (over_count j (iteration_after j p.state m).state.trees) 0 (sym over-same ∙ e)

  unsettled : (over_used j users ≡ 0 → ⊥) → settles_at j p.state m ≡ false
  unfolding settles_at
  unsettled e = ne_eqb (over_count j (iteration_after j p.state m).state.trees) 0 (λ z. e (over-same ∙ z))

  -- the records up to here are those of one iteration more
  records-here : p.records ++ records_after j p.state (suc m) ≡ end.records
  unfolding records_after iterate
  records-here = sym (append_assoc p.records (records_after j p.state m) (iteration_after j p.state m).records)

  -- where this iteration is the last, its end is the run's
  module _ (made : made_from j p.state ≡ m + 1) (numbers : List ℕ) (ends : end_numbers j p.state ≡ numbers) where
    last_reply : continued j p work₀ log₀ ≡ ran_reply j numbers (p.state.iteration + m) end.records work₀ log₀
    last_reply =
        whole_reply j p work₀ log₀ end.records (all_made j p m made ∙ records-here) at.tallied.fits
        ∙ rw (ends, last_made j p.state m made)

    last-same :
        (r : RouteAnswer) → Answers r t → route_refusal r.outcome r.iteration r.turns ≡ numbers
        → route_reply_of r (replicate (8 * nodes j) 0 ++ drop (8 * nodes j) work) log ≡ continued j p work₀ log₀
    last-same r a is =
        reply_same j r (p.state.iteration + m) numbers end.records work₀ work log₀ log is (a.iteration-is ∙ at.under.iteration-is)
        (a.turns-is ∙ at.tallied.turns-is) (a.words-is ∙ at.tallied.words-is) at.work-same at.tallied.log_is
        ∙ sym last_reply

  pub keep_accepted :
      over_used j users ≡ 0 → (r : RouteAnswer) → r.outcome ≡ Accepted → Answers r t
      → route_reply_of r (replicate (8 * nodes j) 0 ++ drop (8 * nodes j) work) log ≡ continued j p work₀ log₀
  keep_accepted none r is a =
      let made = made-settled j p.state (iterations_left j p.state) m at.under.below at.under.unsettled (settled none) in
      last-same made [] (end-settled j p.state m made (settled none)) r a (rw is)

  -- the limit leaves no iteration more
  none_left : t.iteration ≡ j.terms.limit → m + 1 ≡ iterations_left j p.state
  unfolding iterations_left
  none_left l = let n = at.under.iteration-is in omega arith

  pub keep_limit :
      (over : ℕ) → over ≡ over_used j users → (over ≡ 0 → ⊥) → t.iteration ≡ j.terms.limit
      → (r : RouteAnswer) → r.outcome ≡ Limit over → Answers r t
      → route_reply_of r (replicate (8 * nodes j) 0 ++ drop (8 * nodes j) work) log ≡ continued j p work₀ log₀
  keep_limit over e some l r is a =
      let open-still = unsettled (λ z. some (e ∙ z)) in
      let made = made_limit j p.state (iterations_left j p.state) m at.under.below at.under.unsettled open-still (none_left l) in
      last-same made (9 ∷ j.terms.limit ∷ over ∷ []) (end_limit j p.state m made open-still ∙ rw (← over-same, ← e)) r a (rw (is, a.iteration-is, l))

  -- ---- the next iteration

  pub history_long : length history ≡ nodes j
  history_long = ap length at.kept.history_is ∙ (ready-state j sound (nets j) at.under).long

  -- histories can grow
  pub keep_growable : (v : ℕ) → v < nodes j → get_or history v 0 < 2147483648
  keep_growable v h =
      let most = (ready-state j sound (nets j) at.under).history_most_lem v h in
      let is : get_or history v 0 ≡ get_or end.state.histories v 0 = ap (λ (l : List ℕ). get_or l v 0) at.kept.history_is in
      omega arith

  -- there is an iteration left
  pub keep_below : (t.iteration ≡ j.terms.limit → ⊥) → t.iteration < j.terms.limit
  unfolding iterations_left
  keep_below go =
      let below : m < j.terms.limit + 1 - p.state.iteration = at.under.below in
      ⊎_elim (λ (e : t.iteration ≡ j.terms.limit). absurd (go e)) (λ l. l)
      (eq-or-lt_of_le (omega (arith, at.under.iteration-is)))

  -- it begins with the records up to here, and with the state that moved on
  next-is : reached j p (m + 1) 0 ≡ record { records = end.records; state = move_on j end.state }
  unfolding records_after state_after iterate after_nets
  next-is =
      rw (
        add-one,
        append-nil (p.records ++ (records_after j p.state m ++ (after_nets j (start_of j p m) (nets j)).records)),
        append_assoc p.records (records_after j p.state m) (after_nets j (start_of j p m) (nets j)).records,
      )

  next_factor_lem : (start_of j p (m + 1)).factor ≡ next_factor j.terms.tuning (p.state.iteration + m) (start_of j p m).factor
  unfolding state_after iterate move_on
  next_factor_lem = rw (add-one, nets-iteration j (start_of j p m) (nets j), nets-factor j (start_of j p m) (nets j), state-iteration j p.state m)

  next_under :
      settles_at j p.state m ≡ false → t.iteration < j.terms.limit
      → {t' : Tariff} → t'.iteration ≡ t.iteration + 1 → t'.factor ≡ next_factor j.terms.tuning t.iteration t.factor → Under j p (m + 1) t'
  unfolding iterations_left
  next_under open-still l a b =
      let n = at.under.iteration-is in
      record {
        can = at.under.can;
        below = omega arith;
        unsettled = λ k h. unsettled-more j p.state (iterations_left j p.state) m at.under.below at.under.unsettled open-still k h;
        iteration-is = omega arith;
        factor-is = b ∙ rw (n, at.under.factor-is) (sym next_factor_lem);
      }

  -- else histories and factor move on
  pub keep_next :
      (over_used j users ≡ 0 → ⊥) → (t.iteration ≡ j.terms.limit → ⊥)
      → {t' : Tariff} → t'.iteration ≡ t.iteration + 1 → t'.factor ≡ next_factor j.terms.tuning t.iteration t.factor → t'.turns ≡ t.turns → t'.words ≡ t.words
      → {history' : List ℕ} → history' ≡ up_to (grow j at.kept) (length history)
      → AtIteration j p work₀ log₀ (m + 1) t' history' users marks from to dues work log
  keep_next some go a b c d e =
      record {
        under = next_under (unsettled some) (keep_below go) a b;
        kept = rw next-is (kept-moved j at.kept history_long e);
        due-long = dues_long j (start_of j p m) at.due-is;
        tallied =
            rw (ap (λ (q : Progress). q.records) next-is)
            (record {
              turns-is = c ∙ at.tallied.turns-is;
              words-is = d ∙ at.tallied.words-is;
              log_is = at.tallied.log_is;
              fits = at.tallied.fits;
            });
        work-same = at.work-same;
      }
