-- A log that is a beginning of a run whose turns follow, at no more than the least cost, is sound, wherever it is cut behind a record.
-- Assumes nothing.
use mathlib.Core.Bool.{Bool, true, false}
use mathlib.Core.List.{List, [], ◌∷◌, ◌++◌, append-nil, append_assoc, append_cancel_left}
use mathlib.Core.Logic.{◌⊎◌, ⊎_elim, inl, inr}
use mathlib.Core.Path.{◌≡◌, refl, sym, ◌∙◌, ap, subst}
use Prim.Native.Nat.{ℕ, zero, suc, ◌+◌, ◌≤◌, ◌<◌}
use native.Mathlib.Nat.{not-suc-le-zero, le_of_suc-le-suc, eq-or-lt_of_le, le_refl}
use native.Mathlib.Omega.{arith}
use lib.Dec.{eqb, leb}
use lib.ListN.{length, length-append}
use borrow.Author.Tests.{le-leb, lt-leb}
use Rattle.price.specs.Test.{either}
use Rattle.price.proofs.TestLaws.{by_test}
use Rattle.job.specs.Job.{Job, nets, net_sinks}
use Rattle.negotiation.specs.Records.{Record, encode}
use Rattle.negotiation.specs.Machine.{State, Progress, net_records, due, route_if, after_nets, iterate, over_count, state_after, iteration_after, records_after, settles_at}
use Rattle.negotiation.specs.Resume.{Replay, ends, at_end, gone_to, moved_on, replay_turns, replay_nets, replay_next, replay_from, on}
use Rattle.negotiation.proofs.NetLaws.{no_split}
use Rattle.negotiation.proofs.RecordLaws.{encode-append}
use Rattle.negotiation.proofs.EndLaws.{records-more}
use Rattle.negotiation.proofs.DemandLaws.{split-append}
use Rattle.negotiation.proofs.OwnReplayLaws.{Follow, done, more, words_left, own_turn, one_more, net-few, after_these_lem, NetsFollow, own-nets, iteration-on}

-- ---- beginnings

-- of two beginnings of one list one is a beginning of the other
begins_or :
    (xs ys us vs : List Record) → xs ++ ys ≡ us ++ vs
    → ((rest : List Record) × (xs ≡ us ++ rest)) ⊎ ((r : Record) × (rest : List Record) × (us ≡ xs ++ (r ∷ rest)))
begins_or xs ys [] vs e = inl (xs, refl)
begins_or [] ys (u ∷ us) vs e = inr (u, us, refl)
begins_or (x ∷ xs) ys (u ∷ us) vs e =
    ⊎_elim
    (λ q. inl (q.0, let f = q.1 in cc))
    (λ q. inr (q.0, q.1, let f = q.2 in cc))
    (begins_or xs ys us vs (cc))

-- the words end behind the records that they are
words-end : (rs : List Record) (ws : List ℕ) → ws ≡ encode rs → at_end ws rs ≡ true
words-end rs ws e = le-leb (length ws) (length (encode rs)) (rw e (le_refl (length (encode rs))))

-- an audit ends
abbrev pub Ends : Replay → Type 0
Ends a = (q : Progress) × (a ≡ ends q)

ends_as : {a b : Replay} → a ≡ b → Ends b → Ends a
ends_as e end = (end.0, e ∙ end.1)

-- ---- the turns of one net

module _ (j : Job) (ws : List ℕ) (i : ℕ) (p : Progress) where
  -- the words end before one of its turns
  cut_turns :
      {made rest : List Record} → Follow j p.state i made rest → (k : ℕ) → length rest ≤ k → (front back : List Record) (r : Record)
      → rest ≡ front ++ (r ∷ back) → ws ≡ encode ((p.records ++ made) ++ front) → Ends (replay_turns true j ws i p k made)
  unfolding replay_turns
  cut_turns (done t) k h front back r is e = absurd (no_split front back r is)
  cut_turns (more t c f l g) zero h front back r is e = absurd (not-suc-le-zero h)
  cut_turns (more {made} {rest} {r = first} t c f l g) (suc k) h [] back r is e =
      (gone_to p made, rw (t, words-end (p.records ++ made) ws (e ∙ ap encode (append-nil (p.records ++ made)))))
  cut_turns (more {made} {rest} {r = first} t c f l g) (suc k) h (x ∷ front) back r is e =
      let same : x ≡ first = cc in
      let on-rest : rest ≡ front ++ (r ∷ back) = cc in
      let words_are : ws ≡ encode ((p.records ++ made) ++ (first ∷ front)) ++ [] =
      e ∙ ap (λ (y : Record). encode ((p.records ++ made) ++ (y ∷ front))) same ∙ sym (append-nil (encode ((p.records ++ made) ++ (first ∷ front)))) in
      let left : ws ≡ encode ((p.records ++ (made ++ (first ∷ []))) ++ front) =
      one_more true j ws [] i p made front first words_are ∙ append-nil (encode ((p.records ++ (made ++ (first ∷ []))) ++ front)) in
      ends_as (own_turn true j ws [] i p made front first t c f l k words_are) (cut_turns g k (le_of_suc-le-suc h) front back r on-rest left)

-- ---- the nets of an iteration

module _ (j : Job) (ws : List ℕ) (s : State) (rs : List Record) (follow : NetsFollow j s) where
  cut_nets :
      (i : ℕ) → i ≤ nets j → (front back : List Record) (r : Record) → (after_nets j s i).records ≡ front ++ (r ∷ back) → ws ≡ encode (rs ++ front)
      → Ends (replay_nets true j ws s rs i)
  unfolding replay_nets after_nets
  cut_nets zero h front back r is e = absurd (no_split front back r is)
  cut_nets (suc i) h front back r is e =
      let p : Progress = after_nets j s i in
      let own : List Record = net_records j p.state i in
      by_test (due j s i)
      (λ d.
      let both : p.records ++ own ≡ front ++ (r ∷ back) = subst (λ (b : Bool). (route_if b j i p).records ≡ front ++ (r ∷ back)) d is in
      ⊎_elim
      (λ c. let cut = cut_nets i (omega arith) front c.0 r c.1 e in (cut.0, rw cut.1))
      (λ c.
      let words_are : ws ≡ encode ((rs ++ p.records) ++ c.0) = e ∙ ap encode (ap (λ (l : List Record). rs ++ l) c.2 ∙ sym (append_assoc rs p.records c.0)) in
      let before : replay_nets true j ws s rs i ≡ on (after_these_lem rs p) =
      own-nets true j ws s rs follow i (omega arith) (encode c.0) (words_are ∙ encode-append (rs ++ p.records) c.0) in
      let turns : Ends (replay_turns true j ws i (after_these_lem rs p) (length (net_sinks j i)) []) =
      cut_turns j ws i (after_these_lem rs p) (follow i h d) (length (net_sinks j i)) (net-few j p.state i) c.0 back r c.1
      (words_are ∙ ap (λ (l : List Record). encode (l ++ c.0)) (sym (append-nil (rs ++ p.records)))) in
      (turns.0, rw (before, d) turns.1))
      (split-append p.records own front back r both))
      (λ d.
      let kept : p.records ≡ front ++ (r ∷ back) = subst (λ (b : Bool). (route_if b j i p).records ≡ front ++ (r ∷ back)) d is in
      let cut = cut_nets i (omega arith) front back r kept e in
      (cut.0, rw cut.1))

-- ---- iterations

-- the turns of n iterations from s follow, and each but the last leaves a node overfull below the limit
pub record OwnTurns (j : Job) (s : State) (n : ℕ) : Type 0 where
  pub follow : (k : ℕ) → k < n → NetsFollow j (state_after j s k)
  pub unsettled : (k : ℕ) → suc k < n → settles_at j s k ≡ false
  pub below : (k : ℕ) → suc k < n → (iteration_after j s k).state.iteration < j.terms.limit

-- the words are a beginning of their records
module _ (j : Job) (ws : List ℕ) (s : State) (n : ℕ) (own : OwnTurns j s n) (logged later : List Record) (begins : records_after j s n ≡ logged ++ later)
    (words_are : ws ≡ encode logged) where
  goes_on :
      (k : ℕ) → suc k < n
      → either (eqb (over_count j (iteration_after j s k).state.trees) 0) (leb j.terms.limit (iteration_after j s k).state.iteration) ≡ false
  unfolding settles_at
  goes_on k h = rw (own.unsettled k h) (lt-leb j.terms.limit (iteration_after j s k).state.iteration (own.below k h))

  -- where there is a turn more, so is an iteration
  one_left : (k : ℕ) → k < n → (x : Record) (left : List Record) → logged ≡ records_after j s (suc k) ++ (x ∷ left) → suc k < n
  one_left k h x left is =
      ⊎_elim
      (λ (e : suc k ≡ n).
      let long : length (records_after j s n) ≡ length logged + length later = ap length begins ∙ length-append logged later in
      let some : length logged ≡ length (records_after j s n) + length (x ∷ left) =
      ap length is ∙ length-append (records_after j s (suc k)) (x ∷ left) ∙ ap (λ (m : ℕ). length (records_after j s m) + length (x ∷ left)) e in
      absurd (omega arith))
      (λ l. l)
      (eq-or-lt_of_le h)

  -- after an iteration that is whole in the words
  whole_on :
      (k a : ℕ) → k < n → (left : List Record) → logged ≡ records_after j s (suc k) ++ left
      → (suc k < n → Ends (replay_from true j ws a (state_after j s (suc k)) (records_after j s (suc k))))
      → Ends (replay_next true j ws (after_these_lem (records_after j s k) (iteration_after j s k)) (replay_from true j ws a))
  unfolding records_after state_after
  whole_on k a h [] is again =
      let end : at_end ws (records_after j s (suc k)) ≡ true = words-end (records_after j s (suc k)) ws (words_are ∙ ap encode (is ∙ append-nil (records_after j s (suc k)))) in
      (moved_on j (after_these_lem (records_after j s k) (iteration_after j s k)), rw end)
  whole_on k a h (x ∷ left) is again =
      let below : suc k < n = one_left k h x left is in
      let more : at_end ws (records_after j s (suc k)) ≡ false =
      words_left (records_after j s (suc k)) left x ws [] (words_are ∙ ap encode is ∙ sym (append-nil (encode (records_after j s (suc k) ++ (x ∷ left))))) in
      let next = again below in
      (next.0, rw (more, goes_on k below) next.1)

  audit_from : (a k : ℕ) → k < n → n ≤ a + k → (front : List Record) → logged ≡ records_after j s k ++ front → Ends (replay_from true j ws a (state_after j s k) (records_after j s k))
  unfolding replay_from records_after iterate
  audit_from zero k h few front is = absurd (omega arith)
  audit_from (suc a) k h few front is =
      let all = records-more j s n (suc k) h in
      ⊎_elim
      (λ c.
      let read = iteration-on true j ws s k (own.follow k h) (encode c.0) (words_are ∙ ap encode c.1 ∙ encode-append (records_after j s (suc k)) c.0) in
      let next = whole_on k a h c.0 c.1 (λ below. audit_from a (suc k) below (omega arith) c.0 c.1) in
      (next.0, rw read next.1))
      (λ c.
      let here : (iteration_after j s k).records ≡ front ++ (c.0 ∷ c.1) =
      append_cancel_left (records_after j s k) (iteration_after j s k).records (front ++ (c.0 ∷ c.1))
      (c.2 ∙ ap (λ (l : List Record). l ++ (c.0 ∷ c.1)) is ∙ append_assoc (records_after j s k) front (c.0 ∷ c.1)) in
      let cut = cut_nets j ws (state_after j s k) (records_after j s k) (own.follow k h) (nets j) (le_refl (nets j)) front c.1 c.0 here (words_are ∙ ap encode is) in
      (record { records = cut.0.records; state = state_after j s k }, rw cut.1))
      (begins_or logged later (records_after j s (suc k)) all.0 (sym begins ∙ all.1))

  -- it is sound
  pub own-ends : (most : ℕ) → 1 ≤ n → n ≤ most → Ends (replay_from true j ws most s [])
  unfolding records_after state_after
  own-ends most some few = audit_from most 0 some (omega arith) logged refl
