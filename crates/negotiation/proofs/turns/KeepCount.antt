-- How many nodes the turns of a run have expanded, as the tariff counts them: at the head of each loop those of the turns logged past the lent ones.
-- Assumes nothing.
use mathlib.Core.Bool.{Bool}
use mathlib.Core.List.{List, [], ◌∷◌, ◌++◌}
use mathlib.Core.Path.{◌≡◌, refl, sym, ◌∙◌, ap, subst}
use Prim.Native.Nat.{ℕ, suc, ◌+◌, ◌-◌, ◌*◌, ◌^◌, ◌≤◌, ◌<◌}
use native.Mathlib.Omega.{arith}
use lib.ListN.{length, get_or, take, drop}
use lib.Seq.{take-append_seam}
use Rattle.price.specs.Bounds.{limit_most}
use Rattle.search.specs.Turn.{joins}
use Rattle.job.specs.Job.{Job, nodes}
use Rattle.negotiation.specs.Routable.{Routable}
use Rattle.negotiation.specs.Records.{Record, record_of, encode, decode}
use Rattle.negotiation.specs.Order.{turn_sinks, turn_congestion}
use Rattle.negotiation.specs.Machine.{Progress, marks_of, congestion_for, turn_of, tree_from}
use Rattle.negotiation.specs.Outcome.{iterations_left, log_with}
use Rattle.negotiation.specs.Aimed.{expanded_after}
use Rattle.negotiation.specs.Runs.{Ran}
use Rattle.negotiation.specs.Steps.{SameFrom, turn_count, Skipped, Overflows, TurnLogged, TurnDone}
use Rattle.negotiation.specs.Kept.{Tallied, Ready}
use Rattle.negotiation.specs.declared.tariff.Tariff.{Tariff}
use Rattle.negotiation.specs.declared.turns.NoRoom.{NoRoom}
use Rattle.std.specs.Prelude.{Option, Some, None, Result, Ok, Err}
use Rattle.std.specs.Option.{unwrap_or}
use Rattle.negotiation.specs.declared.RouteAnswer.{RouteAnswer}
use Rattle.negotiation.proofs.RecordLaws.{decode-encode}
use Rattle.negotiation.proofs.RanLaws.{ran-iteration}
use Rattle.negotiation.proofs.MachineRan.{Reached}
use Rattle.negotiation.proofs.AimedCountLaws.{after_none, run_more, run_fits}
use Rattle.negotiation.proofs.KeepLaws.{reached, Under, AtTurn, AtTurns}
use Rattle.negotiation.proofs.KeepTurn.{Lent, tried_by, turn_by, count_by, keep_turn, keep_count, logged-tallied, at_more}
use Rattle.negotiation.proofs.turns.KeepEnd.{turn_first}

-- the tariff counts the nodes expanded by the search that is chosen, over the turns in its words past the lent ones
pub record Counts (aimed : Bool) (j : Job) (lent : List Record) (t : Tariff) (log : List ℕ) : Type 0 where
  pub aimed_is : t.aimed ≡ aimed
  pub count-is : t.expanded ≡ expanded_after aimed j lent (decode (take t.words log))

-- from one place of a run that goes on from p to another it does so still
abbrev pub CountsOn : (j : Job) (p : Progress) (t : Tariff) (log : List ℕ) (t' : Tariff) (log' : List ℕ) → Type 0
CountsOn j p t log t' log' =
    (k : ℕ) (aimed : Bool) → Ran j k p.records p.state → Counts aimed j p.records t log → Counts aimed j p.records t' log'

-- ---- where the turns are made

-- the words written are the records so far
tallied-turns : {rs : List Record} {log₀ log : List ℕ} {t : Tariff} → Tallied rs log₀ t log → decode (take t.words log) ≡ rs
unfolding log_with
tallied-turns {rs} {log₀} a =
    rw (a.words-is, a.log_is) (ap decode (take-append_seam (encode rs) (drop (length (encode rs)) log₀)) ∙ decode-encode rs)

-- a run that goes on has counted none
pub counts_start :
    (j : Job) {p : Progress} {t : Tariff} {history users marks from to dues log : List ℕ} → Ready j p t history users marks from to dues log → t.expanded ≡ 0
    → Counts t.aimed j p.records t log
counts_start j {p} {t} r none =
    record { aimed_is = refl; count-is = none ∙ sym (ap (expanded_after t.aimed j p.records) (tallied-turns r.tallied) ∙ after_none t.aimed j p.records) }

-- nothing is counted where no turn is logged
pub counts_same :
    (aimed : Bool) (j : Job) (lent : List Record) (t : Tariff) (log : List ℕ) (t' : Tariff) (log' : List ℕ) → t'.aimed ≡ t.aimed → t'.expanded ≡ t.expanded
    → t'.words ≡ t.words → log' ≡ log → Counts aimed j lent t log → Counts aimed j lent t' log'
counts_same aimed j lent t log t' log' Aimed-same expanded-same words_same log-same c =
    record { aimed_is = Aimed-same ∙ c.aimed_is; count-is = rw (words_same, log-same) (expanded-same ∙ c.count-is) }

-- the answer's count
pub counts-answer :
    {aimed : Bool} {j : Job} {lent : List Record} {t : Tariff} {log : List ℕ} → Counts aimed j lent t log
    → (r : RouteAnswer) → r.expanded ≡ t.expanded → r.used ≡ t.words → r.expanded ≡ expanded_after aimed j lent (decode (take r.used log))
counts-answer c r expanded-is words-is = rw words-is (expanded-is ∙ c.count-is)

-- fewer iterations than the limit are made
run_below : (j : Job) {p : Progress} {m k : ℕ} {t : Tariff} → Under j p m t → Ran j k p.records p.state → k + m < j.terms.limit
unfolding iterations_left
run_below j {p} {m} {k} under ran =
    let below : m < j.terms.limit + 1 - p.state.iteration = under.below in
    let is : p.state.iteration ≡ k + 1 = ran-iteration j ran in
    omega arith

-- ---- a turn of a net that is due

module _ (j : Job) (sound : Routable j) (all : Reached j) {p : Progress} {work₀ log₀ : List ℕ} (enough : 8 * nodes j ≤ length work₀) {m i left : ℕ} {t : Tariff}
    {history users marks from to dues work log : List ℕ} {first : ℕ} (at : AtTurn j p work₀ log₀ m i (suc left) t history users marks from to dues work log first)
    {delays cs : List ℕ} (lent : Lent j delays cs) {k : ℕ} (ran : Ran j k p.records p.state) {aimed : Bool} (c : Counts aimed j p.records t log) where
  -- what is counted so far
  so_far : t.expanded ≡ expanded_after aimed j p.records ((reached j p m i).records ++ at.made)
  so_far = c.count-is ∙ ap (expanded_after aimed j p.records) (tallied-turns at.tallied)

  -- fits, with a turn more
  turn-fits : t.expanded + nodes j < 2 ^ 64
  turn-fits =
      let few : j.terms.limit ≤ limit_most = sound.limit_few in
      let below = run_below j at.under ran in
      rw so_far (run_fits aimed j sound p m (omega arith) i at.net at.made _ at.rest_is)

  -- a turn that is logged is counted
  turn-counted :
      (work' log' marks' : List ℕ) → SameFrom (8 * nodes j) work work' → (t' : Tariff)
      → TurnLogged (turn_by j i marks cs delays t history users) (count_by j i marks cs delays t history users) t i (tried_by j i marks cs) log marks t' log' marks'
      → Counts aimed j p.records t' log'
  turn-counted work' log' marks' kept t' l =
      let made : List Record = at.made in
      let tree : List ℕ = tree_from j i made in
      let r : Record = record_of (p.state.iteration + m) i (get_or (turn_sinks j i tree) l.place 0) l.cost l.path in
      let is : turn_of j (congestion_for j (reached j p m i).state i) i tree ≡ joins l.place l.cost l.path = sym (keep_turn j sound enough at lent) ∙ l.is-turn in
      let turns : decode (take t'.words log') ≡ ((reached j p m i).records ++ made) ++ (r ∷ []) =
      tallied-turns (logged-tallied j sound enough at lent work' log' marks' kept t' l) in
      let count : count_by j i marks cs delays t history users
      ≡ turn_count aimed j.block (turn_congestion j (congestion_for j (reached j p m i).state i) i tree) (marks_of j tree) (turn_sinks j i tree) =
      rw (← c.aimed_is) (keep_count j sound enough at lent) in
      let more : t'.expanded ≡ t.expanded + count_by j i marks cs delays t history users = ap (λ (x : Tariff). x.expanded) l.tariff_is in
      record {
        aimed_is = ap (λ (x : Tariff). x.aimed) l.tariff_is ∙ c.aimed_is;
        count-is =
            rw turns
            (rw (run_more aimed j sound all p ran m (run_below j at.under ran) i at.net made _ r (turn_first j at l.place l.cost l.path is), ← so_far, ← count) more);
      }

-- ---- the turn as the call gives it

module _ (j : Job) (sound : Routable j) (all : Reached j) {p : Progress} {work₀ log₀ : List ℕ} (enough : 8 * nodes j ≤ length work₀) {m i left : ℕ} {t : Tariff}
    {history users marks from to dues work log : List ℕ} {first : ℕ} (head : AtTurns j p work₀ log₀ m i left t history users marks from to dues work log first)
    (some : 0 < left) {delays cs : List ℕ} (lent : Lent j delays cs) where
  -- no count overflows
  pub counts_fit : {k : ℕ} {aimed : Bool} → Ran j k p.records p.state → Counts aimed j p.records t log → t.expanded + nodes j < 2 ^ 64
  counts_fit ran c = turn-fits j sound all enough (at_more j sound enough head some lent) lent ran c

  module _ (work' log' marks' : List ℕ) (kept : SameFrom (8 * nodes j) work work') (made : Result (Option Tariff) NoRoom)
      (done : TurnDone made (turn_by j i marks cs delays t history users) (count_by j i marks cs delays t history users) t i (tried_by j i marks cs) log marks log' marks') where
    case : (r : Result (Option Tariff) NoRoom) → made ≡ r → TurnDone r (turn_by j i marks cs delays t history users) (count_by j i marks cs delays t history users) t i (tried_by j i marks cs) log marks log' marks'
    case r e =
        subst
        (λ (x : Result (Option Tariff) NoRoom). TurnDone x (turn_by j i marks cs delays t history users) (count_by j i marks cs delays t history users) t i (tried_by j i marks cs) log marks log' marks')
        e done

    pub counts_nothing : made ≡ Ok None → (t'' : Tariff) → t'' ≡ t → CountsOn j p t log t'' log'
    counts_nothing e t'' q k aimed ran c =
        let s : Skipped (turn_by j i marks cs delays t history users) log marks log' marks' = case (Ok None) e in
        subst (λ (x : Tariff). Counts aimed j p.records x log') (sym q) (counts_same aimed j p.records t log t log' refl refl refl s.log-same c)

    pub counts_full : {full : NoRoom} → made ≡ Err full → CountsOn j p t log t log'
    counts_full {full} e k aimed ran c =
        let o : Overflows (turn_by j i marks cs delays t history users) t log log' = case (Err full) e in
        counts_same aimed j p.records t log t log' refl refl refl o.log-same c

    pub counts-logged : (t' : Tariff) → made ≡ Ok (Some t') → (t'' : Tariff) → t'' ≡ t' → CountsOn j p t log t'' log'
    counts-logged t' e t'' q k aimed ran c =
        subst (λ (x : Tariff). Counts aimed j p.records x log') (sym q)
        (turn-counted j sound all enough (at_more j sound enough head some lent) lent ran c work' log' marks' kept t' (case (Ok (Some t')) e))

    pub counts_turn : (o : Option Tariff) → made ≡ Ok o → (t'' : Tariff) → t'' ≡ unwrap_or o t → CountsOn j p t log t'' log'
    counts_turn None e t'' q = counts_nothing e t'' q
    counts_turn (Some t') e t'' q = counts-logged t' e t'' q
