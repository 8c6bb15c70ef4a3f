-- What a turn tries, as the code finds it: the place that is due, in one pass over a net's sinks, and the part of table 7 that it leaves.
-- Assumes nothing.
use mathlib.Core.Bool.{Bool, true, false}
use mathlib.Core.List.{List, [], ◌∷◌}
use mathlib.Core.Logic.{◌⊎◌, inl, inr, ⊎_elim}
use mathlib.Core.Path.{◌≡◌, refl, sym, ◌∙◌, subst}
use Prim.Native.Nat.{ℕ, suc, ◌+◌, ◌-◌, ◌≤◌, ◌<◌}
use native.Mathlib.Nat.{eq-or-lt_of_le}
use native.Mathlib.Omega.{arith}
use lib.Dec.{ltb}
use lib.ListN.{length, get_or, take, drop, get_or-eq_default}
use lib.Seq.{slice, slice_empty, slice-cons, length-slice, get_or-drop, get_or-take}
use borrow.Author.Tests.{lt-ltb, le-ltb, eq-eqb, ne_eqb}
use Rattle.price.specs.Bounds.{criticality_most}
use Rattle.price.specs.declared.Weighting.{Weighting}
use Rattle.price.proofs.ListLaws.{part_slice}
use Rattle.price.proofs.TestLaws.{true≢false}
use Rattle.search.specs.Block.{Block}
use Rattle.search.specs.Distance.{tree_has}
use Rattle.search.specs.Turn.{Congestion, weighed_congestion, price_at, turn}
use Rattle.job.specs.Steps.{AllBelow}
use Rattle.negotiation.specs.Order.{falling_from, first_open, place_due, sink_due, sinks_tried, weighting_due}
use Rattle.negotiation.specs.OrderSteps.{SinksReady, TriedSinks}
use Rattle.negotiation.specs.Steps.{CanTurn, turn_count, TurnDone}
use Rattle.negotiation.specs.declared.order.Tried.{Tried}
use Rattle.negotiation.specs.declared.tariff.Tariff.{Tariff}
use Rattle.negotiation.specs.declared.turns.NoRoom.{NoRoom}
use Rattle.std.specs.Prelude.{Option, Result}
use Rattle.negotiation.proofs.OrderLaws.{opened, falling_within, due-is}

-- ---- the pass over the sinks

pub marked : (marks : List ℕ) (v : ℕ) → get_or marks v 0 ≡ 1 → tree_has marks v ≡ true
unfolding tree_has
marked marks v e = eq-eqb (get_or marks v 0) 1 e

pub unmarked : (marks : List ℕ) (v : ℕ) → (get_or marks v 0 ≡ 1 → ⊥) → tree_has marks v ≡ false
unfolding tree_has
unmarked marks v e = ne_eqb (get_or marks v 0) 1 e

module _ (joined : ℕ → Bool) (sinks cs : List ℕ) where
  -- of the first places none is open
  pub record NoneOpen (place due least : ℕ) : Type 0 where
    pub due-is : due ≡ length sinks
    pub least-is : least ≡ 0
    pub all : (q : ℕ) → q < place → joined (get_or sinks q 0) ≡ true

  -- of the first places this one is open, none open is more critical, none earlier as critical
  pub record Leads (place due least : ℕ) : Type 0 where
    pub before : due < place
    pub lacks : joined (get_or sinks due 0) ≡ false
    pub least-is : least ≡ get_or cs due 0 + 1
    pub most : (q : ℕ) → q < place → joined (get_or sinks q 0) ≡ false → get_or cs q 0 ≤ get_or cs due 0
    pub first : (q : ℕ) → q < due → joined (get_or sinks q 0) ≡ false → get_or cs q 0 < get_or cs due 0

  abbrev pub Leading : (place due least : ℕ) → Type 0
  Leading place due least = NoneOpen place due least ⊎ Leads place due least

  pub leading_start : Leading 0 (length sinks) 0
  leading_start = inl (record { due-is = refl; least-is = refl; all = λ q l. absurd (omega arith) })

  -- a place that is joined, or less critical
  pub leading_joined : {place due least : ℕ} → Leading place due least → joined (get_or sinks place 0) ≡ true → Leading (place + 1) due least
  leading_joined {place} {due} {least} l e =
      ⊎_elim
      (λ (n : NoneOpen place due least).
      inl (record {
        due-is = n.due-is;
        least-is = n.least-is;
        all = λ q b. ⊎_elim (λ (s : q ≡ place). rw s e) (λ (s : q < place). n.all q s) (eq-or-lt_of_le (omega arith));
      }))
      (λ (n : Leads place due least).
      inr (record {
        before = let b = n.before in omega arith;
        lacks = n.lacks;
        least-is = n.least-is;
        most =
            λ q b o.
            ⊎_elim
            (λ (s : q ≡ place). absurd (true≢false (sym e ∙ (rw s at o))))
            (λ (s : q < place). n.most q s o)
            (eq-or-lt_of_le (omega arith));
        first = n.first;
      }))
      l

  pub leading_lower : {place due least : ℕ} → Leading place due least → get_or cs place 0 < least → Leading (place + 1) due least
  leading_lower {place} {due} {least} l low =
      ⊎_elim
      (λ (n : NoneOpen place due least). absurd (let z = n.least-is in omega arith))
      (λ (n : Leads place due least).
      let is = n.least-is in
      inr (record {
        before = let b = n.before in omega arith;
        lacks = n.lacks;
        least-is = n.least-is;
        most =
            λ q b o.
            ⊎_elim
            (λ (s : q ≡ place). rw s (omega arith))
            (λ (s : q < place). n.most q s o)
            (eq-or-lt_of_le (omega arith));
        first = n.first;
      }))
      l

  -- one that is open and more critical
  pub leading_new : {place due least : ℕ} → Leading place due least → joined (get_or sinks place 0) ≡ false → least ≤ get_or cs place 0 → Leading (place + 1) place (get_or cs place 0 + 1)
  leading_new {place} {due} {least} l e high =
      let below : (q : ℕ) → q < place → joined (get_or sinks q 0) ≡ false → get_or cs q 0 < get_or cs place 0 =
      λ q b o.
      ⊎_elim
      (λ (n : NoneOpen place due least). absurd (true≢false (sym (n.all q b) ∙ o)))
      (λ (n : Leads place due least). let is = n.least-is in let m = n.most q b o in omega arith)
      l in
      inr (record {
        before = omega arith;
        lacks = e;
        least-is = refl;
        most =
            λ q b o.
            ⊎_elim
            (λ (s : q ≡ place). rw s (omega arith))
            (λ (s : q < place). let m = below q s o in omega arith)
            (eq-or-lt_of_le (omega arith));
        first = below;
      })

  -- the place that is due is a place of the list, or their count
  pub place_most : length cs ≡ length sinks → place_due joined sinks cs ≤ length sinks
  unfolding place_due
  place_most long =
      ⊎_elim
      (λ o. let w = falling_within criticality_most cs _ o.0 in omega arith)
      (λ a. let z = a.0 in omega arith)
      (opened joined sinks (falling_from criticality_most cs))

  place_none : ((q : ℕ) → q < length cs → joined (get_or sinks q 0) ≡ true) → place_due joined sinks cs ≡ length sinks
  unfolding place_due
  place_none all =
      ⊎_elim
      (λ o. absurd (true≢false (sym (all _ (falling_within criticality_most cs _ o.0)) ∙ o.1)))
      (λ a. a.0)
      (opened joined sinks (falling_from criticality_most cs))

  -- past the last it is found
  pub leading_all :
      {place due least : ℕ} → Leading place due least → length cs ≡ length sinks → AllBelow (criticality_most + 1) cs → length sinks ≤ place → place ≤ length sinks
      → due ≡ place_due joined sinks cs
  unfolding place_due
  leading_all {place} {due} {least} l long few end within =
      ⊎_elim
      (λ (n : NoneOpen place due least). n.due-is ∙ sym (place_none (λ q b. n.all q (omega arith))))
      (λ (n : Leads place due least).
      let b = n.before in
      let f : get_or cs due 0 < criticality_most + 1 = few due (omega arith) in
      sym
      (due-is joined sinks cs due
      (record { within = omega arith; lacks = n.lacks; most = λ q s o. n.most q (omega arith) o; first = n.first }) criticality_most (omega arith)))
      l

-- ---- tests that agree on the sinks

module _ (f g : ℕ → Bool) (sinks : List ℕ) (same : (p : ℕ) → f (get_or sinks p 0) ≡ g (get_or sinks p 0)) where
  open_alike : (ps : List ℕ) → first_open f sinks ps ≡ first_open g sinks ps
  unfolding first_open
  open_alike [] = refl
  open_alike (p ∷ ps) = rw (same p, open_alike ps)

  place_alike : (cs : List ℕ) → place_due f sinks cs ≡ place_due g sinks cs
  unfolding place_due
  place_alike cs = open_alike (falling_from criticality_most cs)

  pub tried_alike : (timed : Bool) (cs : List ℕ) → sinks_tried timed f sinks cs ≡ sinks_tried timed g sinks cs
  unfolding sink_due
  tried_alike timed cs = rw (place_alike cs)

  pub weighting_alike : (timed : Bool) (cs : List ℕ) → weighting_due timed f sinks cs ≡ weighting_due timed g sinks cs
  weighting_alike timed cs = rw (place_alike cs)

-- ---- the part of table 7 that a turn tries

-- a part of one entry
slice_one : (xs : List ℕ) (p : ℕ) → p < length xs → slice p (p + 1) xs ≡ get_or xs p 0 ∷ []
slice_one xs p l =
    let e : suc p ≡ p + 1 = omega arith in
    slice-cons p (p + 1) xs 0 (omega arith) (omega arith) ∙ rw e (rw (slice_empty (p + 1) xs))

-- entries of a part
pub part_at : (from to : ℕ) (xs : List ℕ) (p : ℕ) → from + p < to → get_or (slice from to xs) p 0 ≡ get_or xs (from + p) 0
part_at from to xs p inside = get_or-drop from (take to xs) p 0 ∙ get_or-take to xs (from + p) 0 inside

module _ {timed : Bool} {sinks cs : List ℕ} {from to : ℕ} {marks : List ℕ} (ready : SinksReady timed sinks cs from to marks) where
  sinks-long : length (slice from to sinks) ≡ to - from
  sinks-long = length-slice from to sinks ready.within

  module _ (weighs : timed ≡ true) where
    pub criticalities-within : to ≤ length cs
    criticalities-within = rw (ready.criticalities-long weighs) ready.within

    criticalities-long : length (slice from to cs) ≡ to - from
    criticalities-long = length-slice from to cs criticalities-within

    -- what the pass over the sinks asks
    pub parts_long : length (take (to - from) (drop from cs)) ≡ length (take (to - from) (drop from sinks))
    parts_long = rw (part_slice from to cs, part_slice from to sinks) (criticalities-long ∙ sym sinks-long)

    pub parts_nodes : AllBelow (length marks) (take (to - from) (drop from sinks))
    parts_nodes =
        rw (part_slice from to sinks)
        (λ p l. let e = sinks-long in let i : from + p < to = omega arith in rw (part_at from to sinks p i) (ready.nodes (from + p) (omega arith) i))

    pub parts_low : AllBelow (criticality_most + 1) (take (to - from) (drop from cs))
    parts_low =
        rw (part_slice from to cs)
        (λ p l.
        let e = criticalities-long in
        let i : from + p < to = omega arith in
        let w = ready.within in
        let m = ready.criticality_most_lem weighs (from + p) (omega arith) in
        rw (part_at from to cs p i) (omega arith))

    -- what it finds
    module _ {place : ℕ} (is : place ≡ place_due (tree_has marks) (take (to - from) (drop from sinks)) (take (to - from) (drop from cs))) where
      due : place ≡ place_due (tree_has marks) (slice from to sinks) (slice from to cs)
      due = rw (part_slice from to sinks, part_slice from to cs) at is

      pub place_within : place ≤ to - from
      place_within =
          let m : place_due (tree_has marks) (slice from to sinks) (slice from to cs) ≤ length (slice from to sinks) =
          place_most (tree_has marks) (slice from to sinks) (slice from to cs) (criticalities-long ∙ sym sinks-long) in
          let e = sinks-long in
          let d = due in
          omega arith

      pub tried-none : to ≤ from + place → TriedSinks timed marks sinks cs from to (record { weighting = record { timed = timed; criticality = 0 }; from = from + place; to = to })
      unfolding sink_due
      tried-none past-all =
          let most = place_within in
          let order = ready.order in
          let all : place ≡ to - from = omega arith in
          let end : from + place ≡ to = omega arith in
          let none : get_or (slice from to cs) place 0 ≡ 0 = get_or-eq_default (slice from to cs) 0 (let e = criticalities-long in omega arith) in
          let past : ltb place (length (slice from to sinks)) ≡ false = le-ltb place (length (slice from to sinks)) (let e = sinks-long in omega arith) in
          rw end
          record {
            weighting-is = rw (weighs, ← due, none);
            tried = rw (weighs, ← due, past) (slice_empty to sinks);
            order = omega arith;
            within = ready.within;
          }

      pub tried_some :
          from + place < to
          → TriedSinks timed marks sinks cs from to (record { weighting = record { timed = timed; criticality = get_or cs (from + place) 0 }; from = from + place; to = from + place + 1 })
      unfolding sink_due
      tried_some l =
          let w = ready.within in
          let below : ltb place (length (slice from to sinks)) ≡ true = lt-ltb place (length (slice from to sinks)) (let e = sinks-long in omega arith) in
          record {
            weighting-is = rw (weighs, ← due, part_at from to cs place l);
            tried =
                rw (weighs, ← due, below, part_at from to sinks place l)
                (slice_one sinks (from + place) (omega arith));
            order = omega arith;
            within = omega arith;
          }

-- ---- a turn for what is tried

module _ {timed : Bool} {marks sinks cs : List ℕ} {from to : ℕ} {r : Tried} (aimed : TriedSinks timed marks sinks cs from to r) where
  abbrev due-weighting : Weighting
  due-weighting = weighting_due timed (tree_has marks) (slice from to sinks) (slice from to cs)

  abbrev due-sinks : List ℕ
  due-sinks = sinks_tried timed (tree_has marks) (slice from to sinks) (slice from to cs)

  -- the part of table 7 that is lent
  abbrev lent : List ℕ
  lent = take (r.to - r.from) (drop r.from sinks)

  lent_is : lent ≡ due-sinks
  lent_is = part_slice r.from r.to sinks ∙ aimed.tried

  module _ (b : Block) (delays : List ℕ) (factor : ℕ) (history users : List ℕ) where
    abbrev prices : Weighting → Congestion
    prices w = weighed_congestion w delays factor history users

    pub tried-can : {t : Tariff} {work log : List ℕ} → CanTurn b (prices due-weighting) t due-sinks marks work log → CanTurn b (prices r.weighting) t lent marks work log
    tried-can {t} {work} {log} can =
        subst (λ (w : Weighting). CanTurn b (prices w) t lent marks work log) (sym aimed.weighting-is)
        (subst (λ (l : List ℕ). CanTurn b (prices due-weighting) t l marks work log) (sym lent_is) can)

    pub tried_done :
        (made : Result (Option Tariff) NoRoom) (t : Tariff) (net : ℕ) (log log' marks' : List ℕ)
        → TurnDone made (turn b (price_at b (prices r.weighting)) marks lent) (turn_count t.aimed b (prices r.weighting) marks lent) t net lent log marks log' marks'
        → TurnDone made (turn b (price_at b (prices due-weighting)) marks due-sinks) (turn_count t.aimed b (prices due-weighting) marks due-sinks) t net due-sinks log marks log' marks'
    tried_done made t net log log' marks' done =
        subst (λ (w : Weighting). TurnDone made (turn b (price_at b (prices w)) marks due-sinks) (turn_count t.aimed b (prices w) marks due-sinks) t net due-sinks log marks log' marks') aimed.weighting-is
        (subst (λ (l : List ℕ). TurnDone made (turn b (price_at b (prices r.weighting)) marks l) (turn_count t.aimed b (prices r.weighting) marks l) t net l log marks log' marks') lent_is done)
