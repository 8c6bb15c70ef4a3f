-- The S and T lines: what a line gives, by the tests that its reading passes or fails, and what a line that is read tells.
--     source-fault                              an S line of wrong shape
--     source-net, -node, -order, -pin           an S line by its values
--     sink-fault                                a T line of wrong shape
--     sink-net, -node, -tenths, -order, -seen, -many, -pin    a T line by its values
--     of_refused, of_none, of_one, of_values    either line by its pin's kind
--     bearing_marked                            some list has the nodes that bear a stamp
--     sink-few                                  before a sink that is read there were not too many
--     pin-, sink_reading, -refused, -place      a line as its answer tells it
-- Assumes nothing.
use mathlib.Core.Bool.{Bool, true, false, not}
use mathlib.Core.List.{List, [], ◌∷◌}
use mathlib.Core.Logic.{⊎_elim}
use mathlib.Core.Path.{◌≡◌, refl, sym, ◌∙◌, ap}
use Prim.Native.Nat.{ℕ, zero, suc, ◌+◌, ◌≤◌, ◌<◌}
use native.Mathlib.Nat.{not-suc-le-zero, eq-or-lt_of_le, le_of_suc-le-suc}
use native.Mathlib.Omega.{arith}
use lib.Dec.{leb, eqb, ltb}
use lib.ListN.{get_or, take, drop}
use borrow.Author.Tests.{lt-ltb, le-ltb, le-leb, lt-leb, eq-eqb, ne_eqb, ltb-true}
use Rattle.price.specs.Test.{choose, both}
use Rattle.price.specs.Lists.{has}
use Rattle.price.proofs.TestLaws.{by_test, both_right, both_true, both_false_right}
use Rattle.search.specs.Replies.{sinks_most}
use Rattle.job.specs.Tables.{sink_kind}
use Rattle.text.specs.Lines.{letter_s, letter_t, taken, line}
use Rattle.text.specs.JobText.{Reading, values, refused, pin_within, source_line, sink_ordered, sink_within, sink_line, taking, of_kind}
use Rattle.text.specs.Steps.{row, After, fields_at, three_of, pin_at, PinPlace, sink_at, SinkPlace, Marked}
use Rattle.std.specs.Prelude.{Option}
use Rattle.std.specs.Prelude.{Some, None}
use Rattle.std.specs.Prelude.{Result}
use Rattle.std.specs.Prelude.{Ok, Err}
use Rattle.text.specs.declared.fields.LineFields.{LineFields}
use Rattle.text.specs.declared.place.LineFault.{LineFault}
use Rattle.text.specs.declared.nets.Pin.{Pin}
use Rattle.text.specs.declared.nets.Sink.{Sink}
use Rattle.text.proofs.JudgedLaws.{line-malformed, line_taken, judged-beyond, judged_wrong, judged-taken, judged-values, taking-values}

-- ---- the tests of a pin

module _ (n nets f s : ℕ) where
  beyond-nets : nets ≤ f → pin_within n nets (f ∷ s ∷ []) ≡ false
  unfolding pin_within
  beyond-nets h = rw (le-ltb f nets h)

  beyond-nodes : n ≤ s → pin_within n nets (f ∷ s ∷ []) ≡ false
  unfolding pin_within
  beyond-nodes h = both_false_right (ltb f nets) (ltb s n) (le-ltb s n h)

  within_both : f < nets → s < n → pin_within n nets (f ∷ s ∷ []) ≡ true
  unfolding pin_within
  within_both h k = both_true (lt-ltb f nets h) (lt-ltb s n k)

-- ---- the S line

module _ (n nets i at : ℕ) (text : List ℕ) (r : Option LineFields) (e : fields_at 2 text r ≡ line letter_s 2 (drop at text)) where
  pub source-fault : r ≡ None → refused 1 ≡ source_line n nets i (drop at text)
  unfolding source_line
  source-fault q = rw (line-malformed 2 text e q)

  module _ {y : LineFields} (q : r ≡ Some y) where
    source-fields : line letter_s 2 (drop at text) ≡ taken (y.first ∷ y.second ∷ []) (drop y.next text)
    source-fields = line_taken 2 text e q

    pub source-net : nets ≤ y.first → refused 2 ≡ source_line n nets i (drop at text)
    unfolding source_line
    source-net h = sym (judged-beyond (pin_within n nets) (λ vs. eqb (get_or vs 0 0) i) source-fields (beyond-nets n nets y.first y.second h))

    pub source-node : n ≤ y.second → refused 2 ≡ source_line n nets i (drop at text)
    unfolding source_line
    source-node h = sym (judged-beyond (pin_within n nets) (λ vs. eqb (get_or vs 0 0) i) source-fields (beyond-nodes n nets y.first y.second h))

    module _ (in-nets : y.first < nets) (in-nodes : y.second < n) where
      pub source-order : (y.first ≡ i → ⊥) → refused 3 ≡ source_line n nets i (drop at text)
      unfolding source_line
      source-order h = sym (judged_wrong (pin_within n nets) (λ vs. eqb (get_or vs 0 0) i) source-fields (within_both n nets y.first y.second in-nets in-nodes) (ne_eqb y.first i h))

      pub source_pin : y.first ≡ i → values (i ∷ y.second ∷ []) (drop y.next text) ≡ source_line n nets i (drop at text)
      unfolding source_line
      source_pin h =
          ap (λ (x : ℕ). values (x ∷ y.second ∷ []) (drop y.next text)) (sym h)
          ∙ sym (judged-taken (pin_within n nets) (λ vs. eqb (get_or vs 0 0) i) source-fields (within_both n nets y.first y.second in-nets in-nodes) (eq-eqb y.first i h))

-- ---- the T line

-- a line has three numbers or two; the third counts as 0 where it is missing
pub sink-numbers : (timed : Bool) → choose timed 3 2 ≤ 4
sink-numbers true = omega arith
sink-numbers false = omega arith

numbers_three : (timed : Bool) (f s t u : ℕ) → three_of (take (choose timed 3 2) (f ∷ s ∷ t ∷ u ∷ [])) ≡ f ∷ s ∷ choose timed t 0 ∷ []
numbers_three true f s t u = refl
numbers_three false f s t u = refl

module _ (n nets f s t : ℕ) where
  sink-beyond-nets : nets ≤ f → sink_within n nets (f ∷ s ∷ t ∷ []) ≡ false
  unfolding sink_within pin_within
  sink-beyond-nets h = rw (le-ltb f nets h)

  sink-beyond-nodes : n ≤ s → sink_within n nets (f ∷ s ∷ t ∷ []) ≡ false
  unfolding sink_within pin_within
  sink-beyond-nodes h = rw (both_false_right (ltb f nets) (ltb s n) (le-ltb s n h))

  sink-beyond_tenths : 9 < t → sink_within n nets (f ∷ s ∷ t ∷ []) ≡ false
  unfolding sink_within
  sink-beyond_tenths h = both_false_right (pin_within n nets (f ∷ s ∷ t ∷ [])) (leb t 9) (lt-leb t 9 h)

  sink_within_lem : f < nets → s < n → t ≤ 9 → sink_within n nets (f ∷ s ∷ t ∷ []) ≡ true
  unfolding sink_within pin_within
  sink_within_lem h k m = rw (lt-ltb f nets h, lt-ltb s n k, le-leb t 9 m)

module _ (i : ℕ) (pins : List ℕ) (count f s t : ℕ) where
  other_net : (f ≡ i → ⊥) → sink_ordered i pins count (f ∷ s ∷ t ∷ []) ≡ false
  unfolding sink_ordered
  other_net h = rw (ne_eqb f i h)

  seen_before : has s pins ≡ true → sink_ordered i pins count (f ∷ s ∷ t ∷ []) ≡ false
  unfolding sink_ordered
  seen_before h = both_false_right (eqb f i) (both (not (has s pins)) (ltb count sinks_most)) (rw h)

  too_many : sinks_most ≤ count → sink_ordered i pins count (f ∷ s ∷ t ∷ []) ≡ false
  unfolding sink_ordered
  too_many h =
      both_false_right (eqb f i) (both (not (has s pins)) (ltb count sinks_most))
      (both_false_right (not (has s pins)) (ltb count sinks_most) (le-ltb count sinks_most h))

  in_order : f ≡ i → has s pins ≡ false → count < sinks_most → sink_ordered i pins count (f ∷ s ∷ t ∷ []) ≡ true
  unfolding sink_ordered
  in_order h g l = rw (eq-eqb f i h, g, lt-ltb count sinks_most l)

module _
    (timed : Bool) (n nets i at count : ℕ) (text : List ℕ) {many : ℕ} {r : Option LineFields} (numbers : many ≡ choose timed 3 2)
    (e : fields_at many text r ≡ line letter_t many (drop at text)) where
  pub sink-fault : (pins : List ℕ) → r ≡ None → refused 1 ≡ taking three_of (sink_line timed n nets i pins count (drop at text))
  unfolding sink_line
  sink-fault pins q = rw (← numbers, line-malformed many text e q)

  module _ {y : LineFields} {tenths : ℕ} (q : r ≡ Some y) (weighed : tenths ≡ choose timed y.third 0) where
    sink-fields : line letter_t (choose timed 3 2) (drop at text) ≡ taken (take (choose timed 3 2) (y.first ∷ y.second ∷ y.third ∷ y.fourth ∷ [])) (drop y.next text)
    sink-fields = rw (← numbers) (line_taken many text e q)

    three : three_of (take (choose timed 3 2) (y.first ∷ y.second ∷ y.third ∷ y.fourth ∷ [])) ≡ y.first ∷ y.second ∷ tenths ∷ []
    three = rw weighed (numbers_three timed y.first y.second y.third y.fourth)

    within : sink_within n nets (take (choose timed 3 2) (y.first ∷ y.second ∷ y.third ∷ y.fourth ∷ [])) ≡ sink_within n nets (y.first ∷ y.second ∷ tenths ∷ [])
    unfolding sink_within pin_within
    within = ap (sink_within n nets) three

    ordered : (pins : List ℕ) → sink_ordered i pins count (take (choose timed 3 2) (y.first ∷ y.second ∷ y.third ∷ y.fourth ∷ [])) ≡ sink_ordered i pins count (y.first ∷ y.second ∷ tenths ∷ [])
    unfolding sink_ordered
    ordered pins = ap (sink_ordered i pins count) three

    sink-beyond : (pins : List ℕ) → sink_within n nets (y.first ∷ y.second ∷ tenths ∷ []) ≡ false → refused 2 ≡ taking three_of (sink_line timed n nets i pins count (drop at text))
    unfolding sink_line
    sink-beyond pins w = sym (ap (taking three_of) (judged-beyond (sink_within n nets) (sink_ordered i pins count) sink-fields (within ∙ w)))

    pub sink-net : (pins : List ℕ) → nets ≤ y.first → refused 2 ≡ taking three_of (sink_line timed n nets i pins count (drop at text))
    sink-net pins h = sink-beyond pins (sink-beyond-nets n nets y.first y.second tenths h)

    pub sink-node : (pins : List ℕ) → n ≤ y.second → refused 2 ≡ taking three_of (sink_line timed n nets i pins count (drop at text))
    sink-node pins h = sink-beyond pins (sink-beyond-nodes n nets y.first y.second tenths h)

    pub sink_tenths : (pins : List ℕ) → 9 < tenths → refused 2 ≡ taking three_of (sink_line timed n nets i pins count (drop at text))
    sink_tenths pins h = sink-beyond pins (sink-beyond_tenths n nets y.first y.second tenths h)

    module _ (in-nets : y.first < nets) (in-nodes : y.second < n) (few : tenths ≤ 9) where
      sink_wrong : (pins : List ℕ) → sink_ordered i pins count (y.first ∷ y.second ∷ tenths ∷ []) ≡ false → refused 3 ≡ taking three_of (sink_line timed n nets i pins count (drop at text))
      unfolding sink_line
      sink_wrong pins o =
          sym (ap (taking three_of) (judged_wrong (sink_within n nets) (sink_ordered i pins count) sink-fields (within ∙ sink_within_lem n nets y.first y.second tenths in-nets in-nodes few) (ordered pins ∙ o)))

      pub sink-order : (pins : List ℕ) → (y.first ≡ i → ⊥) → refused 3 ≡ taking three_of (sink_line timed n nets i pins count (drop at text))
      sink-order pins h = sink_wrong pins (other_net i pins count y.first y.second tenths h)

      pub sink-seen :
          (stamp : ℕ) (seen pins : List ℕ) → Marked n stamp seen pins → get_or seen y.second 0 ≡ stamp
          → refused 3 ≡ taking three_of (sink_line timed n nets i pins count (drop at text))
      sink-seen stamp seen pins m h =
          sink_wrong pins (seen_before i pins count y.first y.second tenths (sym (m y.second in-nodes) ∙ eq-eqb (get_or seen y.second 0) stamp h))

      pub sink_many : (pins : List ℕ) → sinks_most ≤ count → refused 3 ≡ taking three_of (sink_line timed n nets i pins count (drop at text))
      sink_many pins h = sink_wrong pins (too_many i pins count y.first y.second tenths h)

      pub sink_pin :
          (stamp : ℕ) (seen pins : List ℕ) → Marked n stamp seen pins → y.first ≡ i → (get_or seen y.second 0 ≡ stamp → ⊥) → count < sinks_most
          → values (i ∷ y.second ∷ tenths ∷ []) (drop y.next text) ≡ taking three_of (sink_line timed n nets i pins count (drop at text))
      unfolding sink_line
      sink_pin stamp seen pins m h g l =
          ap (λ (x : ℕ). values (x ∷ y.second ∷ tenths ∷ []) (drop y.next text)) (sym h)
          ∙ ap (λ (vs : List ℕ). values vs (drop y.next text)) (sym three)
          ∙ sym (ap (taking three_of) (judged-taken (sink_within n nets) (sink_ordered i pins count) sink-fields (within ∙ sink_within_lem n nets y.first y.second tenths in-nets in-nodes few)
          (ordered pins ∙ in_order i pins count y.first y.second tenths h (sym (m y.second in-nodes) ∙ ne_eqb (get_or seen y.second 0) stamp g) l)))

-- ---- the pin's kind

module _ (test : ℕ → Bool) (kinds : List ℕ) where
  pub of_refused : {k : ℕ} {r : Reading (List ℕ)} → refused k ≡ r → refused k ≡ of_kind test kinds r
  of_refused e = ap (of_kind test kinds) e

  module _ {vs rest : List ℕ} {r : Reading (List ℕ)} (e : values vs rest ≡ r) where
    pub of_none : test (get_or kinds (get_or vs 1 0) 0) ≡ false → refused 3 ≡ of_kind test kinds r
    of_none h = rw (← e, h)

    pub of_one : test (get_or kinds (get_or vs 1 0) 0) ≡ true → values vs rest ≡ of_kind test kinds r
    of_one h = rw (← e, h)

  -- a line that is read was taken, and its pin is of such a kind
  pub of_values : (r : Reading (List ℕ)) (vs rest : List ℕ) → of_kind test kinds r ≡ values vs rest → (r ≡ values vs rest) × (test (get_or kinds (get_or vs 1 0) 0) ≡ true)
  of_values (values us left) vs rest e =
      by_test (test (get_or kinds (get_or us 1 0) 0))
      (λ q.
      let same : values us left ≡ values vs rest = rw q at e in
      let these : us ≡ vs = cc in
      (same, rw these at q))
      (λ q.
      let none : refused 3 ≡ values vs rest = rw q at e in
      absurd (let z : ◌≡◌ {A = ℕ} 0 1 = cc in omega arith))
  of_values (refused k) vs rest e = absurd (let z : ◌≡◌ {A = ℕ} 0 1 = cc in omega arith)

-- the kind is that of the second value, which three of them have too
module _ (test : ℕ → Bool) (kinds : List ℕ) where
  pub three_of_kind : (r : Reading (List ℕ)) → taking three_of (of_kind test kinds r) ≡ of_kind test kinds (taking three_of r)
  three_of_kind (values vs rest) = kept (test (get_or kinds (get_or vs 1 0) 0)) vs rest
    where
      kept : (b : Bool) (vs rest : List ℕ) → taking three_of (choose b (values vs rest) (refused 3)) ≡ choose b (values (three_of vs) rest) (refused 3)
      kept true vs rest = refl
      kept false vs rest = refl
  three_of_kind (refused k) = refl

-- ---- what a line that is read tells

-- the nodes below n that bear a stamp
pub bearing : ℕ → ℕ → List ℕ → List ℕ
bearing zero stamp seen = []
bearing (suc n) stamp seen = choose (eqb (get_or seen n 0) stamp) (n ∷ bearing n stamp seen) (bearing n stamp seen)

module _ (stamp : ℕ) (seen : List ℕ) where
  bearing_below : (n v : ℕ) → n ≤ v → has v (bearing n stamp seen) ≡ false
  unfolding has bearing
  bearing_below zero v l = refl
  bearing_below (suc n) v l =
      let none : has v (bearing n stamp seen) ≡ false = bearing_below n v (omega arith) in
      by_test (eqb (get_or seen n 0) stamp)
      (λ q. rw (q, ne_eqb v n (λ e. omega arith)) none)
      (λ q. rw q none)

  pub bearing_marked : (n : ℕ) → Marked n stamp seen (bearing n stamp seen)
  unfolding has bearing
  bearing_marked zero v l = absurd (not-suc-le-zero l)
  bearing_marked (suc n) v l =
      ⊎_elim
      (λ (e : v ≡ n).
      by_test (eqb (get_or seen n 0) stamp)
      (λ q. rw (e, q, eq-eqb n n refl))
      (λ q. rw (e, q) (sym (bearing_below n n (omega arith)))))
      (λ (b : v < n).
      by_test (eqb (get_or seen n 0) stamp)
      (λ q. rw (q, ne_eqb v n (λ e. omega arith)) (bearing_marked n v b))
      (λ q. rw q (bearing_marked n v b)))
      (eq-or-lt_of_le (le_of_suc-le-suc l))

pub sink-few :
    (timed : Bool) (kinds : List ℕ) (n nets i : ℕ) (pins : List ℕ) (count : ℕ) (bs : List ℕ) {vs rest : List ℕ}
    → of_kind sink_kind kinds (taking three_of (sink_line timed n nets i pins count bs)) ≡ values vs rest → count < sinks_most
unfolding sink_line sink_ordered
sink-few timed kinds n nets i pins count bs {vs} {rest} e =
    let read = of_values sink_kind kinds (taking three_of (sink_line timed n nets i pins count bs)) vs rest e in
    let took = taking-values three_of (sink_line timed n nets i pins count bs) vs rest read.0 in
    let given : List ℕ = took.given in
    let answered = judged-values (sink_within n nets) (sink_ordered i pins count) (line letter_t (choose timed 3 2) bs) given rest took.is in
    ltb-true count sinks_most
    (both_right (not (has (get_or given 1 0) pins)) (ltb count sinks_most)
    (both_right (eqb (get_or given 0 0) i) (both (not (has (get_or given 1 0) pins)) (ltb count sinks_most)) answered.order))

module _ (i : ℕ) (text : List ℕ) {x : Result Pin LineFault} {r : Reading (List ℕ)} (e : pin_at i text x ≡ r) where
  pub pin_reading : {p : Pin} → x ≡ Ok p → r ≡ values (i ∷ p.node ∷ []) (drop p.next text)
  pin_reading q = sym e ∙ ap (pin_at i text) q

  pub pin_refused : {k : LineFault} → x ≡ Err k → r ≡ refused (row k)
  pin_refused q = sym e ∙ ap (pin_at i text) q

pub pin_place : (n at : ℕ) (text : List ℕ) {x : Result Pin LineFault} {p : Pin} → x ≡ Ok p → PinPlace n at text x → After (at + 1) text p.next × (p.node < n)
pin_place n at text q h = rw q at h

module _ (i : ℕ) (text : List ℕ) {x : Result Sink LineFault} {r : Reading (List ℕ)} (e : sink_at i text x ≡ r) where
  pub sink_reading : {s : Sink} → x ≡ Ok s → r ≡ values (i ∷ s.node ∷ s.criticality ∷ []) (drop s.next text)
  sink_reading q = sym e ∙ ap (sink_at i text) q

  pub sink-refused : {k : LineFault} → x ≡ Err k → r ≡ refused (row k)
  sink-refused q = sym e ∙ ap (sink_at i text) q

pub sink_place : (n at : ℕ) (text : List ℕ) {x : Result Sink LineFault} {s : Sink} → x ≡ Ok s → SinkPlace n at text x → After (at + 1) text s.next × (s.node < n)
sink_place n at text q h = rw q at h
