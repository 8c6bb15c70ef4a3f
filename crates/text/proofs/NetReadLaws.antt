-- What the reader takes for the nets' lines is the printed form of the tables that it gives, and these tables are sound.
-- Assumes nothing.
use mathlib.Core.Bool.{Bool, true, false, not}
use mathlib.Core.List.{List, [], ◌∷◌, ◌++◌, append-nil, append_assoc}
use mathlib.Core.Logic.{◌⊎◌, ⊎_elim, inl, inr}
use mathlib.Core.Path.{◌≡◌, refl, sym, ◌∙◌, ap, subst}
use Prim.Native.Nat.{ℕ, zero, suc, ◌+◌, ◌-◌, ◌≤◌, ◌<◌}
use native.Mathlib.Omega.{arith}
use lib.Dec.{leb, ltb, eqb}
use lib.ListN.{length, get_or, drop, length-drop}
use borrow.Author.Tests.{leb-true, ltb-true, eqb-true, eq-eqb, not-true}
use Rattle.price.specs.Test.{choose, both}
use Rattle.price.specs.Bounds.{criticality_most}
use Rattle.price.specs.Lists.{every, has}
use Rattle.price.proofs.TestLaws.{by_test, both_true, both_left, both_right}
use Rattle.search.specs.Replies.{sinks_most}
use Rattle.job.specs.Tables.{nets_most, sources_sound, first_sinks_sound, sinks_sound, criticalities_sound, one_of, source_kind, sink_kind, pins_of, source_pins, sink_pins}
use Rattle.job.proofs.NetTableLaws.{sources-all, nets-all}
use Rattle.text.specs.Lines.{letter_s, letter_t, print_line}
use Rattle.text.specs.JobText.{values, refused, last_of, pin_within, source_line, sink_ordered, sink_within, sink_line, part, stopped, NetLists}
use Rattle.text.specs.JobText.{net_lists, sinks_now, source_due, sink_due, complete, net_end, with_source, with_sink, next_source, next_sink, taking}
use Rattle.text.specs.JobText.{net_line, net_lines}
use Rattle.text.specs.Printed.{concat_from, further}
use Rattle.text.proofs.LastLaws.{every_more}
use Rattle.text.proofs.JudgedLaws.{taking-values}
use Rattle.text.proofs.NetLineLaws.{of_values}
use Rattle.text.proofs.NetTextLaws.{net_at, ends, Good, written, good_none, with_source_lem, source_text, with_sink_lem, sink_text, good_firsts}
use Rattle.text.proofs.PrintLaws.{LineRead, judged-line, two_of, last_of_three, onward-part}

-- ---- a line that is taken

-- a line of two fields, the first of which is known
two_text : (letter i : ℕ) {within ordered : List ℕ → Bool} (bs vs rest : List ℕ) → LineRead letter 2 within ordered bs vs rest → eqb (get_or vs 0 0) i ≡ true → bs ≡ print_line letter (i ∷ get_or vs 1 0 ∷ []) ++ rest
two_text letter i bs vs rest r q =
    let whole : vs ≡ i ∷ get_or vs 1 0 ∷ [] = two_of vs r.long ∙ ap (λ (v : ℕ). v ∷ get_or vs 1 0 ∷ []) (eqb-true (get_or vs 0 0) i q) in
    r.text ∙ ap (λ (us : List ℕ). print_line letter us ++ rest) whole

-- one that has a third field in timed jobs alone
three_text :
    (timed : Bool) (letter i : ℕ) {within ordered : List ℕ → Bool} (bs vs rest : List ℕ) → LineRead letter (choose timed 3 2) within ordered bs vs rest → eqb (get_or vs 0 0) i ≡ true
    → bs ≡ print_line letter (i ∷ get_or vs 1 0 ∷ further timed (get_or vs 2 0)) ++ rest
three_text timed letter i bs vs rest r q =
    let whole : vs ≡ i ∷ get_or vs 1 0 ∷ further timed (get_or vs 2 0) =
    last_of_three timed vs r.long ∙ ap (λ (v : ℕ). v ∷ get_or vs 1 0 ∷ further timed (get_or vs 2 0)) (eqb-true (get_or vs 0 0) i q) in
    r.text ∙ ap (λ (us : List ℕ). print_line letter us ++ rest) whole

module _ (timed : Bool) (kinds : List ℕ) (n nets : ℕ) (l : NetLists) where
  -- what an S line says
  record Sourced (bs : List ℕ) (next : NetLists) (rest : List ℕ) : Type 0 where
    s : ℕ
    due : source_due nets l ≡ true
    node : s < n
    kind : one_of 0 2 (get_or kinds s 0) ≡ true
    is : next ≡ net_lists (l.sources ++ (s ∷ [])) (ends l.first_sinks l.sinks) l.sinks l.criticalities
    text : bs ≡ print_line letter_s (length l.sources ∷ s ∷ []) ++ rest

  -- what a T line says
  record Sunk (bs : List ℕ) (next : NetLists) (rest : List ℕ) : Type 0 where
    t : ℕ
    c : ℕ
    due : sink_due l ≡ true
    node : ltb t n ≡ true
    kind : one_of 1 3 (get_or kinds t 0) ≡ true
    new : has t (last_of l.sources ∷ sinks_now l) ≡ false
    room : length l.sinks < sinks_most
    tenths : leb c criticality_most ≡ true
    is : next ≡ net_lists l.sources l.first_sinks (l.sinks ++ (t ∷ [])) (l.criticalities ++ (c ∷ []))
    text : bs ≡ print_line letter_t ((length l.sources - 1) ∷ t ∷ further timed c) ++ rest

  -- by either letter
  sourced : (bs : List ℕ) (next : NetLists) (rest : List ℕ) → source_due nets l ≡ true → taking (with_source l) (next_source kinds n nets l bs) ≡ values next rest → Sourced bs next rest
  unfolding next_source source_line pin_within
  sourced bs next rest due e =
      let k = taking-values (with_source l) (next_source kinds n nets l bs) next rest e in
      let o = of_values source_kind kinds (source_line n nets (length l.sources) bs) k.given rest k.is in
      let j = judged-line (pin_within n nets) (λ vs. eqb (get_or vs 0 0) (length l.sources)) letter_s 2 bs k.given rest o.0 in
      record {
        s = get_or k.given 1 0;
        due = due;
        node = ltb-true (get_or k.given 1 0) n (both_right (ltb (get_or k.given 0 0) nets) _ j.bounds);
        kind = o.1;
        is = k.made;
        text = two_text letter_s (length l.sources) bs k.given rest j j.order;
      }

  sunk : (bs : List ℕ) (next : NetLists) (rest : List ℕ) → sink_due l ≡ true → taking (with_sink l) (next_sink timed kinds n nets l bs) ≡ values next rest → Sunk bs next rest
  unfolding next_sink sink_line sink_ordered sink_within pin_within
  sunk bs next rest due e =
      let i : ℕ = length l.sources - 1 in
      let pins : List ℕ = last_of l.sources ∷ sinks_now l in
      let k = taking-values (with_sink l) (next_sink timed kinds n nets l bs) next rest e in
      let vs : List ℕ = k.given in
      let o = of_values sink_kind kinds (sink_line timed n nets i pins (length l.sinks) bs) vs rest k.is in
      let j = judged-line (sink_within n nets) (sink_ordered i pins (length l.sinks)) letter_t (choose timed 3 2) bs vs rest o.0 in
      let pin : pin_within n nets vs ≡ true = both_left _ _ j.bounds in
      let others = both_right (eqb (get_or vs 0 0) i) _ j.order in
      record {
        t = get_or vs 1 0;
        c = get_or vs 2 0;
        due = due;
        node = both_right (ltb (get_or vs 0 0) nets) _ pin;
        kind = o.1;
        new = not-true (has (get_or vs 1 0) pins) (both_left _ _ others);
        room = ltb-true (length l.sinks) sinks_most (both_right (not (has (get_or vs 1 0) pins)) _ others);
        tenths = both_right (pin_within n nets vs) (leb (get_or vs 2 0) criticality_most) j.bounds;
        is = k.made;
        text = three_text timed letter_t i bs vs rest j (both_left _ _ j.order);
      }

  net_line_lem : (bs : List ℕ) (next : NetLists) (rest : List ℕ) → net_line timed kinds n nets l bs ≡ values next rest → Sourced bs next rest ⊎ Sunk bs next rest
  unfolding net_line
  net_line_lem [] next rest e = absurd (let z : ◌≡◌ {A = ℕ} 0 1 = cc in omega arith)
  net_line_lem (b ∷ bs) next rest e =
      by_test (both (eqb b letter_s) (source_due nets l))
      (λ p. inl (sourced (b ∷ bs) next rest (both_right (eqb b letter_s) _ p) (rw p at e)))
      (λ p.
      by_test (both (eqb b letter_t) (sink_due l))
      (λ q. inr (sunk (b ∷ bs) next rest (both_right (eqb b letter_t) _ q) (rw (p, q) at e)))
      (λ q.
      let e2 : refused 1 ≡ values next rest = rw (p, q) at e in
      absurd (let z : ◌≡◌ {A = ℕ} 0 1 = cc in omega arith)))

-- ---- all lines

-- the sinks so far of the last net i
pub now_is : (l : NetLists) (i : ℕ) → length l.first_sinks ≡ i + 1 → sinks_now l ≡ drop (get_or l.first_sinks i 0) l.sinks
unfolding sinks_now
now_is l i e = let last : length l.first_sinks - 1 ≡ i = omega arith in rw last

now_some : (l : NetLists) (i : ℕ) → length l.first_sinks ≡ i + 1 → leb 1 (length (sinks_now l)) ≡ true → get_or l.first_sinks i 0 < length l.sinks
now_some l i e h =
    let some : 1 ≤ length (drop (get_or l.first_sinks i 0) l.sinks) = rw (now_is l i e) at (leb-true 1 (length (sinks_now l)) h) in
    let less : 1 ≤ length l.sinks - get_or l.first_sinks i 0 = rw length-drop at some in
    omega arith

-- the pins read so far are of their kinds, and the criticalities within their bounds
record Pinned (kinds ss ts cs : List ℕ) : Type 0 where
  sources_of : source_pins kinds ss ≡ true
  sinks_of : sink_pins kinds ts ≡ true
  tenths : every (λ c. leb c criticality_most) cs ≡ true

pinned_none : (kinds : List ℕ) → Pinned kinds [] [] []
unfolding pins_of every
pinned_none kinds = record { sources_of = refl; sinks_of = refl; tenths = refl }

pins_more : (test : ℕ → Bool) (kinds ps : List ℕ) (v : ℕ) → pins_of test kinds ps ≡ true → test (get_or kinds v 0) ≡ true → pins_of test kinds (ps ++ (v ∷ [])) ≡ true
unfolding pins_of
pins_more test kinds ps v all one = every_more (λ p. test (get_or kinds p 0)) ps v all one

-- the lists that the reader gives where the text `before` is read and the bytes `bs` follow
record Ended (timed : Bool) (kinds : List ℕ) (n nets : ℕ) (before bs : List ℕ) (l : NetLists) (rest : List ℕ) : Type 0 where
  end : rest ≡ []
  good : Good n nets nets l.sources l.first_sinks l.sinks l.criticalities
  pinned : Pinned kinds l.sources l.sinks l.criticalities
  last : (i : ℕ) → i + 1 ≡ nets → get_or l.first_sinks i 0 < length l.sinks
  text : written timed nets l.sources l.first_sinks l.sinks l.criticalities ≡ before ++ bs

-- at the end of the text
ended :
    (timed : Bool) (kinds : List ℕ) (n nets m : ℕ) (l l2 : NetLists) (at at2 : ℕ) (rest : List ℕ) → Good n nets m l.sources l.first_sinks l.sinks l.criticalities
    → Pinned kinds l.sources l.sinks l.criticalities → net_end nets l at ≡ part l2 at2 rest
    → Ended timed kinds n nets (written timed m l.sources l.first_sinks l.sinks l.criticalities) [] l2 rest
unfolding net_end complete
ended timed kinds n nets m l l2 at at2 rest g q e =
    by_test (complete nets l)
    (λ p.
    let e2 : part l at [] ≡ part l2 at2 rest = rw p at e in
    let same : l ≡ l2 = cc in
    let none : [] ≡ rest = cc in
    let all : m ≡ nets = sym g.count ∙ eqb-true (length l.sources) nets (both_left _ _ p) in
    rw (← same, ← none, all)
    record {
      end = refl;
      good = rw all at g;
      pinned = q;
      last = λ i h. now_some l i (g.long ∙ all ∙ sym h) (both_right (eqb (length l.sources) nets) _ p);
      text = sym (append-nil _);
    })
    (λ p.
    let e2 : stopped 1 at ≡ part l2 at2 rest = rw p at e in
    absurd (let z : ◌≡◌ {A = ℕ} 0 1 = cc in omega arith))

-- one line before them
more_text :
    {timed : Bool} {kinds : List ℕ} {n nets : ℕ} {before now rest bs left : List ℕ} {l : NetLists} (this : List ℕ) → now ≡ before ++ this → bs ≡ this ++ rest
    → Ended timed kinds n nets now rest l left → Ended timed kinds n nets before bs l left
more_text {before = before} {rest = rest} this p q r =
    record { end = r.end; good = r.good; pinned = r.pinned; last = r.last; text = r.text ∙ rw (p, q) (append_assoc before this rest) }

-- where an S line is due, the last net has a sink
source-ready : (nets m : ℕ) (l : NetLists) → length l.sources ≡ m → length l.first_sinks ≡ m → source_due nets l ≡ true → (i : ℕ) → i + 1 ≡ m → get_or l.first_sinks i 0 < length l.sinks
unfolding source_due
source-ready nets m l count long due i e =
    let second = both_right (ltb (length l.sources) nets) _ due in
    by_test (eqb (length l.sources) 0)
    (λ q. let none : length l.sources ≡ 0 = eqb-true (length l.sources) 0 q in absurd (omega arith))
    (λ q. now_some l i (long ∙ sym e) (rw q at second))

nets-on :
    (timed : Bool) (kinds : List ℕ) (n nets k m : ℕ) (l l2 : NetLists) (at at2 : ℕ) (bs rest : List ℕ) → Good n nets m l.sources l.first_sinks l.sinks l.criticalities
    → Pinned kinds l.sources l.sinks l.criticalities → net_lines k timed kinds n nets l at bs ≡ part l2 at2 rest
    → Ended timed kinds n nets (written timed m l.sources l.first_sinks l.sinks l.criticalities) bs l2 rest
unfolding net_lines source_due sink_due
nets-on timed kinds n nets zero m l l2 at at2 [] rest g q e = ended timed kinds n nets m l l2 at at2 rest g q e
nets-on timed kinds n nets zero m l l2 at at2 (b ∷ bs) rest g q e = absurd (let z : ◌≡◌ {A = ℕ} 0 1 = cc in omega arith)
nets-on timed kinds n nets (suc k) m l l2 at at2 [] rest g q e = ended timed kinds n nets m l l2 at at2 rest g q e
nets-on timed kinds n nets (suc k) m l l2 at at2 (b ∷ bs) rest g q e =
    let o = onward-part (net_line timed kinds n nets l (b ∷ bs)) at (λ next left. net_lines k timed kinds n nets next (at + 1) left) l2 at2 rest e in
    let count : length l.sources ≡ m = g.count in
    ⊎_elim
    (λ (p : Sourced timed kinds n nets l (b ∷ bs) o.0 o.1).
    let fits : length l.sources < nets = ltb-true (length l.sources) nets (both_left _ _ p.due) in
    more_text (print_line letter_s (m ∷ p.s ∷ [])) (source_text g p.s timed) (subst (λ (j : ℕ). b ∷ bs ≡ print_line letter_s (j ∷ p.s ∷ []) ++ o.1) count p.text)
    (nets-on timed kinds n nets k (m + 1) (net_lists (l.sources ++ (p.s ∷ [])) (ends l.first_sinks l.sinks) l.sinks l.criticalities) l2 (at + 1) at2 o.1 rest
    (with_source_lem g p.s p.node (omega arith) (source-ready nets m l count g.long p.due))
    (record { sources_of = pins_more source_kind kinds l.sources p.s q.sources_of p.kind; sinks_of = q.sinks_of; tenths = q.tenths })
    (rw p.is at o.3)))
    (λ (p : Sunk timed kinds n nets l (b ∷ bs) o.0 o.1).
    let i : ℕ = length l.sources - 1 in
    let some : 1 ≤ length l.sources = leb-true 1 (length l.sources) p.due in
    let last : length l.sources - 1 + 1 ≡ m = omega arith in
    more_text (print_line letter_t (i ∷ p.t ∷ further timed p.c)) (sink_text g i p.t p.c last timed) p.text
    (nets-on timed kinds n nets k m (net_lists l.sources l.first_sinks (l.sinks ++ (p.t ∷ [])) (l.criticalities ++ (p.c ∷ []))) l2 (at + 1) at2 o.1 rest
    (with_sink_lem g i p.t p.c last p.node (rw (now_is l (length l.sources - 1) (g.long ∙ sym last)) at p.new) p.room)
    (record {
      sources_of = q.sources_of;
      sinks_of = pins_more sink_kind kinds l.sinks p.t q.sinks_of p.kind;
      tenths = every_more (λ c. leb c criticality_most) l.criticalities p.c q.tenths p.tenths;
    })
    (rw p.is at o.3)))
    (net_line_lem timed kinds n nets l (b ∷ bs) o.0 o.1 o.2)

-- ---- the tables

-- what the reader gives for the nets' lines, and which bytes they were
pub record TablesRead (timed : Bool) (kinds : List ℕ) (n nets : ℕ) (l : NetLists) (bs rest : List ℕ) : Type 0 where
  pub end : rest ≡ []
  pub count : length l.sources ≡ nets
  pub sources_sound_lem : sources_sound n l.sources ≡ true
  pub source_pins_lem : source_pins kinds l.sources ≡ true
  pub first_sinks_sound_lem : first_sinks_sound nets (length l.sinks) (ends l.first_sinks l.sinks) ≡ true
  pub sinks_sound_lem : sinks_sound n l.sources (ends l.first_sinks l.sinks) l.sinks ≡ true
  pub sink_pins_lem : sink_pins kinds l.sinks ≡ true
  pub criticalities_sound_lem : criticalities_sound (length l.sinks) l.criticalities ≡ true
  pub text : bs ≡ concat_from (net_at timed l.sources (ends l.first_sinks l.sinks) l.sinks l.criticalities) 0 nets

pub nets_read :
    (timed : Bool) (k : ℕ) (kinds : List ℕ) (n nets : ℕ) (l : NetLists) (at at2 : ℕ) (bs rest : List ℕ) → 1 ≤ nets → nets ≤ nets_most
    → net_lines k timed kinds n nets (net_lists [] [] [] []) at bs ≡ part l at2 rest → TablesRead timed kinds n nets l bs rest
unfolding concat_from criticalities_sound
nets_read timed k kinds n nets l at at2 bs rest some few e =
    let r = nets-on timed kinds n nets k 0 (net_lists [] [] [] []) l at at2 bs rest (good_none n nets) (pinned_none kinds) e in
    let g : Good n nets nets l.sources l.first_sinks l.sinks l.criticalities = r.good in
    let count : length l.sources ≡ nets = g.count in
    record {
      end = r.end;
      count = count;
      sources_sound_lem = sources-all n l.sources nets (omega arith) (omega arith) (omega arith) g.node;
      source_pins_lem = r.pinned.sources_of;
      first_sinks_sound_lem = good_firsts n nets l.sources l.first_sinks l.sinks l.criticalities g r.last;
      sinks_sound_lem = nets-all n l.sources (ends l.first_sinks l.sinks) l.sinks nets g.few (omega arith) g.sound;
      sink_pins_lem = r.pinned.sinks_of;
      criticalities_sound_lem = both_true (eq-eqb (length l.criticalities) (length l.sinks) g.even) r.pinned.tenths;
      text = sym r.text;
    }
