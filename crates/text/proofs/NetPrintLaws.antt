-- The reader takes the printed form of sound tables 5 to 7 and 10, and gives these tables.
-- Assumes nothing.
use mathlib.Core.Bool.{Bool, true, false}
use mathlib.Core.List.{List, [], ◌∷◌, ◌++◌, append_assoc}
use mathlib.Core.Logic.{◌⊎◌, ⊎_elim, inl, inr}
use mathlib.Core.Path.{◌≡◌, refl, sym, ◌∙◌, ap, subst}
use Prim.Native.Nat.{ℕ, zero, suc, ◌+◌, ◌-◌, ◌^◌, ◌≤◌, ◌<◌}
use native.Mathlib.Nat.{eq-or-lt_of_le}
use native.Mathlib.Numerals.{add-one}
use native.Mathlib.Omega.{arith}
use lib.Dec.{leb, ltb, eqb}
use lib.ListN.{length, get_or, take, length-append}
use lib.Seq.{slice, slice_empty, slice-cons, length-slice, take-suc, take_all, length-take-le, get_or-take}
use borrow.Author.Tests.{le-leb, lt-ltb, leb-true, ltb-true, eqb-true, eq-eqb}
use Rattle.price.specs.Bounds.{nodes_most, criticality_most}
use Rattle.price.specs.Lists.{every, has}
use Rattle.price.proofs.TestLaws.{by_test, both_true, both_left, both_right}
use Rattle.price.proofs.ListLaws.{every-at}
use Rattle.search.specs.Replies.{sinks_most}
use Rattle.job.specs.Job.{sinks_between}
use Rattle.job.specs.Tables.{nets_most, sources_sound, first_sinks_sound, net_sound, sinks_sound, criticalities_sound, one_of, source_kind, sink_kind, pins_of, source_pins, sink_pins}
use Rattle.job.proofs.JobLaws.{sources_some, sources-few, source-below, firsts-long, firsts-end, firsts-order, firsts-most, net-rule, criticalities-long, criticality_most_lem}
use Rattle.job.proofs.MarkLaws.{below_at, slice_parts}
use Rattle.text.specs.Lines.{letter_s, letter_t, taken, line, print_line}
use Rattle.text.specs.JobText.{values, last_of, pin_within, source_line, sink_ordered, sink_within, sink_line, part, NetLists, net_lists, sinks_now, source_due}
use Rattle.text.specs.JobText.{sink_due, complete, net_end, with_source, with_sink, next_source, next_sink, net_line, net_lines}
use Rattle.text.specs.Printed.{concat_from, further, sink_lines}
use Rattle.text.proofs.NetTextLaws.{net_at, ends, net-new}
use Rattle.text.proofs.NetReadLaws.{now_is}
use Rattle.text.proofs.PrintLaws.{line-printed, last-is}

-- ---- one line

-- a printed line of two fields is taken
two_taken : (letter i v : ℕ) (rest : List ℕ) → i ≤ nets_most → v < nodes_most → line letter 2 (print_line letter (i ∷ v ∷ []) ++ rest) ≡ taken (i ∷ v ∷ []) rest
unfolding every
two_taken letter i v rest h l =
    line-printed letter (i ∷ v ∷ []) rest
    (both_true (lt-ltb i (10 ^ 6) (omega arith)) (both_true (lt-ltb v (10 ^ 6) (omega arith)) refl))

-- and one of three
three_taken :
    (letter i v c : ℕ) (rest : List ℕ) → i ≤ nets_most → v < nodes_most → c ≤ criticality_most
    → line letter 3 (print_line letter (i ∷ v ∷ c ∷ []) ++ rest) ≡ taken (i ∷ v ∷ c ∷ []) rest
unfolding every
three_taken letter i v c rest h l k =
    line-printed letter (i ∷ v ∷ c ∷ []) rest
    (both_true (lt-ltb i (10 ^ 6) (omega arith)) (both_true (lt-ltb v (10 ^ 6) (omega arith)) (both_true (lt-ltb c (10 ^ 6) (omega arith)) refl)))

-- a pin of a sound table is of one of its kinds
pin_at_lem : (test : ℕ → Bool) (kinds ps : List ℕ) → pins_of test kinds ps ≡ true → (i : ℕ) → i < length ps → test (get_or kinds (get_or ps i 0) 0) ≡ true
unfolding pins_of
pin_at_lem test kinds ps all i h = every-at (λ v. test (get_or kinds v 0)) ps all i h

module _ (kinds : List ℕ) (n nets : ℕ) (l : NetLists) (nodes-few : n ≤ nodes_most) (nets-few : nets ≤ nets_most) where
  source_read :
      (timed : Bool) (i s : ℕ) (rest : List ℕ) → length l.sources ≡ i → i < nets → s < n → one_of 0 2 (get_or kinds s 0) ≡ true → source_due nets l ≡ true
      → net_line timed kinds n nets l (print_line letter_s (i ∷ s ∷ []) ++ rest) ≡ values (with_source l (i ∷ s ∷ [])) rest
  unfolding net_line next_source source_line pin_within print_line
  source_read timed i s rest count fits node kind due =
      rw (due, two_taken letter_s i s rest (omega arith) (omega arith), lt-ltb i nets fits, lt-ltb s n node, count, eq-eqb i i refl, kind)

  sink_read :
      (timed : Bool) (i t c : ℕ) (rest : List ℕ) → length l.sources ≡ i + 1 → i < nets → t < n → c ≤ criticality_most → one_of 1 3 (get_or kinds t 0) ≡ true
      → has t (last_of l.sources ∷ sinks_now l) ≡ false → length l.sinks < sinks_most
      → net_line timed kinds n nets l (print_line letter_t (i ∷ t ∷ further timed c) ++ rest) ≡ values (with_sink l (i ∷ t ∷ further timed c)) rest
  unfolding net_line next_sink sink_line sink_ordered sink_within pin_within print_line sink_due
  sink_read true i t c rest count fits node tenths kind new room =
      let due : leb 1 (length l.sources) ≡ true = le-leb 1 (length l.sources) (omega arith) in
      let last : i ≡ length l.sources - 1 = omega arith in
      rw (due, three_taken letter_t i t c rest (omega arith) (omega arith) tenths, lt-ltb i nets fits, lt-ltb t n node)
      (rw (le-leb c criticality_most tenths, eq-eqb i (length l.sources - 1) last, new, lt-ltb (length l.sinks) sinks_most room, kind))
  sink_read false i t c rest count fits node tenths kind new room =
      let due : leb 1 (length l.sources) ≡ true = le-leb 1 (length l.sources) (omega arith) in
      let last : i ≡ length l.sources - 1 = omega arith in
      rw (due, two_taken letter_t i t rest (omega arith) (omega arith), lt-ltb i nets fits, lt-ltb t n node)
      (rw (eq-eqb i (length l.sources - 1) last, new, lt-ltb (length l.sinks) sinks_most room, kind))

-- a line that is taken is the first of the lines
line_first :
    (timed : Bool) (kinds : List ℕ) (n nets k : ℕ) (l next : NetLists) (at letter : ℕ) (vs rest : List ℕ) → net_line timed kinds n nets l (print_line letter vs ++ rest) ≡ values next rest
    → net_lines (suc k) timed kinds n nets l at (print_line letter vs ++ rest) ≡ net_lines k timed kinds n nets next (at + 1) rest
unfolding net_lines print_line
line_first timed kinds n nets k l next at letter vs rest e = rw e

line_longer : (letter : ℕ) (vs rest : List ℕ) → length rest < length (print_line letter vs ++ rest)
unfolding print_line
line_longer letter vs rest = rw length-append (omega arith)

-- ---- the tables that are read

-- the reader takes the printed form from line `at` on, and gives these tables
pub record TablesPrinted (timed : Bool) (k : ℕ) (kinds : List ℕ) (n at : ℕ) (ss fs ts cs : List ℕ) : Type 0 where
  pub after : ℕ
  pub reads :
      net_lines k timed kinds n (length ss) (net_lists [] [] [] []) at (concat_from (net_at timed ss fs ts cs) 0 (length ss))
      ≡ part (net_lists ss (take (length ss) fs) ts cs) after []
  pub firsts : ends (take (length ss) fs) ts ≡ fs

-- ---- the lists and the text after m sources and p sinks

abbrev lists_at : List ℕ → List ℕ → List ℕ → List ℕ → ℕ → ℕ → NetLists
lists_at ss fs ts cs m p = net_lists (take m ss) (take m fs) (take p ts) (take p cs)

abbrev text_at : Bool → List ℕ → List ℕ → List ℕ → List ℕ → ℕ → ℕ → List ℕ
text_at timed ss fs ts cs m p =
    sink_lines timed (m - 1) (slice p (get_or fs m 0) ts) (slice p (get_or fs m 0) cs) ++ concat_from (net_at timed ss fs ts cs) m (length ss - m)

-- where the reader may be: in the last of m nets, or before the first
record ReaderAt (ss fs : List ℕ) (m p : ℕ) : Type 0 where
  few : m ≤ length ss
  least : (i : ℕ) → i + 1 ≡ m → get_or fs i 0 ≤ p
  most : p ≤ get_or fs m 0

-- a line is left, and the reader takes it
record Next (timed : Bool) (kinds : List ℕ) (n : ℕ) (ss fs ts cs : List ℕ) (m p : ℕ) : Type 0 where
  m2 : ℕ
  p2 : ℕ
  letter : ℕ
  vs : List ℕ
  reader : ReaderAt ss fs m2 p2
  text : text_at timed ss fs ts cs m p ≡ print_line letter vs ++ text_at timed ss fs ts cs m2 p2
  reads :
      net_line timed kinds n (length ss) (lists_at ss fs ts cs m p) (print_line letter vs ++ text_at timed ss fs ts cs m2 p2)
      ≡ values (lists_at ss fs ts cs m2 p2) (text_at timed ss fs ts cs m2 p2)

-- or none is
record Last (timed : Bool) (ss fs ts cs : List ℕ) (m p : ℕ) : Type 0 where
  text : text_at timed ss fs ts cs m p ≡ []
  whole : complete (length ss) (lists_at ss fs ts cs m p) ≡ true
  lists : lists_at ss fs ts cs m p ≡ net_lists ss (take (length ss) fs) ts cs

-- the criticalities of an untimed job are read as 0
module _
    (timed : Bool) (kinds : List ℕ) (n : ℕ) (ss fs ts cs : List ℕ) (nodes-few : n ≤ nodes_most) (source_pins_lem : source_pins kinds ss ≡ true) (sink_pins_lem : sink_pins kinds ts ≡ true)
    (sources_sound_lem : sources_sound n ss ≡ true) (firsts-sound : first_sinks_sound (length ss) (length ts) fs ≡ true) (sinks_sound_lem : sinks_sound n ss fs ts ≡ true)
    (criticalities_sound_lem : criticalities_sound (length ts) cs ≡ true) (none : timed ≡ false → (p : ℕ) → get_or cs p 0 ≡ 0) where
  nets-few : length ss ≤ nets_most
  nets-few = sources-few n ss sources_sound_lem

  long : length fs ≡ length ss + 1
  long = firsts-long (length ss) (length ts) fs firsts-sound

  order : (i : ℕ) → i < length ss → get_or fs i 0 < get_or fs (i + 1) 0
  order = firsts-order (length ss) (length ts) fs firsts-sound

  inside : (i : ℕ) → i ≤ length ss → get_or fs i 0 ≤ length ts
  inside = firsts-most (length ss) (length ts) fs firsts-sound

  begin : get_or fs 0 0 ≡ 0
  unfolding first_sinks_sound
  begin = eqb-true (get_or fs 0 0) 0 (both_left _ _ (both_right (eqb (length fs) (length ss + 1)) _ firsts-sound))

  sinks-few : length ts ≤ sinks_most
  unfolding sinks_sound
  sinks-few = leb-true (length ts) sinks_most (both_left _ _ sinks_sound_lem)

  even : length cs ≡ length ts
  even = criticalities-long (length ts) cs criticalities_sound_lem

  tenths : (p : ℕ) → p < length ts → get_or cs p 0 ≤ criticality_most
  tenths p h = criticality_most_lem (length ts) cs criticalities_sound_lem p (omega (arith, even))

  rule : (i : ℕ) → i < length ss → net_sound n (get_or ss i 0) (sinks_between fs ts i) ≡ true
  rule = net-rule n ss fs ts sinks_sound_lem

  -- in the last net i
  module _ (m i p : ℕ) (last : i + 1 ≡ m) (few : m ≤ length ss) where
    now_at : sinks_now (lists_at ss fs ts cs m p) ≡ slice (get_or fs i 0) p ts
    now_at =
        let l : length fs ≡ length ss + 1 = long in
        now_is (lists_at ss fs ts cs m p) i (length-take-le m fs (omega arith) ∙ sym last)
        ∙ rw (get_or-take m fs i 0 (omega arith))

    source-at : last_of (take m ss) ≡ get_or ss i 0
    source-at =
        let place : m - 1 ≡ i = omega arith in
        rw (length-take-le m ss few, place) (get_or-take m ss i 0 (omega arith))

    now_some : get_or fs i 0 < p → p ≤ length ts → leb 1 (length (sinks_now (lists_at ss fs ts cs m p))) ≡ true
    now_some h l = rw (now_at, length-slice (get_or fs i 0) p ts l) (le-leb 1 (p - get_or fs i 0) (omega arith))

    -- a sink of it is left
    sink-next : get_or fs i 0 ≤ p → p < get_or fs m 0 → Next timed kinds n ss fs ts cs m p
    unfolding sink_lines net_sound
    sink-next least below =
        let within : get_or fs m 0 ≤ length ts = inside m few in
        let most : length ts ≤ sinks_most = sinks-few in
        let place : m - 1 ≡ i = omega arith in
        let net : net_sound n (get_or ss i 0) (slice (get_or fs i 0) (get_or fs m 0) ts) ≡ true = rw last at (rule i (omega arith)) in
        let parts : slice (get_or fs i 0) (get_or fs m 0) ts ≡ slice (get_or fs i 0) p ts ++ (get_or ts p 0 ∷ slice (suc p) (get_or fs m 0) ts) =
        slice_parts (get_or fs i 0) (get_or fs m 0) p ts least within (omega arith)
        ∙ ap (λ (r : List ℕ). slice (get_or fs i 0) p ts ++ r) (slice-cons p (get_or fs m 0) ts 0 below within) in
        let node : get_or ts p 0 < n =
        below_at (get_or fs i 0) (get_or fs m 0) p ts least within
        (λ k h. ltb-true _ _ (every-at (λ v. ltb v n) (slice (get_or fs i 0) (get_or fs m 0) ts) (both_left _ _ net) k h)) below in
        let passed : length (take p ts) ≡ p = length-take-le p ts (omega arith) in
        let same : length cs ≡ length ts = even in
        let within' : get_or fs m 0 ≤ length cs = omega arith in
        let c : ℕ = get_or cs p 0 in
        record {
          m2 = m;
          p2 = suc p;
          letter = letter_t;
          vs = i ∷ get_or ts p 0 ∷ further timed c;
          reader = record { few = few; least = λ k h. let same : k ≡ i = omega arith in rw same (omega arith); most = omega arith };
          text =
              rw (place, slice-cons p (get_or fs m 0) ts 0 below within, slice-cons p (get_or fs m 0) cs 0 below within')
              (append_assoc (print_line letter_t (i ∷ get_or ts p 0 ∷ further timed c)) (sink_lines timed i (slice (suc p) (get_or fs m 0) ts) (slice (suc p) (get_or fs m 0) cs)) (concat_from (net_at timed ss fs ts cs) m (length ss - m)));
          reads =
              sink_read kinds n (length ss) (lists_at ss fs ts cs m p) nodes-few nets-few timed i (get_or ts p 0) c (text_at timed ss fs ts cs m (suc p))
              (length-take-le m ss few ∙ sym last) (omega arith) node (tenths p (omega arith)) (pin_at_lem sink_kind kinds ts sink_pins_lem p (omega arith))
              (rw (source-at, now_at) (net-new n (get_or ss i 0) (slice (get_or fs i 0) p ts) (get_or ts p 0) (slice (suc p) (get_or fs m 0) ts) (rw parts at net)))
              (omega arith)
              ∙ rw (last-is timed c (λ q. none q p), take-suc ts p 0 (omega arith), take-suc cs p 0 (omega arith));
        }

  source_due_lem : (m : ℕ) → m < length ss → source_due (length ss) (lists_at ss fs ts cs m (get_or fs m 0)) ≡ true
  unfolding source_due
  source_due_lem zero h = both_true (lt-ltb 0 (length ss) h) refl
  source_due_lem (suc i) h =
      let passed : length (take (suc i) ss) ≡ suc i = length-take-le (suc i) ss (omega arith) in
      let less : get_or fs i 0 < get_or fs (suc i) 0 = rw add-one at (order i (omega arith)) in
      both_true (lt-ltb (length (take (suc i) ss)) (length ss) (omega arith))
      (by_test (eqb (length (take (suc i) ss)) 0)
      (λ q. rw q)
      (λ q.
      rw q (now_some (suc i) i (get_or fs (suc i) 0) (add-one i) (omega arith) less (inside (suc i) (omega arith)))))

  -- all its sinks are read, and a net is left
  source-next : (m : ℕ) → m < length ss → Next timed kinds n ss fs ts cs m (get_or fs m 0)
  unfolding sink_lines concat_from
  source-next m h =
      let l : length fs ≡ length ss + 1 = long in
      let within : get_or fs m 0 ≤ length ts = inside m (omega arith) in
      let less : get_or fs m 0 < get_or fs (m + 1) 0 = order m h in
      let one : length ss - m ≡ suc (length ss - (m + 1)) = omega arith in
      let back : m + 1 - 1 ≡ m = omega arith in
      record {
        m2 = m + 1;
        p2 = get_or fs m 0;
        letter = letter_s;
        vs = m ∷ get_or ss m 0 ∷ [];
        reader = record { few = omega arith; least = λ k e. let same : k ≡ m = omega arith in rw same (omega arith); most = omega arith };
        text =
            rw (slice_empty (get_or fs m 0) ts, one, back)
            (append_assoc (print_line letter_s (m ∷ get_or ss m 0 ∷ [])) (sink_lines timed m (sinks_between fs ts m) (sinks_between fs cs m)) (concat_from (net_at timed ss fs ts cs) (suc m) (length ss - (m + 1)))
            ∙ ap (λ (k : ℕ). print_line letter_s (m ∷ get_or ss m 0 ∷ []) ++ (sink_lines timed m (sinks_between fs ts m) (sinks_between fs cs m) ++ concat_from (net_at timed ss fs ts cs) k (length ss - (m + 1)))) (sym (add-one m)));
        reads =
            source_read kinds n (length ss) (lists_at ss fs ts cs m (get_or fs m 0)) nodes-few nets-few timed m (get_or ss m 0) (text_at timed ss fs ts cs (m + 1) (get_or fs m 0))
            (length-take-le m ss (omega arith)) h (source-below n ss sources_sound_lem m h) (pin_at_lem source_kind kinds ss source_pins_lem m h) (source_due_lem m h)
            ∙ rw (length-take-le (get_or fs m 0) ts within, add-one, take-suc ss m 0 h, take-suc fs m 0 (omega arith));
      }

  -- all nets are read
  net-last : Last timed ss fs ts cs (length ss) (get_or fs (length ss) 0)
  unfolding complete sink_lines concat_from
  net-last =
      let end : get_or fs (length ss) 0 ≡ length ts = firsts-end (length ss) (length ts) fs firsts-sound in
      let some : 1 ≤ length ss = sources_some n ss sources_sound_lem in
      let last : length ss - 1 + 1 ≡ length ss = omega arith in
      let over : length ss - length ss ≡ 0 = omega arith in
      let same : length cs ≡ length ts = even in
      let less : get_or fs (length ss - 1) 0 < get_or fs (length ss) 0 = rw last at (order (length ss - 1) (omega arith)) in
      record {
        text = rw (slice_empty (get_or fs (length ss) 0) ts, over);
        whole =
            both_true (eq-eqb (length (take (length ss) ss)) (length ss) (length-take-le (length ss) ss (omega arith)))
            (now_some (length ss) (length ss - 1) (get_or fs (length ss) 0) last (omega arith) less (omega arith));
        lists = rw (end, take_all (length ss) ss (omega arith), take_all (length ts) ts (omega arith), take_all (length ts) cs (omega arith));
      }

  -- one of the three
  line-left : (m p : ℕ) → ReaderAt ss fs m p → Next timed kinds n ss fs ts cs m p ⊎ Last timed ss fs ts cs m p
  line-left m p st =
      ⊎_elim
      (λ (e : p ≡ get_or fs m 0).
      ⊎_elim
      (λ (f : m ≡ length ss). inr (rw (e, f) net-last))
      (λ (b : m < length ss). inl (rw e (source-next m b)))
      (eq-or-lt_of_le st.few))
      (λ (b : p < get_or fs m 0).
      ⊎_elim
      (λ (z : 0 ≡ m). let first : get_or fs m 0 ≡ 0 = subst (λ (k : ℕ). get_or fs k 0 ≡ 0) z begin in absurd (omega arith))
      (λ (some : 0 < m).
      let last : m - 1 + 1 ≡ m = omega arith in
      inl (sink-next m (m - 1) p last st.few (st.least (m - 1) last) b))
      (eq-or-lt_of_le (let z : 0 ≤ m = omega arith in z)))
      (eq-or-lt_of_le st.most)

  last_end : (k m p at : ℕ) → Last timed ss fs ts cs m p → net_lines k timed kinds n (length ss) (lists_at ss fs ts cs m p) at (text_at timed ss fs ts cs m p) ≡ part (net_lists ss (take (length ss) fs) ts cs) at []
  unfolding net_lines net_end
  last_end zero m p at r = rw (r.text, r.whole, r.lists)
  last_end (suc k) m p at r = rw (r.text, r.whole, r.lists)

  -- no text has more lines than bytes
  read_on :
      (k m p at : ℕ) → ReaderAt ss fs m p → length (text_at timed ss fs ts cs m p) ≤ k
      → (at2 : ℕ) × (net_lines k timed kinds n (length ss) (lists_at ss fs ts cs m p) at (text_at timed ss fs ts cs m p) ≡ part (net_lists ss (take (length ss) fs) ts cs) at2 [])
  read_on zero m p at st short =
      ⊎_elim
      (λ (r : Next timed kinds n ss fs ts cs m p).
      let longer = line_longer r.letter r.vs (text_at timed ss fs ts cs r.m2 r.p2) in
      let here : length (text_at timed ss fs ts cs m p) ≡ length (print_line r.letter r.vs ++ text_at timed ss fs ts cs r.m2 r.p2) = ap length r.text in
      absurd (omega arith))
      (λ (r : Last timed ss fs ts cs m p). (at, last_end zero m p at r))
      (line-left m p st)
  read_on (suc k) m p at st short =
      ⊎_elim
      (λ (r : Next timed kinds n ss fs ts cs m p).
      let longer = line_longer r.letter r.vs (text_at timed ss fs ts cs r.m2 r.p2) in
      let here : length (text_at timed ss fs ts cs m p) ≡ length (print_line r.letter r.vs ++ text_at timed ss fs ts cs r.m2 r.p2) = ap length r.text in
      let later = read_on k r.m2 r.p2 (at + 1) r.reader (omega arith) in (
        later.0,
        ap (net_lines (suc k) timed kinds n (length ss) (lists_at ss fs ts cs m p) at) r.text
            ∙ line_first timed kinds n (length ss) k (lists_at ss fs ts cs m p) (lists_at ss fs ts cs r.m2 r.p2) at r.letter r.vs (text_at timed ss fs ts cs r.m2 r.p2) r.reads
            ∙ later.1,
      ))
      (λ (r : Last timed ss fs ts cs m p). (at, last_end (suc k) m p at r))
      (line-left m p st)

  pub nets-printed : (k at : ℕ) → length (concat_from (net_at timed ss fs ts cs) 0 (length ss)) ≤ k → TablesPrinted timed k kinds n at ss fs ts cs
  unfolding sink_lines
  nets-printed k at short =
      let l : length fs ≡ length ss + 1 = long in
      let all : length ss - 0 ≡ length ss = omega arith in
      let text : text_at timed ss fs ts cs 0 0 ≡ concat_from (net_at timed ss fs ts cs) 0 (length ss) = rw (begin, all) in
      let reader : ReaderAt ss fs 0 0 = record { few = omega arith; least = λ i e. absurd (omega arith); most = omega arith } in
      let r = read_on k 0 0 at reader (rw text short) in
      record {
        after = r.0;
        reads = rw text at r.1;
        firsts =
            rw (← firsts-end (length ss) (length ts) fs firsts-sound)
            (sym (take-suc fs (length ss) 0 (omega arith)) ∙ take_all (suc (length ss)) fs (omega arith));
      }
