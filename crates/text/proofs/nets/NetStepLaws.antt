-- One line of the nets: what it does to the lists and the marks.
--     due-none, -first, -next, -below           whether another net is due
--     due-is                                    the same of the lists that the cursor marks out
--     source_step, source_undue                 an S line
--     sink_step, no_net, other_letter           a T line, and any other
-- Assumes nothing.
use mathlib.Core.Bool.{Bool, true, false}
use mathlib.Core.List.{List, [], ◌∷◌, ◌++◌}
use mathlib.Core.Logic.{⊎_elim}
use mathlib.Core.Path.{◌≡◌, refl, sym, ◌∙◌, ap}
use Prim.Native.Nat.{ℕ, suc, ◌+◌, ◌-◌, ◌≤◌, ◌<◌}
use native.Mathlib.Numerals.{add-one}
use native.Mathlib.Omega.{arith}
use lib.Dec.{leb, ltb, eqb}
use lib.ListN.{length, get_or, take, drop, set, length-drop, length-set, drop_of_length-le}
use lib.Seq.{length-take-le, drop-cons, drop-append-le, take-suc-set, get_or-set_same, get_or-set_other}
use borrow.Author.Tests.{lt-ltb, le-ltb, le-leb, lt-leb, eq-eqb, ne_eqb, eqb-true, eqb-false, ltb-true}
use Rattle.price.specs.Test.{both, either}
use Rattle.price.specs.Lists.{has}
use Rattle.price.proofs.TestLaws.{by_test, either_false, le_or_lt, both_left, both_false_right}
use Rattle.price.proofs.ListLaws.{has-append, has_append_right}
use Rattle.search.specs.Replies.{sinks_most}
use Rattle.text.specs.Lines.{letter_s, letter_t}
use Rattle.job.specs.Tables.{source_kind, sink_kind}
use Rattle.text.specs.JobText.{Reading, values, refused, NetLists, last_of, sinks_now, source_due, sink_due, with_source, with_sink, taking, source_line, sink_line, of_kind, next_source, next_sink, net_line}
use Rattle.text.specs.Steps.{three_of, Marked, nets_at, NetKept, SourceAdded, SinkAdded, net_line_at, KeptAfter}
use Rattle.text.specs.declared.nets.NetCursor.{NetCursor}
use Rattle.std.specs.Prelude.{Result}
use Rattle.std.specs.Prelude.{Ok, Err}
use Rattle.text.specs.declared.place.LineFault.{LineFault}
use Rattle.text.proofs.NetLineLaws.{three_of_kind, sink-few}
use Rattle.text.proofs.JudgedLaws.{taking-taking}
use Rattle.text.proofs.LastLaws.{last_more}

-- ---- another net is due

module _ (k nets first sinks : ℕ) where
  pub due_below : {t : Bool} → t ≡ both (ltb k nets) (either (eqb k 0) (ltb first sinks)) → t ≡ true → k < nets
  due_below e b = ltb-true k nets (both_left (ltb k nets) (either (eqb k 0) (ltb first sinks)) (sym e ∙ b))

-- ---- lists

take_more : (xs : List ℕ) (i x : ℕ) → i < length xs → take (i + 1) (set xs i x) ≡ take i xs ++ (x ∷ [])
take_more xs i x l = rw add-one (take-suc-set xs i x l)

pub some_left : (a b : ℕ) → leb 1 (b - a) ≡ ltb a b
some_left a b =
    ⊎_elim
    (λ (l : b ≤ a). rw (le-ltb a b l) (lt-leb 1 (b - a) (omega arith)))
    (λ (l : a < b). rw (lt-ltb a b l) (le-leb 1 (b - a) (omega arith)))
    (le_or_lt b a)

-- ---- marks

-- a mark no higher than the others' bound
set-most : (top node mark v : ℕ) (seen : List ℕ) → node < length seen → mark ≤ top → get_or seen v 0 ≤ top → get_or (set seen node mark) v 0 ≤ top
set-most top node mark v seen l m h =
    by_test (eqb v node)
    (λ q. let e : v ≡ node = eqb-true v node q in rw (e, get_or-set_same seen node mark 0 l) m)
    (λ q. rw (get_or-set_other seen node v mark 0 (eqb-false v node q)) h)

-- a new stamp marks one node alone
source_marks : (n k node : ℕ) (seen : List ℕ) → node < length seen → ((v : ℕ) → v < n → get_or seen v 0 ≤ k) → Marked n (k + 1) (set seen node (k + 1)) (node ∷ [])
unfolding has
source_marks n k node seen l s v b =
    by_test (eqb v node)
    (λ q.
    let e : v ≡ node = eqb-true v node q in
    rw (q, e, get_or-set_same seen node (k + 1) 0 l) (eq-eqb (k + 1) (k + 1) refl))
    (λ q.
    rw (q, get_or-set_other seen node v (k + 1) 0 (eqb-false v node q)) (ne_eqb (get_or seen v 0) (k + 1) (λ e. omega (arith, s v b))))

-- the same stamp marks one node more
sink_marks : (n k node : ℕ) (seen pins : List ℕ) → node < length seen → Marked n k seen pins → Marked n k (set seen node k) (pins ++ (node ∷ []))
unfolding has
sink_marks n k node seen pins l m v b =
    by_test (eqb v node)
    (λ q.
    let e : v ≡ node = eqb-true v node q in
    let in-it : has v (pins ++ (node ∷ [])) ≡ true = has_append_right v pins (node ∷ []) (rw q) in
    rw (in-it, e, get_or-set_same seen node k 0 l) (eq-eqb k k refl))
    (λ q.
    let same : has v (pins ++ (node ∷ [])) ≡ has v pins = has-append v pins (node ∷ []) ∙ rw q (either_false (has v pins)) in
    rw (get_or-set_other seen node v k 0 (eqb-false v node q), same) (m v b))

-- ---- a line of the nets by its letter

module _ (timed : Bool) (kinds : List ℕ) (n nets : ℕ) (l : NetLists) {b : ℕ} {rest bs : List ℕ} (h : bs ≡ b ∷ rest) where
  line-source : b ≡ letter_s → source_due nets l ≡ true → net_line timed kinds n nets l bs ≡ taking (with_source l) (next_source kinds n nets l bs)
  unfolding net_line
  line-source e d = rw (h, eq-eqb b letter_s e, d)

  line_undue : b ≡ letter_s → source_due nets l ≡ false → net_line timed kinds n nets l bs ≡ refused 1
  unfolding net_line
  line_undue e d = rw (h, eq-eqb b letter_s e, d, ne_eqb b letter_t (λ q. omega arith))

  line-sink : (b ≡ letter_s → ⊥) → b ≡ letter_t → sink_due l ≡ true → net_line timed kinds n nets l bs ≡ taking (with_sink l) (next_sink timed kinds n nets l bs)
  unfolding net_line
  line-sink f e d = rw (h, ne_eqb b letter_s f, eq-eqb b letter_t e, d)

  line_unknown : (b ≡ letter_s → ⊥) → (b ≡ letter_t → ⊥) → net_line timed kinds n nets l bs ≡ refused 1
  unfolding net_line
  line_unknown f e = rw (h, ne_eqb b letter_s f, ne_eqb b letter_t e)

  line_early : (b ≡ letter_s → ⊥) → sink_due l ≡ false → net_line timed kinds n nets l bs ≡ refused 1
  unfolding net_line
  line_early f d = rw (h, ne_eqb b letter_s f, both_false_right (eqb b letter_t) (sink_due l) d)

-- ---- the steps

module _ {n nets : ℕ} {text : List ℕ} {c : NetCursor} {sources first_sinks sinks criticalities seen : List ℕ} (k : NetKept n nets text c sources first_sinks sinks criticalities seen) where
  pub sources_now : length (take c.nets sources) ≡ c.nets
  sources_now = length-take-le c.nets sources (omega arith)

  all-sinks_now : length (take c.sinks sinks) ≡ c.sinks
  all-sinks_now = length-take-le c.sinks sinks (omega arith)

  pub sinks_now_lem : length (sinks_now (nets_at c sources first_sinks sinks criticalities)) ≡ c.sinks - c.first
  unfolding sinks_now
  sinks_now_lem = rw (← k.first_is) (length-drop c.first (take c.sinks sinks) ∙ ap (λ (m : ℕ). m - c.first) all-sinks_now)

  pub due-is : source_due nets (nets_at c sources first_sinks sinks criticalities) ≡ both (ltb c.nets nets) (either (eqb c.nets 0) (ltb c.first c.sinks))
  unfolding source_due
  due-is = rw (sources_now, sinks_now_lem, some_left c.first c.sinks)

  module _ (timed : Bool) (kinds : List ℕ) (inside : c.at < length text) where
    here : drop c.at text ≡ get_or text c.at 0 ∷ drop (suc c.at) text
    here = drop-cons text c.at 0 inside

    -- an S line
    source_line-is :
        get_or text c.at 0 ≡ letter_s → source_due nets (nets_at c sources first_sinks sinks criticalities) ≡ true
        → net_line timed kinds n nets (nets_at c sources first_sinks sinks criticalities) (drop c.at text)
        ≡ taking (with_source (nets_at c sources first_sinks sinks criticalities)) (of_kind source_kind kinds (source_line n nets c.nets (drop c.at text)))
    unfolding next_source
    source_line-is e d =
        line-source timed kinds n nets (nets_at c sources first_sinks sinks criticalities) here e d
        ∙ ap (λ (i : ℕ). taking (with_source (nets_at c sources first_sinks sinks criticalities)) (of_kind source_kind kinds (source_line n nets i (drop c.at text)))) sources_now

    pub source_step :
        (step : Result NetCursor LineFault) (sources' first_sinks' seen' : List ℕ) → get_or text c.at 0 ≡ letter_s
        → source_due nets (nets_at c sources first_sinks sinks criticalities) ≡ true → c.nets < nets
        → SourceAdded n nets text c step sources first_sinks seen sources' first_sinks' seen' (of_kind source_kind kinds (source_line n nets c.nets (drop c.at text)))
        → (net_line_at text step sources' first_sinks' sinks criticalities ≡ net_line timed kinds n nets (nets_at c sources first_sinks sinks criticalities) (drop c.at text)) × KeptAfter
        n nets text c step sources' first_sinks' sinks criticalities seen'
    unfolding sinks_now
    source_step (Err number) sources' first_sinks' seen' e d b a = (sym (source_line-is e d ∙ ap (taking (with_source (nets_at c sources first_sinks sinks criticalities))) a), tt)
    source_step (Ok next) sources' first_sinks' seen' e d b a =
        let node : ℕ = a.0 in
        let in-seen : node < length seen = omega (arith, k.room.seen-long, a.2) in
        let s : take next.nets sources' ≡ take c.nets sources ++ (node ∷ []) = rw (a.5, a.8) (take_more sources c.nets node (omega arith)) in
        let f : take next.nets first_sinks' ≡ take c.nets first_sinks ++ (c.sinks ∷ []) = rw (a.5, a.9) (take_more first_sinks c.nets c.sinks (omega arith)) in
        let none : drop c.sinks (take c.sinks sinks) ≡ [] = drop_of_length-le (take c.sinks sinks) {i = c.sinks} (omega (arith, all-sinks_now)) in
        let lists : nets_at next sources' first_sinks' sinks criticalities ≡ with_source (nets_at c sources first_sinks sinks criticalities) (c.nets ∷ node ∷ []) = rw (s, f, a.6, all-sinks_now) in (
          ap (λ (l : NetLists). values l (drop next.at text)) lists ∙ sym (source_line-is e d ∙ ap (taking (with_source (nets_at c sources first_sinks sinks criticalities))) a.1),
          (
            omega (arith, a.3),
            a.4,
            record {
              room = record {
                nodes_most_lem = k.room.nodes_most_lem;
                nets_most_lem = k.room.nets_most_lem;
                sources-long = rw (a.8, length-set) k.room.sources-long;
                firsts-long = rw (a.9, length-set) k.room.firsts-long;
                sinks-long = k.room.sinks-long;
                criticalities-long = k.room.criticalities-long;
                seen-long = rw (a.10, length-set) k.room.seen-long;
              };
              at_most = a.3.1;
              line-most = omega (arith, a.3, a.4);
              nets_read = omega (arith, a.5);
              sinks_read = omega (arith, a.6);
              first_is = rw f (a.7 ∙ sym (last_more (take c.nets first_sinks) c.sinks));
              first_most_lem = omega (arith, a.6, a.7);
              stamps = λ v h. rw (a.5, a.10) (set-most (c.nets + 1) node (c.nets + 1) v seen in-seen (omega arith) (omega (arith, k.stamps v h)));
              marked = λ h. rw (f, s, a.5, a.6, a.10, last_more (take c.nets first_sinks) c.sinks, last_more (take c.nets sources) node, none) (source_marks n c.nets node seen in-seen k.stamps);
            },
          ),
        )

    pub source_undue : get_or text c.at 0 ≡ letter_s → source_due nets (nets_at c sources first_sinks sinks criticalities) ≡ false → refused 1 ≡ net_line timed kinds n nets (nets_at c sources first_sinks sinks criticalities) (drop c.at text)
    source_undue e d = sym (line_undue timed kinds n nets (nets_at c sources first_sinks sinks criticalities) here e d)

    pub other_letter : (get_or text c.at 0 ≡ letter_s → ⊥) → (get_or text c.at 0 ≡ letter_t → ⊥) → refused 1 ≡ net_line timed kinds n nets (nets_at c sources first_sinks sinks criticalities) (drop c.at text)
    other_letter f e = sym (line_unknown timed kinds n nets (nets_at c sources first_sinks sinks criticalities) here f e)

    pub no_net : (get_or text c.at 0 ≡ letter_s → ⊥) → c.nets < 1 → refused 1 ≡ net_line timed kinds n nets (nets_at c sources first_sinks sinks criticalities) (drop c.at text)
    unfolding sink_due
    no_net f h = sym (line_early timed kinds n nets (nets_at c sources first_sinks sinks criticalities) here f (lt-leb 1 (length (take c.nets sources)) (omega (arith, sources_now))))

    -- the sinks of the last net after a T line
    one_sink-more :
        (node tenths : ℕ)
        → sinks_now (with_sink (nets_at c sources first_sinks sinks criticalities) ((c.nets - 1) ∷ node ∷ tenths ∷ []))
        ≡ sinks_now (nets_at c sources first_sinks sinks criticalities) ++ (node ∷ [])
    unfolding sinks_now
    one_sink-more node tenths = rw (← k.first_is) (drop-append-le c.first (take c.sinks sinks) (node ∷ []) (omega (arith, all-sinks_now)))

    -- what a T line gives, by three of its values
    three_values :
        (r : Reading (List ℕ))
        → taking (with_sink (nets_at c sources first_sinks sinks criticalities)) (of_kind sink_kind kinds r)
        ≡ taking (with_sink (nets_at c sources first_sinks sinks criticalities)) (of_kind sink_kind kinds (taking three_of r))
    three_values r =
        sym (taking-taking three_of (with_sink (nets_at c sources first_sinks sinks criticalities)) (of_kind sink_kind kinds r))
        ∙ ap (taking (with_sink (nets_at c sources first_sinks sinks criticalities))) (three_of_kind sink_kind kinds r)

    -- a T line
    sink_line-is :
        (get_or text c.at 0 ≡ letter_s → ⊥) → get_or text c.at 0 ≡ letter_t → 1 ≤ c.nets
        → net_line timed kinds n nets (nets_at c sources first_sinks sinks criticalities) (drop c.at text)
        ≡ taking (with_sink (nets_at c sources first_sinks sinks criticalities))
        (of_kind sink_kind kinds
        (taking three_of (sink_line timed n nets (c.nets - 1) (last_of (take c.nets sources) ∷ sinks_now (nets_at c sources first_sinks sinks criticalities)) c.sinks (drop c.at text))))
    unfolding next_sink sink_due
    sink_line-is f e h =
        line-sink timed kinds n nets (nets_at c sources first_sinks sinks criticalities) here f e (le-leb 1 (length (take c.nets sources)) (omega (arith, sources_now)))
        ∙ three_values
        (sink_line timed n nets (length (take c.nets sources) - 1) (last_of (take c.nets sources) ∷ sinks_now (nets_at c sources first_sinks sinks criticalities)) (length (take c.sinks sinks))
        (drop c.at text))
        ∙ rw (sources_now, all-sinks_now)

    pub sink_step :
        (step : Result NetCursor LineFault) (sinks' criticalities' seen' : List ℕ) → (get_or text c.at 0 ≡ letter_s → ⊥) → get_or text c.at 0 ≡ letter_t → 1 ≤ c.nets
        →
        ((pins : List ℕ) → Marked n c.nets seen pins
        → SinkAdded n nets text c step sinks criticalities seen sinks' criticalities' seen'
        (of_kind sink_kind kinds (taking three_of (sink_line timed n nets (c.nets - 1) pins c.sinks (drop c.at text)))))
        → (net_line_at text step sources first_sinks sinks' criticalities' ≡ net_line timed kinds n nets (nets_at c sources first_sinks sinks criticalities) (drop c.at text)) × KeptAfter n
        nets text c step sources first_sinks sinks' criticalities' seen'
    sink_step (Err number) sinks' criticalities' seen' f e h added =
        let a = added (last_of (take c.nets sources) ∷ sinks_now (nets_at c sources first_sinks sinks criticalities)) (k.marked h) in
        (sym (sink_line-is f e h ∙ ap (taking (with_sink (nets_at c sources first_sinks sinks criticalities))) a), tt)
    sink_step (Ok next) sinks' criticalities' seen' f e h added =
        let pins : List ℕ = last_of (take c.nets sources) ∷ sinks_now (nets_at c sources first_sinks sinks criticalities) in
        let a = added pins (k.marked h) in
        let node : ℕ = a.0 in
        let tenths : ℕ = a.1 in
        let few : c.sinks < sinks_most = sink-few timed kinds n nets (c.nets - 1) pins c.sinks (drop c.at text) a.2 in
        let in-seen : node < length seen = omega (arith, k.room.seen-long, a.3) in
        let t : take next.sinks sinks' ≡ take c.sinks sinks ++ (node ∷ []) = rw (a.7, a.9) (take_more sinks c.sinks node (omega arith)) in
        let u : take next.sinks criticalities' ≡ take c.sinks criticalities ++ (tenths ∷ []) = rw (a.7, a.10) (take_more criticalities c.sinks tenths (omega arith)) in
        let lists : nets_at next sources first_sinks sinks' criticalities' ≡ with_sink (nets_at c sources first_sinks sinks criticalities) ((c.nets - 1) ∷ node ∷ tenths ∷ []) = rw (t, u, a.6) in
        let now : sinks_now (nets_at next sources first_sinks sinks' criticalities') ≡ sinks_now (nets_at c sources first_sinks sinks criticalities) ++ (node ∷ []) = rw lists (one_sink-more node tenths) in (
          ap (λ (l : NetLists). values l (drop next.at text)) lists ∙ sym (sink_line-is f e h ∙ ap (taking (with_sink (nets_at c sources first_sinks sinks criticalities))) a.2),
          (
            omega (arith, a.4),
            a.5,
            record {
              room = record {
                nodes_most_lem = k.room.nodes_most_lem;
                nets_most_lem = k.room.nets_most_lem;
                sources-long = k.room.sources-long;
                firsts-long = k.room.firsts-long;
                sinks-long = rw (a.9, length-set) k.room.sinks-long;
                criticalities-long = rw (a.10, length-set) k.room.criticalities-long;
                seen-long = rw (a.11, length-set) k.room.seen-long;
              };
              at_most = a.4.1;
              line-most = omega (arith, a.4, a.5);
              nets_read = omega (arith, a.6);
              sinks_read = omega (arith, a.7);
              first_is = rw (a.6, a.8) k.first_is;
              first_most_lem = omega (arith, a.7, a.8);
              stamps = λ v g. rw (a.6, a.11) (set-most c.nets node c.nets v seen in-seen (omega arith) (k.stamps v g));
              marked = λ g. rw (now, a.6, a.11) (sink_marks n c.nets node seen pins in-seen (k.marked h));
            },
          ),
        )
