-- The node lines: reading them gives kinds, capacities and delays within their bounds, and printing these gives the lines' bytes.
-- Assumes nothing.
use mathlib.Core.Bool.{Bool, true, false}
use mathlib.Core.List.{List, [], ◌∷◌, ◌++◌, append_assoc}
use mathlib.Core.Path.{◌≡◌, refl, sym, ◌∙◌, ap, subst}
use Prim.Native.Nat.{ℕ, zero, suc, ◌+◌, ◌≤◌, ◌<◌, ◌^◌}
use native.Mathlib.Numerals.{add-one}
use native.Mathlib.Omega.{arith}
use lib.Dec.{leb, ltb, eqb}
use lib.ListN.{length, get_or, take, length-append, get_or-append}
use lib.Seq.{take_all, take-suc, length-take-le, get_or_at}
use borrow.Author.Tests.{le-leb, leb-true, lt-ltb, eq-eqb, eqb-true}
use Rattle.price.specs.Test.{choose, both}
use Rattle.price.specs.Bounds.{nodes_most, kind_most, capacity_most, delay_most}
use Rattle.price.specs.Lists.{every}
use Rattle.price.proofs.TestLaws.{both_true, both_left, both_right}
use Rattle.price.proofs.ListLaws.{every-at}
use Rattle.search.specs.Tables.{kinds_sound, capacities_sound, delays_sound}
use Rattle.search.proofs.BlockLaws.{kinds-few, capacities-long}
use Rattle.text.specs.Lines.{letter_n, print_line}
use Rattle.text.specs.JobText.{values, node_within, node_line, part, NodeLists, node_lists, with_node, node_lines}
use Rattle.text.specs.Printed.{concat_from, further}
use Rattle.text.proofs.LastLaws.{every_more}
use Rattle.text.proofs.PrintLaws.{LineRead, judged-line, line-judged, last_of_four, last-is, onward-part}

-- the line of node v: what `node_text` unfolds to
abbrev pub node_printed : Bool → List ℕ → List ℕ → List ℕ → ℕ → List ℕ
node_printed timed kinds capacities delays v = print_line letter_n (v ∷ get_or kinds v 0 ∷ get_or capacities v 0 ∷ further timed (get_or delays v 0))

abbrev kind_within_lem : ℕ → Bool
kind_within_lem k = leb k kind_most

abbrev capacity_within : ℕ → Bool
capacity_within c = both (leb 1 c) (leb c capacity_most)

abbrev delay_within : ℕ → Bool
delay_within d = leb d delay_most

-- ---- from reading

-- what k node lines tell that are read after the lists `before`, and make them `after`
pub record NodesGiven (timed : Bool) (n k : ℕ) (before after : NodeLists) (bs rest : List ℕ) : Type 0 where
  pub kinds-long : length after.kinds ≡ n
  pub capacities-long : length after.capacities ≡ n
  pub delays-long : length after.delays ≡ n
  pub kinds-within : every (λ k. leb k kind_most) after.kinds ≡ true
  pub capacities-within : every (λ c. both (leb 1 c) (leb c capacity_most)) after.capacities ≡ true
  pub delays-within : every (λ d. leb d delay_most) after.delays ≡ true
  pub kinds_kept : (i : ℕ) → i < length before.kinds → get_or after.kinds i 0 ≡ get_or before.kinds i 0
  pub capacities-kept : (i : ℕ) → i < length before.capacities → get_or after.capacities i 0 ≡ get_or before.capacities i 0
  pub delays-kept : (i : ℕ) → i < length before.delays → get_or after.delays i 0 ≡ get_or before.delays i 0
  pub text : bs ≡ concat_from (node_printed timed after.kinds after.capacities after.delays) (length before.kinds) k ++ rest

-- a node's values pass their tests
module _ (n : ℕ) (vs : List ℕ) (e : node_within n vs ≡ true) where
  passes_rest : both (kind_within_lem (get_or vs 1 0)) (both (capacity_within (get_or vs 2 0)) (delay_within (get_or vs 3 0))) ≡ true
  unfolding node_within
  passes_rest = both_right (ltb (get_or vs 0 0) n) (both (kind_within_lem (get_or vs 1 0)) (both (capacity_within (get_or vs 2 0)) (delay_within (get_or vs 3 0)))) e

  kind_passes : kind_within_lem (get_or vs 1 0) ≡ true
  kind_passes = both_left (kind_within_lem (get_or vs 1 0)) (both (capacity_within (get_or vs 2 0)) (delay_within (get_or vs 3 0))) passes_rest

  passes_last : both (capacity_within (get_or vs 2 0)) (delay_within (get_or vs 3 0)) ≡ true
  passes_last = both_right (kind_within_lem (get_or vs 1 0)) (both (capacity_within (get_or vs 2 0)) (delay_within (get_or vs 3 0))) passes_rest

  capacity_passes : capacity_within (get_or vs 2 0) ≡ true
  capacity_passes = both_left (capacity_within (get_or vs 2 0)) (delay_within (get_or vs 3 0)) passes_last

  delay_passes : delay_within (get_or vs 3 0) ≡ true
  delay_passes = both_right (capacity_within (get_or vs 2 0)) (delay_within (get_or vs 3 0)) passes_last

-- one line more in front
concat-more : (f : ℕ → List ℕ) (m m' k : ℕ) (bs first mid rest : List ℕ) → bs ≡ first ++ mid → first ≡ f m → m' ≡ suc m → mid ≡ concat_from f m' k ++ rest → bs ≡ concat_from f m (suc k) ++ rest
unfolding concat_from
concat-more f m m' k bs first mid rest whole here next others =
    whole ∙ rw (here, others, next) (sym (append_assoc (f m) (concat_from f (suc m) k) rest))

kept_more : (xs zs : List ℕ) (y : ℕ) → ((i : ℕ) → i < length (xs ++ (y ∷ [])) → get_or zs i 0 ≡ get_or (xs ++ (y ∷ [])) i 0) → (i : ℕ) → i < length xs → get_or zs i 0 ≡ get_or xs i 0
kept_more xs zs y kept i h =
    kept i (omega (arith, length-append xs (y ∷ []))) ∙ get_or-append xs (y ∷ []) 0 i h

kept-last : (xs zs : List ℕ) (y m : ℕ) → length xs ≡ m → ((i : ℕ) → i < length (xs ++ (y ∷ [])) → get_or zs i 0 ≡ get_or (xs ++ (y ∷ [])) i 0) → get_or zs m 0 ≡ y
kept-last xs zs y m long kept = kept m (omega (arith, length-append xs (y ∷ []))) ∙ get_or_at xs y [] 0 m long

nodes_step :
    (timed : Bool) (n k : ℕ) (l l' : NodeLists) (bs vs mid rest : List ℕ)
    → length l.capacities ≡ length l.kinds → length l.delays ≡ length l.kinds
    → LineRead letter_n (choose timed 4 3) (node_within n) (λ vs. eqb (get_or vs 0 0) (length l.kinds)) bs vs mid
    → NodesGiven timed n k (with_node l vs) l' mid rest
    → NodesGiven timed n (suc k) l l' bs rest
nodes_step timed n k l l' bs vs mid rest even level answered r =
    let m : ℕ = length l.kinds in
    let x : ℕ = get_or vs 1 0 in
    let y : ℕ = get_or vs 2 0 in
    let z : ℕ = get_or vs 3 0 in
    let due : get_or vs 0 0 ≡ m = eqb-true (get_or vs 0 0) m answered.order in
    let kind : get_or l'.kinds m 0 ≡ x = kept-last l.kinds l'.kinds x m refl r.kinds_kept in
    let capacity : get_or l'.capacities m 0 ≡ y = kept-last l.capacities l'.capacities y m even r.capacities-kept in
    let delay : get_or l'.delays m 0 ≡ z = kept-last l.delays l'.delays z m level r.delays-kept in
    let here : print_line letter_n vs ≡ node_printed timed l'.kinds l'.capacities l'.delays m =
    ap (print_line letter_n) (last_of_four timed vs answered.long ∙ rw (due, kind, capacity, delay)) in
    record {
      kinds-long = r.kinds-long;
      capacities-long = r.capacities-long;
      delays-long = r.delays-long;
      kinds-within = r.kinds-within;
      capacities-within = r.capacities-within;
      delays-within = r.delays-within;
      kinds_kept = kept_more l.kinds l'.kinds x r.kinds_kept;
      capacities-kept = kept_more l.capacities l'.capacities y r.capacities-kept;
      delays-kept = kept_more l.delays l'.delays z r.delays-kept;
      text =
          concat-more (node_printed timed l'.kinds l'.capacities l'.delays) m (length (l.kinds ++ (x ∷ []))) k bs (print_line letter_n vs) mid rest answered.text here
          (length-append l.kinds (x ∷ []) ∙ add-one m) r.text;
    }

nodes_from :
    (timed : Bool) (n k : ℕ) (l l' : NodeLists) (at at' : ℕ) (bs rest : List ℕ)
    → node_lines timed n k l at bs ≡ part l' at' rest
    → length l.capacities ≡ length l.kinds → length l.delays ≡ length l.kinds → length l.kinds + k ≡ n
    → every (λ k. leb k kind_most) l.kinds ≡ true → every (λ c. both (leb 1 c) (leb c capacity_most)) l.capacities ≡ true
    → every (λ d. leb d delay_most) l.delays ≡ true
    → NodesGiven timed n k l l' bs rest
unfolding node_lines node_line concat_from
nodes_from timed n zero l l' at at' bs rest e even level all ks cs ds =
    let same : l ≡ l' = cc in
    let follow : bs ≡ rest = cc in
    subst (λ (f : NodeLists). NodesGiven timed n zero l f bs rest) same
    (record {
      kinds-long = omega arith;
      capacities-long = omega arith;
      delays-long = omega arith;
      kinds-within = ks;
      capacities-within = cs;
      delays-within = ds;
      kinds_kept = λ i h. refl;
      capacities-kept = λ i h. refl;
      delays-kept = λ i h. refl;
      text = follow;
    })
nodes_from timed n (suc k) l l' at at' bs rest e even level all ks cs ds =
    let m : ℕ = length l.kinds in
    let r = onward-part (node_line timed n m bs) at (λ vs rest. node_lines timed n k (with_node l vs) (at + 1) rest) l' at' rest e in
    let vs : List ℕ = r.0 in
    let mid : List ℕ = r.1 in
    let answered : LineRead letter_n (choose timed 4 3) (node_within n) (λ vs. eqb (get_or vs 0 0) m) bs vs mid =
    judged-line (node_within n) (λ vs. eqb (get_or vs 0 0) m) letter_n (choose timed 4 3) bs vs mid r.2 in
    let long : length (l.kinds ++ (get_or vs 1 0 ∷ [])) ≡ length l.kinds + 1 = length-append l.kinds (get_or vs 1 0 ∷ []) in
    let long' : length (l.capacities ++ (get_or vs 2 0 ∷ [])) ≡ length l.capacities + 1 = length-append l.capacities (get_or vs 2 0 ∷ []) in
    let long'' : length (l.delays ++ (get_or vs 3 0 ∷ [])) ≡ length l.delays + 1 = length-append l.delays (get_or vs 3 0 ∷ []) in
    nodes_step timed n k l l' bs vs mid rest even level answered
    (nodes_from timed n k (with_node l vs) l' (at + 1) at' mid rest r.3 (omega arith) (omega arith) (omega arith)
    (every_more kind_within_lem l.kinds (get_or vs 1 0) ks (kind_passes n vs answered.bounds))
    (every_more capacity_within l.capacities (get_or vs 2 0) cs (capacity_passes n vs answered.bounds))
    (every_more delay_within l.delays (get_or vs 3 0) ds (delay_passes n vs answered.bounds)))

pub nodes_read :
    (timed : Bool) (n : ℕ) (l' : NodeLists) (at at' : ℕ) (bs rest : List ℕ) → node_lines timed n n (node_lists [] [] []) at bs ≡ part l' at' rest
    → NodesGiven timed n n (node_lists [] [] []) l' bs rest
unfolding every
nodes_read timed n l' at at' bs rest e = nodes_from timed n n (node_lists [] [] []) l' at at' bs rest e refl refl (omega arith) refl refl refl

module _ (timed : Bool) (n k : ℕ) (l l' : NodeLists) (bs rest : List ℕ) (r : NodesGiven timed n k l l' bs rest) where
  pub read_kinds_sound : 1 ≤ n → n ≤ nodes_most → kinds_sound l'.kinds ≡ true
  unfolding kinds_sound
  read_kinds_sound some few =
      both_true
      (both_true (le-leb 1 (length l'.kinds) (omega arith)) (le-leb (length l'.kinds) nodes_most (omega arith)))
      r.kinds-within

  pub read_capacities_sound : capacities_sound n l'.capacities ≡ true
  unfolding capacities_sound
  read_capacities_sound = both_true (eq-eqb (length l'.capacities) n r.capacities-long) r.capacities-within

  pub read_delays_sound : delays_sound n l'.delays ≡ true
  unfolding delays_sound
  read_delays_sound = both_true (eq-eqb (length l'.delays) n r.delays-long) r.delays-within

-- ---- from printing

-- the line of a node whose values keep their bounds is read
line_of :
    (timed : Bool) (n v kind capacity delay : ℕ) (rest : List ℕ) → n ≤ nodes_most → v < n
    → kind_within_lem kind ≡ true → capacity_within capacity ≡ true → delay_within delay ≡ true
    → node_line timed n v (print_line letter_n (v ∷ kind ∷ capacity ∷ further timed delay) ++ rest) ≡ values (v ∷ kind ∷ capacity ∷ further timed delay) rest
unfolding node_line node_within every
line_of true n v kind capacity delay rest few h k c d =
    let kind_most_lem : kind ≤ kind_most = leb-true kind kind_most k in
    let capacity_most_lem : capacity ≤ capacity_most = leb-true capacity capacity_most (both_right (leb 1 capacity) (leb capacity capacity_most) c) in
    let delay_most_lem : delay ≤ delay_most = leb-true delay delay_most d in
    line-judged (node_within n) (λ vs. eqb (get_or vs 0 0) v) letter_n (v ∷ kind ∷ capacity ∷ delay ∷ []) rest
    (both_true (lt-ltb v (10 ^ 6) (omega arith))
    (both_true (lt-ltb kind (10 ^ 6) (omega arith))
    (both_true (lt-ltb capacity (10 ^ 6) (omega arith)) (both_true (lt-ltb delay (10 ^ 6) (omega arith)) refl))))
    (both_true (lt-ltb v n h) (both_true k (both_true c d)))
    (eq-eqb v v refl)
line_of false n v kind capacity delay rest few h k c d =
    let kind_most_lem : kind ≤ kind_most = leb-true kind kind_most k in
    let capacity_most_lem : capacity ≤ capacity_most = leb-true capacity capacity_most (both_right (leb 1 capacity) (leb capacity capacity_most) c) in
    line-judged (node_within n) (λ vs. eqb (get_or vs 0 0) v) letter_n (v ∷ kind ∷ capacity ∷ []) rest
    (both_true (lt-ltb v (10 ^ 6) (omega arith))
    (both_true (lt-ltb kind (10 ^ 6) (omega arith)) (both_true (lt-ltb capacity (10 ^ 6) (omega arith)) refl)))
    (both_true (lt-ltb v n h) (both_true k (both_true c refl)))
    (eq-eqb v v refl)

-- the delays of an untimed job are read as 0
module _
    (timed : Bool) (n : ℕ) (kinds capacities delays : List ℕ) (kinds-long : length kinds ≡ n)
    (ks : kinds_sound kinds ≡ true) (cs : capacities_sound n capacities ≡ true) (ds : delays_sound n delays ≡ true)
    (none : timed ≡ false → (v : ℕ) → get_or delays v 0 ≡ 0) where
  few : n ≤ nodes_most
  few = omega (arith, kinds-few kinds ks)

  capacities_are : length capacities ≡ n
  capacities_are = capacities-long n capacities cs

  delays_are : length delays ≡ n
  unfolding delays_sound
  delays_are = eqb-true (length delays) n (both_left (eqb (length delays) n) (every delay_within delays) ds)

  kind_at : (v : ℕ) → v < n → kind_within_lem (get_or kinds v 0) ≡ true
  unfolding kinds_sound
  kind_at v h =
      every-at kind_within_lem kinds
      (both_right (both (leb 1 (length kinds)) (leb (length kinds) nodes_most)) (every kind_within_lem kinds) ks) v (omega arith)

  capacity_at : (v : ℕ) → v < n → capacity_within (get_or capacities v 0) ≡ true
  unfolding capacities_sound
  capacity_at v h =
      every-at capacity_within capacities
      (both_right (eqb (length capacities) n) (every capacity_within capacities) cs) v (omega (arith, capacities_are))

  delay_at : (v : ℕ) → v < n → delay_within (get_or delays v 0) ≡ true
  unfolding delays_sound
  delay_at v h =
      every-at delay_within delays
      (both_right (eqb (length delays) n) (every delay_within delays) ds) v (omega (arith, delays_are))

  -- the first m are read, k are left
  printed_from :
      (k m at : ℕ) (rest : List ℕ) → m + k ≡ n
      → node_lines timed n k (node_lists (take m kinds) (take m capacities) (take m delays)) at (concat_from (node_printed timed kinds capacities delays) m k ++ rest)
      ≡ part (node_lists kinds capacities delays) (at + k) rest
  unfolding node_lines concat_from
  printed_from zero m at rest e =
      let stays : at + zero ≡ at = omega arith in
      rw (take_all m kinds (omega arith), take_all m capacities (omega (arith, capacities_are)), take_all m delays (omega (arith, delays_are)), stays)
  printed_from (suc k) m at rest e =
      let h : m < n = omega arith in
      let long : length (take m kinds) ≡ m = length-take-le m kinds (omega arith) in
      let here =
      line_of timed n m (get_or kinds m 0) (get_or capacities m 0) (get_or delays m 0) (concat_from (node_printed timed kinds capacities delays) (suc m) k ++ rest) few h
      (kind_at m h) (capacity_at m h) (delay_at m h) in
      let step : at + suc k ≡ at + 1 + k = omega arith in
      rw (append_assoc, long, here, last-is timed (get_or delays m 0) (λ q. none q m))
      (rw (← take-suc kinds m 0 (omega arith), ← take-suc capacities m 0 (omega (arith, capacities_are)), ← take-suc delays m 0 (omega (arith, delays_are)), step)
      (printed_from k (suc m) (at + 1) rest (omega arith)))

  pub nodes-printed :
      (at : ℕ) (rest : List ℕ)
      → node_lines timed n n (node_lists [] [] []) at (concat_from (node_printed timed kinds capacities delays) 0 n ++ rest) ≡ part (node_lists kinds capacities delays) (at + n) rest
  nodes-printed at rest = printed_from n 0 at rest (omega arith)
