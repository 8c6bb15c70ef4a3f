-- The E lines: what is read of them is what their rows print, and sound rows are read again as printed.
-- Assumes nothing.
use mathlib.Core.Bool.{true}
use mathlib.Core.List.{List, [], ◌∷◌, ◌++◌, append-nil, append_assoc}
use mathlib.Core.Path.{◌≡◌, refl, sym, ◌∙◌, ap, subst}
use Prim.Native.Nat.{ℕ, zero, suc, ◌+◌, ◌-◌, ◌^◌, ◌≤◌, ◌<◌, zero-le, suc-le-suc}
use native.Mathlib.Nat.{add-zero, le_refl}
use native.Mathlib.Numerals.{add-one}
use native.Mathlib.Omega.{arith}
use lib.Dec.{ltb}
use lib.ListN.{length, get_or, drop, length-append, drop_of_length-le}
use lib.Seq.{slice, slice_empty, slice-cons, drop-cons}
use borrow.Author.Tests.{lt-ltb}
use Rattle.price.specs.Lists.{every}
use Rattle.search.specs.Tables.{first_edges_sound, row_sound}
use Rattle.search.proofs.BlockLaws.{firsts-end, firsts-order, firsts-most}
use Rattle.text.specs.Lines.{letter_e, print_line}
use Rattle.text.specs.JobText.{values, last_of, rises, edge_within, edge_ordered, edge_line, part, EdgeLists, edge_lists, edge_lines, first_places}
use Rattle.text.specs.Printed.{concat_from, each_line}
use Rattle.text.proofs.PrintLaws.{LineRead, judged-line, line-judged, two_of, onward-part}
use Rattle.text.proofs.LastLaws.{last_more}
use Rattle.text.proofs.EdgeRisingLaws.{row_of, Edge, Rising, edge_within_lem, edge_ordered_lem, rising_none, rising_more, rising_rest, rising_keys, rising_rows, rows_rising}
use Rattle.text.proofs.FirstPlaceLaws.{Keys, Filed, keys_of, firsts_zero, places_filed, keys_of_long, keys_of_filed, filed_places}

-- an E line for each pair of two lists
unfoldable pub pair_text : List ℕ → List ℕ → List ℕ
pair_text [] ts = []
pair_text (f ∷ fs) [] = []
pair_text (f ∷ fs) (t ∷ ts) = print_line letter_e (f ∷ t ∷ []) ++ pair_text fs ts

-- the E lines of n rows
abbrev pub edges_text : ℕ → List ℕ → List ℕ → List ℕ
edges_text n first targets = concat_from (λ u. each_line letter_e u (row_of first targets u)) 0 n

-- what E lines that are read say: sound tables 3 and 4, whose print they are
pub record EdgesGiven (n k : ℕ) (l : EdgeLists) (bs rest : List ℕ) : Type 0 where
  pub targets-long : length l.targets ≡ k
  pub firsts-sound : first_edges_sound n k (first_places n l.froms) ≡ true
  pub rows_sound : (u : ℕ) → u < n → row_sound n u (row_of (first_places n l.froms) l.targets u) ≡ true
  pub text_is : bs ≡ edges_text n (first_places n l.froms) l.targets ++ rest

-- what printed edges are read as: the same tables 3 and 4
pub record EdgesPrinted (n : ℕ) (first targets : List ℕ) (at : ℕ) (rest : List ℕ) : Type 0 where
  pub read : edge_lines n (length targets) (edge_lists [] []) at (edges_text n first targets ++ rest) ≡ part (edge_lists (keys_of first n) targets) (at + length targets) rest
  pub places : first_places n (keys_of first n) ≡ first

-- ---- rows one after the other are the pairs one after the other

pairs_row :
    (u d a b : ℕ) (fs ts : List ℕ) → a + d ≡ b → b ≤ length fs → length fs ≡ length ts
    → ((p : ℕ) → a ≤ p → p < b → get_or fs p 0 ≡ u)
    → pair_text (drop a fs) (drop a ts) ≡ each_line letter_e u (slice a b ts) ++ pair_text (drop b fs) (drop b ts)
unfolding each_line pair_text
pairs_row u zero a b fs ts e h same key =
    let at : a ≡ b = omega arith in
    rw (at, slice_empty b ts)
pairs_row u (suc d) a b fs ts e h same key =
    let here : get_or fs a 0 ≡ u = key a (le_refl a) (omega arith) in
    let rest : pair_text (drop (suc a) fs) (drop (suc a) ts) ≡ each_line letter_e u (slice (suc a) b ts) ++ pair_text (drop b fs) (drop b ts) =
    pairs_row u d (suc a) b fs ts (omega arith) h same (λ p from to. key p (omega arith) to) in
    rw (drop-cons fs a 0 (omega arith), drop-cons ts a 0 (omega arith), slice-cons a b ts 0 (omega arith) (omega arith), here, append_assoc)
    (ap (λ (l : List ℕ). print_line letter_e (u ∷ get_or ts a 0 ∷ []) ++ l) rest)

module _ (n : ℕ) (first fs ts : List ℕ) (f : Filed n first fs) (same : length fs ≡ length ts) where
  rows_pairs : (k m : ℕ) → m + k ≡ n → concat_from (λ u. each_line letter_e u (row_of first ts u)) m k ≡ pair_text (drop (get_or first m 0) fs) (drop (get_or first m 0) ts)
  unfolding concat_from pair_text
  rows_pairs zero m e =
      let at : m ≡ n = omega arith in
      let end : get_or first n 0 ≡ length fs = firsts-end n (length fs) first f.sound in
      let none : drop (length fs) fs ≡ [] = drop_of_length-le fs (le_refl (length fs)) in
      rw (at, end, none)
  rows_pairs (suc k) m e =
      let h : m < n = omega arith in
      let rise : get_or first m 0 ≤ get_or first (m + 1) 0 = firsts-order n (length fs) first f.sound m h in
      let rest : concat_from (λ u. each_line letter_e u (row_of first ts u)) (m + 1) k ≡ pair_text (drop (get_or first (m + 1) 0) fs) (drop (get_or first (m + 1) 0) ts) = rows_pairs k (m + 1) (omega arith) in
      rw (← add-one m, rest)
      (sym (pairs_row m (get_or first (m + 1) 0 - get_or first m 0) (get_or first m 0) (get_or first (m + 1) 0) fs ts (omega arith)
      (firsts-most n (length fs) first f.sound (m + 1) (omega arith)) same (λ p from to. f.key_is m p h from to)))

  filed_text : edges_text n first ts ≡ pair_text fs ts
  filed_text =
      let zero-first : get_or first 0 0 ≡ 0 = firsts_zero n (length fs) first f.sound in
      rows_pairs n 0 (omega arith) ∙ rw zero-first

pub pairs_rows : (n : ℕ) (froms targets : List ℕ) → Keys n froms → length froms ≡ length targets → pair_text froms targets ≡ edges_text n (first_places n froms) targets
pairs_rows n froms targets k same = sym (filed_text n (first_places n froms) froms targets (places_filed n froms k) same)

-- ---- one line

-- an E line that is read: its values pass their tests, and its bytes
line_read : (n c lf lt : ℕ) (bs vs rest : List ℕ) → edge_line n c lf lt bs ≡ values vs rest → LineRead letter_e 2 (edge_within n) (edge_ordered c lf lt) bs (get_or vs 0 0 ∷ get_or vs 1 0 ∷ []) rest
unfolding edge_line
line_read n c lf lt bs vs rest e =
    let answered = judged-line (edge_within n) (edge_ordered c lf lt) letter_e 2 bs vs rest e in
    subst (λ (us : List ℕ). LineRead letter_e 2 (edge_within n) (edge_ordered c lf lt) bs us rest) (two_of vs answered.long) answered

line_again : (n c lf lt f t : ℕ) (rest : List ℕ) → n ≤ 4096 → Edge n f t → rises c lf lt f t ≡ true → edge_line n c lf lt (print_line letter_e (f ∷ t ∷ []) ++ rest) ≡ values (f ∷ t ∷ []) rest
unfolding edge_line every
line_again n c lf lt f t rest few e r =
    let from : f < n = e.from_node in
    let to : t < n = e.to-node in
    let small : every (λ v. ltb v (10 ^ 6)) (f ∷ t ∷ []) ≡ true = rw (lt-ltb f (10 ^ 6) (omega arith), lt-ltb t (10 ^ 6) (omega arith)) in
    line-judged (edge_within n) (edge_ordered c lf lt) letter_e (f ∷ t ∷ []) rest small (edge_within_lem n f t e) (edge_ordered_lem n c lf lt f t e r)

-- ---- line after line

-- what is read after the lists l: they are a beginning of all
record PairsRead (n k : ℕ) (l l' : EdgeLists) (bs rest : List ℕ) : Type 0 where
  froms-more : List ℕ
  targets-more : List ℕ
  lists_are : l' ≡ edge_lists (l.froms ++ froms-more) (l.targets ++ targets-more)
  long : length targets-more ≡ k
  rising : Rising n (length l.targets) (last_of l.froms) (last_of l.targets) froms-more targets-more
  text : bs ≡ pair_text froms-more targets-more ++ rest

-- with the line before it
pairs_next :
    (n k : ℕ) (l l' : EdgeLists) (f t : ℕ) (bs more rest : List ℕ)
    → edge_within n (f ∷ t ∷ []) ≡ true → edge_ordered (length l.targets) (last_of l.froms) (last_of l.targets) (f ∷ t ∷ []) ≡ true
    → bs ≡ print_line letter_e (f ∷ t ∷ []) ++ more
    → PairsRead n k (edge_lists (l.froms ++ (f ∷ [])) (l.targets ++ (t ∷ []))) l' more rest
    → PairsRead n (suc k) l l' bs rest
unfolding pair_text
pairs_next n k l l' f t bs more rest within ordered text r =
    record {
      froms-more = f ∷ r.froms-more;
      targets-more = t ∷ r.targets-more;
      lists_are = r.lists_are ∙ rw (append_assoc l.froms (f ∷ []) r.froms-more, append_assoc l.targets (t ∷ []) r.targets-more);
      long = ap suc r.long;
      rising = rising_more n (length l.targets) (last_of l.froms) (last_of l.targets) f t r.froms-more r.targets-more within ordered
          (rw (last_more l.froms f, last_more l.targets t, length-append l.targets (t ∷ []), add-one (length l.targets)) at r.rising);
      text = text ∙ rw r.text (sym (append_assoc (print_line letter_e (f ∷ t ∷ [])) (pair_text r.froms-more r.targets-more) rest));
    }

pairs_read : (n k : ℕ) (l l' : EdgeLists) (at at' : ℕ) (bs rest : List ℕ) → edge_lines n k l at bs ≡ part l' at' rest → PairsRead n k l l' bs rest
unfolding edge_lines pair_text
pairs_read n zero l l' at at' bs rest e =
    record {
      froms-more = [];
      targets-more = [];
      lists_are = rw (append-nil l.froms, append-nil l.targets) (cc);
      long = refl;
      rising = rising_none n (length l.targets) (last_of l.froms) (last_of l.targets);
      text = cc;
    }
pairs_read n (suc k) l l' at at' bs rest e =
    let g = onward-part (edge_line n (length l.targets) (last_of l.froms) (last_of l.targets) bs) at _ l' at' rest e in
    let h = line_read n (length l.targets) (last_of l.froms) (last_of l.targets) bs g.0 g.1 g.2 in
    pairs_next n k l l' (get_or g.0 0 0) (get_or g.0 1 0) bs g.1 rest h.bounds h.order h.text
    (pairs_read n k _ l' (at + 1) at' g.1 rest g.3)

-- the printed pairs are read again
pairs_again :
    (n : ℕ) → n ≤ 4096 → (fs ts : List ℕ) (l : EdgeLists) (at : ℕ) (rest : List ℕ)
    → Rising n (length l.targets) (last_of l.froms) (last_of l.targets) fs ts
    → edge_lines n (length ts) l at (pair_text fs ts ++ rest) ≡ part (edge_lists (l.froms ++ fs) (l.targets ++ ts)) (at + length ts) rest
unfolding edge_lines pair_text
pairs_again n few [] [] l at rest r = rw (append-nil l.froms, append-nil l.targets, add-zero at)
pairs_again n few [] (t ∷ ts) l at rest r = absurd (omega (arith, r.same))
pairs_again n few (f ∷ fs) [] l at rest r = absurd (omega (arith, r.same))
pairs_again n few (f ∷ fs) (t ∷ ts) l at rest r =
    let next : Rising n (length (l.targets ++ (t ∷ []))) (last_of (l.froms ++ (f ∷ []))) (last_of (l.targets ++ (t ∷ []))) fs ts =
    rw (last_more l.froms f, last_more l.targets t, length-append l.targets (t ∷ []), add-one (length l.targets))
    (rising_rest n (length l.targets) (last_of l.froms) (last_of l.targets) f t fs ts r) in
    let line : at + 1 + length ts ≡ at + suc (length ts) = omega arith in
    rw (append_assoc (print_line letter_e (f ∷ t ∷ [])) (pair_text fs ts) rest, line_again n (length l.targets) (last_of l.froms) (last_of l.targets) f t (pair_text fs ts ++ rest) few (r.edge 0 (suc-le-suc zero-le)) (r.begins (suc-le-suc zero-le)))
    (pairs_again n few fs ts (edge_lists (l.froms ++ (f ∷ [])) (l.targets ++ (t ∷ []))) (at + 1) rest next
    ∙ rw (append_assoc l.froms (f ∷ []) fs, append_assoc l.targets (t ∷ []) ts, line))

-- ---- all edges

rising_read : (n k : ℕ) (fs ts : List ℕ) (bs rest : List ℕ) → Rising n 0 0 0 fs ts → length ts ≡ k → bs ≡ pair_text fs ts ++ rest → EdgesGiven n k (edge_lists fs ts) bs rest
rising_read n k fs ts bs rest r long text =
    let keys : Keys n fs = rising_keys n 0 0 0 fs ts r in
    let filed : Filed n (first_places n fs) fs = places_filed n fs keys in
    let all : length fs ≡ k = r.same ∙ long in
    record {
      targets-long = long;
      firsts-sound = subst (λ (m : ℕ). first_edges_sound n m (first_places n fs) ≡ true) all filed.sound;
      rows_sound = rising_rows n (first_places n fs) fs ts filed r.same 0 0 0 r;
      text_is = text ∙ ap (λ (b : List ℕ). b ++ rest) (pairs_rows n fs ts keys r.same);
    }

pub edges_read : (n k : ℕ) (l' : EdgeLists) (at at' : ℕ) (bs rest : List ℕ) → edge_lines n k (edge_lists [] []) at bs ≡ part l' at' rest → EdgesGiven n k l' bs rest
edges_read n k l' at at' bs rest e =
    let r = pairs_read n k (edge_lists [] []) l' at at' bs rest e in
    rw r.lists_are (rising_read n k r.froms-more r.targets-more bs rest r.rising r.long r.text)

pub edges-printed :
    (n : ℕ) (first targets : List ℕ) (at : ℕ) (rest : List ℕ) → n ≤ 4096 → first_edges_sound n (length targets) first ≡ true
    → ((u : ℕ) → u < n → row_sound n u (row_of first targets u) ≡ true) → EdgesPrinted n first targets at rest
edges-printed n first targets at rest few sound rows =
    let filed : Filed n first (keys_of first n) = keys_of_filed n (length targets) first sound in
    let same : length (keys_of first n) ≡ length targets = keys_of_long n (length targets) first sound in
    record {
      read = rw (filed_text n first (keys_of first n) targets filed same)
          (pairs_again n few (keys_of first n) targets (edge_lists [] []) at rest (rows_rising n first (keys_of first n) targets filed same rows));
      places = filed_places n first (keys_of first n) filed;
    }
