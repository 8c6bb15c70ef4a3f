-- The E lines: what one gives by its numbers, a table that is filled up to a row, and what holds between two of them.
--     rises_first, -later, -lower, -same, -least    the order of edges
--     edge_shape, -beyond, -wrong, -taken           an E line
--     filled, part_filled                           a part of a table that holds one value
--     EdgesRead                                     between two E lines
-- Assumes nothing.
use mathlib.Core.Bool.{Bool, true, false, not}
use mathlib.Core.List.{List, [], ◌∷◌, ◌++◌, append_assoc, append-nil}
use mathlib.Core.Path.{◌≡◌, refl, sym, ◌∙◌, ap, subst}
use Prim.Native.Nat.{ℕ, zero, suc, ◌+◌, ◌-◌, ◌≤◌, ◌<◌}
use native.Mathlib.Nat.{add-zero, add-suc}
use native.Mathlib.Numerals.{add-one}
use native.Mathlib.Omega.{arith}
use lib.Dec.{eqb, ltb}
use lib.ListN.{length, take, drop, set, replicate, length-append, length-take, length-drop, length-set, length-replicate, replicate-append-replicate}
use lib.Seq.{length-take-le, take-suc-set, take_at, drop-drop}
use borrow.Rule.Slice.PartMut.{put_mid}
use borrow.Author.Tests.{lt-ltb, le-ltb, eq-eqb, ne_eqb, ltb-true, eqb-true}
use Rattle.price.specs.Test.{choose}
use Rattle.price.specs.Lists.{up_to, total}
use Rattle.price.proofs.TestLaws.{by_test, both_left, both_right}
use Rattle.price.proofs.ListLaws.{total-append}
use Rattle.text.specs.Lines.{letter_e, taken, line}
use Rattle.text.specs.JobText.{values, refused, last_of, rises, edge_within, edge_ordered, edge_line, part, stopped, edge_lists, edge_lines, first_places}
use Rattle.text.specs.Steps as steps
use Rattle.text.specs.Steps.{After, fields_at, edge_at, EdgePlace, edge_tables}
use Rattle.std.specs.Prelude.{Option}
use Rattle.std.specs.Prelude.{Some, None}
use Rattle.std.specs.Prelude.{Result}
use Rattle.std.specs.Prelude.{Ok, Err}
use Rattle.text.specs.declared.fields.LineFields.{LineFields}
use Rattle.text.specs.declared.place.LineFault.{LineFault}
use Rattle.text.specs.declared.edges.Edge.{Edge}
use Rattle.text.proofs.JudgedLaws.{line-malformed, line_taken, judged-beyond, judged_wrong, judged-taken, judged-values}
use Rattle.text.proofs.LastLaws.{last_more}

-- ---- the order of edges

module _ (count lastFrom last_to from to : ℕ) where
  pub rises_first : count ≡ 0 → eqb count 0 ≡ rises count lastFrom last_to from to
  unfolding rises
  rises_first e = rw (eq-eqb count 0 e)

  pub rises_later : (count ≡ 0 → ⊥) → lastFrom < from → ltb lastFrom from ≡ rises count lastFrom last_to from to
  unfolding rises
  rises_later e l = rw (ne_eqb count 0 e, lt-ltb lastFrom from l)

  pub rises_lower : (count ≡ 0 → ⊥) → from ≤ lastFrom → (lastFrom ≡ from → ⊥) → eqb lastFrom from ≡ rises count lastFrom last_to from to
  unfolding rises
  rises_lower e l d = rw (ne_eqb count 0 e, le-ltb lastFrom from l, ne_eqb lastFrom from d)

  pub rises-same : (count ≡ 0 → ⊥) → from ≤ lastFrom → lastFrom ≡ from → ltb last_to to ≡ rises count lastFrom last_to from to
  unfolding rises
  rises-same e l d = rw (ne_eqb count 0 e, le-ltb lastFrom from l, eq-eqb lastFrom from d)

  -- an edge that rises is from no lower node
  pub rises-least : (count ≡ 0 → lastFrom ≡ 0) → rises count lastFrom last_to from to ≡ true → lastFrom ≤ from
  unfolding rises
  rises-least z r =
      by_test (eqb count 0)
      (λ e. let f : lastFrom ≡ 0 = z (eqb-true count 0 e) in omega arith)
      (λ e.
      by_test (ltb lastFrom from)
      (λ l. let f : lastFrom < from = ltb-true lastFrom from l in omega arith)
      (λ l.
      let f : lastFrom ≡ from = eqb-true lastFrom from (both_left (eqb lastFrom from) (ltb last_to to) (rw (e, l) at r)) in
      omega arith))

-- ---- an E line

module _ (n a b : ℕ) where
  pub edge-beyond_from : n ≤ a → edge_within n (a ∷ b ∷ []) ≡ false
  unfolding edge_within
  edge-beyond_from l = rw (le-ltb a n l)

  pub edge-beyond-to : a < n → n ≤ b → edge_within n (a ∷ b ∷ []) ≡ false
  unfolding edge_within
  edge-beyond-to l k = rw (lt-ltb a n l, le-ltb b n k)

  pub edge_within_lem : a < n → b < n → edge_within n (a ∷ b ∷ []) ≡ true
  unfolding edge_within
  edge_within_lem l k = rw (lt-ltb a n l, lt-ltb b n k)

module _ (count lastFrom last_to a b : ℕ) where
  pub edge_loop : a ≡ b → edge_ordered count lastFrom last_to (a ∷ b ∷ []) ≡ false
  unfolding edge_ordered
  edge_loop e = rw (eq-eqb a b e)

  pub edge_order : {r t : Bool} → (a ≡ b → ⊥) → r ≡ t → r ≡ rises count lastFrom last_to a b → edge_ordered count lastFrom last_to (a ∷ b ∷ []) ≡ t
  unfolding edge_ordered
  edge_order d q e = rw (ne_eqb a b d) (sym e ∙ q)

module _ (n count lastFrom last_to at : ℕ) (text : List ℕ) {r : Option LineFields} (read : fields_at 2 text r ≡ line letter_e 2 (drop at text)) where
  pub edge_shape : r ≡ None → refused 1 ≡ edge_line n count lastFrom last_to (drop at text)
  unfolding edge_line
  edge_shape e = rw (line-malformed 2 text read e)

  module _ {l : LineFields} (e : r ≡ Some l) where
    shape : line letter_e 2 (drop at text) ≡ taken (l.first ∷ l.second ∷ []) (drop l.next text)
    shape = line_taken 2 text read e

    pub edge-beyond : edge_within n (l.first ∷ l.second ∷ []) ≡ false → refused 2 ≡ edge_line n count lastFrom last_to (drop at text)
    unfolding edge_line
    edge-beyond i = sym (judged-beyond (edge_within n) (edge_ordered count lastFrom last_to) shape i)

    pub edge_wrong : edge_within n (l.first ∷ l.second ∷ []) ≡ true → edge_ordered count lastFrom last_to (l.first ∷ l.second ∷ []) ≡ false → refused 3 ≡ edge_line n count lastFrom last_to (drop at text)
    unfolding edge_line
    edge_wrong i o = sym (judged_wrong (edge_within n) (edge_ordered count lastFrom last_to) shape i o)

    pub edge-taken : edge_within n (l.first ∷ l.second ∷ []) ≡ true → edge_ordered count lastFrom last_to (l.first ∷ l.second ∷ []) ≡ true → values (l.first ∷ l.second ∷ []) (drop l.next text) ≡ edge_line n count lastFrom last_to (drop at text)
    unfolding edge_line
    edge-taken i o = sym (judged-taken (edge_within n) (edge_ordered count lastFrom last_to) shape i o)

-- an edge that is read rises
edge_rising : (n count lastFrom last_to : ℕ) (bs : List ℕ) {a b : ℕ} {rest : List ℕ} → values (a ∷ b ∷ []) rest ≡ edge_line n count lastFrom last_to bs → rises count lastFrom last_to a b ≡ true
unfolding edge_line edge_ordered
edge_rising n count lastFrom last_to bs {a} {b} {rest} e =
    let answered = judged-values (edge_within n) (edge_ordered count lastFrom last_to) (line letter_e 2 bs) (a ∷ b ∷ []) rest (sym e) in
    both_right (not (eqb a b)) (rises count lastFrom last_to a b) answered.order

-- ---- a part of a table that holds one value

-- the table with this value from one place up to another
abbrev pub filled : List ℕ → ℕ → ℕ → ℕ → List ℕ
filled table from to value = take from table ++ (replicate (to - from) value ++ drop to table)

-- that part, where it is lent and filled
pub part_filled :
    (table : List ℕ) (from to value : ℕ) {part : List ℕ} → from ≤ to → to ≤ length table
    → part ≡ replicate (length (take (to - from) (drop from table))) value → put_mid from (to - from) table part ≡ filled table from to value
part_filled table from to value {part} l h e =
    let long : length (take (to - from) (drop from table)) ≡ to - from = simp (length-take, length-drop) (omega arith) in
    let end : from + (to - from) ≡ to = omega arith in
    rw (e, long, drop-drop (to - from) from table, end)

filled-long : (table : List ℕ) (from k value : ℕ) → from ≤ k → k ≤ length table → length (take from table ++ replicate (k - from) value) ≡ k
filled-long table from k value l h = simp (length-append, length-take, length-replicate) (omega arith)

pub length-filled : (table : List ℕ) (from to value : ℕ) → from ≤ to → to ≤ length table → length (filled table from to value) ≡ length table
length-filled table from to value l h = simp (length-append, length-take, length-replicate, length-drop) (omega arith)

take-filled : (table : List ℕ) (from to value : ℕ) → from ≤ to → to ≤ length table → take to (filled table from to value) ≡ take from table ++ replicate (to - from) value
take-filled table from to value l h =
    rw (← append_assoc (take from table) (replicate (to - from) value) (drop to table))
    (take_at (take from table ++ replicate (to - from) value) (drop to table) to (filled-long table from to value l h))

-- a list by places whose last entries are one value
up_to_flat : (f : ℕ → ℕ) (m d value : ℕ) → ((i : ℕ) → m ≤ i → f i ≡ value) → up_to f m ++ replicate d value ≡ up_to f (m + d)
unfolding up_to
up_to_flat f m zero value flat = rw (add-zero m) (append-nil (up_to f m))
up_to_flat f m (suc d) value flat =
    let more : replicate d value ++ (value ∷ []) ≡ replicate (suc d) value = replicate-append-replicate {A = ℕ} d 1 value ∙ ap (λ (n : ℕ). replicate n value) (add-one d) in
    ap (λ (t : List ℕ). up_to f m ++ t) (sym more)
    ∙ sym (append_assoc (up_to f m) (replicate d value) (value ∷ []))
    ∙ rw (up_to_flat f m d value flat, add-suc m d, flat (m + d) (omega arith))

up_to_same_lem : (f g : ℕ → ℕ) (n : ℕ) → ((i : ℕ) → i < n → f i ≡ g i) → up_to f n ≡ up_to g n
unfolding up_to
up_to_same_lem f g zero same = refl
up_to_same_lem f g (suc n) same = rw (up_to_same_lem f g n (λ i l. same i (omega arith)), same n (omega arith))

-- ---- how many edges come before a row

abbrev before : List ℕ → ℕ → ℕ
before froms u = total (λ from. choose (ltb from u) 1 0) froms

-- one edge more, from this node
before_more : (froms : List ℕ) (from u : ℕ) → before (froms ++ (from ∷ [])) u ≡ before froms u + choose (ltb from u) 1 0
unfolding total
before_more froms from u =
    total-append (λ from. choose (ltb from u) 1 0) froms (from ∷ []) ∙ rw (add-zero (choose (ltb from u) 1 0))

-- the rows after the last edge's are filled with the number of edges
rows_filled :
    (froms table : List ℕ) (row to : ℕ) → row ≤ to → to + 1 ≤ length table → ((u : ℕ) → row < u → before froms u ≡ length froms)
    → take (row + 1) table ≡ up_to (before froms) (row + 1)
    → take (to + 1) (filled table (row + 1) (to + 1) (length froms)) ≡ up_to (before froms) (to + 1)
rows_filled froms table row to l h above e =
    let d : row + 1 + (to + 1 - (row + 1)) ≡ to + 1 = omega arith in
    take-filled table (row + 1) (to + 1) (length froms) (omega arith) h
    ∙ ap (λ (t : List ℕ). t ++ replicate (to + 1 - (row + 1)) (length froms)) e
    ∙ up_to_flat (before froms) (row + 1) (to + 1 - (row + 1)) (length froms) (λ u b. above u (omega arith))
    ∙ ap (λ (n : ℕ). up_to (before froms) n) d

-- ---- between two E lines

-- a line that is read, and one that is refused
edge_step :
    (n k count lastFrom last_to line : ℕ) (froms targets bs : List ℕ) {a b : ℕ} {rest : List ℕ} → length targets ≡ count → last_of froms ≡ lastFrom
    → last_of targets ≡ last_to → values (a ∷ b ∷ []) rest ≡ edge_line n count lastFrom last_to bs
    → edge_lines n (suc k) (edge_lists froms targets) line bs ≡ edge_lines n k (edge_lists (froms ++ (a ∷ [])) (targets ++ (b ∷ []))) (line + 1) rest
unfolding edge_lines
edge_step n k count lastFrom last_to line froms targets bs long f t e = rw (f, t, long, ← e)

edge_stop :
    (n k count lastFrom last_to line : ℕ) (froms targets bs : List ℕ) {m : ℕ} → length targets ≡ count → last_of froms ≡ lastFrom
    → last_of targets ≡ last_to → refused m ≡ edge_line n count lastFrom last_to bs
    → edge_lines n (suc k) (edge_lists froms targets) line bs ≡ stopped m line
unfolding edge_lines
edge_stop n k count lastFrom last_to line froms targets bs long f t e = rw (f, t, long, ← e)

-- k edges are in the tables, the last from this row to this target, and the next line is at this place
pub record EdgesRead (text : List ℕ) (from first nodes edges : ℕ) (firsts₀ targets₀ firsts targets : List ℕ) (at line row target k : ℕ) : Type 0 where
  pub read : k ≤ edges
  pub firsts_same : length firsts ≡ length firsts₀
  pub targets-same : length targets ≡ length targets₀
  pub at_most : at ≤ length text
  pub line-most : line ≤ at + 1
  pub row-most : row ≤ nodes
  pub froms : List ℕ
  pub froms-long : length froms ≡ k
  pub last_from : last_of froms ≡ row
  pub last-to : last_of (take k targets) ≡ target
  pub above : (u : ℕ) → row < u → before froms u ≡ length froms
  pub rows : take (row + 1) firsts ≡ up_to (before froms) (row + 1)
  pub rest_is : edge_lines nodes edges (edge_lists [] []) first (drop from text) ≡ edge_lines nodes (edges - k) (edge_lists froms (take k targets)) line (drop at text)

pub edges_none :
    (text : List ℕ) (from first nodes edges : ℕ) (firsts targets : List ℕ) → from ≤ length text → first ≤ from + 1 → nodes + 1 ≤ length firsts
    → EdgesRead text from first nodes edges (set firsts 0 0) targets (set firsts 0 0) targets from first 0 0 0
unfolding total up_to
edges_none text from first nodes edges firsts targets a l h =
    let all : edges - 0 ≡ edges = omega arith in
    record {
      read = omega arith;
      firsts_same = refl;
      targets-same = refl;
      at_most = a;
      line-most = l;
      row-most = omega arith;
      froms = [];
      froms-long = refl;
      last_from = refl;
      last-to = refl;
      above = λ u b. refl;
      rows = take-suc-set firsts 0 0 (omega arith);
      rest_is = rw all;
    }

module _
    {text : List ℕ} {from first nodes edges : ℕ} {firsts₀ targets₀ firsts targets : List ℕ} {at line row target k : ℕ} (room : (nodes + 1 ≤ length firsts₀) × (edges ≤ length targets₀))
    (s : EdgesRead text from first nodes edges firsts₀ targets₀ firsts targets at line row target k) where
  -- before the first edge the row is the first
  first_row : k ≡ 0 → row ≡ 0
  first_row e = sym s.last_from ∙ none s.froms (s.froms-long ∙ e)
    where
      none : (xs : List ℕ) → length xs ≡ 0 → last_of xs ≡ 0
      none [] z = refl
      none (x ∷ xs) z = absurd (omega arith)

  module _ (l : k < edges) where
    targets_read : length (take k targets) ≡ k
    targets_read = length-take-le k targets (omega (arith, s.targets-same, room.1))

    left : edges - k ≡ suc (edges - (k + 1))
    left = omega arith

    -- the rows from the last edge's to this one's are within the table
    pub edges_rows :
        {r : Result Edge LineFault} {d : Edge} → r ≡ Ok d → edge_at text r ≡ edge_line nodes k row target (drop at text) → EdgePlace nodes at text r
        → (row + 1 ≤ d.from + 1) × (d.from + 1 ≤ length firsts)
    edges_rows {r} {d} e answered p =
        let place : After (at + 1) text d.next × (d.from < nodes) × (d.to < nodes) = subst (λ (x : Result Edge LineFault). EdgePlace nodes at text x) e p in
        let low : row ≤ d.from = rises-least k row target d.from d.to first_row (edge_rising nodes k row target (drop at text) (sym (ap (edge_at text) e) ∙ answered)) in
        (omega arith, omega (arith, s.firsts_same, room.0, place.1))

    pub edges_more :
        {r : Result Edge LineFault} {d : Edge} {firsts' : List ℕ} → r ≡ Ok d → edge_at text r ≡ edge_line nodes k row target (drop at text)
        → EdgePlace nodes at text r → firsts' ≡ filled firsts (row + 1) (d.from + 1) k
        → EdgesRead text from first nodes edges firsts₀ targets₀ firsts' (set targets k d.to) d.next (line + 1) d.from d.to (k + 1)
    edges_more {r} {d} {firsts'} e answered p filling =
        let place : After (at + 1) text d.next × (d.from < nodes) × (d.to < nodes) = subst (λ (x : Result Edge LineFault). EdgePlace nodes at text x) e p in
        let wide : (row + 1 ≤ d.from + 1) × (d.from + 1 ≤ length firsts) = edges_rows e answered p in
        let targets-more : take (k + 1) (set targets k d.to) ≡ take k targets ++ (d.to ∷ []) = rw add-one (take-suc-set targets k d.to (omega (arith, s.targets-same, room.1))) in
        let froms-more : length (s.froms ++ (d.from ∷ [])) ≡ k + 1 = length-append s.froms (d.from ∷ []) ∙ rw s.froms-long in
        record {
          read = omega arith;
          firsts_same = rw filling (length-filled firsts (row + 1) (d.from + 1) k wide.0 wide.1) ∙ s.firsts_same;
          targets-same = length-set targets k d.to ∙ s.targets-same;
          at_most = place.0.1;
          line-most = omega (arith, s.line-most, place.0.0);
          row-most = omega (arith, place.1);
          froms = s.froms ++ (d.from ∷ []);
          froms-long = froms-more;
          last_from = last_more s.froms d.from;
          last-to = rw targets-more (last_more (take k targets) d.to);
          above = λ x b. before_more s.froms d.from x ∙ rw (s.above x (omega arith), lt-ltb d.from x b) (sym (length-append s.froms (d.from ∷ [])));
          rows =
              rw filling
              (rw s.froms-long at (rows_filled s.froms firsts row d.from (omega arith) wide.1 s.above s.rows))
              ∙ up_to_same_lem (before s.froms) (before (s.froms ++ (d.from ∷ []))) (d.from + 1)
              (λ i b. sym (before_more s.froms d.from i ∙ rw (le-ltb d.from i (omega arith), add-zero)));
          rest_is =
              s.rest_is
              ∙ rw (left, targets-more)
              (edge_step nodes (edges - (k + 1)) k row target line s.froms (take k targets) (drop at text) targets_read s.last_from s.last-to (sym (ap (edge_at text) e) ∙ answered));
        }

    pub edges_stop :
        {r : Result Edge LineFault} {m : LineFault} → r ≡ Err m → edge_at text r ≡ edge_line nodes k row target (drop at text)
        → stopped (steps.row m) line ≡ edge_tables nodes (edge_lines nodes edges (edge_lists [] []) first (drop from text))
    edges_stop {r} {m} e answered =
        let stop : edge_lines nodes edges (edge_lists [] []) first (drop from text) ≡ stopped (steps.row m) line =
        s.rest_is ∙ rw left (edge_stop nodes (edges - (k + 1)) k row target line s.froms (take k targets) (drop at text) targets_read s.last_from s.last-to (sym (ap (edge_at text) e) ∙ answered)) in
        sym (ap (edge_tables nodes) stop)

  -- the rows after the last edge's are within the table
  pub edges-last_rows : (row + 1 ≤ nodes + 1) × (nodes + 1 ≤ length firsts)
  edges-last_rows = (omega (arith, s.row-most), omega (arith, s.firsts_same, room.0))

  pub edges-end-long : {firsts' : List ℕ} → firsts' ≡ filled firsts (row + 1) (nodes + 1) edges → length firsts' ≡ length firsts₀
  edges-end-long filling = rw filling (length-filled firsts (row + 1) (nodes + 1) edges edges-last_rows.0 edges-last_rows.1 ∙ s.firsts_same)

  -- the tables after the last line
  pub edges-end :
      {firsts' : List ℕ} → edges ≤ k → firsts' ≡ filled firsts (row + 1) (nodes + 1) edges
      → part (record { first_edges = take (nodes + 1) firsts'; edge_targets = take edges targets }) line (drop at text)
      ≡ edge_tables nodes (edge_lines nodes edges (edge_lists [] []) first (drop from text))
  unfolding edge_lines first_places
  edges-end {firsts'} l filling =
      let all : k ≡ edges = omega (arith, s.read) in
      let none : edges - edges ≡ 0 = omega arith in
      let whole : take (nodes + 1) firsts' ≡ up_to (before s.froms) (nodes + 1) = rw filling (rw (s.froms-long ∙ all) at (rows_filled s.froms firsts row nodes s.row-most edges-last_rows.1 s.above s.rows)) in
      let end : edge_lines nodes edges (edge_lists [] []) first (drop from text) ≡ part (edge_lists s.froms (take edges targets)) line (drop at text) = s.rest_is ∙ rw (all, none) in
      rw whole (sym (ap (edge_tables nodes) end))
