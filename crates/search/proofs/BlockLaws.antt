-- Laws of sound tables: what each rule says at an entry, and edges by their places in table 4.
-- Assumes nothing.
use mathlib.Core.Bool.{Bool, true, false, not}
use mathlib.Core.List.{List, []}
use mathlib.Core.Logic.{⊎_elim}
use mathlib.Core.Path.{◌≡◌, refl, sym, ◌∙◌, ap}
use Prim.Native.Nat.{ℕ, zero, suc, ◌+◌, ◌-◌, ◌≤◌, ◌<◌}
use native.Mathlib.Nat.{le_trans}
use native.Mathlib.Numerals.{add-one}
use native.Mathlib.Omega.{arith}
use lib.Dec.{leb, ltb, eqb}
use lib.ListN.{length, get_or, take, get_or-eq_default}
use lib.Seq.{slice, length-slice, get_or-drop, get_or-take, drop-nil}
use borrow.Author.Tests.{leb-true, ltb-true, eqb-true, eqb-false, not-true}
use Rattle.price.specs.Test.{choose, both}
use Rattle.price.specs.Bounds.{kind_most, capacity_most, nodes_most}
use Rattle.price.specs.Lists.{neighbours, has, up_to}
use Rattle.price.proofs.TestLaws.{true≢false, both_left, both_right, le_or_lt}
use Rattle.price.proofs.ListLaws.{every-at, neighbours_at, has-at, has_place, length_up_to, get_or_up_to}
use Rattle.search.specs.Block.{Block, nodes, row_start, row, has_edge}
use Rattle.search.specs.Tables.{kinds_sound, capacities_sound, first_edges_sound, row_sound, edge_targets_sound, edges_most, faulty_table, Sound, Graph}

-- the lowest faulty table and the rules

-- where a choice is 0 and its second value is not, the test holds, and the first value is 0
chosen : (t : Bool) (a k : ℕ) → choose t a (suc k) ≡ 0 → t ≡ true
chosen true a k e = refl
chosen false a k e = absurd (let z : suc k ≡ 0 = e in omega arith)

chosen_rest : (t : Bool) (a k : ℕ) → choose t a (suc k) ≡ 0 → a ≡ 0
chosen_rest true a k e = e
chosen_rest false a k e = absurd (let z : suc k ≡ 0 = e in omega arith)

pub sound_of : (b : Block) → faulty_table b ≡ 0 → Sound b
unfolding faulty_table
sound_of b e =
    let e₂ = chosen_rest (kinds_sound b.kinds) _ 0 e in
    let e₃ = chosen_rest (capacities_sound (nodes b) b.capacities) _ 1 e₂ in
    let e₄ = chosen_rest (first_edges_sound (nodes b) (length b.edge_targets) b.first_edges) _ 2 e₃ in
    record {
      kinds_sound_lem = chosen (kinds_sound b.kinds) _ 0 e;
      capacities_sound_lem = chosen (capacities_sound (nodes b) b.capacities) _ 1 e₂;
      first_edges_sound_lem = chosen (first_edges_sound (nodes b) (length b.edge_targets) b.first_edges) _ 2 e₃;
      edge_targets_sound_lem = chosen (edge_targets_sound b) _ 3 e₄;
    }

pub faulty_of : (b : Block) → Sound b → faulty_table b ≡ 0
unfolding faulty_table
faulty_of b s = rw (s.kinds_sound_lem, s.capacities_sound_lem, s.first_edges_sound_lem, s.edge_targets_sound_lem)

-- tables 1 and 2

pub kinds_some : (ks : List ℕ) → kinds_sound ks ≡ true → 1 ≤ length ks
unfolding kinds_sound
kinds_some ks s = leb-true _ _ (both_left _ _ (both_left _ _ s))

pub kinds-few : (ks : List ℕ) → kinds_sound ks ≡ true → length ks ≤ nodes_most
unfolding kinds_sound
kinds-few ks s = leb-true _ _ (both_right (leb 1 (length ks)) _ (both_left _ _ s))

pub kind_most_lem : (ks : List ℕ) → kinds_sound ks ≡ true → (v : ℕ) → v < length ks → get_or ks v 0 ≤ kind_most
unfolding kinds_sound
kind_most_lem ks s v h = leb-true _ _ (every-at (λ k. leb k kind_most) ks (both_right (both (leb 1 (length ks)) (leb (length ks) nodes_most)) _ s) v h)

pub graph_of_lem : (b : Block) → Sound b → Graph b
graph_of_lem b s =
    record { some = kinds_some b.kinds s.kinds_sound_lem; few = kinds-few b.kinds s.kinds_sound_lem; first_edges_sound_lem = s.first_edges_sound_lem; edge_targets_sound_lem = s.edge_targets_sound_lem }

pub capacities-long : (n : ℕ) (cs : List ℕ) → capacities_sound n cs ≡ true → length cs ≡ n
unfolding capacities_sound
capacities-long n cs s = eqb-true _ _ (both_left _ _ s)

capacity_both : (n : ℕ) (cs : List ℕ) → capacities_sound n cs ≡ true → (v : ℕ) → v < n → both (leb 1 (get_or cs v 0)) (leb (get_or cs v 0) capacity_most) ≡ true
unfolding capacities_sound
capacity_both n cs s v h =
    let l : length cs ≡ n = capacities-long n cs s in
    every-at (λ c. both (leb 1 c) (leb c capacity_most)) cs (both_right (eqb (length cs) n) _ s) v (omega arith)

pub capacity_least : (n : ℕ) (cs : List ℕ) → capacities_sound n cs ≡ true → (v : ℕ) → v < n → 1 ≤ get_or cs v 0
capacity_least n cs s v h = leb-true _ _ (both_left _ _ (capacity_both n cs s v h))

pub capacity_most_lem : (n : ℕ) (cs : List ℕ) → capacities_sound n cs ≡ true → (v : ℕ) → v < n → get_or cs v 0 ≤ capacity_most
capacity_most_lem n cs s v h = leb-true _ _ (both_right (leb 1 (get_or cs v 0)) _ (capacity_both n cs s v h))

-- table 3 alone

-- what its rule says
pub firsts-long : (n m : ℕ) (fs : List ℕ) → first_edges_sound n m fs ≡ true → length fs ≡ n + 1
unfolding first_edges_sound
firsts-long n m fs s = eqb-true _ _ (both_left _ _ s)

pub firsts-end : (n m : ℕ) (fs : List ℕ) → first_edges_sound n m fs ≡ true → get_or fs n 0 ≡ m
unfolding first_edges_sound
firsts-end n m fs s =
    eqb-true _ _ (both_right (neighbours leb fs) _ (both_right (eqb (get_or fs 0 0) 0) _ (both_right (eqb (length fs) (n + 1)) _ s)))

pub firsts-order : (n m : ℕ) (fs : List ℕ) → first_edges_sound n m fs ≡ true → (u : ℕ) → u < n → get_or fs u 0 ≤ get_or fs (u + 1) 0
unfolding first_edges_sound
firsts-order n m fs s u h =
    let l : length fs ≡ n + 1 = firsts-long n m fs s in
    rw add-one (leb-true _ _ (neighbours_at leb fs (both_left _ _ (both_right (eqb (get_or fs 0 0) 0) _ (both_right (eqb (length fs) (n + 1)) _ s))) u (omega arith)))

-- no entry is above the last
firsts-below : (n m : ℕ) (fs : List ℕ) → first_edges_sound n m fs ≡ true → (d u : ℕ) → u + d ≡ n → get_or fs u 0 ≤ m
firsts-below n m fs s zero u e =
    let h : u ≡ n = omega arith in
    rw h (let f : get_or fs n 0 ≡ m = firsts-end n m fs s in omega arith)
firsts-below n m fs s (suc d) u e = le_trans (firsts-order n m fs s u (omega arith)) (firsts-below n m fs s d (u + 1) (omega arith))

pub firsts-most : (n m : ℕ) (fs : List ℕ) → first_edges_sound n m fs ≡ true → (u : ℕ) → u ≤ n → get_or fs u 0 ≤ m
firsts-most n m fs s u h = firsts-below n m fs s (n - u) u (omega arith)

-- a part of a list by the places of the whole
pub slice_at : (f t : ℕ) (l : List ℕ) (i : ℕ) → f + i < t → get_or (slice f t l) i 0 ≡ get_or l (f + i) 0
slice_at f t l i h = get_or-drop f (take t l) i 0 ∙ get_or-take t l (f + i) 0 h

-- tables 3 and 4

module _ (b : Block) (g : Graph b) where
  pub first_edges-long : length b.first_edges ≡ nodes b + 1
  first_edges-long = firsts-long _ _ _ g.first_edges_sound_lem

  pub row-order : (u : ℕ) → u < nodes b → row_start b u ≤ row_start b (u + 1)
  row-order u h = firsts-order _ _ _ g.first_edges_sound_lem u h

  pub row-end : (u : ℕ) → u ≤ nodes b → row_start b u ≤ length b.edge_targets
  row-end u h = firsts-most _ _ _ g.first_edges_sound_lem u h

  row-long : (u : ℕ) → u < nodes b → length (row b u) ≡ row_start b (u + 1) - row_start b u
  unfolding row
  row-long u h = length-slice _ _ _ (row-end (u + 1) (omega arith))

  row_at : (u i : ℕ) → row_start b u + i < row_start b (u + 1) → get_or (row b u) i 0 ≡ get_or b.edge_targets (row_start b u + i) 0
  unfolding row
  row_at u i h = slice_at _ _ _ i h

  -- the rule of the row
  row-rule : (u : ℕ) → u < nodes b → row_sound (nodes b) u (row b u) ≡ true
  unfolding edge_targets_sound
  row-rule u h =
      let rule = every-at (λ u. row_sound (nodes b) u (row b u)) (up_to (λ u. u) (nodes b)) (both_right (leb (length b.edge_targets) edges_most) _ g.edge_targets_sound_lem) u (rw length_up_to h) in
      rw (get_or_up_to (λ u. u) (nodes b) u 0 h) at rule

  -- what it says of the entry at a place
  entry_rule : (u i : ℕ) → u < nodes b → i < length (row b u) → both (ltb (get_or (row b u) i 0) (nodes b)) (not (eqb (get_or (row b u) i 0) u)) ≡ true
  unfolding row_sound
  entry_rule u i h l = every-at (λ v. both (ltb v (nodes b)) (not (eqb v u))) (row b u) (both_left _ (neighbours ltb (row b u)) (row-rule u h)) i l

  entry_node : (u i : ℕ) → u < nodes b → i < length (row b u) → get_or (row b u) i 0 < nodes b
  entry_node u i h l = ltb-true _ _ (both_left _ _ (entry_rule u i h l))

  entry_other : (u i : ℕ) → u < nodes b → i < length (row b u) → get_or (row b u) i 0 ≡ u → ⊥
  entry_other u i h l = eqb-false _ _ (not-true _ (both_right (ltb (get_or (row b u) i 0) (nodes b)) _ (entry_rule u i h l)))

  -- a place of table 4 as a place of the row
  at_place : (u k : ℕ) → u < nodes b → row_start b u ≤ k → k < row_start b (u + 1) → (i : ℕ) × (i < length (row b u)) × (get_or (row b u) i 0 ≡ get_or b.edge_targets k 0)
  at_place u k h l m =
      let long = row-long u h in
      let same : row_start b u + (k - row_start b u) ≡ k = omega arith in
      (k - row_start b u, omega arith, row_at u (k - row_start b u) (omega arith) ∙ ap (λ j. get_or b.edge_targets j 0) same)

  -- the entry at a place of u's row is a node, and not u
  pub target_node : (u k : ℕ) → u < nodes b → row_start b u ≤ k → k < row_start b (u + 1) → get_or b.edge_targets k 0 < nodes b
  target_node u k h l m =
      let p = at_place u k h l m in
      rw p.2 at (entry_node u p.0 h p.1)

  pub target_other : (u k : ℕ) → u < nodes b → row_start b u ≤ k → k < row_start b (u + 1) → get_or b.edge_targets k 0 ≡ u → ⊥
  target_other u k h l m e =
      let p = at_place u k h l m in
      entry_other u p.0 h p.1 (p.2 ∙ e)

  -- an edge stands at a place of the row, and a place of the row is an edge
  pub edge_at : (u k : ℕ) → u < nodes b → row_start b u ≤ k → k < row_start b (u + 1) → has_edge b u (get_or b.edge_targets k 0) ≡ true
  unfolding has_edge
  edge_at u k h l m =
      let p = at_place u k h l m in
      rw p.2 at (has-at (row b u) p.0 p.1)

  pub edge_place : (u v : ℕ) → u < nodes b → has_edge b u v ≡ true → (k : ℕ) × (row_start b u ≤ k) × (k < row_start b (u + 1)) × (get_or b.edge_targets k 0 ≡ v)
  unfolding has_edge
  edge_place u v h e =
      let p = has_place v (row b u) e in
      let long = row-long u h in
      let within : row_start b u + p.0 < row_start b (u + 1) = omega arith in
      (row_start b u + p.0, omega arith, within, sym (row_at u p.0 within) ∙ p.2)

  -- only nodes have edges, and only to nodes
  pub edge_from : (u v : ℕ) → has_edge b u v ≡ true → u < nodes b
  unfolding has_edge row has
  edge_from u v e =
      ⊎_elim
      (λ (h : nodes b ≤ u).
      let long = first_edges-long in
      let none : row_start b (u + 1) ≡ 0 = get_or-eq_default b.first_edges 0 (omega arith) in
      let empty : row b u ≡ [] = rw none (drop-nil (row_start b u)) in
      absurd (true≢false (sym e ∙ rw empty)))
      (λ h. h)
      (le_or_lt (nodes b) u)

  pub edge_to : (u v : ℕ) → has_edge b u v ≡ true → v < nodes b
  edge_to u v e =
      let h = edge_from u v e in
      let p = edge_place u v h e in
      rw p.3 at (target_node u p.0 h p.1 p.2)
