-- How the tests of the tables and of a list of sinks decide: where the lengths are right, by their entries.
--     kinds_, capacities_               tables 1 and 2
--     falls_, firsts-                   table 3
--     edges-                            table 4 by its rows
--     faulty_none                       the lowest faulty table
--     sinks_, sinks-                    a list of sinks
--     delays_                           table 9
-- Assumes nothing.
use mathlib.Core.Bool.{Bool, true, false}
use mathlib.Core.List.{List, [], ◌∷◌}
use mathlib.Core.Path.{◌≡◌, refl, sym, ◌∙◌, ap}
use Prim.Native.Nat.{ℕ, suc, ◌+◌, ◌-◌, ◌≤◌, ◌<◌}
use native.Mathlib.Omega.{arith}
use lib.Dec.{leb, ltb, eqb}
use lib.ListN.{length, get_or, drop, length-drop}
use lib.Seq.{drop-cons}
use Rattle.std.specs.List.{list_all}
use borrow.Author.Tests.{le-leb, lt-ltb, eq-eqb}
use Rattle.price.specs.Test.{both}
use Rattle.price.specs.Bounds.{kind_most, capacity_most, nodes_most, delay_most}
use Rattle.price.specs.Lists.{every, neighbours, up_to}
use Rattle.price.proofs.TestLaws.{both_true, both_false_right}
use Rattle.price.proofs.ListLaws.{every-all, every-none, neighbours-all, length_up_to, get_or_up_to}
use Rattle.search.specs.Block.{Block, graph_of, nodes, row}
use Rattle.search.specs.Tables.{kinds_sound, capacities_sound, first_edges_sound, row_sound, edge_targets_sound, edges_most, faulty_table, delays_sound}
use Rattle.search.specs.Replies.{sinks_most, sink_list_sound}
use Rattle.search.proofs.BlockLaws.{faulty_of}
use Rattle.search.proofs.KeptLaws.{both_alone, every_all}

-- ---- table 1

-- the test of a kind
abbrev pub kind_sound : ℕ → Bool
kind_sound k = leb k kind_most

-- all but the kinds themselves
pub kinds_each : (ks : List ℕ) → 1 ≤ length ks → length ks ≤ nodes_most → kinds_sound ks ≡ list_all kind_sound ks
unfolding kinds_sound
kinds_each ks some few = rw (le-leb 1 (length ks) some, le-leb (length ks) nodes_most few) (every_all kind_sound ks)

-- ---- table 2

-- the test of a capacity
abbrev pub capacity_sound : ℕ → Bool
capacity_sound c = both (leb 1 c) (leb c capacity_most)

-- a byte is below the bound, so only 0 fails
capacity_byte : (cs : List ℕ) → ((i : ℕ) → get_or cs i 0 ≤ capacity_most) → every capacity_sound cs ≡ list_all (λ c. leb 1 c) cs
unfolding every
capacity_byte [] bytes = refl
capacity_byte (c ∷ cs) bytes =
    rw (le-leb c capacity_most (bytes 0), both_alone (leb 1 c)) (ap (both (leb 1 c)) (capacity_byte cs (λ i. bytes (suc i))))

pub capacities_each : (n : ℕ) (cs : List ℕ) → length cs ≡ n → ((i : ℕ) → get_or cs i 0 ≤ capacity_most) → capacities_sound n cs ≡ list_all (λ c. leb 1 c) cs
unfolding capacities_sound
capacities_each n cs long bytes = rw (eq-eqb (length cs) n long) (capacity_byte cs bytes)

-- ---- table 3

-- what is left where the entries before place v were compared, each with the one before it
pub falls_next :
    (fs : List ℕ) (v : ℕ) → 1 ≤ v → v < length fs
    → neighbours leb (drop (v - 1) fs) ≡ both (leb (get_or fs (v - 1) 0) (get_or fs v 0)) (neighbours leb (drop (v + 1 - 1) fs))
unfolding neighbours
falls_next fs v later l =
    let next : suc (v - 1) ≡ v = omega arith in
    let same : v + 1 - 1 ≡ v = omega arith in
    rw (same, drop-cons fs (v - 1) 0 (omega arith), next, drop-cons fs v 0 l)

pub falls_end : (fs : List ℕ) (v : ℕ) → length fs ≤ v → neighbours leb (drop (v - 1) fs) ≡ true
falls_end fs v end = neighbours-all leb (drop (v - 1) fs) (λ i l. absurd (omega (arith, length-drop (v - 1) fs)))

-- all but the last entry
pub firsts-last : (n edges : ℕ) (fs : List ℕ) → length fs ≡ n + 1 → get_or fs 0 0 ≡ 0 → neighbours leb fs ≡ true → first_edges_sound n edges fs ≡ eqb (get_or fs n 0) edges
unfolding first_edges_sound
firsts-last n edges fs long first h = rw (eq-eqb (length fs) (n + 1) long, eq-eqb (get_or fs 0 0) 0 first, h)

-- ---- table 4

module _ (b : Block) where
  pub edges_bad : (u : ℕ) → u < nodes b → row_sound (nodes b) u (row b u) ≡ false → edge_targets_sound b ≡ false
  unfolding edge_targets_sound
  edges_bad u h bad =
      both_false_right (leb (length b.edge_targets) edges_most) (every (λ u. row_sound (nodes b) u (row b u)) (up_to (λ u. u) (nodes b)))
      (every-none (λ u. row_sound (nodes b) u (row b u)) (up_to (λ u. u) (nodes b)) u (rw length_up_to h) (rw (get_or_up_to (λ u. u) (nodes b) u 0 h) bad))

  pub edges-all : length b.edge_targets ≤ edges_most → (u : ℕ) → nodes b ≤ u → ((k : ℕ) → k < u → row_sound (nodes b) k (row b k) ≡ true) → edge_targets_sound b ≡ true
  unfolding edge_targets_sound
  edges-all few u end all =
      both_true (le-leb (length b.edge_targets) edges_most few)
      (every-all (λ u. row_sound (nodes b) u (row b u)) (up_to (λ u. u) (nodes b))
      (λ i l.
      let node : i < nodes b = rw length_up_to at l in
      rw (get_or_up_to (λ u. u) (nodes b) i 0 node) (all i (omega arith))))

-- the rule of table 4 does not look at table 2
edges-alone : (b : Block) → edge_targets_sound (graph_of b.kinds b.first_edges b.edge_targets) ≡ edge_targets_sound b
unfolding edge_targets_sound row
edges-alone b = refl

-- ---- the lowest faulty table

-- none where every rule holds, that of table 4 read without table 2
module _ (b : Block) (p : kinds_sound b.kinds ≡ true) (q : capacities_sound (nodes b) b.capacities ≡ true) (r : first_edges_sound (nodes b) (length b.edge_targets) b.first_edges ≡ true) where
  pub faulty_none : edge_targets_sound (graph_of b.kinds b.first_edges b.edge_targets) ≡ true → faulty_table b ≡ 0
  faulty_none s =
      faulty_of b (record { kinds_sound_lem = p; capacities_sound_lem = q; first_edges_sound_lem = r; edge_targets_sound_lem = sym (edges-alone b) ∙ s })

-- ---- a list of sinks

-- all but the sinks themselves
pub sinks_each : (n : ℕ) (ss : List ℕ) → length ss ≤ sinks_most → sink_list_sound n ss ≡ list_all (λ s. ltb s n) ss
unfolding sink_list_sound
sinks_each n ss few = rw (le-leb (length ss) sinks_most few) (every_all (λ s. ltb s n) ss)

pub sinks-all : (n : ℕ) (ss : List ℕ) (i : ℕ) → length ss ≤ sinks_most → length ss ≤ i → ((k : ℕ) → k < i → get_or ss k 0 < n) → sink_list_sound n ss ≡ true
unfolding sink_list_sound
sinks-all n ss i few end all =
    both_true (le-leb (length ss) sinks_most few) (every-all (λ s. ltb s n) ss (λ k l. lt-ltb (get_or ss k 0) n (all k (omega arith))))

-- ---- table 9

-- the test of a delay
abbrev pub delay_sound : ℕ → Bool
delay_sound d = leb d delay_most

-- all but the delays themselves
pub delays_each : (n : ℕ) (ds : List ℕ) → length ds ≡ n → delays_sound n ds ≡ list_all delay_sound ds
unfolding delays_sound
delays_each n ds h = rw (eq-eqb (length ds) n h) (every_all delay_sound ds)
