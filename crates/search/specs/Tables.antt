-- Document 01, "Tables and bounds": the rules of tables 1 to 4 and of table 9 of request 2.9, and the lowest of 1 to 4 that breaks its
-- rule. A table's length is part of its rule.
-- Assumes nothing.
use Rattle.std.specs.Prelude.{Bool, true, not, List, ◌≡◌, ℕ, ◌+◌, ◌≤◌, leb, ltb, eqb, length, get_or}
use Rattle.price.specs.Test.{choose, both}
use Rattle.price.specs.Bounds.{kind_most, capacity_most, nodes_most, delay_most}
use Rattle.price.specs.Lists.{every, neighbours, up_to}
use Rattle.search.specs.Block.{Block, nodes, row}

-- "at most 32,768"
abbrev pub edges_most : ℕ
edges_most = 32768

-- "1. kind, a byte a node: 1 to 4,096 nodes, codes 0 to 15", by request 2.2 to 53.
unfoldable pub kinds_sound : List ℕ → Bool
kinds_sound kinds =
    both (both (leb 1 (length kinds)) (leb (length kinds) nodes_most)) (every (λ k. leb k kind_most) kinds)

-- "2. capacity, a byte a node, 1 to 255."
unfoldable pub capacities_sound : ℕ → List ℕ → Bool
capacities_sound n capacities =
    both (eqb (length capacities) n) (every (λ c. both (leb 1 c) (leb c capacity_most)) capacities)

-- "3. first edge place, 32 bits, nodes + 1 entries: begins with 0, never falls, ends with table 4's length."
unfoldable pub first_edges_sound : ℕ → ℕ → List ℕ → Bool
first_edges_sound n edges first_edges =
    both (eqb (length first_edges) (n + 1))
    (both (eqb (get_or first_edges 0 0) 0) (both (neighbours leb first_edges) (eqb (get_or first_edges n 0) edges)))

-- "each a node, strictly rising within a node's row, never the node itself": the row of node u
unfoldable pub row_sound : ℕ → ℕ → List ℕ → Bool
row_sound n u targets = both (every (λ v. both (ltb v n) (not (eqb v u))) targets) (neighbours ltb targets)

-- "4. edge target, 16 bits, at most 32,768"
unfoldable pub edge_targets_sound : Block → Bool
edge_targets_sound b =
    both (leb (length b.edge_targets) edges_most) (every (λ u. row_sound (nodes b) u (row b u)) (up_to (λ u. u) (nodes b)))

-- "lowest table that breaks its rule", 0 where none does
unfoldable pub faulty_table : Block → ℕ
faulty_table b =
    choose (kinds_sound b.kinds)
    (choose (capacities_sound (nodes b) b.capacities)
    (choose (first_edges_sound (nodes b) (length b.edge_targets) b.first_edges)
    (choose (edge_targets_sound b) 0 4)
    3)
    2)
    1

-- request 2.9: "delay 0 to 1,000 (table 9, 16 bits a node)"
unfoldable pub delays_sound : ℕ → List ℕ → Bool
delays_sound n delays = both (eqb (length delays) n) (every (λ d. leb d delay_most) delays)

-- tables 1 to 4 keep their rules
pub record Sound (b : Block) : Type 0 where
  pub kinds_sound_lem : kinds_sound b.kinds ≡ true
  pub capacities_sound_lem : capacities_sound (nodes b) b.capacities ≡ true
  pub first_edges_sound_lem : first_edges_sound (nodes b) (length b.edge_targets) b.first_edges ≡ true
  pub edge_targets_sound_lem : edge_targets_sound b ≡ true

-- the graph keeps its rules: there are nodes, few enough, and tables 3 and 4 are sound
pub record Graph (b : Block) : Type 0 where
  pub some : 1 ≤ nodes b
  pub few : nodes b ≤ nodes_most
  pub first_edges_sound_lem : first_edges_sound (nodes b) (length b.edge_targets) b.first_edges ≡ true
  pub edge_targets_sound_lem : edge_targets_sound b ≡ true
