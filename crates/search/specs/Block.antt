-- Tables 1 to 4: the block as a directed graph, the routing resource graph. Nodes are numbered from 0.
-- Assumes nothing.
use Rattle.std.specs.Prelude.{Bool, List, [], ℕ, ◌+◌, length, get_or}
use Rattle.std.proofs.Math.Seq.{slice}
use Rattle.price.specs.Lists.{has}
use Rattle.search.specs.declared.Tables.{Tables}
use Rattle.search.specs.declared.Back.{Back}

pub record Block : Type 0 where
  -- 1. kind, a byte a node
  pub kinds : List ℕ
  -- 2. capacity, a byte a node
  pub capacities : List ℕ
  -- 3. first edge place
  pub first_edges : List ℕ
  -- 4. edge target
  pub edge_targets : List ℕ

-- the block of four tables
abbrev pub block_of : List ℕ → List ℕ → List ℕ → List ℕ → Block
block_of kinds capacities first_edges edge_targets =
    record { kinds = kinds; capacities = capacities; first_edges = first_edges; edge_targets = edge_targets }

-- the graph alone, where no capacity is asked for
abbrev pub graph_of : List ℕ → List ℕ → List ℕ → Block
graph_of kinds first_edges edge_targets = block_of kinds [] first_edges edge_targets

-- the node count is table 1's length
abbrev pub nodes : Block → ℕ
nodes b = length b.kinds

-- where a node's row of table 4 begins; the row ends where the next one begins
abbrev pub row_start : Block → ℕ → ℕ
row_start b u = get_or b.first_edges u 0

-- a node's row: the part of table 4 between two entries of table 3
unfoldable pub row : Block → ℕ → List ℕ
row b u = slice (row_start b u) (row_start b (u + 1)) b.edge_targets

-- there is an edge from u to v
unfoldable pub has_edge : Block → ℕ → ℕ → Bool
has_edge b u v = has v (row b u)

-- the block in the tables that a caller lends
abbrev pub block_in : Tables → Block
block_in t = block_of t.kind.now t.capacity.now t.first_edge.now t.edge_target.now

-- its graph alone
abbrev pub graph_in : Tables → Block
graph_in t = graph_of t.kind.now t.first_edge.now t.edge_target.now

-- the graph of the edges by their target, over nodes of these kinds
abbrev pub back_in : List ℕ → Back → Block
back_in kinds b = graph_of kinds b.first_back.now b.back_source.now
