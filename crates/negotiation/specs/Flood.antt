-- What the flood from a source does to its marks and its queue, place by place. Only contracts of private functions cite this file: no
-- caller has to believe it.
-- Assumes nothing.
use Rattle.std.specs.Prelude.{true, List, ◌⊎◌, ◌≡◌, ℕ, ◌≤◌, ◌<◌, eqb, length, get_or}
use Rattle.price.specs.Lists.{count_below}
use Rattle.search.specs.Block.{Block, nodes, row_start, has_edge}
use Rattle.search.specs.Tables.{Graph}
use Rattle.search.specs.Paths.{Walk}
use Rattle.job.specs.Steps.{AllBelow}
use Rattle.negotiation.specs.Steps.{SameFrom}

-- the graph keeps its rules, source and sinks are nodes, and each node has a mark and room in the queue
pub record FloodReady (b : Block) (source : ℕ) (sinks marks work : List ℕ) : Type 0 where
  pub graph : Graph b
  pub source-node : source < nodes b
  pub sinks-nodes : AllBelow (nodes b) sinks
  pub marks_long : length marks ≡ nodes b
  pub work-long : nodes b ≤ length work

-- how many of n nodes are marked
abbrev pub marked_count : ℕ → List ℕ → ℕ
marked_count n marks = count_below (λ v. eqb (get_or marks v 0) 1) n

-- the queue is the work slice up to `end`: every marked node stands there, and no node stands there twice
pub record Queue (b : Block) (end : ℕ) (marks work : List ℕ) : Type 0 where
  pub marks_long : length marks ≡ nodes b
  pub work-long : nodes b ≤ length work
  pub bits : (v : ℕ) → v < nodes b → get_or marks v 0 ≤ 1
  pub nodes-below : (k : ℕ) → k < end → get_or work k 0 < nodes b
  pub queued : (v : ℕ) → v < nodes b → get_or marks v 0 ≡ 1 → (k : ℕ) × (k < end) × (get_or work k 0 ≡ v)
  pub counted : end ≤ marked_count (nodes b) marks

-- the targets of node u can be marked
pub record FloodRoom (b : Block) (u end : ℕ) (marks work : List ℕ) : Type 0 where
  pub graph : Graph b
  pub node : u < nodes b
  pub queue : Queue b end marks work

-- the targets of node u before place e of table 4 are marked; what was marked stays so, and u has an edge to what came into the queue
pub record RowFlooded (b : Block) (u e end last : ℕ) (marks marks' work work' : List ℕ) : Type 0 where
  pub queue : Queue b last marks' work'
  pub order : end ≤ last
  pub entries-kept : (k : ℕ) → k < end → get_or work' k 0 ≡ get_or work k 0
  pub entries-new : (k : ℕ) → k < last → end ≤ k → has_edge b u (get_or work' k 0) ≡ true
  pub marks_kept : (v : ℕ) → get_or marks v 0 ≡ 1 → get_or marks' v 0 ≡ 1
  pub targets : (k : ℕ) → k < e → row_start b u ≤ k → get_or marks' (get_or b.edge_targets k 0) 0 ≡ 1
  pub same : SameFrom (nodes b) work work'

-- a path leads from the source to each marked node; every sink is marked, or every node to which a path leads is
pub record Flooded (b : Block) (source : ℕ) (sinks marks work work' : List ℕ) : Type 0 where
  pub long : length marks ≡ nodes b
  pub bits : (v : ℕ) → v < nodes b → get_or marks v 0 ≤ 1
  pub sound : (v : ℕ) → v < nodes b → get_or marks v 0 ≡ 1 → (path : List ℕ) × Walk b source path v
  pub complete :
      ((p : ℕ) → p < length sinks → get_or marks (get_or sinks p 0) 0 ≡ 1)
      ⊎ ((v : ℕ) (path : List ℕ) → Walk b source path v → get_or marks v 0 ≡ 1)
  pub same : SameFrom (nodes b) work work'

-- the first place from `from` on whose sink is not marked, or how many sinks there are
pub record FirstUnmarked (marks sinks : List ℕ) (from place : ℕ) : Type 0 where
  pub within : place ≤ length sinks
  pub before : (p : ℕ) → p < place → from ≤ p → 0 < get_or marks (get_or sinks p 0) 0
  pub here : place < length sinks → get_or marks (get_or sinks place 0) 0 ≡ 0
