-- What a turn needs that can be priced: its lists have their lengths, and the numbers that price its nodes keep their bounds. Contracts of
-- private functions cite this file, here and in the crates above. It speaks of public definitions alone; no caller has to believe it.
-- Assumes nothing.
use Rattle.std.specs.Prelude.{true, List, ◌≡◌, ℕ, ◌+◌, ◌≤◌, ◌<◌, length, get_or}
use Rattle.price.specs.Bounds.{factor_most, criticality_most, nodes_most, timed_nodes_most}
use Rattle.price.specs.Timed.{WeighedInBounds}
use Rattle.search.specs.Block.{Block, nodes}
use Rattle.search.specs.Tables.{edges_most, kinds_sound, capacities_sound, delays_sound}
use Rattle.search.specs.Turn.{Congestion}
use Rattle.search.specs.Replies.{work_needed, sinks_most, node_sound}

-- every list has its length
pub record Fitted (b : Block) (c : Congestion) (marks sinks work : List ℕ) : Type 0 where
  pub some : 1 ≤ nodes b
  pub few : nodes b ≤ nodes_most
  pub capacities-long : length b.capacities ≡ nodes b
  pub firsts-long : length b.first_edges ≡ nodes b + 1
  pub targets-few : length b.edge_targets ≤ edges_most
  pub enough : work_needed (nodes b) ≤ length work
  pub histories-long : nodes b ≤ length c.histories
  pub others-long : nodes b ≤ length c.others
  pub marks_long : nodes b ≤ length marks
  pub sinks-few : length sinks ≤ sinks_most
  pub timed_few : c.weighting.timed ≡ true → nodes b ≤ timed_nodes_most
  pub delays-long : c.weighting.timed ≡ true → nodes b ≤ length c.delays

-- the numbers that price node v are there and keep the bounds of row 13; its delay only where it is weighed
pub record PriceReady (kinds capacities : List ℕ) (c : Congestion) (v : ℕ) : Type 0 where
  pub has_kind : v < length kinds
  pub has_capacity : v < length capacities
  pub has_history : v < length c.histories
  pub has-others : v < length c.others
  pub has_delay : c.weighting.timed ≡ true → v < length c.delays
  pub bounds :
      WeighedInBounds c.weighting (get_or kinds v 0) c.factor (get_or c.others v 0) (get_or capacities v 0) (get_or c.histories v 0)
      (get_or c.delays v 0)

-- a timed turn over so many nodes: these are few enough, and the delays and the criticality keep their bounds
pub record Weighable (n : ℕ) (c : Congestion) : Type 0 where
  pub few : n ≤ timed_nodes_most
  pub delays_sound_lem : delays_sound n c.delays ≡ true
  pub criticality_most_lem : c.weighting.criticality ≤ criticality_most

-- every number that prices a turn keeps its bounds
pub record PricesReady (kinds capacities : List ℕ) (c : Congestion) (marks : List ℕ) : Type 0 where
  pub kinds_sound_lem : kinds_sound kinds ≡ true
  pub capacities_sound_lem : capacities_sound (length kinds) capacities ≡ true
  pub nodes-sound : (v : ℕ) → v < length kinds → node_sound c marks v ≡ true
  pub factor_most_lem : c.factor ≤ factor_most
  pub weighable : c.weighting.timed ≡ true → Weighable (length kinds) c
