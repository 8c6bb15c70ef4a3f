-- The least cost of a turn is that of a cheapest path, wherever its tree has a path to a sink that it tries. So a turn that joins is a cheapest one where it costs no more.
-- Assumes nothing.
use mathlib.Core.Bool.{true, false}
use mathlib.Core.List.{List}
use mathlib.Core.Logic.{⊎_elim}
use mathlib.Core.Path.{◌≡◌, refl, sym, ◌∙◌, ap, subst}
use Prim.Native.Nat.{ℕ, ◌≤◌, ◌<◌}
use native.Mathlib.Nat.{le_trans, le_of_eq}
use lib.ListN.{get_or}
use Rattle.price.specs.Lists.{has}
use Rattle.price.proofs.TestLaws.{true≢false, le_or_lt}
use Rattle.price.proofs.ListLaws.{has_place}
use Rattle.search.specs.Paths.{Walk, stay, step, JoiningPath, CheapestPath}
use Rattle.search.specs.Distance.{tree_has}
use Rattle.search.specs.Turn.{Turn, joins, stuck}
use Rattle.search.proofs.BlockLaws.{graph_of_lem, edge_from}
use Rattle.search.proofs.EdgeLaws.{shaped}
use Rattle.search.proofs.TurnLaws.{joins-cheapest, stuck_no_path}
use Rattle.job.specs.Job.{Job, nodes, nets}
use Rattle.negotiation.specs.Order.{turn_sinks}
use Rattle.negotiation.specs.Machine.{State, marks_of, congestion_for, turn_of}
use Rattle.negotiation.specs.Resume.{turn_price, cost_of, least_cost}
use Rattle.negotiation.specs.Routable.{Routable}
use Rattle.negotiation.proofs.OrderLaws.{turn-nodes}
use Rattle.negotiation.proofs.TreeLaws.{mark_node, mark_out}
use Rattle.negotiation.proofs.NetLaws.{StateReady, turn-fair}

module _ (j : Job) (sound : Routable j) (s : State) (ready : StateReady j s) (i : ℕ) (hi : i < nets j) (tree : List ℕ) where
  abbrev price : ℕ → ℕ
  price = turn_price j s i tree

  abbrev sinks : List ℕ
  sinks = turn_sinks j i tree

  abbrev marks : List ℕ
  marks = marks_of j tree

  abbrev Joins : (sink cost : ℕ) → List ℕ → Type 0
  Joins sink cost path = JoiningPath j.block price (λ v. has v tree) sinks sink cost path

  abbrev Cheapest : (sink cost : ℕ) → List ℕ → Type 0
  Cheapest sink cost path = CheapestPath j.block price (λ v. has v tree) sinks sink cost path

  -- ---- the tree and its marks, which only nodes have

  marked-has : (v : ℕ) → tree_has marks v ≡ true → has v tree ≡ true
  marked-has v m =
      ⊎_elim
      (λ (h : nodes j ≤ v). absurd (true≢false (sym m ∙ mark_out j tree v h)))
      (λ (h : v < nodes j). sym (mark_node j tree v h) ∙ m)
      (le_or_lt (nodes j) v)

  sink-node : (x : ℕ) → has x sinks ≡ true → x < nodes j
  sink-node x l = let at = has_place x sinks l in subst (λ (v : ℕ). v < nodes j) at.2 (turn-nodes j sound i hi tree at.0 at.1)

  sink_unmarked : (x : ℕ) → has x sinks ≡ true → has x tree ≡ false → tree_has marks x ≡ false
  sink_unmarked x l o = mark_node j tree x (sink-node x l) ∙ o

  -- a path to what the tree lacks has an edge, so it begins with a node
  start-marked : {u v : ℕ} {path : List ℕ} → Walk j.block u path v → has u tree ≡ true → has v tree ≡ false → tree_has marks u ≡ true
  start-marked (stay u) m o = absurd (true≢false (sym m ∙ o))
  start-marked (step {u} {w} e r) m o = mark_node j tree u (edge_from j.block (graph_of_lem j.block sound.block-sound) u w e) ∙ m

  -- ---- the turn that the machine would make

  pub record LeastPath : Type 0 where
    pub sink : ℕ
    pub path : List ℕ
    pub cheapest : Cheapest sink (least_cost j s i tree) path

  unmarked : {sink cost : ℕ} {path : List ℕ} → CheapestPath j.block price (tree_has marks) sinks sink cost path → Cheapest sink cost path
  unmarked {sink} c =
      let p = c.joins in
      record {
        joins =
            record {
              start = p.start;
              starts_in_tree = marked-has p.start p.starts_in_tree;
              follows = p.follows;
              sink-listed = p.sink-listed;
              sink_open = sym (mark_node j tree sink (sink-node sink p.sink-listed)) ∙ p.sink_open;
              costs = p.costs;
            };
        cheapest = λ t x other m l o w. c.cheapest t x other (start-marked w m o) l (sink_unmarked x l o) w;
      }

  least_of : (made : Turn) → turn_of j (congestion_for j s i) i tree ≡ made → {sink cost : ℕ} {path : List ℕ} → Joins sink cost path → LeastPath
  unfolding turn_of least_cost
  least_of (joins place c found) is p =
      let here : Cheapest (get_or sinks place 0) c found =
      unmarked
      (joins-cheapest j.block price marks (shaped j.block sound.block-sound) (turn-fair j sound s ready i hi tree) sinks (turn-nodes j sound i hi tree) place c found is) in
      record { sink = get_or sinks place 0; path = found; cheapest = subst (λ (x : ℕ). Cheapest (get_or sinks place 0) x found) (sym (ap cost_of is)) here }
  least_of stuck is {sink} {cost} {path} p =
      absurd
      (stuck_no_path j.block price marks (shaped j.block sound.block-sound) (turn-fair j sound s ready i hi tree) sinks (turn-nodes j sound i hi tree) is
      p.start sink path (start-marked p.follows p.starts_in_tree p.sink_open) p.sink-listed (sink_unmarked sink p.sink-listed p.sink_open) p.follows)

  -- where some path joins, the least cost is that of a cheapest one
  pub least-path : {sink cost : ℕ} {path : List ℕ} → Joins sink cost path → LeastPath
  least-path p = least_of (turn_of j (congestion_for j s i) i tree) refl p

  -- a path that costs no more is a cheapest one, and a cheapest one costs no more
  pub least-cheapest : {sink cost : ℕ} {path : List ℕ} → Joins sink cost path → cost ≤ least_cost j s i tree → Cheapest sink cost path
  least-cheapest p few =
      record { joins = p; cheapest = λ t x other m l o w. le_trans few ((least-path p).cheapest.cheapest t x other m l o w) }

  pub cheapest-least : {sink cost : ℕ} {path : List ℕ} → Cheapest sink cost path → cost ≤ least_cost j s i tree
  cheapest-least c =
      let least : LeastPath = least-path c.joins in
      let p = least.cheapest.joins in
      le_trans (c.cheapest p.start least.sink least.path p.starts_in_tree p.sink-listed p.sink_open p.follows) (le_of_eq (sym p.costs))
