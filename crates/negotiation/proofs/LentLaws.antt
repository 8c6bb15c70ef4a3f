-- A lent turn that follows is legal at prices read off the turns before it: it joins, with no node twice, its first node alone in the tree, to the sink that it may; and its cost fits.
-- Assumes nothing.
use mathlib.Core.Bool.{Bool, true, false, not}
use mathlib.Core.List.{List, [], ◌∷◌, ◌++◌}
use mathlib.Core.Path.{◌≡◌, refl, sym, ◌∙◌, ap, subst}
use Prim.Native.Nat.{ℕ, zero, suc, ◌+◌, ◌-◌, ◌<◌}
use native.Mathlib.Nat.{not-suc-le-zero, le_of_suc-le-suc}
use native.Mathlib.Omega.{arith}
use lib.Dec.{eqb}
use lib.ListN.{length, get_or, drop}
use borrow.Author.Tests.{eqb-true}
use Rattle.price.specs.Test.{both, either}
use Rattle.price.specs.Bounds.{path_most}
use Rattle.price.specs.Lists.{neighbours, has, distinct}
use Rattle.price.proofs.TestLaws.{true≢false, both_left, both_right}
use Rattle.search.specs.Block.{Block, has_edge}
use Rattle.search.specs.Block as block
use Rattle.search.specs.Tables.{Graph}
use Rattle.search.specs.Paths.{Walk, stay, step, path_cost, JoiningPath, Fair}
use Rattle.search.proofs.BlockLaws.{graph_of_lem, edge_from, edge_to}
use Rattle.search.proofs.DistinctLaws.{distinct-short}
use Rattle.search.proofs.WalkLaws.{cost-most, stay-cost}
use Rattle.job.specs.Job.{Job, nets, net_sinks, net_criticalities}
use Rattle.negotiation.specs.Records.{Record}
use Rattle.negotiation.specs.Order.{turn_sinks}
use Rattle.negotiation.specs.Machine.{State, Progress, tree_from}
use Rattle.negotiation.specs.Resume.{unjoined, no_other, turn_price}
use Rattle.negotiation.specs.Demand.{own_tree}
use Rattle.negotiation.specs.Resumed.{LentTurn}
use Rattle.negotiation.specs.Routable.{Routable}
use Rattle.negotiation.specs.Runs.{All, Of, NetsRan, Ran}
use Rattle.negotiation.proofs.MemberLaws.{every-has, none_has}
use Rattle.negotiation.proofs.OrderLaws.{due_place, due-alone, timed_sinks, untimed-sinks}
use Rattle.negotiation.proofs.NetLaws.{turn-fair}
use Rattle.negotiation.proofs.MachineRan.{ran-ready}
use Rattle.negotiation.proofs.DemandLaws.{joining_same, own_same, price-same, turn_of_lem, tree_as}
use Rattle.negotiation.proofs.FollowLaws.{PathHolds, path_two}

-- ---- a path as a walk

-- neighbours with an edge each are a walk to the last node
edges_walk : (b : Block) (u : ℕ) (rest : List ℕ) → neighbours (has_edge b) (u ∷ rest) ≡ true → Walk b u (u ∷ rest) (get_or (u ∷ rest) (length (u ∷ rest) - 1) 0)
unfolding neighbours
edges_walk b u [] e = stay u
edges_walk b u (w ∷ rest) e =
    let n : suc (suc (length rest)) - 1 ≡ suc (suc (length rest) - 1) = omega arith in
    rw n
    (step (both_left (has_edge b u w) (neighbours (has_edge b) (w ∷ rest)) e)
    (edges_walk b w rest (both_right (has_edge b u w) (neighbours (has_edge b) (w ∷ rest)) e)))

-- a path that follows joins
pub joins_of :
    (j : Job) (i : ℕ) (price : ℕ → ℕ) (tree : List ℕ) (sink cost : ℕ) (path : List ℕ) → PathHolds j i tree sink path → cost ≡ path_cost price path
    → JoiningPath j.block price (λ v. has v tree) (turn_sinks j i tree) sink cost path
joins_of j i price tree sink cost [] h c = absurd (let two = path_two j i tree sink [] h in omega arith)
joins_of j i price tree sink cost (u ∷ rest) h c =
    record {
      start = u;
      starts_in_tree = h.begins;
      follows = subst (λ (v : ℕ). Walk j.block u (u ∷ rest) v) h.ends (edges_walk j.block u rest h.edges);
      sink-listed = h.sink-listed;
      sink_open = h.sink_open;
      costs = c;
    }

-- ---- its cost

module _ (b : Block) (g : Graph b) where
  -- a walk with a step goes over nodes of the block
  walk_nodes : {u v : ℕ} {path : List ℕ} → Walk b u path v → u < block.nodes b → (k : ℕ) → k < length path → get_or path k 0 < block.nodes b
  walk_nodes (stay u) h zero l = h
  walk_nodes (stay u) h (suc k) l = absurd (not-suc-le-zero (le_of_suc-le-suc l))
  walk_nodes (step e w) h zero l = h
  walk_nodes (step {u = u} {w = x} e w) h (suc k) l = walk_nodes w (edge_to b g u x e) k (le_of_suc-le-suc l)

  -- so one with no node twice costs less than `path_most`
  walk_below : (price : ℕ → ℕ) → Fair b price → {u v : ℕ} {path : List ℕ} → Walk b u path v → distinct path ≡ true → path_cost price path < path_most
  walk_below price fair (stay u) d = let z = stay-cost price u in let room = fair.fits in omega arith
  walk_below price fair (step {u = u} {w = x} {path = path} e w) d =
      let all : (k : ℕ) → k < length (u ∷ path) → get_or (u ∷ path) k 0 < block.nodes b = walk_nodes (step e w) (edge_from b g u x e) in
      cost-most price fair (u ∷ path) all (distinct-short (block.nodes b) (u ∷ path) d all)

-- ---- other sinks

-- no unjoined sink that the turn tries is on the path but the one that it joins
other_none :
    (sinks tree : List ℕ) (sink : ℕ) (path : List ℕ) → no_other sinks tree sink path ≡ true
    → (v : ℕ) → has v path ≡ true → has v sinks ≡ true → has v tree ≡ false → v ≡ sink
unfolding no_other unjoined
other_none sinks tree sink path all v on listed out =
    let here : either (eqb v sink) (not (both (has v sinks) (not (has v tree)))) ≡ true =
    every-has (λ x. either (eqb x sink) (not (both (has x sinks) (not (has x tree))))) path all v on in
    let same : either (eqb v sink) false ≡ true = rw (listed, out) at here in
    eqb-true v sink (either_left (eqb v sink) same)
  where
    either_left : (a : Bool) → either a false ≡ true → a ≡ true
    either_left true e = refl
    either_left false e = absurd (true≢false (sym e))

-- ---- a lent turn

-- of net i, after its own turns and all before them
module _ (j : Job) (sound : Routable j) {m i : ℕ} {rs : List Record} {s : State} {p : Progress} (r : Ran j m rs s) (hm : m < j.terms.limit)
    (n : NetsRan j s i p) (hi : i < nets j) (e : List Record) (own : All (Of i (m + 1)) e) (t : Record) (of : Of i (m + 1) t)
    (path : PathHolds j i (tree_from j i e) t.sink t.path) (cost : t.cost ≡ path_cost (turn_price j p.state i (tree_from j i e)) t.path) where
  abbrev before : List Record
  before = (rs ++ p.records) ++ e

  abbrev price : ℕ → ℕ
  price = turn_price j p.state i (tree_from j i e)

  joins : JoiningPath j.block price (λ v. has v (tree_from j i e)) (turn_sinks j i (tree_from j i e)) t.sink t.cost t.path
  joins = joins_of j i price (tree_from j i e) t.sink t.cost t.path path cost

  -- the tree is the one that is read
  tree_read_lem : own_tree j t.net t.iteration before ≡ tree_from j i e
  tree_read_lem = rw (of.net-is, of.iteration-is) (sym (own_same j sound r hm n hi e own))

  pub lent-turn : LentTurn j before t
  lent-turn =
      record {
        joins =
            turn_of_lem JoiningPath j before before t i (m + 1) of.net-is of.iteration-is refl
            (tree_as JoiningPath j i (own_same j sound r hm n hi e own)
            (joining_same j.block (graph_of_lem j.block sound.block-sound) _ _ (price-same j sound r hm n hi e own) joins));
        no_node_twice = path.once;
        first_alone = λ v on. rw tree_read_lem (none_has (tree_from j i e) (drop 1 t.path) path.new-nodes v on);
        no_other-sink =
            λ plain v on listed out.
            other_none (turn_sinks j i (tree_from j i e)) (tree_from j i e) t.sink t.path path.alone v on
            (rw (untimed-sinks j i (tree_from j i e) plain, ← of.net-is) listed) (rw tree_read_lem at out);
        sink_due_lem =
            λ timed.
            let listed : has t.sink (turn_sinks j i (tree_from j i e)) ≡ true = path.sink-listed in
            let alone = alone_of timed listed in
            rw (tree_read_lem, of.net-is) alone;
      }
    where
      alone_of : j.terms.timed ≡ true → has t.sink (turn_sinks j i (tree_from j i e)) ≡ true → turn_sinks j i (tree_from j i e) ≡ t.sink ∷ []
      alone_of timed listed =
          let is = timed_sinks j i (tree_from j i e) timed in
          let at = due_place (λ x. has x (tree_from j i e)) (net_sinks j i) (net_criticalities j i) t.sink (rw is at listed) in
          is ∙ due-alone (λ x. has x (tree_from j i e)) (net_sinks j i) (net_criticalities j i) at.0 ∙ ap (λ (x : ℕ). x ∷ []) (sym at.1)

  pub lent_below : t.cost < path_most
  lent_below =
      rw cost
      (walk_below j.block (graph_of_lem j.block sound.block-sound) price
      (turn-fair j sound p.state (ran-ready j sound r n hm) i hi (tree_from j i e)) joins.follows path.once)
