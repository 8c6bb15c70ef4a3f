-- The turns of one net from its tree: each joins a sink by a cheapest path that begins in the tree and is new to it, no node is reached twice,
-- and every sink that has a path from the source is joined. In a timed job a turn tries the one sink whose turn it is.
-- Assumes nothing.
use mathlib.Core.Bool.{Bool, true, false, not}
use mathlib.Core.List.{List, [], ◌∷◌, ◌++◌, append_assoc}
use mathlib.Core.Logic.{⊎_elim}
use mathlib.Core.Path.{◌≡◌, refl, sym, ◌∙◌, ap, subst}
use Prim.Native.Nat.{ℕ, zero, suc, ◌≤◌, ◌<◌}
use native.Mathlib.Omega.{arith}
use lib.ListN.{length, get_or, drop, get_or-eq_default}
use Rattle.price.specs.Test.{choose}
use Rattle.price.specs.Lists.{every, has, distinct, up_to}
use Rattle.price.proofs.TestLaws.{by_test, le_or_lt}
use Rattle.price.proofs.ListLaws.{has-at, has_place, length_up_to, get_or_up_to, has_append_left, has_append_right}
use Rattle.search.specs.Block.{Block}
use Rattle.search.specs.Paths.{Walk, stay, step, CheapestPath, Fair}
use Rattle.search.specs.Distance.{far, tree_has, distance}
use Rattle.search.specs.Turn.{Congestion, Turn, joins, stuck, price_at, path_to, turn}
use Rattle.search.proofs.DistinctLaws.{has_cons, has_first, lacks}
use Rattle.search.proofs.EdgeLaws.{Shaped}
use Rattle.search.proofs.PathToLaws.{path_walk, path-distinct, path_one_tree-node, path-short, path_nodes_lem}
use Rattle.search.proofs.TurnLaws.{joins-within, joins-path, joins-near, joins-cheapest, stuck_no_path}
use Rattle.job.specs.Job.{Job, nodes, net_sinks}
use Rattle.negotiation.specs.Order.{turn_sinks, turn_congestion}
use Rattle.negotiation.specs.Records.{Record, path_nodes}
use Rattle.negotiation.specs.Machine.{marks_of, turn_of, log_turn, turns_of}
use Rattle.negotiation.proofs.MemberLaws.{no_entry, has-append_split, every-has, every_members, missing, missing-none, missing-less}
use Rattle.negotiation.proofs.OrderLaws.{turn-listed}

-- all nodes of a tree are nodes
abbrev pub TreeNodes : Job → List ℕ → Type 0
TreeNodes j tree = (v : ℕ) → has v tree ≡ true → v < nodes j

-- the mark of a node says whether the tree has it
abbrev mark_of : List ℕ → ℕ → ℕ
mark_of tree v = choose (has v tree) 1 0

pub mark_node : (j : Job) (tree : List ℕ) (v : ℕ) → v < nodes j → tree_has (marks_of j tree) v ≡ has v tree
unfolding tree_has marks_of
mark_node j tree v h =
    rw (get_or_up_to (mark_of tree) (nodes j) v 0 h)
    (by_test (has v tree) (λ q. rw q) (λ q. rw q))

pub mark_out : (j : Job) (tree : List ℕ) (v : ℕ) → nodes j ≤ v → tree_has (marks_of j tree) v ≡ false
unfolding tree_has marks_of
mark_out j tree v h =
    let long : length (up_to (mark_of tree) (nodes j)) ≤ v = rw (length_up_to (mark_of tree) (nodes j)) h in
    rw (get_or-eq_default (up_to (mark_of tree) (nodes j)) 0 long)

pub mark_is : (j : Job) (tree : List ℕ) → TreeNodes j tree → (v : ℕ) → tree_has (marks_of j tree) v ≡ has v tree
mark_is j tree all v =
    ⊎_elim
    (λ (q : nodes j ≤ v).
    mark_out j tree v q ∙ sym (lacks v tree (λ m. let h : v < nodes j = all v m in absurd (omega arith))))
    (λ (q : v < nodes j). mark_node j tree v q)
    (le_or_lt (nodes j) v)

-- a path begins with the node that it starts from, and has the node that it ends in
walk_first : {b : Block} {u v : ℕ} {path : List ℕ} → Walk b u path v → get_or path 0 0 ≡ u
walk_first (stay u) = refl
walk_first (step e w) = refl

walk_some : {b : Block} {u v : ℕ} {path : List ℕ} → Walk b u path v → 1 ≤ length path
walk_some (stay u) = omega arith
walk_some (step e w) = omega arith

walk_last : {b : Block} {u v : ℕ} {path : List ℕ} → Walk b u path v → has v path ≡ true
walk_last (stay u) = has_first u []
walk_last (step {u = u} {v = v} {path = path} e w) = has_append_right v (u ∷ []) path (walk_last w)

-- a path that a turn of net i adds to its tree
pub record TreeTurn (j : Job) (c : Congestion) (i : ℕ) (tree : List ℕ) (sink cost : ℕ) (path : List ℕ) : Type 0 where
  pub cheapest : CheapestPath j.block (price_at j.block (turn_congestion j c i tree)) (λ v. has v tree) (turn_sinks j i tree) sink cost path
  pub begins : has (get_or path 0 0) tree ≡ true
  pub new-nodes : every (λ v. not (has v tree)) (drop 1 path) ≡ true
  pub path-distinct : distinct path ≡ true
  pub path_some : 1 ≤ length path
  pub path-short : length path ≤ nodes j
  pub path_nodes_lem : (k : ℕ) → k < length path → get_or path k 0 < nodes j
  pub ends : has sink path ≡ true

-- the records of so many turns of net i from a tree
pub data Turns (j : Job) (t : ℕ) (c : Congestion) (i : ℕ) : ℕ → List ℕ → List Record → Type 0 where
  none : {tree : List ℕ} → Turns j t c i 0 tree []
  stop : {k : ℕ} {tree : List ℕ} → turn_of j c i tree ≡ stuck → Turns j t c i (suc k) tree []
  more : {k : ℕ} {tree : List ℕ} {r : Record} {rs : List Record} → r.iteration ≡ t → r.net ≡ i → TreeTurn j c i tree r.sink r.cost r.path
      → Turns j t c i k (tree ++ r.path) rs → Turns j t c i (suc k) tree (r ∷ rs)

-- the same tree, as a test that agrees at every node
same-tree : {b : Block} {price : ℕ → ℕ} {old new : ℕ → Bool} {sinks : List ℕ} {sink cost : ℕ} {path : List ℕ} → ((v : ℕ) → old v ≡ new v) → CheapestPath b price old sinks sink cost path → CheapestPath b price new sinks sink cost path
same-tree {sink = sink} same p =
    let joins = p.joins in
    record {
      joins =
          record {
            start = joins.start;
            starts_in_tree = sym (same joins.start) ∙ joins.starts_in_tree;
            follows = joins.follows;
            sink-listed = joins.sink-listed;
            sink_open = sym (same sink) ∙ joins.sink_open;
            costs = joins.costs;
          };
      cheapest = λ t s other m l o w. p.cheapest t s other (same t ∙ m) l (same s ∙ o) w;
    }

module _ (j : Job) (c : Congestion) (i : ℕ) (g : Shaped j.block) (fair : (tree : List ℕ) → Fair j.block (price_at j.block (turn_congestion j c i tree))) (all-nodes : (tree : List ℕ) (k : ℕ) → k < length (turn_sinks j i tree) → get_or (turn_sinks j i tree) k 0 < nodes j) where
  -- a turn that joins
  module _ (tree : List ℕ) (all : TreeNodes j tree) (place cost : ℕ) (path : List ℕ) (is : turn_of j c i tree ≡ joins place cost path) where
    abbrev price : ℕ → ℕ
    price = price_at j.block (turn_congestion j c i tree)

    abbrev marks : List ℕ
    marks = marks_of j tree

    abbrev sinks : List ℕ
    sinks = turn_sinks j i tree

    abbrev sink : ℕ
    sink = get_or sinks place 0

    turn_is : turn j.block price marks sinks ≡ joins place cost path
    unfolding turn_of
    turn_is = is

    joined-path : path ≡ path_to j.block price marks sink
    joined-path = joins-path j.block price marks g (fair tree) sinks (all-nodes tree) place cost path turn_is

    joined-node : sink < nodes j
    joined-node = all-nodes tree place (joins-within j.block price marks g (fair tree) sinks (all-nodes tree) place cost path turn_is)

    joined-near : distance j.block price marks sink < far
    joined-near = joins-near j.block price marks g (fair tree) sinks (all-nodes tree) place cost path turn_is

    joined_walk : (u : ℕ) × (u < nodes j) × (tree_has marks u ≡ true) × Walk j.block u path sink
    joined_walk =
        let w = path_walk j.block price marks g (fair tree) sink joined-node joined-near in
        (w.0, w.1, w.2, subst (λ (p : List ℕ). Walk j.block w.0 p sink) (sym joined-path) w.3)

    joined-new : every (λ v. not (has v tree)) (drop 1 path) ≡ true
    joined-new =
        let out : every (λ v. not (tree_has marks v)) (drop 1 path) ≡ true = subst (λ (p : List ℕ). every (λ v. not (tree_has marks v)) (drop 1 p) ≡ true) (sym joined-path) (path_one_tree-node j.block price marks g (fair tree) sink joined-node joined-near) in
        every_members (λ v. not (has v tree)) (drop 1 path)
        (λ v m. ap not (sym (mark_is j tree all v)) ∙ every-has (λ u. not (tree_has marks u)) (drop 1 path) out v m)

    turn-joins : TreeTurn j c i tree sink cost path
    turn-joins =
        record {
          cheapest = same-tree (mark_is j tree all) (joins-cheapest j.block price marks g (fair tree) sinks (all-nodes tree) place cost path turn_is);
          begins = rw (walk_first joined_walk.3) (sym (mark_is j tree all joined_walk.0) ∙ joined_walk.2);
          new-nodes = joined-new;
          path-distinct = subst (λ (p : List ℕ). distinct p ≡ true) (sym joined-path) (path-distinct j.block price marks g (fair tree) sink joined-node joined-near);
          path_some = walk_some joined_walk.3;
          path-short = subst (λ (p : List ℕ). length p ≤ nodes j) (sym joined-path) (path-short j.block price marks g (fair tree) sink joined-node joined-near);
          path_nodes_lem = subst (λ (p : List ℕ). (k : ℕ) → k < length p → get_or p k 0 < nodes j) (sym joined-path) (path_nodes_lem j.block price marks g (fair tree) sink joined-node joined-near);
          ends = walk_last joined_walk.3;
        }

  -- the tree with a path
  grown-nodes : (tree path : List ℕ) → TreeNodes j tree → ((k : ℕ) → k < length path → get_or path k 0 < nodes j) → TreeNodes j (tree ++ path)
  grown-nodes tree path all short v m =
      ⊎_elim
      (λ (q : has v tree ≡ true). all v q)
      (λ (q : has v path ≡ true). let at = has_place v path q in rw at.2 at (short at.0 at.1))
      (has-append_split v tree path m)

  -- a turn and the rest
  turns_step :
      (t k : ℕ) → ((tree : List ℕ) → TreeNodes j tree → Turns j t c i k tree (turns_of j t c i k tree))
      → (tree : List ℕ) → TreeNodes j tree → (turn : Turn) → turn_of j c i tree ≡ turn → Turns j t c i (suc k) tree (log_turn j t i tree turn (turns_of j t c i k))
  turns_step t k rest tree all stuck is = stop is
  turns_step t k rest tree all (joins place cost path) is =
      let joined = turn-joins tree all place cost path is in
      more refl refl joined (rest (tree ++ path) (grown-nodes tree path all joined.path_nodes_lem))

  pub turns_are : (t k : ℕ) (tree : List ℕ) → TreeNodes j tree → Turns j t c i k tree (turns_of j t c i k tree)
  unfolding turns_of
  turns_are t zero tree all = none
  turns_are t (suc k) tree all = turns_step t k (turns_are t k) tree all (turn_of j c i tree) refl

  -- a stuck turn leaves no path from the tree to a sink that it tries and the tree lacks
  stuck-none :
      (tree : List ℕ) → TreeNodes j tree → turn_of j c i tree ≡ stuck
      → (from x : ℕ) (path : List ℕ) → has from tree ≡ true → has x (turn_sinks j i tree) ≡ true → has x tree ≡ false → Walk j.block from path x → ⊥
  unfolding turn_of
  stuck-none tree all is from x path at m o w =
      stuck_no_path j.block (price_at j.block (turn_congestion j c i tree)) (marks_of j tree) g (fair tree) (turn_sinks j i tree) (all-nodes tree) is from x path (mark_is j tree all from ∙ at) m (mark_is j tree all x ∙ o) w

  -- every sink is joined where each has a path from a node of the tree, if a turn tries some sink as long as the tree lacks one
  pub turns_join :
      ((tree : List ℕ) (x : ℕ) → has x (net_sinks j i) ≡ true → has x tree ≡ false → (y : ℕ) × (has y (turn_sinks j i tree) ≡ true) × (has y tree ≡ false))
      → {t k : ℕ} {tree : List ℕ} {rs : List Record} → Turns j t c i k tree rs → TreeNodes j tree → missing tree (net_sinks j i) ≤ k
      → (from : ℕ) → has from tree ≡ true → ((x : ℕ) → has x (net_sinks j i) ≡ true → (path : List ℕ) × Walk j.block from path x)
      → (x : ℕ) → has x (net_sinks j i) ≡ true → has x (tree ++ path_nodes rs) ≡ true
  unfolding path_nodes
  turns_join some {tree = tree} none all few from at reach x m =
      has_append_left x tree [] (missing-none tree (net_sinks j i) (omega arith) x m)
  turns_join some {tree = tree} (stop is) all few from at reach x m =
      has_append_left x tree []
      (by_test (has x tree)
      (λ q. q)
      (λ q.
      let y = some tree x m q in
      let p = reach y.0 (turn-listed j i tree y.0 y.1) in
      absurd (stuck-none tree all is from y.0 p.0 at y.1 y.2 p.1)))
  turns_join some {tree = tree} (more {r = r} {rs = rs} a b joined rest) all few from at reach x m =
      let grown : List ℕ = tree ++ r.path in
      let less : missing grown (net_sinks j i) < missing tree (net_sinks j i) =
      missing-less tree grown (net_sinks j i) r.sink (λ v h. has_append_left v tree r.path h)
      (turn-listed j i tree r.sink joined.cheapest.joins.sink-listed) joined.cheapest.joins.sink_open (has_append_right r.sink tree r.path joined.ends) in
      subst (λ (l : List ℕ). has x l ≡ true) (append_assoc tree r.path (path_nodes rs))
      (turns_join some rest (grown-nodes tree r.path all joined.path_nodes_lem) (omega arith) from (has_append_left from tree r.path at) reach x m)

-- an entry of a list of one
pub only_entry : (x y : ℕ) → has x (y ∷ []) ≡ true → x ≡ y
only_entry x y h = ⊎_elim (λ q. q) (λ q. absurd (no_entry x q)) (has_cons x y [] h)

-- where the records join another node than the source, the first path begins with the source
pub turns-source :
    (j : Job) (c : Congestion) (i from : ℕ) {t k : ℕ} {tree : List ℕ} {rs : List Record} → Turns j t c i k tree rs → tree ≡ from ∷ []
    → (x : ℕ) → (x ≡ from → ⊥) → has x (tree ++ path_nodes rs) ≡ true → has from (path_nodes rs) ≡ true
unfolding path_nodes
turns-source j c i from none e x other m = absurd (other (only_entry x from (rw e at m)))
turns-source j c i from (stop is) e x other m = absurd (other (only_entry x from (rw e at m)))
turns-source j c i from (more {r = r} {rs = rs} a b joined rest) e x other m =
    let first : get_or r.path 0 0 ≡ from = only_entry (get_or r.path 0 0) from (rw e at joined.begins) in
    has_append_left from r.path (path_nodes rs)
    (subst (λ (v : ℕ). has v r.path ≡ true) first (has-at r.path 0 joined.path_some))
