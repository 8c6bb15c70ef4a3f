-- One pass over the path of a record tests what request 2.8 asks of it clause by clause.
--     path_nodes_lem                         a path that follows goes over nodes
--     path_cost_lem, path-few, path_passed   as a pass over it
--     turn_pass                          a record that follows
-- Assumes nothing.
use mathlib.Core.Bool.{Bool, true, false, not}
use mathlib.Core.List.{List, [], ◌∷◌}
use mathlib.Core.Logic.{⊎_elim}
use mathlib.Core.Path.{◌≡◌, refl, sym, ◌∙◌, ap}
use Prim.Native.Nat.{ℕ, zero, suc, ◌+◌, ◌-◌, ◌≤◌, ◌<◌}
use native.Mathlib.Omega.{arith}
use lib.Dec.{eqb}
use lib.ListN.{length, get_or}
use borrow.Author.Tests.{eqb-true, eq-eqb, ne_eqb}
use Rattle.price.specs.Test.{both, either}
use Rattle.price.specs.Lists.{has, total}
use Rattle.price.proofs.TestLaws.{by_test, true≢false, both_left, both_right, both_false_right, either_true}
use Rattle.price.proofs.ListLaws.{neighbours_at}
use Rattle.search.specs.Block.{has_edge}
use Rattle.search.specs.Tables.{Graph}
use Rattle.search.specs.Paths.{path_cost}
use Rattle.search.proofs.BlockLaws.{edge_to}
use Rattle.search.proofs.DistinctLaws.{has_rest, has_cons, lacks, distinct_cons, distinct_rest, distinct-short}
use Rattle.job.specs.Job.{Job, nodes}
use Rattle.negotiation.specs.Order.{turn_sinks}
use Rattle.negotiation.specs.Machine.{State}
use Rattle.negotiation.specs.Resume.{record_path, unjoined, no_other, cost_follows, turn_price, turn_follows}
use Rattle.negotiation.specs.ResumeSteps.{pass_cost, cost_is, frame_follows, turn_passes}
use Rattle.negotiation.proofs.MemberLaws.{every-has, every_members, none_has}
use Rattle.negotiation.proofs.TreeLaws.{TreeNodes}
use Rattle.negotiation.proofs.FollowLaws.{PathHolds, path_two, Follows, follows_of, turn_follows_lem, path-long}
use Rattle.negotiation.proofs.FrameLaws.{Frame, frame_of, frame_holds}
use Rattle.negotiation.proofs.take_up.StepPassLaws.{Marks, mark_out, mark_in, Steps, steps_pass, steps_of, final, final_is, final_on, steps-edges, steps-new, steps-once, steps_goal, steps-others, steps_from}

-- ---- a path that follows

no_both : (t : Bool) → not (both t true) ≡ true → t ≡ false
no_both true e = absurd (true≢false (sym e))
no_both false e = refl

-- a node that is no sink, or is in the tree, is no unjoined sink
no_sink : (sinks tree : List ℕ) (v : ℕ) → has v sinks ≡ false → unjoined sinks tree v ≡ false
unfolding unjoined
no_sink sinks tree v e = rw e

in_tree : (sinks tree : List ℕ) (v : ℕ) → has v tree ≡ true → unjoined sinks tree v ≡ false
unfolding unjoined
in_tree sinks tree v e = rw e (both_false_right (has v sinks) false refl)

-- and so no other one
other_none : (sinks tree : List ℕ) (sink v : ℕ) → unjoined sinks tree v ≡ false → either (eqb v sink) (not (unjoined sinks tree v)) ≡ true
other_none sinks tree sink v e = rw e (either_true (eqb v sink))

-- its nodes are the job's
pub path_nodes_lem :
    (j : Job) (g : Graph j.block) (i : ℕ) (tree : List ℕ) → TreeNodes j tree → (sink : ℕ) (path : List ℕ) → PathHolds j i tree sink path
    → (k : ℕ) → k < length path → get_or path k 0 < nodes j
path_nodes_lem j g i tree inside sink path h zero l = inside (get_or path 0 0) h.begins
path_nodes_lem j g i tree inside sink path h (suc k) l =
    edge_to j.block g (get_or path k 0) (get_or path (suc k) 0) (neighbours_at (has_edge j.block) path h.edges k l)

module _ (j : Job) (g : Graph j.block) (price : ℕ → ℕ) (i : ℕ) (tree goals marks : List ℕ) (inside : TreeNodes j tree)
    (long : length marks ≡ nodes j) (marked : Marks tree marks) (goal : Marks (turn_sinks j i tree) goals) (sink : ℕ) where
  -- its pass gives its cost
  module _ (u : ℕ) (rest : List ℕ) (h : PathHolds j i tree sink (u ∷ rest)) where
    new : (x : ℕ) → has x rest ≡ true → has x tree ≡ false
    new x on = none_has tree rest h.new-nodes x on

    last : final u rest ≡ sink
    last = sym (final_is u rest) ∙ h.ends

    -- a node of it but the sink is no goal
    no_goal : (x : ℕ) → has x rest ≡ true → (x ≡ final u rest → ⊥) → get_or goals x 0 ≡ 0
    unfolding no_other unjoined
    no_goal x on ne =
        let test : either (eqb x sink) (not (unjoined (turn_sinks j i tree) tree x)) ≡ true =
        every-has (λ v. either (eqb v sink) (not (unjoined (turn_sinks j i tree) tree v))) (u ∷ rest) h.alone x (has_rest x u rest on) in
        let joined : not (both (has x (turn_sinks j i tree)) (not (has x tree))) ≡ true = rw (ne_eqb x sink (λ e. ne (e ∙ sym last))) at test in
        let listed : not (both (has x (turn_sinks j i tree)) true) ≡ true = rw (new x on) at joined in
        goal x ∙ rw (no_both (has x (turn_sinks j i tree)) listed)

    steps_on : Steps j.block goals tree u rest
    steps_on =
        steps_from j.block goals tree u rest h.edges (distinct_rest u rest h.once) new
        (record { goal = λ l. goal (final u rest) ∙ rw (last, h.sink-listed); others = no_goal })

    first_marked : get_or marks u 0 ≡ 1
    first_marked = marked u ∙ rw h.begins

  path_cost_lem : (path : List ℕ) → PathHolds j i tree sink path → pass_cost j.block price goals marks path ≡ path_cost price path ∷ []
  unfolding pass_cost path_cost
  path_cost_lem [] h = absurd (let two = path_two j i tree sink [] h in omega arith)
  path_cost_lem (u ∷ rest) h =
      let sum : 0 + total price rest ≡ total price rest = omega arith in
      rw (eq-eqb (get_or marks u 0) 1 (first_marked u rest h), ← sum) (steps_pass j.block g price goals (steps_on u rest h) marks long marked 0)

  -- it is no longer than there are nodes
  path-few : (path : List ℕ) → PathHolds j i tree sink path → length path ≤ nodes j
  path-few path h = distinct-short (nodes j) path h.once (path_nodes_lem j g i tree inside sink path h)

  -- and a path that passes and ends in the sink follows
  module _ (u v : ℕ) (rest : List ℕ) (ends : get_or (u ∷ v ∷ rest) (length (u ∷ v ∷ rest) - 1) 0 ≡ sink) (begins : has u tree ≡ true)
      (s : Steps j.block goals tree u (v ∷ rest)) where
    reached : final v rest ≡ sink
    reached = sym (final_is u (v ∷ rest)) ∙ ends

    sink-listed : has sink (turn_sinks j i tree) ≡ true
    sink-listed = mark_in (has sink (turn_sinks j i tree)) (sym (goal sink) ∙ rw (← reached) (steps_goal s))

    sink_open : has sink tree ≡ false
    sink_open = steps-new s sink (rw (← reached) (final_on v rest))

    alone : no_other (turn_sinks j i tree) tree sink (u ∷ v ∷ rest) ≡ true
    unfolding no_other
    alone =
        every_members (λ x. either (eqb x sink) (not (unjoined (turn_sinks j i tree) tree x))) (u ∷ v ∷ rest)
        (λ x on.
        ⊎_elim
        (λ (q : x ≡ u). other_none (turn_sinks j i tree) tree sink x (in_tree (turn_sinks j i tree) tree x (rw q begins)))
        (λ (q : has x (v ∷ rest) ≡ true).
        ⊎_elim
        (λ (e : x ≡ final v rest). rw (eq-eqb x sink (e ∙ reached)))
        (λ (e : get_or goals x 0 ≡ 0).
        other_none (turn_sinks j i tree) tree sink x (no_sink (turn_sinks j i tree) tree x (mark_out (has x (turn_sinks j i tree)) (sym (goal x) ∙ e))))
        (steps-others s x q))
        (has_cons x u (v ∷ rest) on))

    path-back : PathHolds j i tree sink (u ∷ v ∷ rest)
    path-back =
        record {
          edges = steps-edges s;
          once = distinct_cons u (v ∷ rest) (lacks u (v ∷ rest) (λ h. true≢false (sym begins ∙ steps-new s u h))) (steps-once s);
          begins = begins;
          new-nodes = every_members (λ x. not (has x tree)) (v ∷ rest) (λ x h. ap not (steps-new s x h));
          ends = ends;
          sink-listed = sink-listed;
          sink_open = sink_open;
          alone = alone;
        }

  path_passed :
      (path : List ℕ) → 2 ≤ length path → get_or path (length path - 1) 0 ≡ sink → (pass_cost j.block price goals marks path ≡ [] → ⊥)
      → PathHolds j i tree sink path
  unfolding pass_cost
  path_passed [] two ends some = absurd (omega arith)
  path_passed (u ∷ []) two ends some = absurd (omega arith)
  path_passed (u ∷ v ∷ rest) two ends some =
      by_test (eqb (get_or marks u 0) 1)
      (λ t.
      path-back u v rest ends (mark_in (has u tree) (sym (marked u) ∙ eqb-true (get_or marks u 0) 1 t))
      (steps_of j.block g price goals (v ∷ rest) tree marks u 0 long marked (λ none. some (rw t none))))
      (λ t. absurd (some (rw t)))

-- ---- a record that follows

-- two tests that hold together
same_test : (a b : Bool) → (a ≡ true → b ≡ true) → (b ≡ true → a ≡ true) → a ≡ b
same_test true b there back = sym (there refl)
same_test false true there back = back refl
same_test false false there back = refl

module _ (j : Job) (g : Graph j.block) (s : State) (i : ℕ) (tree goals marks : List ℕ) (inside : TreeNodes j tree)
    (long : length marks ≡ nodes j) (marked : Marks tree marks) (goal : Marks (turn_sinks j i tree) goals) (ws : List ℕ) where
  abbrev price : ℕ → ℕ
  price = turn_price j s i tree

  abbrev costs : List ℕ
  costs = pass_cost j.block price goals marks (record_path ws)

  turn-there : Follows j s i tree ws → turn_passes j.block price goals marks s.iteration i ws ≡ true
  unfolding turn_passes cost_follows
  turn-there f =
      let n : length (record_path ws) ≡ get_or ws 5 0 = path-long ws f.is_whole in
      let two = path_two j i tree (get_or ws 2 0) (record_path ws) f.path in
      let few = path-few j g price i tree goals marks inside long marked goal (get_or ws 2 0) (record_path ws) f.path in
      let frame : Frame (nodes j) s.iteration i ws =
      record {
        is_whole = f.is_whole;
        two = omega arith;
        few = omega arith;
        iteration-is = f.iteration-is;
        net-is = f.net-is;
        ends = f.path.ends;
      } in
      rw (frame_holds frame, path_cost_lem j g price i tree goals marks inside long marked goal (get_or ws 2 0) (record_path ws) f.path) f.cost

  turn-back : turn_passes j.block price goals marks s.iteration i ws ≡ true → Follows j s i tree ws
  unfolding turn_passes cost_follows
  turn-back t =
      let cost : Bool = cost_is ws costs in
      let framed : Bool = frame_follows (nodes j) s.iteration i ws in
      let with-cost : cost ≡ true = both_right framed cost t in
      let frame : Frame (nodes j) s.iteration i ws = frame_of (both_left framed cost t) in
      let n : length (record_path ws) ≡ get_or ws 5 0 = path-long ws frame.is_whole in
      let many = frame.two in
      let path : PathHolds j i tree (get_or ws 2 0) (record_path ws) =
      path_passed j g price i tree goals marks inside long marked goal (get_or ws 2 0) (record_path ws) (omega arith) frame.ends
      (λ (none : costs ≡ []). true≢false (sym (rw none at with-cost))) in
      record {
        is_whole = frame.is_whole;
        iteration-is = frame.iteration-is;
        net-is = frame.net-is;
        path = path;
        cost = rw (path_cost_lem j g price i tree goals marks inside long marked goal (get_or ws 2 0) (record_path ws) path) at with-cost;
      }

  pub turn_pass : turn_follows j s i tree ws ≡ turn_passes j.block price goals marks s.iteration i ws
  turn_pass =
      same_test (turn_follows j s i tree ws) (turn_passes j.block price goals marks s.iteration i ws)
      (λ f. turn-there (follows_of j s i tree ws f)) (λ t. turn_follows_lem j s i tree ws (turn-back t))
