-- A turn that aims has ended: no key is left, or all are above the nearest sink's distance.
--     aim_ends, aim_exactly   what its work slice says of distances, predecessors, the joined sink and the nodes that were expanded
-- Assumes nothing.
use mathlib.Core.Bool.{Bool, true, false}
use mathlib.Core.List.{List}
use mathlib.Core.Logic.{◌⊎◌, ⊎_elim}
use mathlib.Core.Path.{◌≡◌, ◌∙◌}
use Prim.Native.Nat.{ℕ, suc, ◌+◌, ◌≤◌, ◌<◌, min}
use native.Mathlib.Nat.{le_antisymm}
use native.Mathlib.Omega.{arith}
use lib.ListN.{get_or}
use Rattle.price.specs.Lists.{count_below}
use Rattle.price.proofs.TestLaws.{test_same, le_or_lt}
use Rattle.price.proofs.ListLaws.{has-at}
use Rattle.price.proofs.EntryLaws.{least_top}
use Rattle.price.proofs.BelowLaws.{count_same}
use Rattle.search.specs.Block.{Block, nodes}
use Rattle.search.specs.Distance.{far, tree_has, distances, distance}
use Rattle.search.specs.Turn.{before, open_distances, nearest_distance, nearest_place}
use Rattle.search.specs.Layout.{dist_at, entry_at, pred_at, estimate_at}
use Rattle.search.specs.Aimed.{expands_by}
use Rattle.search.specs.Aiming.{ExpandsExactly, AimDone}
use Rattle.search.specs.AimedTurn.{LeastLacking}
use Rattle.search.proofs.BeforeLaws.{before_edge, before_sum, before_lowest}
use Rattle.search.proofs.NearestLaws.{open_least, nearest}
use Rattle.search.proofs.PriceSameLaws.{beyond}
use Rattle.search.proofs.AimedLaws.{expands-near, before_expands, sink-expands}
use Rattle.search.proofs.AimedExact.{Forward, never_below, aim_all}
use Rattle.search.proofs.aimed_turn.AimState.{AimTask, est, task_consistent, Left, has_left, left_test, left_of, Aiming, aim_forward}

module _ {a : Block} {t : AimTask a} {marks sinks w₀ w head : List ℕ} {count lack best low level expanded coming : ℕ}
    (s : Aiming t marks sinks w₀ w head count lack best low level expanded) (l : LeastLacking t.scale level count lack low coming)
    (top : entry_at (nodes a) w 1 ≤ far)
    (stop : (min (entry_at (nodes a) w 1) coming ≡ far) ⊎ (best < min (entry_at (nodes a) w 1) coming)) where
  abbrev next : ℕ
  next = min (entry_at (nodes a) w 1) coming

  abbrev cost : ℕ
  cost = nearest_distance a t.price marks sinks

  abbrev true_distance : ℕ → ℕ
  true_distance v = distance a t.price marks v

  abbrev chosen : ℕ → Bool
  chosen = expands_by a t.price (est t marks sinks) marks sinks

  abbrev last : ℕ → ℕ
  last = before a t.price (distances a t.price marks)

  cost_top : cost ≤ far
  cost_top = least_top far (open_distances a t.price marks sinks)

  forward : Forward a t.price (est t marks sinks) marks sinks (dist_at w) (Left (nodes a) w) next
  forward = aim_forward s next l (omega arith) (omega arith) (omega arith)

  not_below : (v : ℕ) → v < nodes a → true_distance v ≤ dist_at w v
  not_below v h =
      never_below a t.price (est t marks sinks) marks sinks t.shape t.fair (task_consistent t marks sinks) (dist_at w) (Left (nodes a) w) next forward
      (suc (dist_at w v)) v (omega arith) h

  -- no sink that has a distance is nearer than the joined one
  best_least : cost ≤ best
  best_least =
      ⊎_elim
      (λ (q : best ≡ far). omega (arith, cost_top))
      (λ (x : (v : ℕ) × (v < nodes a) × (estimate_at (nodes a) w v ≡ 0) × (dist_at w v ≡ best)).
      let is = s.estimating.goals_only x.0 x.1 x.2 in
      omega (arith, open_least a t.price marks sinks x.0 is.0 is.1, not_below x.0 x.1, x.3))
      s.searching.best_aim.some

  -- past the joined sink's distance, all that the turn expands has left at its distance
  module _ (near : cost < far) (past : cost < next) where
    settled : (v : ℕ) → chosen v ≡ true → (dist_at w v ≡ true_distance v) × Left (nodes a) w v
    settled v x =
        aim_all a t.price (est t marks sinks) marks sinks t.shape t.fair (task_consistent t marks sinks) (dist_at w) (Left (nodes a) w) next forward
        v near past x

    -- so has the joined sink
    sink-found : best ≤ cost
    sink-found =
        let m = nearest a t.price marks sinks (λ q. absurd (omega arith)) in
        let at : ℕ = get_or sinks (nearest_place a t.price marks sinks) 0 in
        let h : at < nodes a = beyond a t.price marks at m.near in
        let listed = has-at sinks (nearest_place a t.price marks sinks) m.within in
        let x = sink-expands a t.price (est t marks sinks) marks sinks at ((task_consistent t marks sinks).zero_there at h listed m.out) m.here in
        omega (arith, (settled at x).0, m.here, s.searching.best_aim.least at h (s.estimating.goals at h listed m.out))

    -- what has left the queue is what the turn expands
    left_chosen : (x : ℕ) → x < nodes a → has_left (nodes a) w x ≡ chosen x
    left_chosen x h =
        test_same (has_left (nodes a) w x) (chosen x) (λ q. (s.searching.final x (left_of (nodes a) w x h q)).1) (λ q. left_test (nodes a) w x (settled x q).1)

    all-counted : expanded ≡ count_below chosen (nodes a)
    all-counted = s.expanding.counted ∙ count_same (has_left (nodes a) w) chosen (nodes a) left_chosen

    -- the predecessor is the lowest-numbered node over which the distance is had
    pred-last : (v : ℕ) → v < nodes a → tree_has marks v ≡ false → chosen v ≡ true → pred_at (nodes a) w v ≡ last v
    pred-last v h o x =
        let is : dist_at w v ≡ true_distance v = (settled v x).0 in
        let close : true_distance v < far = (expands-near a t.price (est t marks sinks) marks sinks v near x).1 in
        let r = s.searching.reached v h o (omega arith) in
        let sum : dist_at w v ≡ dist_at w (pred_at (nodes a) w v) + t.price v = r.sum in
        let own = (s.searching.final (pred_at (nodes a) w v) r.pred-left).0 in
        let y = before_expands a t.price (est t marks sinks) marks sinks t.shape (task_consistent t marks sinks).along t.fair v h o close x in
        let edge = before_edge a t.price marks t.shape t.fair v h o close in
        let over : true_distance (last v) + t.price v ≡ true_distance v = before_sum a t.price marks t.shape t.fair v h o close in
        let at = settled (last v) y in
        let there : dist_at w (last v) ≡ true_distance (last v) = at.0 in
        le_antisymm
        (s.searching.lowest (last v) v h o at.1 edge (omega arith))
        (before_lowest a t.price marks t.shape t.fair v h o close (pred_at (nodes a) w v) r.pred-edge (omega arith))

  best_most : best ≤ cost
  best_most =
      ⊎_elim
      (λ (q : far ≤ cost). omega (arith, s.searching.best_aim.most))
      (λ (q : cost < far).
      ⊎_elim
      (λ m. m)
      (λ (m : cost < best). sink-found q (⊎_elim (λ (e : next ≡ far). omega arith) (λ (e : best < next). omega arith) stop))
      (le_or_lt best cost))
      (le_or_lt far cost)

  past_cost : best < far → cost < next
  past_cost near =
      let m = best_least in
      ⊎_elim (λ (e : next ≡ far). omega arith) (λ (e : best < next). omega arith) stop

  near-cost : best < far → cost < far
  near-cost near = omega (arith, best_least)

  -- the theorem of request 2.13: which nodes left the queue, each once
  pub aim_exactly : best < far → ExpandsExactly (nodes a) t.edge t.price w₀ w chosen expanded
  aim_exactly near =
      record {
        order = s.expanding.order;
        steps = s.expanding.steps;
        once = s.expanding.once;
        exactly = λ v h. s.expanding.exactly v h ∙ left_chosen (near-cost near) (past_cost near) v h;
        count-is = s.expanding.count-is;
      }

  pub aim_ends : AimDone a t.price (est t marks sinks) marks sinks w best expanded
  aim_ends =
      record {
        cost_is_lem = le_antisymm best_most best_least;
        count-is = λ near. all-counted (near-cost near) (past_cost near);
        dist-least = not_below;
        dist-tree = s.searching.tree;
        dist_final = λ near v h x. (settled (near-cost near) (past_cost near) v x).0;
        pred-node = λ v h o near. (s.searching.reached v h o near).pred-left.node;
        pred-nearer = λ v h o near.
            let sum : dist_at w v ≡ dist_at w (pred_at (nodes a) w v) + t.price v = (s.searching.reached v h o near).sum in
            omega (arith, t.fair.pos v h);
        pred_final = λ near v h o x. pred-last (near-cost near) (past_cost near) v h o x;
      }
