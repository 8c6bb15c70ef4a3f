-- A turn that aims, before its first step.
--     started_queue, started_sized, started_lacking, started_out   what the sinks' estimates are given over
--     aim_begins   once the unjoined sinks have theirs, the state is one of `Aiming`, at level 0 and with no node expanded
-- Assumes nothing.
use mathlib.Core.Bool.{true, false}
use mathlib.Core.List.{List, [], ◌∷◌}
use mathlib.Core.Logic.{⊎_elim, inl, inr}
use mathlib.Core.Path.{◌≡◌, refl, sym, ◌∙◌, subst}
use Prim.Native.Nat.{ℕ, ◌+◌, ◌-◌, ◌*◌, ◌≤◌, ◌<◌}
use native.Mathlib.Omega.{arith}
use lib.Dec.{eqb}
use lib.ListN.{length, get_or}
use borrow.Author.Tests.{eq-eqb, ne_eqb}
use Rattle.price.specs.Test.{both}
use Rattle.price.specs.Lists.{has, distinct}
use Rattle.price.proofs.TestLaws.{by_test, le_or_lt, never_true, true≢false}
use Rattle.price.proofs.ListLaws.{has_place}
use Rattle.price.proofs.BelowLaws.{count_same, count_zero}
use Rattle.search.specs.Block.{Block, nodes, has_edge}
use Rattle.search.specs.Paths.{stay}
use Rattle.search.specs.Distance.{far, tree_has}
use Rattle.search.specs.Layout.{dist_at, entry_at, leaf_at, estimate_at, Tournament}
use Rattle.search.specs.Buckets.{waits}
use Rattle.search.specs.Estimates.{lacking_in, Sized, SinkGiven, SinksGiven}
use Rattle.search.specs.Aiming.{begins, spreads_one}
use Rattle.search.specs.AimedTurn.{Started}
use Rattle.search.proofs.WalkLaws.{stay-cost}
use Rattle.search.proofs.DistanceLaws.{out_of_tree}
use Rattle.search.proofs.AimedExact.{LabelWalk}
use Rattle.search.proofs.aimed_turn.AimState.{AimTask, ahead, back, weight, edge-back, Left, has_left, left_of, lacking, Estimating, Searching, Expanding, Aiming}

-- ---- tree nodes are at distance 0, and no node has an estimate

module _ {n : ℕ} {marks w₀ w : List ℕ} {trees : ℕ} (st : Started n marks w₀ w trees) where
  in_dist : (v : ℕ) → v < n → tree_has marks v ≡ true → dist_at w v ≡ 0
  in_dist v h i = st.dist v h ∙ rw i

  out-dist : (v : ℕ) → v < n → tree_has marks v ≡ false → dist_at w v ≡ far
  out-dist v h o = st.dist v h ∙ rw o

  -- every entry of the queue is `far`
  entry_far : (i : ℕ) → i < 2 * n → entry_at n w i ≡ far
  entry_far i h =
      ⊎_elim
      (λ (q : n ≤ i). subst (λ (j : ℕ). get_or w j 0 ≡ far) (omega arith) (st.none.leaves (i - n) (omega arith)))
      (λ (q : i < n). st.entries i q)
      (le_or_lt n i)

  pub started_queue : Tournament n w
  started_queue i p h = rw (entry_far i (omega arith), entry_far (2 * i) (omega arith), entry_far (2 * i + 1) (omega arith)) (omega arith)

  pub started_sized : 8 * n ≤ length w → Sized n w
  started_sized long =
      record {
        long = long;
        near = λ v h. by_test (tree_has marks v) (λ i. inr (omega (arith, in_dist v h i))) (λ o. inl (out-dist v h o));
      }

  pub started_out : (v : ℕ) → v < n → (get_or marks v 0 ≡ 1 → ⊥) → dist_at w v ≡ far
  started_out v h o = out-dist v h (out_of_tree marks v o)

  pub started_lacking : trees ≡ lacking_in n w
  started_lacking =
      st.trees_are
      ∙ count_same (tree_has marks) (λ v. both (eqb (dist_at w v) 0) (eqb (estimate_at n w v) far)) n
      (λ v h.
      by_test (tree_has marks v)
      (λ i. rw (i, eq-eqb (dist_at w v) 0 (in_dist v h i), eq-eqb (estimate_at n w v) far (st.none.estimates v h)))
      (λ o. rw (o, ne_eqb (dist_at w v) 0 (λ z. let d = out-dist v h o in omega arith))))

-- ---- the unjoined sinks have estimate 0

module _ {a : Block} (t : AimTask a) {marks sinks w₀ w w₁ head : List ℕ} {trees count lack : ℕ} (st : Started (nodes a) marks w₀ w trees)
    (long : 8 * nodes a ≤ length w) (g : SinksGiven (back t) t.base t.scale marks sinks w w₁ head count (length sinks))
    (is : lack ≡ lacking_in (nodes a) w₁) where
  abbrev n : ℕ
  n = nodes a

  tree-dist : (v : ℕ) → v < n → tree_has marks v ≡ true → dist_at w₁ v ≡ 0
  tree-dist v h i = g.same.dist v h ∙ in_dist st v h i

  other_dist : (v : ℕ) → v < n → tree_has marks v ≡ false → dist_at w₁ v ≡ far
  other_dist v h o = g.same.dist v h ∙ out-dist st v h o

  no_key : (v : ℕ) → v < n → leaf_at n w₁ v ≡ far
  no_key v h = g.leaves v h ∙ st.none.leaves v h

  -- a node has no estimate, or it is an unjoined sink
  known-sink : (v : ℕ) → v < n → estimate_at n w₁ v < far → SinkGiven (back t) marks sinks w₁ (waits g.lined) v
  known-sink v h near =
      ⊎_elim
      (λ (q : (estimate_at n w₁ v ≡ far) × (waits g.lined v ≡ false)). absurd (let e = q.0 in omega arith))
      (λ q. q)
      (g.each v h)

  tree_blank : (v : ℕ) → v < n → tree_has marks v ≡ true → estimate_at n w₁ v ≡ far
  tree_blank v h i =
      ⊎_elim
      (λ (q : (estimate_at n w₁ v ≡ far) × (waits g.lined v ≡ false)). q.0)
      (λ (q : SinkGiven (back t) marks sinks w₁ (waits g.lined) v). absurd (true≢false (sym i ∙ q.out)))
      (g.each v h)

  first_walk : (v : ℕ) → v < n → estimate_at n w₁ v < far → LabelWalk (ahead t) (weight t) marks sinks v (estimate_at n w₁ v)
  first_walk v h near =
      let k = known-sink v h near in
      record {
        path = v ∷ [];
        out = record { sink = v; node = h; listed = k.listed; out = k.out; walk = stay v };
        weighs = stay-cost (weight t) v ∙ sym k.estimate-here;
      }

  begins_estimating : Estimating t marks sinks w₁ head count 0
  begins_estimating =
      record {
        level_most_lem = omega arith;
        lined = g.lined;
        top = λ v h. ⊎_elim (λ (q : far ≤ estimate_at n w₁ v). high v h q) (λ (q : estimate_at n w₁ v < far). omega arith) (le_or_lt far (estimate_at n w₁ v));
        goals = λ s h l o.
            let p = has_place s sinks l in
            let at : get_or sinks p.0 0 ≡ s = p.2 in
            subst (λ (x : ℕ). estimate_at n w₁ x ≡ 0) at (g.goals p.0 p.1 (rw at h) (rw at o));
        goals_only = λ s h z. let k = known-sink s h (omega arith) in (k.listed, k.out);
        walks = first_walk;
        below = λ v h near. omega (arith, (known-sink v h near).estimate-here);
        spread = λ u v h near out e.
            ⊎_elim
            (λ (q : waits g.lined v ≡ true). absurd (true≢false (sym q ∙ out)))
            (λ (q : (y : ℕ) → has_edge (back t) v y ≡ true → ⊥). absurd (q u (edge-back t u v h e)))
            (known-sink v h near).spreads;
      }
    where
      high : (v : ℕ) → v < n → far ≤ estimate_at n w₁ v → estimate_at n w₁ v ≤ far
      high v h q =
          ⊎_elim
          (λ (k : (estimate_at n w₁ v ≡ far) × (waits g.lined v ≡ false)). let e = k.0 in omega arith)
          (λ (k : SinkGiven (back t) marks sinks w₁ (waits g.lined) v). omega (arith, k.estimate-here))
          (g.each v h)

  -- nothing has left the queue
  none_left : (v : ℕ) → Left n w₁ v → ⊥
  none_left v l =
      by_test (tree_has marks v)
      (λ i. omega (arith, tree_blank v l.node i, l.known))
      (λ o. omega (arith, other_dist v l.node o, l.near))

  no_left : (v : ℕ) → v < n → has_left n w₁ v ≡ false
  no_left v h = never_true (has_left n w₁ v) (λ q. none_left v (left_of n w₁ v h q))

  begins_searching : Searching t marks sinks w₁ lack far far
  begins_searching =
      record {
        long = let l = g.same.long in omega arith;
        queue = g.queue;
        dist_top = λ v h. by_test (tree_has marks v) (λ i. omega (arith, tree-dist v h i)) (λ o. omega (arith, other_dist v h o));
        tree = tree-dist;
        places = λ v h.
            by_test (tree_has marks v)
            (λ i. lacking (no_key v h) (inr (tree_blank v h i)))
            (λ o. lacking (no_key v h) (inl (other_dist v h o)));
        relaxed = λ u v h l e. absurd (none_left u l);
        reached = λ v h o near. absurd (omega (arith, other_dist v h o));
        lowest = λ u v h o l e sum. absurd (none_left u l);
        final = λ v l. absurd (none_left v l);
        best_aim =
            record {
              most = omega arith;
              least = λ v h z. omega (arith, other_dist v h (known-sink v h (omega arith)).out);
              some = inl refl;
            };
        low_aim =
            record {
              most = inl refl;
              least = λ v h e pos.
                  by_test (tree_has marks v)
                  (λ i. absurd (omega (arith, tree-dist v h i)))
                  (λ o. omega (arith, other_dist v h o));
            };
        lacking_is = is;
      }

  begins_expanding : Expanding t w w₁ 0
  unfolding has distinct
  begins_expanding =
      record {
        order = [];
        steps = spreads_one begins (λ v h. inl (g.leaves v h));
        once = refl;
        exactly = λ v h. sym (no_left v h);
        count-is = refl;
        counted = sym (count_zero (has_left n w₁) n no_left);
      }

  pub aim_begins : Aiming t marks sinks w w₁ head count lack far far 0 0
  aim_begins =
      record {
        estimating = begins_estimating;
        searching = begins_searching;
        expanding = begins_expanding;
        same-long = g.same.long;
        beyond = g.same.beyond;
      }
