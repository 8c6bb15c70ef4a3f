-- A node is expanded in a turn that aims: of the node that is taken, and what holds after its edges have been looked at.
--     taken_final   the node that is taken has its distance, and the turn expands it
--     expand_ready  no sum over its edges wraps
--     expand_more   what holds before an expansion holds after it
--     expand_blanks as many nodes lack an estimate
-- Assumes nothing.
use mathlib.Core.Bool.{true, false}
use mathlib.Core.List.{List, ◌∷◌}
use mathlib.Core.Logic.{◌⊎◌, ⊎_elim, inl, inr}
use mathlib.Core.Path.{◌≡◌, sym, ◌∙◌, ap, subst}
use Prim.Native.Nat.{ℕ, ◌+◌, ◌*◌, ◌≤◌, ◌<◌}
use native.Mathlib.Nat.{le_antisymm, le_refl}
use native.Mathlib.Omega.{arith}
use lib.Dec.{eqb}
use borrow.Author.Tests.{eq-eqb, ne_eqb}
use Rattle.price.specs.Test.{both}
use Rattle.price.specs.Bounds.{path_most}
use Rattle.price.specs.Lists.{has, count_below}
use Rattle.price.proofs.TestLaws.{test_same, le_or_lt, never_true, same_or_not}
use Rattle.price.proofs.BelowLaws.{count_one, count_same}
use Rattle.search.specs.Block.{Block, nodes, has_edge}
use Rattle.search.specs.Distance.{far, tree_has, distance}
use Rattle.search.specs.Aimed.{expands_by}
use Rattle.search.specs.Layout.{dist_at, entry_at, leaf_at, link_at, pred_at, estimate_at}
use Rattle.search.specs.Estimates.{lacking_in}
use Rattle.search.specs.Aiming.{AimedAt, at-kept, at-shorter, at_lower, BestAim, LowAim, Expanded, ExpandReady, expands_one}
use Rattle.search.specs.AimedTurn.{LeastLacking}
use Rattle.search.proofs.DistinctLaws.{distinct_cons}
use Rattle.search.proofs.DistanceLaws.{distance_step, distance_most}
use Rattle.search.proofs.AimedExact.{aim_settles}
use Rattle.search.proofs.aimed_turn.AimState.{AimTask, est, task_consistent, Left, has_left, left_test, left_of, Place, gone, waiting, lacking, AimReached, Searching, Expanding, Aiming, exact, few, estimating_kept, aim_forward, blanks}

module _ {a : Block} {t : AimTask a} {marks sinks w₀ w head : List ℕ} {count lack best low level expanded coming : ℕ}
    (s : Aiming t marks sinks w₀ w head count lack best low level expanded) (l : LeastLacking t.scale level count lack low coming)
    (near : entry_at (nodes a) w 1 < far) (next : entry_at (nodes a) w 1 ≤ coming) (most : entry_at (nodes a) w 1 ≤ best) where
  abbrev n : ℕ
  n = nodes a

  -- ---- a node is taken: the least entry is its key, and no sink is nearer so far

  module _ (u : ℕ) (node : u < nodes a) (first : leaf_at (nodes a) w u ≡ entry_at (nodes a) w 1) where
    -- it waits at its distance and estimate together
    at_key : (dist_at w u + estimate_at n w u ≡ entry_at n w 1) × (dist_at w u < far) × (estimate_at n w u < far)
    at_key = by (s.searching.places u node)
      where
        by : Place n w u → (dist_at w u + estimate_at n w u ≡ entry_at n w 1) × (dist_at w u < far) × (estimate_at n w u < far)
        by (gone g) = absurd (omega (arith, g.left))
        by (waiting d e key less) = (sym key ∙ first, d, e)
        by (lacking key none) = absurd (omega arith)

    pub taken_final : (dist_at w u ≡ distance a t.price marks u) × (expands_by a t.price (est t marks sinks) marks sinks u ≡ true)
    taken_final =
        let key = at_key in
        let sum : dist_at w u + estimate_at n w u ≡ entry_at n w 1 = key.0 in
        let is : estimate_at n w u ≡ est t marks sinks u = exact s.estimating u node key.2 in
        aim_settles a t.price (est t marks sinks) marks sinks t.shape t.fair (task_consistent t marks sinks) (dist_at w) (Left n w) (entry_at n w 1)
        (aim_forward s (entry_at n w 1) l (le_refl _) next (omega arith)) u node (omega arith) near
        (λ x h li o. omega (arith, s.searching.best_aim.least x h (s.estimating.goals x h li o)))

    pub taken-near : dist_at w u < path_most
    taken-near =
        let is = taken_final.0 in
        let key = at_key.1 in
        let m = distance_most a t.price marks t.shape t.fair u node (omega arith) in
        omega arith

  pub expand_ready : ExpandReady n w
  expand_ready =
      record {
        some = t.some;
        long = s.searching.long;
        queue = s.searching.queue;
        near = taken-near;
        estimates = λ v h known.
            let top = s.estimating.top v h in
            few s.estimating v h (⊎_elim (λ (q : far ≤ estimate_at n w v). absurd (known (le_antisymm top q))) (λ q. q) (le_or_lt far (estimate_at n w v)));
      }

  -- ---- it leaves the queue, and its edges are looked at

  module _ {w₂ : List ℕ} (u : ℕ) (x₀ : Expanded (nodes a) t.edge t.price w w₂ u) where
    abbrev w₁ : List ℕ
    w₁ = x₀.taken

    node : u < nodes a
    node = x₀.is-node

    final : (dist_at w u ≡ distance a t.price marks u) × (expands_by a t.price (est t marks sinks) marks sinks u ≡ true)
    final = taken_final u x₀.is-node x₀.first

    key_here : (dist_at w u + estimate_at n w u ≡ entry_at n w 1) × (dist_at w u < far) × (estimate_at n w u < far)
    key_here = at_key u x₀.is-node x₀.first

    estimate-kept : (x : ℕ) → x < n → estimate_at n w₂ x ≡ estimate_at n w x
    estimate-kept x h = x₀.row.some.high (6 * n + x) (omega arith) ∙ x₀.out.high (6 * n + x) (omega arith)

    pub link_kept : (x : ℕ) → x < n → link_at n w₂ x ≡ link_at n w x
    link_kept x h = x₀.row.some.link_same x h ∙ x₀.out.high (3 * n + x) (omega arith)

    -- a way over it and an estimate are below `far`
    way_fits : (x : ℕ) → x < n → (dist_at w u + t.price x < far) × (estimate_at n w x < far → dist_at w u + t.price x + estimate_at n w x < far)
    way_fits x h =
        let close = taken-near u x₀.is-node x₀.first in
        let p = t.fair.most x h in
        let c = t.fair.low in
        (omega arith, λ k. omega (arith, few s.estimating x h k))

    edge_here : (x : ℕ) → x < n → t.edge u x ≡ true → has_edge a u x ≡ true
    edge_here x h e = t.counts u x node h ∙ e

    -- what has become of a node, in terms of what was before
    data Went (x : ℕ) : Type 0 where
      went_kept : dist_at w₂ x ≡ dist_at w x → pred_at n w₂ x ≡ pred_at n w x → leaf_at n w₂ x ≡ leaf_at n w₁ x → Went x
      went_shorter :
          has_edge a u x ≡ true → dist_at w u + t.price x < dist_at w x → dist_at w₂ x ≡ dist_at w u + t.price x → pred_at n w₂ x ≡ u
          → (estimate_at n w x < far → leaf_at n w₂ x ≡ dist_at w u + t.price x + estimate_at n w x) → (estimate_at n w x ≡ far → leaf_at n w₂ x ≡ leaf_at n w₁ x) → Went x
      went_lower :
          has_edge a u x ≡ true → dist_at w u + t.price x ≡ dist_at w x → u < pred_at n w x → dist_at w₂ x ≡ dist_at w x
          → pred_at n w₂ x ≡ u → leaf_at n w₂ x ≡ leaf_at n w₁ x → Went x

    went : (x : ℕ) → x < n → Went x
    went x h = by (x₀.row.some.each x h)
      where
        own : dist_at w₁ u ≡ dist_at w u
        own = x₀.out.low u node

        old : dist_at w₁ x ≡ dist_at w x
        old = x₀.out.low x h

        same_est : estimate_at n w₁ x ≡ estimate_at n w x
        same_est = x₀.out.high (6 * n + x) (omega arith)

        by : AimedAt n t.edge t.price u w₁ w₂ x → Went x
        by (at-kept d p k) = went_kept (d ∙ old) (p ∙ x₀.out.high (4 * n + x) (omega arith)) k
        by (at-shorter e less d p k) =
            went_shorter (edge_here x h e) (let o = own in let q = old in omega arith) (let o = own in omega arith) p
            (λ near'. k ∙ rw (ne_eqb (estimate_at n w₁ x) far (λ z. let q = same_est in omega arith)) (let o = own in let q = same_est in omega arith))
            (λ none. k ∙ rw (eq-eqb (estimate_at n w₁ x) far (same_est ∙ none)))
        by (at_lower e same lower d p k) =
            let before : pred_at n w₁ x ≡ pred_at n w x = x₀.out.high (4 * n + x) (omega arith) in
            went_lower (edge_here x h e) (let o = own in let q = old in omega arith) (omega arith) (d ∙ old) p k

    no_longer : (x : ℕ) → x < n → dist_at w₂ x ≤ dist_at w x
    no_longer x h = by (went x h)
      where
        by : Went x → dist_at w₂ x ≤ dist_at w x
        by (went_kept d p k) = omega arith
        by (went_shorter e less d p k k') = omega arith
        by (went_lower e same lower d p k) = omega arith

    -- the taken node has left
    here-left : Left n w₂ u × (dist_at w₂ u ≡ dist_at w u)
    here-left = by (went u node)
      where
        by : Went u → Left n w₂ u × (dist_at w₂ u ≡ dist_at w u)
        by (went_kept d p k) =
            let key = key_here in
            let q = estimate-kept u node in
            (record { node = node; left = k ∙ x₀.out.leaf_here; near = omega (arith, key.1); known = omega (arith, key.2) }, d)
        by (went_shorter e less d p k k') = absurd (omega arith)
        by (went_lower e same lower d p k) = absurd (omega (arith, t.fair.pos u node))

    -- what had left still has: its distance is final, so there is no shorter way
    still-left : (x : ℕ) → Left n w x → Left n w₂ x × (dist_at w₂ x ≡ dist_at w x)
    still-left x g = by (went x g.node)
      where
        other : x ≡ u → ⊥
        other e =
            let k : leaf_at n w u ≡ far = subst (λ (j : ℕ). leaf_at n w j ≡ far) e g.left in
            let f = x₀.first in
            omega arith

        stays : leaf_at n w₂ x ≡ leaf_at n w₁ x → dist_at w₂ x ≡ dist_at w x → Left n w₂ x
        stays k d =
            let close = g.near in
            let known = g.known in
            let q = estimate-kept x g.node in
            record { node = g.node; left = k ∙ x₀.out.leaf_other x g.node other ∙ g.left; near = omega arith; known = omega arith }

        by : Went x → Left n w₂ x × (dist_at w₂ x ≡ dist_at w x)
        by (went_kept d p k) = (stays k d, d)
        by (went_shorter e less d p k k') =
            let step = distance_step a t.price marks t.shape t.fair u x g.node e in
            let own = final.0 in
            let there = (s.searching.final x g).0 in
            absurd (omega arith)
        by (went_lower e same lower d p k) = (stays k d, d)

    -- nothing else has left
    only_left : (x : ℕ) → Left n w₂ x → (x ≡ u) ⊎ Left n w x
    only_left x g = ⊎_elim (λ (e : x ≡ u). inl e) (λ (ne : x ≡ u → ⊥). inr (by ne (went x g.node))) (same_or_not x u)
      where
        was : (x ≡ u → ⊥) → leaf_at n w₂ x ≡ leaf_at n w₁ x → dist_at w₂ x ≡ dist_at w x → Left n w x
        was ne k d =
            let close = g.near in
            let known = g.known in
            let q = estimate-kept x g.node in
            record { node = g.node; left = sym (x₀.out.leaf_other x g.node ne) ∙ sym k ∙ g.left; near = omega arith; known = omega arith }

        by : (x ≡ u → ⊥) → Went x → Left n w x
        by ne (went_kept d p k) = was ne k d
        by ne (went_shorter e less d p k k') =
            let known : estimate_at n w x < far = (let q = estimate-kept x g.node in let z = g.known in omega arith) in
            let fits = (way_fits x g.node).1 known in
            let z = g.left in
            let is = k known in
            absurd (omega arith)
        by ne (went_lower e same lower d p k) = was ne k d

    -- a node that has left keeps its distance
    left-dist : (x : ℕ) → Left n w₂ x → dist_at w₂ x ≡ dist_at w x
    left-dist x g =
        ⊎_elim
        (λ (e : x ≡ u). subst (λ (j : ℕ). dist_at w₂ j ≡ dist_at w j) (sym e) here-left.1)
        (λ (k : Left n w x). (still-left x k).1)
        (only_left x g)

    next_place : (x : ℕ) → x < n → Place n w₂ x
    next_place x h =
        ⊎_elim
        (λ (e : x ≡ u). subst (Place n w₂) (sym e) (gone here-left.0))
        (λ (ne : x ≡ u → ⊥). by ne (went x h))
        (same_or_not x u)
      where
        as_before : (x ≡ u → ⊥) → leaf_at n w₂ x ≡ leaf_at n w₁ x → dist_at w₂ x ≡ dist_at w x → Place n w x → Place n w₂ x
        as_before ne k d (gone g) = gone (still-left x g).0
        as_before ne k d (waiting close known key less) =
            let q = estimate-kept x h in
            let o = x₀.out.leaf_other x h ne in
            waiting (omega arith) (omega arith) (omega arith) (omega arith)
        as_before ne k d (lacking key none) =
            let q = estimate-kept x h in
            let o = x₀.out.leaf_other x h ne in
            lacking (omega arith) (⊎_elim (λ (z : dist_at w x ≡ far). inl (d ∙ z)) (λ (z : estimate_at n w x ≡ far). inr (q ∙ z)) none)

        by : (x ≡ u → ⊥) → Went x → Place n w₂ x
        by ne (went_kept d p k) = as_before ne k d (s.searching.places x h)
        by ne (went_shorter e less d p k k') =
            let q = estimate-kept x h in
            let fits = way_fits x h in
            let top = s.estimating.top x h in
            ⊎_elim
            (λ (z : far ≤ estimate_at n w x).
            let none : estimate_at n w x ≡ far = le_antisymm top z in
            lacking (k' none ∙ x₀.out.leaf_other x h ne ∙ blank_leaf none (s.searching.places x h)) (inr (q ∙ none)))
            (λ (z : estimate_at n w x < far).
            let is = k z in
            let sum = fits.1 z in
            waiting (omega (arith, fits.0)) (omega arith) (omega arith) (omega arith))
            (le_or_lt far (estimate_at n w x))
          where
            blank_leaf : estimate_at n w x ≡ far → Place n w x → leaf_at n w x ≡ far
            blank_leaf none (gone g) = g.left
            blank_leaf none (waiting close known key less') = absurd (omega arith)
            blank_leaf none (lacking key z) = key
        by ne (went_lower e same lower d p k) = as_before ne k d (s.searching.places x h)

    -- no way over the taken node is shorter
    passed_here : (v : ℕ) → v < n → has_edge a u v ≡ true → (dist_at w₂ v ≤ dist_at w u + t.price v) × (dist_at w₂ v ≡ dist_at w u + t.price v → pred_at n w₂ v ≤ u)
    passed_here v h e =
        let p = x₀.row.all v h (sym (t.counts u v node h) ∙ e) in
        let own : dist_at w₁ u ≡ dist_at w u = x₀.out.low u node in
        let least : dist_at w₂ v ≤ dist_at w₁ u + t.price v = p.least in
        (omega arith, λ is. p.lowest (omega arith))

    next_relaxed : (x v : ℕ) → v < n → Left n w₂ x → has_edge a x v ≡ true → dist_at w₂ v ≤ dist_at w₂ x + t.price v
    next_relaxed x v h g e =
        let own = left-dist x g in
        ⊎_elim
        (λ (is : x ≡ u).
        let p : dist_at w₂ v ≤ dist_at w u + t.price v = (passed_here v h (subst (λ (j : ℕ). has_edge a j v ≡ true) is e)).0 in
        let d : dist_at w x ≡ dist_at w u = ap (λ (j : ℕ). dist_at w j) is in
        omega arith)
        (λ (k : Left n w x). let r = s.searching.relaxed x v h k e in let m = no_longer v h in omega arith)
        (only_left x g)

    next-reached : (v : ℕ) → v < n → tree_has marks v ≡ false → dist_at w₂ v < far → AimReached a t.price w₂ v
    next-reached v h o close = by (went v h)
      where
        over : (p : ℕ) → pred_at n w₂ v ≡ p → Left n w₂ p → has_edge a p v ≡ true → dist_at w₂ v ≡ dist_at w₂ p + t.price v → AimReached a t.price w₂ v
        over p is g e sum =
            record {
              pred-left = subst (Left n w₂) (sym is) g;
              pred-edge = subst (λ (j : ℕ). has_edge a j v ≡ true) (sym is) e;
              sum = subst (λ (j : ℕ). dist_at w₂ v ≡ dist_at w₂ j + t.price v) (sym is) sum;
            }

        by : Went v → AimReached a t.price w₂ v
        by (went_kept d p k) =
            let r = s.searching.reached v h o (omega arith) in
            let g = still-left (pred_at n w v) r.pred-left in
            let sum : dist_at w v ≡ dist_at w (pred_at n w v) + t.price v = r.sum in
            let own = g.1 in
            over (pred_at n w v) p g.0 r.pred-edge (omega arith)
        by (went_shorter e less d p k k') = let own = here-left.1 in over u p here-left.0 e (omega arith)
        by (went_lower e same lower d p k) = let own = here-left.1 in over u p here-left.0 e (omega arith)

    next-lowest :
        (x v : ℕ) → v < n → tree_has marks v ≡ false → Left n w₂ x → has_edge a x v ≡ true
        → dist_at w₂ v ≡ dist_at w₂ x + t.price v → pred_at n w₂ v ≤ x
    next-lowest x v h o g e sum =
        let own = left-dist x g in
        ⊎_elim
        (λ (is : x ≡ u).
        let d : dist_at w x ≡ dist_at w u = ap (λ (j : ℕ). dist_at w j) is in
        let p : pred_at n w₂ v ≤ u = (passed_here v h (subst (λ (j : ℕ). has_edge a j v ≡ true) is e)).1 (omega arith) in
        omega arith)
        (λ (k : Left n w x). by k (went v h))
        (only_left x g)
      where
        by : Left n w x → Went v → pred_at n w₂ v ≤ x
        by k (went_kept d p k') =
            let own = left-dist x g in
            let r = s.searching.lowest x v h o k e (omega arith) in
            omega arith
        by k (went_shorter e' less d p k' k'') =
            let own = left-dist x g in
            let r = s.searching.relaxed x v h k e in
            absurd (omega arith)
        by k (went_lower e' same lower d p k') =
            let own = left-dist x g in
            let r = s.searching.lowest x v h o k e (omega arith) in
            omega arith

    next_final : (x : ℕ) → Left n w₂ x → (dist_at w₂ x ≡ distance a t.price marks x) × (expands_by a t.price (est t marks sinks) marks sinks x ≡ true)
    next_final x g =
        ⊎_elim
        (λ (is : x ≡ u).
        subst (λ (j : ℕ). (dist_at w₂ j ≡ distance a t.price marks j) × (expands_by a t.price (est t marks sinks) marks sinks j ≡ true)) (sym is)
        (here-left.1 ∙ final.0, final.1))
        (λ (k : Left n w x). ((still-left x k).1 ∙ (s.searching.final x k).0, (s.searching.final x k).1))
        (only_left x g)

    -- which nodes have left
    not_left : has_left n w u ≡ false
    not_left = never_true (has_left n w u) (λ q. let g = (left_of n w u node q).left in let f = x₀.first in omega arith)

    left_other : (x : ℕ) → x < n → (x ≡ u → ⊥) → has_left n w x ≡ has_left n w₂ x
    left_other x h ne =
        test_same (has_left n w x) (has_left n w₂ x)
        (λ q. left_test n w₂ x (still-left x (left_of n w x h q)).0)
        (λ q. ⊎_elim (λ (e : x ≡ u). absurd (ne e)) (λ (k : Left n w x). left_test n w x k) (only_left x (left_of n w₂ x h q)))

    next-counted : expanded + 1 ≡ count_below (has_left n w₂) n
    next-counted =
        let one : count_below (has_left n w₂) n ≡ count_below (has_left n w) n + 1 =
        count_one (has_left n w) (has_left n w₂) n u node not_left (left_test n w₂ u here-left.0) left_other in
        let c = s.expanding.counted in
        omega arith

    has-next : (v : ℕ) → v < n → has v (u ∷ s.expanding.order) ≡ has_left n w₂ v
    unfolding has
    has-next v h =
        ⊎_elim
        (λ (e : v ≡ u). rw (eq-eqb v u e) (sym (subst (λ (x : ℕ). has_left n w₂ x ≡ true) (sym e) (left_test n w₂ u here-left.0))))
        (λ (ne : v ≡ u → ⊥). rw (ne_eqb v u ne) (s.expanding.exactly v h ∙ left_other v h ne))
        (same_or_not v u)

    next_expanding : Expanding t w₀ w₂ (expanded + 1)
    next_expanding =
        record {
          order = u ∷ s.expanding.order;
          steps = expands_one s.expanding.steps x₀;
          once = distinct_cons u s.expanding.order (s.expanding.exactly u node ∙ not_left) s.expanding.once;
          exactly = has-next;
          count-is = let c = s.expanding.count-is in omega arith;
          counted = next-counted;
        }

    -- a distance is 0 exactly where it was
    zero_same : (x : ℕ) → x < n → eqb (dist_at w x) 0 ≡ eqb (dist_at w₂ x) 0
    zero_same x h = by (went x h)
      where
        by : Went x → eqb (dist_at w x) 0 ≡ eqb (dist_at w₂ x) 0
        by (went_kept d p k) = rw d
        by (went_shorter e less d p k k') =
            let pos = t.fair.pos x h in
            rw (ne_eqb (dist_at w x) 0 (λ z. omega arith), ne_eqb (dist_at w₂ x) 0 (λ z. omega arith))
        by (went_lower e same lower d p k) = rw d

    next_lacking : lack ≡ lacking_in n w₂
    next_lacking =
        s.searching.lacking_is
        ∙ count_same (λ v. both (eqb (dist_at w v) 0) (eqb (estimate_at n w v) far)) (λ v. both (eqb (dist_at w₂ v) 0) (eqb (estimate_at n w₂ v) far)) n
        (λ x h. rw (zero_same x h, estimate-kept x h))

    next_searching : {best' low' : ℕ} → (BestAim n best w → BestAim n best' w₂) → (LowAim n low w → LowAim n low' w₂) → Searching t marks sinks w₂ lack best' low'
    next_searching goes falls =
        record {
          long = let k = x₀.row.some.long in let m = x₀.out.long in let o = s.searching.long in omega arith;
          queue = x₀.row.some.queue;
          dist_top = λ v h. let m = no_longer v h in let o = s.searching.dist_top v h in omega arith;
          tree = λ v h i. let z = s.searching.tree v h i in let m = no_longer v h in omega arith;
          places = next_place;
          relaxed = next_relaxed;
          reached = next-reached;
          lowest = next-lowest;
          final = next_final;
          best_aim = goes s.searching.best_aim;
          low_aim = falls s.searching.low_aim;
          lacking_is = next_lacking;
        }

    pub expand_more :
        {best' low' : ℕ} → (BestAim n best w → BestAim n best' w₂) → (LowAim n low w → LowAim n low' w₂)
        → Aiming t marks sinks w₀ w₂ head count lack best' low' level (expanded + 1)
    expand_more goes falls =
        record {
          estimating = estimating_kept link_kept estimate-kept s.estimating;
          searching = next_searching goes falls;
          expanding = next_expanding;
          same-long = x₀.row.some.long ∙ x₀.out.long ∙ s.same-long;
          beyond = λ j h. x₀.row.some.high j (omega arith) ∙ x₀.out.high j (omega arith) ∙ s.beyond j h;
        }

    -- as many lack an estimate as before
    pub expand_blanks : blanks n w₂ ≡ blanks n w
    expand_blanks = count_same (λ v. eqb (estimate_at n w₂ v) far) (λ v. eqb (estimate_at n w v) far) n (λ v h. rw (estimate-kept v h))
