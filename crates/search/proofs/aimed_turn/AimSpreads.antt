-- The estimates of an aimed turn go on: their level rises to the least one at which a node waits, and a node there spreads its own.
--     raise_estimating    what holds of the estimates holds at the higher level
--     spread_estimating, spread_searching, spread_expanding   what holds before a node spreads its estimate holds after it
--     raise_more, spread-more   all of it
--     spread_falls        fewer nodes lack an estimate or wait to spread theirs
-- Assumes nothing.
use mathlib.Core.Bool.{Bool, true, false}
use mathlib.Core.List.{List, ◌∷◌}
use mathlib.Core.Logic.{◌⊎◌, ⊎_elim, inl, inr}
use mathlib.Core.Path.{◌≡◌, refl, sym, ◌∙◌, ap, subst}
use Prim.Native.Nat.{ℕ, zero, suc, ◌+◌, ◌*◌, ◌≤◌, ◌<◌}
use native.Mathlib.Nat.{le_trans, le_refl, le_of_eq, le_antisymm, mul-le-mul}
use native.Mathlib.Omega.{arith}
use lib.Dec.{eqb}
use borrow.Author.Tests.{eq-eqb, ne_eqb}
use Rattle.price.specs.Test.{either}
use Rattle.price.specs.Lists.{has, count_below}
use Rattle.price.proofs.TestLaws.{test_same, by_test, either_true, le_or_lt, same_or_not, true≢false}
use Rattle.price.proofs.BelowLaws.{count_same, count_less}
use Rattle.search.specs.Block.{Block, nodes, has_edge}
use Rattle.search.specs.Paths.{step}
use Rattle.search.specs.Distance.{far, tree_has}
use Rattle.search.specs.Layout.{dist_at, leaf_at, pred_at, estimate_at}
use Rattle.search.specs.Buckets.{Lined, waits, LowestFrom}
use Rattle.search.specs.Estimates.{key_given, lacking_in, NodeGiven, given_stays, given_new, Spread}
use Rattle.search.specs.Aiming.{BestAim, LowAim, spreads_one}
use Rattle.search.proofs.EdgeLaws.{edge-node}
use Rattle.search.proofs.WalkLaws.{step_cost}
use Rattle.search.proofs.BucketLaws.{lined-lowest}
use Rattle.search.proofs.AimedExact.{LabelWalk}
use Rattle.search.proofs.aimed_turn.AimState.{AimTask, ahead, back, weight, ahead_shape, edge_ahead, edge-back, Left, has_left, left_test, left_of, Place, gone, waiting, lacking, AimReached, Estimating, Searching, Expanding, Aiming, blanks, key_small, level-few, dist-sized}

-- ---- the level rises

module _ {a : Block} {t : AimTask a} {marks sinks w head : List ℕ} {count level r : ℕ} (s : Estimating t marks sinks w head count level)
    (up : level ≤ r) (k : Lined (nodes a) t.base t.scale w head count r) (same : (x : ℕ) → waits k x ≡ waits s.lined x)
    (v : ℕ) (there : waits s.lined v ≡ true) (here : s.lined.level v ≡ r) where
  pub raise_estimating : Estimating t marks sinks w head count r
  raise_estimating =
      record {
        level_most_lem = rw (sym here) (level-few s v there);
        lined = k;
        top = s.top;
        goals = s.goals;
        goals_only = s.goals_only;
        walks = s.walks;
        below = λ x h near. le_trans (s.below x h near) (mul-le-mul (le_refl t.scale) up);
        spread = λ u x h near none e. s.spread u x h near (sym (same x) ∙ none) e;
      }

-- ---- how many nodes lack an estimate or wait to spread theirs

-- of two tests that exclude each other the counts add up
count-either :
    (s t : ℕ → Bool) (n : ℕ) → ((x : ℕ) → x < n → t x ≡ true → s x ≡ false) → count_below (λ x. either (s x) (t x)) n ≡ count_below s n + count_below t n
unfolding count_below
count-either s t zero apart = refl
count-either s t (suc n) apart =
    let low : count_below (λ x. either (s x) (t x)) n ≡ count_below s n + count_below t n = count-either s t n (λ x h. apart x (omega arith)) in
    by_test (t n)
    (λ q. rw (q, apart n (omega arith) q, low) (omega arith))
    (λ q. by_test (s n) (λ p. rw (q, p, low) (omega arith)) (λ p. rw (q, p, low) (omega arith)))

-- a node that waits has an estimate
owing :
    {n : ℕ} {base : ℕ → ℕ} {scale : ℕ} {w head : List ℕ} {count least : ℕ} (l : Lined n base scale w head count least)
    → count_below (λ x. either (eqb (estimate_at n w x) far) (waits l x)) n ≡ blanks n w + count
owing {n} {base} {scale} {w} l =
    let sum =
    count-either (λ x. eqb (estimate_at n w x) far) (waits l) n
    (λ x h q. let k = (l.at_level x q).known in ne_eqb (estimate_at n w x) far (λ z. omega arith)) in
    let c = l.counted in
    omega arith

-- ---- a node spreads its estimate

module _ {a : Block} {t : AimTask a} {marks sinks w w₂ head head₂ : List ℕ} {count count₂ level : ℕ} (s : Estimating t marks sinks w head count level)
    (sp : Spread (back t) t.base t.scale level w w₂ head head₂ count count₂ s.lined) where
  abbrev n : ℕ
  n = nodes a

  abbrev from : ℕ
  from = sp.from

  abbrev given : ℕ
  given = t.scale * level

  from_node : from < n
  from_node = (s.lined.at_level from sp.waited).node

  from_known : estimate_at n w from < far
  from_known = (s.lined.at_level from sp.waited).known

  from_sum : estimate_at n w from + t.scale * t.base from ≡ given
  from_sum = (s.lined.at_level from sp.waited).sum ∙ ap (λ (x : ℕ). t.scale * x) sp.at_level

  given_small : given < far
  given_small = omega (arith, key_small s)

  given_pos : 0 < given
  given_pos =
      let own : t.scale * 1 ≤ t.scale * t.base from = mul-le-mul (le_refl t.scale) (t.base-pos from from_node) in
      let p = t.scale_pos in
      omega (arith, from_sum)

  each : (x : ℕ) → x < n → NodeGiven (back t) from given w w₂ (waits sp.rest) (waits sp.given.some.lined) x
  each x h = sp.given.some.each x h

  -- an estimate that stood stays, and a new one is the level
  pub estimate-kept : (x : ℕ) → x < n → estimate_at n w x < far → estimate_at n w₂ x ≡ estimate_at n w x
  estimate-kept x h near = by (each x h)
    where
      by : NodeGiven (back t) from given w w₂ (waits sp.rest) (waits sp.given.some.lined) x → estimate_at n w₂ x ≡ estimate_at n w x
      by (given_stays p l q) = p
      by (given_new none e p l q) = absurd (omega arith)

  estimate-less : (x : ℕ) → x < n → estimate_at n w₂ x ≤ estimate_at n w x
  estimate-less x h = by (each x h)
    where
      by : NodeGiven (back t) from given w w₂ (waits sp.rest) (waits sp.given.some.lined) x → estimate_at n w₂ x ≤ estimate_at n w x
      by (given_stays p l q) = le_of_eq p
      by (given_new none e p l q) = omega (arith, given_small)

  estimate-known : (x : ℕ) → x < n → estimate_at n w₂ x < far → estimate_at n w₂ x ≤ given
  estimate-known x h near = by (each x h)
    where
      by : NodeGiven (back t) from given w w₂ (waits sp.rest) (waits sp.given.some.lined) x → estimate_at n w₂ x ≤ given
      by (given_stays p l q) = let m = s.below x h (rw p at near) in omega arith
      by (given_new none e p l q) = le_of_eq p

  -- the node's walk with one edge in front
  new_walk : (x : ℕ) → x < n → has_edge (back t) from x ≡ true → LabelWalk (ahead t) (weight t) marks sinks x given
  new_walk x h e =
      let l = s.walks from from_node from_known in
      let o = l.out in
      let weighs = l.weighs in
      let sum = from_sum in
      record {
        path = x ∷ l.path;
        out = record { sink = o.sink; node = o.node; listed = o.listed; out = o.out; walk = step (edge_ahead t x from h from_node e) o.walk };
        weighs = omega (arith, step_cost (weight t) x o.walk);
      }

  next_walks : (x : ℕ) → x < n → estimate_at n w₂ x < far → LabelWalk (ahead t) (weight t) marks sinks x (estimate_at n w₂ x)
  next_walks x h near = by (each x h)
    where
      by : NodeGiven (back t) from given w w₂ (waits sp.rest) (waits sp.given.some.lined) x → LabelWalk (ahead t) (weight t) marks sinks x (estimate_at n w₂ x)
      by (given_stays p l q) = rw p (s.walks x h (rw p at near))
      by (given_new none e p l q) = rw p (new_walk x h e)

  next-spread :
      (u x : ℕ) → x < n → estimate_at n w₂ x < far → waits sp.given.some.lined x ≡ false → has_edge (ahead t) u x ≡ true
      → estimate_at n w₂ u ≤ estimate_at n w₂ x + t.scale * t.base x
  next-spread u x h near none e = by (each x h)
    where
      hu : u < n
      hu = edge-node (ahead t) (ahead_shape t) u x e

      -- the node that has spread its own: all before it have at most the level
      at_from : x ≡ from → estimate_at n w₂ x ≡ estimate_at n w x → estimate_at n w₂ u ≤ estimate_at n w₂ x + t.scale * t.base x
      at_from is p =
          let edge : has_edge (back t) from u ≡ true = subst (λ (j : ℕ). has_edge (back t) j u ≡ true) is (edge-back t u x h e) in
          let known : estimate_at n w₂ u < far =
          ⊎_elim
          (λ (q : far ≤ estimate_at n w₂ u). absurd (sp.given.all u hu edge (le_antisymm (let m = estimate-less u hu in let o = s.top u hu in omega arith) q)))
          (λ q. q)
          (le_or_lt far (estimate_at n w₂ u)) in
          let sum : estimate_at n w x + t.scale * t.base x ≡ given = subst (λ (j : ℕ). estimate_at n w j + t.scale * t.base j ≡ given) (sym is) from_sum in
          omega (arith, estimate-known u hu known)

      by : NodeGiven (back t) from given w w₂ (waits sp.rest) (waits sp.given.some.lined) x → estimate_at n w₂ u ≤ estimate_at n w₂ x + t.scale * t.base x
      by (given_stays p l q) =
          ⊎_elim
          (λ (is : x ≡ from). at_from is p)
          (λ (ne : x ≡ from → ⊥).
          let old = s.spread u x h (rw p at near) (sym (sp.others x h ne) ∙ sym q ∙ none) e in
          let less = estimate-less u hu in
          omega arith)
          (same_or_not x from)
      by (given_new blank g p l q) =
          ⊎_elim (λ (z : waits sp.given.some.lined x ≡ true). absurd (true≢false (sym z ∙ none))) (λ z. absurd (z u (edge-back t u x h e))) q

  pub spread_estimating : Estimating t marks sinks w₂ head₂ count₂ level
  spread_estimating =
      record {
        level_most_lem = s.level_most_lem;
        lined = sp.given.some.lined;
        top = λ x h. le_trans (estimate-less x h) (s.top x h);
        goals = λ x h l o. let nil = s.goals x h l o in estimate-kept x h (omega arith) ∙ nil;
        goals_only = λ x h nil. only x h nil (each x h);
        walks = next_walks;
        below = estimate-known;
        spread = next-spread;
      }
    where
      only : (x : ℕ) → x < n → estimate_at n w₂ x ≡ 0 → NodeGiven (back t) from given w w₂ (waits sp.rest) (waits sp.given.some.lined) x
          → (has x sinks ≡ true) × (tree_has marks x ≡ false)
      only x h nil (given_stays p l q) = s.goals_only x h (sym p ∙ nil)
      only x h nil (given_new none e p l q) = absurd (omega (arith, given_pos))

  -- fewer nodes lack an estimate or wait to spread theirs
  abbrev owes : ℕ → Bool
  owes x = either (eqb (estimate_at n w x) far) (waits s.lined x)

  abbrev owes₂ : ℕ → Bool
  owes₂ x = either (eqb (estimate_at n w₂ x) far) (waits sp.given.some.lined x)

  owed : (x : ℕ) → x < n → owes₂ x ≡ true → owes x ≡ true
  owed x h q = by (each x h)
    where
      by : NodeGiven (back t) from given w w₂ (waits sp.rest) (waits sp.given.some.lined) x → owes x ≡ true
      by (given_stays p l k) =
          ⊎_elim
          (λ (is : x ≡ from). rw (subst (λ (j : ℕ). waits s.lined j ≡ true) (sym is) sp.waited) (either_true (eqb (estimate_at n w x) far)))
          (λ (ne : x ≡ from → ⊥). rw (p, k, sp.others x h ne) at q)
          (same_or_not x from)
      by (given_new none e p l k) = rw (eq-eqb (estimate_at n w x) far none)

  from_free : owes₂ from ≡ false
  from_free = by (each from from_node)
    where
      by : NodeGiven (back t) from given w w₂ (waits sp.rest) (waits sp.given.some.lined) from → owes₂ from ≡ false
      by (given_stays p l k) =
          let near = from_known in
          rw (k, sp.gone, ne_eqb (estimate_at n w₂ from) far (λ z. omega arith))
      by (given_new none e p l k) = absurd (let near = from_known in omega arith)

  pub spread_falls : blanks n w₂ + count₂ < blanks n w + count
  spread_falls =
      let less = count_less owes owes₂ n from owed from_node (rw sp.waited (either_true (eqb (estimate_at n w from) far))) from_free in
      let sum = owing s.lined in
      let sum₂ = owing sp.given.some.lined in
      omega arith

  -- ---- the search beside it

  module _ {lack best low : ℕ} (f : Searching t marks sinks w lack best low) where
    dist_same : (x : ℕ) → x < n → dist_at w₂ x ≡ dist_at w x
    dist_same = sp.given.some.same.dist

    pred-same : (x : ℕ) → x < n → pred_at n w₂ x ≡ pred_at n w x
    pred-same = sp.given.some.same.pred

    -- a node that gets its estimate waits at its key, if it has a distance
    new_place : (x : ℕ) → x < n → estimate_at n w x ≡ far → estimate_at n w₂ x ≡ given → leaf_at n w₂ x ≡ key_given n w x given → Place n w x → Place n w₂ x
    new_place x h none is leaf place =
        ⊎_elim
        (λ (q : dist_at w x ≡ far).
        lacking (leaf ∙ rw (eq-eqb (dist_at w x) far q) (was place)) (inl (dist_same x h ∙ q)))
        (λ (q : dist_at w x ≡ far → ⊥).
        let key : leaf_at n w₂ x ≡ dist_at w x + given = leaf ∙ rw (ne_eqb (dist_at w x) far q) in
        let d = dist_same x h in
        let small = key_small s in
        ⊎_elim
        (λ (z : dist_at w x ≡ far). absurd (q z))
        (λ (z : dist_at w x ≤ _). waiting (omega arith) (omega arith) (omega arith) (omega arith))
        (dist-sized f x h))
        (same_or_not (dist_at w x) far)
      where
        was : Place n w x → leaf_at n w x ≡ far
        was (gone g) = g.left
        was (waiting close known key less) = absurd (omega arith)
        was (lacking key z) = key

    next_place : (x : ℕ) → x < n → Place n w₂ x
    next_place x h = by (each x h)
      where
        as_before : estimate_at n w₂ x ≡ estimate_at n w x → leaf_at n w₂ x ≡ leaf_at n w x → Place n w x → Place n w₂ x
        as_before p l (gone g) =
            let d = dist_same x h in
            gone (record { node = h; left = l ∙ g.left; near = omega (arith, g.near); known = omega (arith, g.known) })
        as_before p l (waiting close known key less) = let d = dist_same x h in waiting (omega arith) (omega arith) (omega arith) (omega arith)
        as_before p l (lacking key none) =
            lacking (l ∙ key) (⊎_elim (λ (z : dist_at w x ≡ far). inl (dist_same x h ∙ z)) (λ (z : estimate_at n w x ≡ far). inr (p ∙ z)) none)

        by : NodeGiven (back t) from given w w₂ (waits sp.rest) (waits sp.given.some.lined) x → Place n w₂ x
        by (given_stays p l q) = as_before p l (f.places x h)
        by (given_new none e p l q) = new_place x h none p l (f.places x h)

    -- what has left is what had left
    was_left : (x : ℕ) → Left n w₂ x → Left n w x
    was_left x g = by (each x g.node)
      where
        by : NodeGiven (back t) from given w w₂ (waits sp.rest) (waits sp.given.some.lined) x → Left n w x
        by (given_stays p l q) =
            let d = dist_same x g.node in
            record { node = g.node; left = sym l ∙ g.left; near = omega (arith, g.near); known = omega (arith, g.known) }
        by (given_new none e p l q) =
            absurd
            (⊎_elim
            (λ (z : dist_at w x ≡ far). let d = dist_same x g.node in omega (arith, g.near))
            (λ (z : dist_at w x ≤ _).
            let key : leaf_at n w₂ x ≡ dist_at w x + given = l ∙ rw (ne_eqb (dist_at w x) far (λ y. omega arith)) in
            omega (arith, g.left, key_small s))
            (dist-sized f x g.node))

    still-left : (x : ℕ) → Left n w x → Left n w₂ x
    still-left x g = by (each x g.node)
      where
        by : NodeGiven (back t) from given w w₂ (waits sp.rest) (waits sp.given.some.lined) x → Left n w₂ x
        by (given_stays p l q) =
            let d = dist_same x g.node in
            record { node = g.node; left = l ∙ g.left; near = omega (arith, g.near); known = omega (arith, g.known) }
        by (given_new none e p l q) = absurd (let k = g.known in omega arith)

    pub left-same : (x : ℕ) → x < n → has_left n w x ≡ has_left n w₂ x
    left-same x h =
        test_same (has_left n w x) (has_left n w₂ x) (λ q. left_test n w₂ x (still-left x (left_of n w x h q))) (λ q. left_test n w x (was_left x (left_of n w₂ x h q)))

    next-reached : (v : ℕ) → v < n → tree_has marks v ≡ false → dist_at w₂ v < far → AimReached a t.price w₂ v
    next-reached v h o near =
        let r = f.reached v h o (let d = dist_same v h in omega arith) in
        let p = pred-same v h in
        let sum : dist_at w v ≡ dist_at w (pred_at n w v) + t.price v = r.sum in
        let there = dist_same (pred_at n w v) r.pred-left.node in
        record {
          pred-left = subst (Left n w₂) (sym p) (still-left (pred_at n w v) r.pred-left);
          pred-edge = subst (λ (j : ℕ). has_edge a j v ≡ true) (sym p) r.pred-edge;
          sum = subst (λ (j : ℕ). dist_at w₂ v ≡ dist_at w₂ j + t.price v) (sym p) (let d = dist_same v h in omega arith);
        }

    zero_same : (x : ℕ) → x < n → estimate_at n w₂ x ≡ 0 → estimate_at n w x ≡ 0
    zero_same x h nil = by (each x h)
      where
        by : NodeGiven (back t) from given w w₂ (waits sp.rest) (waits sp.given.some.lined) x → estimate_at n w x ≡ 0
        by (given_stays p l q) = sym p ∙ nil
        by (given_new none e p l q) = absurd (omega (arith, given_pos))

    next_best : BestAim n best w₂
    next_best =
        record {
          most = f.best_aim.most;
          least = λ v h z. let m = f.best_aim.least v h (zero_same v h z) in let d = dist_same v h in omega arith;
          some =
              ⊎_elim
              (λ e. inl e)
              (λ (x : (v : ℕ) × (v < n) × (estimate_at n w v ≡ 0) × (dist_at w v ≡ best)).
              inr (x.0, x.1, estimate-kept x.0 x.1 (let z = x.2 in omega arith) ∙ x.2, dist_same x.0 x.1 ∙ x.3))
              f.best_aim.some;
        }

    next_low : LowAim n low w₂
    next_low =
        record {
          most = f.low_aim.most;
          least = λ v h none pos.
              let was : estimate_at n w v ≡ far = le_antisymm (s.top v h) (let m = estimate-less v h in omega arith) in
              let d = dist_same v h in
              let m = f.low_aim.least v h was (omega arith) in
              omega arith;
        }

    pub spread_searching : {lack₂ : ℕ} → lack₂ ≡ lacking_in n w₂ → Searching t marks sinks w₂ lack₂ best low
    spread_searching is =
        record {
          long = let l = sp.given.some.same.long in let o = f.long in omega arith;
          queue = sp.given.some.queue;
          dist_top = λ v h. let d = dist_same v h in let o = f.dist_top v h in omega arith;
          tree = λ v h i. dist_same v h ∙ f.tree v h i;
          places = next_place;
          relaxed = λ u v h g e.
              let k = was_left u g in
              let r = f.relaxed u v h k e in
              let d = dist_same v h in
              let o = dist_same u k.node in
              omega arith;
          reached = next-reached;
          lowest = λ u v h o g e sum.
              let k = was_left u g in
              let d = dist_same v h in
              let p = pred-same v h in
              let own = dist_same u k.node in
              let r = f.lowest u v h o k e (omega arith) in
              omega arith;
          final = λ v g. let k = was_left v g in (dist_same v g.node ∙ (f.final v k).0, (f.final v k).1);
          best_aim = next_best;
          low_aim = next_low;
          lacking_is = is;
        }

    -- no node leaves the queue
    pub spread_expanding : {w₀ : List ℕ} {expanded : ℕ} → Expanding t w₀ w expanded → Expanding t w₀ w₂ expanded
    spread_expanding x =
        record {
          order = x.order;
          steps = spreads_one x.steps (λ v h. leaf_kept v h (each v h) (f.places v h));
          once = x.once;
          exactly = λ v h. x.exactly v h ∙ left-same v h;
          count-is = x.count-is;
          counted = x.counted ∙ count_same (has_left n w) (has_left n w₂) n left-same;
        }
      where
        leaf_kept : (v : ℕ) → v < n → NodeGiven (back t) from given w w₂ (waits sp.rest) (waits sp.given.some.lined) v → Place n w v
            → (leaf_at n w₂ v ≡ leaf_at n w v) ⊎ (leaf_at n w v ≡ far)
        leaf_kept v h (given_stays p l q) place = inl l
        leaf_kept v h (given_new none e p l q) (gone g) = inr g.left
        leaf_kept v h (given_new none e p l q) (waiting close known key less) = absurd (omega arith)
        leaf_kept v h (given_new none e p l q) (lacking key z) = inr key

-- ---- all of it

module _ {a : Block} {t : AimTask a} {marks sinks w₀ w head : List ℕ} {count lack best low level expanded : ℕ}
    (s : Aiming t marks sinks w₀ w head count lack best low level expanded) where
  -- the level rises to the least one at which a node waits
  pub raise_more :
      {r : ℕ} → LowestFrom head level r
      → (k : Aiming t marks sinks w₀ w head count lack best low r expanded)
      × ((v : ℕ) × (waits k.estimating.lined v ≡ true) × (k.estimating.lined.level v ≡ r))
  unfolding raise_estimating
  raise_more {r} found =
      let e = s.estimating in
      let k = lined-lowest e.lined found in
      let v : ℕ = k.3.0 in
      let there : waits e.lined v ≡ true = sym (k.1 v) ∙ k.3.1 in
      let here : e.lined.level v ≡ r = sym (k.2 v) ∙ k.3.2 in (
        record {
          estimating = raise_estimating e found.least k.0 k.1 v there here;
          searching = s.searching;
          expanding = s.expanding;
          same-long = s.same-long;
          beyond = s.beyond;
        },
        k.3,
      )

  pub spread-more :
      {w₂ head₂ : List ℕ} {count₂ lack₂ : ℕ} → Spread (back t) t.base t.scale level w w₂ head head₂ count count₂ s.estimating.lined
      → lack₂ ≡ lacking_in (nodes a) w₂ → Aiming t marks sinks w₀ w₂ head₂ count₂ lack₂ best low level expanded
  spread-more sp is =
      record {
        estimating = spread_estimating s.estimating sp;
        searching = spread_searching s.estimating sp s.searching is;
        expanding = spread_expanding s.estimating sp s.searching s.expanding;
        same-long = sp.given.some.same.long ∙ s.same-long;
        beyond = λ j h. sp.given.some.same.beyond j h ∙ s.beyond j h;
      }
