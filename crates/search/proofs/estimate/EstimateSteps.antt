-- Steps of the estimates: a node has got its estimate, then edge by edge all nodes before a node.
--     lacking_is, lacking_some              how many tree nodes have no estimate
--     LinedUp, lines                        the node waits to spread, unless no edge leads to it
--     some-given-..                         nodes before v have theirs
--     GivingRow, row-..                     the loop over the nodes before v, with its steps and its end
-- Assumes nothing.
use mathlib.Core.Bool.{Bool, true, false}
use mathlib.Core.List.{List}
use mathlib.Core.Logic.{◌⊎◌, ⊎_elim, inl, inr}
use mathlib.Core.Path.{◌≡◌, refl, sym, ◌∙◌, ap, subst}
use Prim.Native.Nat.{ℕ, ◌+◌, ◌-◌, ◌*◌, ◌≤◌, ◌<◌, min}
use native.Mathlib.Nat.{mul-add}
use native.Mathlib.Omega.{arith}
use lib.Dec.{eqb}
use lib.ListN.{length, get_or}
use borrow.Author.Tests.{eq-eqb, ne_eqb}
use Rattle.price.specs.Test.{choose, both}
use Rattle.price.specs.Bounds.{base_most}
use Rattle.price.proofs.TestLaws.{same_or_not, both_true, both_false_left, both_false_right}
use Rattle.price.proofs.BelowLaws.{count_one, count_same}
use Rattle.search.specs.Block.{Block, nodes, row_start, has_edge}
use Rattle.search.specs.Distance.{far}
use Rattle.search.specs.Layout.{dist_at, leaf_at, estimate_at, Tournament}
use Rattle.search.specs.Buckets.{AtLevel, Lined, waits}
use Rattle.search.specs.Estimates.{lacking_in, Beside, key_given, Given, WaitsToSpread, no_edge, lines_up, Sized, NodeGiven, given_stays, given_new, SomeGiven, GivenBefore}
use Rattle.search.proofs.EdgeLaws.{place_edge, edge_where}
use Rattle.search.proofs.BucketLaws.{one_below, lined-add, lined-others, blank_out}

-- ---- what giving an estimate does

module _ {n u give : ℕ} {w w' : List ℕ} (h : u < n) (blank : estimate_at n w u ≡ far) (small : give < far) (g : Given n u give w w') where
  abbrev lacks_in : List ℕ → ℕ → Bool
  lacks_in x v = both (eqb (dist_at x v) 0) (eqb (estimate_at n x v) far)

  lacks_other : (v : ℕ) → v < n → (v ≡ u → ⊥) → lacks_in w' v ≡ lacks_in w v
  lacks_other v l d =
      let a : dist_at w' v ≡ dist_at w v = g.same.dist v l in
      let b : estimate_at n w' v ≡ estimate_at n w v = g.estimate_other v l d in
      cc

  lacks_here : lacks_in w' u ≡ false
  lacks_here = both_false_right (eqb (dist_at w' u) 0) (eqb (estimate_at n w' u) far) (ne_eqb (estimate_at n w' u) far (λ e. omega (arith, g.estimate-here)))

  -- the number of tree nodes that lack one, where it was right before
  pub lacking_is : {f g' : ℕ} → f ≡ lacking_in n w → g' ≡ choose (eqb (dist_at w u) 0) (f - 1) f → g' ≡ lacking_in n w'
  lacking_is {f} {g'} before after =
      ⊎_elim
      (λ (z : dist_at w u ≡ 0).
      let one : lacking_in n w ≡ lacking_in n w' + 1 = count_one (lacks_in w') (lacks_in w) n u h lacks_here (both_true (eq-eqb _ _ z) (eq-eqb _ _ blank)) lacks_other in
      let e : g' ≡ f - 1 = rw (eq-eqb (dist_at w u) 0 z) at after in
      omega arith)
      (λ (z : dist_at w u ≡ 0 → ⊥).
      let same : lacking_in n w' ≡ lacking_in n w =
      count_same (lacks_in w') (lacks_in w) n
      (λ v l. ⊎_elim (λ (q : v ≡ u). subst (λ (x : ℕ). lacks_in w' x ≡ lacks_in w x) (sym q) (lacks_here ∙ sym (both_false_left (eqb (dist_at w u) 0) (eqb (estimate_at n w u) far) (ne_eqb _ _ z)))) (lacks_other v l) (same_or_not v u)) in
      let e : g' ≡ f = rw (ne_eqb (dist_at w u) 0 z) at after in
      omega arith)
      (same_or_not (dist_at w u) 0)

-- a tree node that lacks an estimate is counted
pub lacking_some : (n u : ℕ) (w : List ℕ) {f : ℕ} → u < n → estimate_at n w u ≡ far → f ≡ lacking_in n w → dist_at w u ≡ 0 → 0 < f
lacking_some n u w h blank is z =
    let one = one_below (λ v. both (eqb (dist_at w v) 0) (eqb (estimate_at n w v) far)) n u h (both_true (eq-eqb _ _ z) (eq-eqb _ _ blank)) in
    omega arith

-- the node waits, or no edge leads to it; the others wait as before
pub record LinedUp (n : ℕ) (base : ℕ → ℕ) (scale : ℕ) (firsts : List ℕ) (u least : ℕ) (w w' head head' : List ℕ) (count count' : ℕ)
    (l : Lined n base scale w head count least) : Type 0 where
  pub lined : Lined n base scale w' head' count' least
  pub here : (waits lined u ≡ true) ⊎ (get_or firsts (u + 1) 0 ≤ get_or firsts u 0)
  pub others : (x : ℕ) → (x ≡ u → ⊥) → waits lined x ≡ waits l x

module _
    {n : ℕ} {base : ℕ → ℕ} {scale : ℕ} {firsts : List ℕ} {u least : ℕ} {w w' head head' : List ℕ} {count count' : ℕ} (l : Lined n base scale w head count least)
    (h : u < n) (blank : estimate_at n w u ≡ far) (small : scale * least < far) (light : base u ≤ base_most) (g : Given n u (scale * least) w w') where
  pub lines : WaitsToSpread n firsts u (least + base u) w w' head head' count count' → LinedUp n base scale firsts u least w w' head head' count count' l
  lines (no_edge none link e f) =
      let not-u : (x : ℕ) → waits l x ≡ true → x ≡ u → ⊥ = λ x m q. omega (arith, (l.at_level x m).known, ap (estimate_at n w) q) in
      let k = lined-others l (λ x m i. g.link_other x i (not-u x m)) (λ x m i. g.estimate_other x i (not-u x m)) in
      rw (e, f) (record { lined = k.0; here = inr none; others = λ x d. k.1 x })
  lines (lines_up link e f) =
      let at : AtLevel n base scale least w' u (least + base u) =
      record {
        node = h;
        known = rw g.estimate-here small;
        sum = rw g.estimate-here (sym (mul-add scale least (base u)));
        low = omega arith;
        high = omega arith;
      } in
      let k = lined-add l u (least + base u) (blank_out l u blank) at link g.link_other g.estimate_other in
      rw (e, f) (record { lined = k.0; here = inl k.1; others = k.2 })

-- ---- places that stay

pub beside_none : (n : ℕ) (w : List ℕ) → Beside n w w
beside_none n w = record { long = refl; dist = λ v l. refl; pred = λ v l. refl; beyond = λ j l. refl }

pub beside-more : {n : ℕ} {w w' w'' : List ℕ} → Beside n w w' → Beside n w' w'' → Beside n w w''
beside-more s t =
    record {
      long = t.long ∙ s.long;
      dist = λ v l. t.dist v l ∙ s.dist v l;
      pred = λ v l. t.pred v l ∙ s.pred v l;
      beyond = λ j l. t.beyond j l ∙ s.beyond j l;
    }

pub sized-beside : {n : ℕ} {w w' : List ℕ} → Sized n w → Beside n w w' → Sized n w'
sized-beside s b = record { long = rw b.long s.long; near = λ v l. rw (b.dist v l) (s.near v l) }

-- ---- the nodes before v

-- no edge leads to a node whose row has no place
pub no_edge-to : (r : Block) (u : ℕ) → get_or r.first_edges (u + 1) 0 ≤ get_or r.first_edges u 0 → (y : ℕ) → has_edge r u y ≡ true → ⊥
no_edge-to r u none y e = let p = edge_where r u y e in omega (arith, p.1, p.2)

module _ {r : Block} {v give : ℕ} {w w' : List ℕ} {waited waits' : ℕ → Bool} where
  -- a node that has no estimate yet had none before, and stands as it stood
  was_blank : {x : ℕ} → give < far → NodeGiven r v give w w' waited waits' x → estimate_at (nodes r) w' x ≡ far → (estimate_at (nodes r) w x ≡ far) × (leaf_at (nodes r) w' x ≡ leaf_at (nodes r) w x)
  was_blank small (given_stays p q t) e = (sym p ∙ e, q)
  was_blank small (given_new p e q k t) b = absurd (omega arith)

  -- a node that the last step left alone
  still :
      {w'' : List ℕ} {waits'' : ℕ → Bool} {x : ℕ} → estimate_at (nodes r) w'' x ≡ estimate_at (nodes r) w' x → leaf_at (nodes r) w'' x ≡ leaf_at (nodes r) w' x → waits'' x ≡ waits' x
      → NodeGiven r v give w w' waited waits' x → NodeGiven r v give w w'' waited waits'' x
  still a b c (given_stays p q t) = given_stays (a ∙ p) (b ∙ q) (c ∙ t)
  still a b c (given_new p e q k t) = given_new p e (a ∙ q) (b ∙ k) (⊎_elim (λ z. inl (c ∙ z)) inr t)

module _ {r : Block} {base : ℕ → ℕ} {scale v level : ℕ} {w head : List ℕ} {count : ℕ} {l : Lined (nodes r) base scale w head count level} where
  pub some_given_none : Tournament (nodes r) w → SomeGiven r base scale v level w w head head count count l
  some_given_none queue = record { same = beside_none _ _; queue = queue; lined = l; each = λ x h. given_stays refl refl refl }

  -- one more of them
  module _ {w' w'' head' head'' : List ℕ} {count' count'' u : ℕ} (s : SomeGiven r base scale v level w w' head head' count count' l) (small : scale * level < far) (h : u < nodes r)
      (blank : estimate_at (nodes r) w' u ≡ far) (edge : has_edge r v u ≡ true) (g : Given (nodes r) u (scale * level) w' w'')
      (k : LinedUp (nodes r) base scale r.first_edges u level w' w'' head' head'' count' count'' s.lined) where
    key_same : leaf_at (nodes r) w'' u ≡ key_given (nodes r) w u (scale * level)
    key_same =
        let d : dist_at w' u ≡ dist_at w u = s.same.dist u h in
        let f : leaf_at (nodes r) w' u ≡ leaf_at (nodes r) w u = (was_blank small (s.each u h) blank).1 in
        g.leaf_here ∙ rw (d, f)

    pub some_given_more : SomeGiven r base scale v level w w'' head head'' count count'' l
    some_given_more =
        record {
          same = beside-more s.same g.same;
          queue = g.queue;
          lined = k.lined;
          each = λ x i.
              ⊎_elim
              (λ (q : x ≡ u).
              subst (NodeGiven r v (scale * level) w w'' (waits l) (waits k.lined)) (sym q)
              (given_new (was_blank small (s.each u h) blank).0 edge g.estimate-here key_same (⊎_elim inl (λ z. inr (no_edge-to r u z)) k.here)))
              (λ (d : x ≡ u → ⊥). still (g.estimate_other x i d) (g.leaf_other x i d) (k.others x d) (s.each x i))
              (same_or_not x u);
        }

-- the row of v, looked at up to place e
pub record GivingRow (r : Block) (base : ℕ → ℕ) (scale v level : ℕ) (w w' head head' : List ℕ) (count count' e : ℕ) (l : Lined (nodes r) base scale w head count level) : Type 0 where
  pub some : SomeGiven r base scale v level w w' head head' count count' l
  pub from : min (row_start r v) (length r.edge_targets) ≤ e
  pub passed :
      (k : ℕ) → row_start r v ≤ k → k < e → k < length r.edge_targets → get_or r.edge_targets k 0 < nodes r → estimate_at (nodes r) w' (get_or r.edge_targets k 0) ≡ far → ⊥

module _ {r : Block} {base : ℕ → ℕ} {scale v level : ℕ} {w head : List ℕ} {count : ℕ} {l : Lined (nodes r) base scale w head count level} where
  pub row_begin : {e : ℕ} → Tournament (nodes r) w → e ≡ min (row_start r v) (length r.edge_targets) → GivingRow r base scale v level w w head head count count e l
  row_begin queue is = record { some = some_given_none queue; from = omega arith; passed = λ k a b m. absurd (omega arith) }

  module _ {w' head' : List ℕ} {count' e : ℕ} (s : GivingRow r base scale v level w w' head head' count count' e l) where
    -- a place with no node, or with one that has its estimate
    pub row_skip : (get_or r.edge_targets e 0 < nodes r → estimate_at (nodes r) w' (get_or r.edge_targets e 0) ≡ far → ⊥) → GivingRow r base scale v level w w' head head' count count' (e + 1) l
    row_skip Has-one =
        record {
          some = s.some;
          from = omega (arith, s.from);
          passed = λ k a b m.
              ⊎_elim
              (λ (q : k ≡ e). subst (λ (j : ℕ). get_or r.edge_targets j 0 < nodes r → estimate_at (nodes r) w' (get_or r.edge_targets j 0) ≡ far → ⊥) (sym q) Has-one)
              (λ (d : k ≡ e → ⊥). s.passed k a (omega arith) m)
              (same_or_not k e);
        }

    module _ {to : ℕ} (is : to ≡ min (row_start r (v + 1)) (length r.edge_targets)) where
      row-edge : e < to → has_edge r v (get_or r.edge_targets e 0) ≡ true
      row-edge more = place_edge r v e (omega (arith, s.from)) (omega arith) (omega arith)

      pub row-end : to ≤ e → GivenBefore r base scale v level w w' head head' count count' l
      row-end end =
          record {
            some = s.some;
            all = λ x h edge.
                let p = edge_where r v x edge in
                let z : get_or r.edge_targets p.0 0 < nodes r → estimate_at (nodes r) w' (get_or r.edge_targets p.0 0) ≡ far → ⊥ =
                s.passed p.0 p.1 (let a = p.2 in let b = p.3 in omega arith) p.3 in
                subst (λ (j : ℕ). j < nodes r → estimate_at (nodes r) w' j ≡ far → ⊥) p.4 z h;
          }

    -- a node that gets its estimate
    pub row_more :
        {w'' head'' : List ℕ} {count'' to : ℕ} → to ≡ min (row_start r (v + 1)) (length r.edge_targets) → e < to → scale * level < far
        → (h : get_or r.edge_targets e 0 < nodes r) → base (get_or r.edge_targets e 0) ≤ base_most → estimate_at (nodes r) w' (get_or r.edge_targets e 0) ≡ far
        → (g : Given (nodes r) (get_or r.edge_targets e 0) (scale * level) w' w'')
        → WaitsToSpread (nodes r) r.first_edges (get_or r.edge_targets e 0) (level + base (get_or r.edge_targets e 0)) w' w'' head' head'' count' count''
        → GivingRow r base scale v level w w'' head head'' count count'' (e + 1) l
    row_more {w''} is more small h light blank g lines_of =
        let k = lines s.some.lined h blank small light g lines_of in
        record {
          some = some_given_more s.some small h blank (row-edge is more) g k;
          from = omega (arith, s.from);
          passed = λ j a b m i f.
              ⊎_elim
              (λ (q : get_or r.edge_targets j 0 ≡ get_or r.edge_targets e 0).
              let z : estimate_at (nodes r) w'' (get_or r.edge_targets e 0) ≡ far = subst (λ (x : ℕ). estimate_at (nodes r) w'' x ≡ far) q f in
              omega (arith, g.estimate-here))
              (λ (d : get_or r.edge_targets j 0 ≡ get_or r.edge_targets e 0 → ⊥).
              s.passed j a (before j d b) m i (sym (g.estimate_other (get_or r.edge_targets j 0) i d) ∙ f))
              (same_or_not (get_or r.edge_targets j 0) (get_or r.edge_targets e 0));
        }
      where
        before : (j : ℕ) → (get_or r.edge_targets j 0 ≡ get_or r.edge_targets e 0 → ⊥) → j < e + 1 → j < e
        before j d b = ⊎_elim (λ (q : j ≡ e). absurd (d (ap (λ (k : ℕ). get_or r.edge_targets k 0) q))) (λ (q : j ≡ e → ⊥). omega arith) (same_or_not j e)
