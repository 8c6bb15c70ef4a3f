-- Laws of walks: their cost, one more step at the end, the last step taken off, and a walk with no node twice that costs no more.
-- Assumes nothing.
use mathlib.Core.Bool.{true, false}
use mathlib.Core.List.{List, [], ◌∷◌, ◌++◌}
use mathlib.Core.Logic.{◌⊎◌, ⊎_elim, inl, inr}
use mathlib.Core.Path.{◌≡◌, refl, sym, ◌∙◌}
use Prim.Native.Nat.{ℕ, zero, suc, ◌+◌, ◌*◌, ◌≤◌, ◌<◌, suc-le-suc}
use native.Mathlib.Nat.{not-suc-le-zero, le_of_suc-le-suc, add-zero, le_refl, le_trans, mul-le-mul_right}
use native.Mathlib.Omega.{arith}
use lib.ListN.{length, get_or}
use Rattle.price.specs.Bounds.{path_most}
use Rattle.price.specs.Lists.{has, distinct, total}
use Rattle.price.proofs.TestLaws.{by_test, true≢false}
use Rattle.price.proofs.ListLaws.{total-append, total-most}
use Rattle.search.specs.Block.{Block, nodes, has_edge}
use Rattle.search.specs.Paths.{Walk, stay, step, path_cost, Fair}
use Rattle.search.proofs.EdgeLaws.{Shaped, edge-node}
use Rattle.search.proofs.DistinctLaws.{has_cons, distinct_cons, distinct_rest, distinct-short}

-- a walk that stays costs nothing
pub stay-cost : (price : ℕ → ℕ) (u : ℕ) → path_cost price (u ∷ []) ≡ 0
unfolding path_cost total
stay-cost price u = refl

-- without its first node a list sums to no more
rest_less : (price : ℕ → ℕ) (u : ℕ) (path : List ℕ) → total price path ≤ total price (u ∷ path)
unfolding total
rest_less price u path = omega arith

-- and the same first node keeps the order of two sums
cons_less : (price : ℕ → ℕ) (u : ℕ) (part path : List ℕ) → total price part ≤ total price path → total price (u ∷ part) ≤ total price (u ∷ path)
unfolding total
cons_less price u part path h = omega arith

-- a walk to v, taken apart at its last step
pub record WalkEnd (b : Block) (price : ℕ → ℕ) (u : ℕ) (path : List ℕ) (v : ℕ) : Type 0 where
  pub before : ℕ
  pub front : List ℕ
  pub walk : Walk b u front before
  pub edge : has_edge b before v ≡ true
  pub cost : path_cost price path ≡ path_cost price front + price v

-- a walk with no node twice, whose prices sum to no more
record Once (b : Block) (price : ℕ → ℕ) (u : ℕ) (path : List ℕ) (v : ℕ) : Type 0 where
  path' : List ℕ
  walk : Walk b u path' v
  once : distinct path' ≡ true
  less : total price path' ≤ total price path

-- a walk with at most as many nodes as the block has, that costs no more than another and less than `path_most`
pub record Short (b : Block) (price : ℕ → ℕ) (u : ℕ) (path : List ℕ) (v : ℕ) : Type 0 where
  pub path' : List ℕ
  pub walk : Walk b u path' v
  pub few : length path' ≤ nodes b
  pub less : path_cost price path' ≤ path_cost price path
  pub most : path_cost price path' < path_most

module _ {b : Block} where
  -- at most as many nodes as the block has cost less than `path_most`
  pub cost-most : (price : ℕ → ℕ) → Fair b price → (path : List ℕ) → ((i : ℕ) → i < length path → get_or path i 0 < nodes b) → length path ≤ nodes b → path_cost price path < path_most
  unfolding path_cost
  cost-most price fair [] ns few = omega arith
  cost-most price fair (u ∷ path) ns few =
      let sum : total price path ≤ length path * fair.ceiling = total-most price fair.ceiling path (λ i l. fair.most (get_or path i 0) (ns (suc i) (suc-le-suc l))) in
      let all : length path * fair.ceiling ≤ nodes b * fair.ceiling = mul-le-mul_right fair.ceiling (omega arith) in
      let room = fair.fits in
      omega arith

  -- the cost leaves the first node out
  pub walk_total : (price : ℕ → ℕ) {u v : ℕ} {path : List ℕ} → Walk b u path v → total price path ≡ price u + path_cost price path
  unfolding total path_cost
  walk_total price (stay u) = refl
  walk_total price (step e w) = refl

  -- a first step costs the price of the node that it leads to
  pub step_cost : (price : ℕ → ℕ) (u : ℕ) {x v : ℕ} {path : List ℕ} → Walk b x path v → path_cost price (u ∷ path) ≡ price x + path_cost price path
  unfolding path_cost
  step_cost price u w = walk_total price w

  -- one more step at the end
  pub snoc : {u v x : ℕ} {path : List ℕ} → Walk b u path v → has_edge b v x ≡ true → Walk b u (path ++ (x ∷ [])) x
  snoc {x = x} (stay u) e = step e (stay x)
  snoc (step d w) e = step d (snoc w e)

  pub snoc_cost : (price : ℕ → ℕ) {u v : ℕ} {path : List ℕ} (x : ℕ) → Walk b u path v → path_cost price (path ++ (x ∷ [])) ≡ path_cost price path + price x
  unfolding path_cost total
  snoc_cost price x (stay u) = omega arith
  snoc_cost price x (step {path = path} d w) = total-append price path (x ∷ []) ∙ rw add-zero

  -- a walk stays where it is, or has a last step
  pub last_step : (price : ℕ → ℕ) {u v : ℕ} {path : List ℕ} → Walk b u path v → ((u ≡ v) × (path_cost price path ≡ 0)) ⊎ WalkEnd b price u path v
  last_step price (stay u) = inl (refl, stay-cost price u)
  last_step price {v = v} (step {u = u} {w = x} {path = path} e w) =
      inr
      (⊎_elim
      (λ (q : (x ≡ v) × (path_cost price path ≡ 0)).
      let to : x ≡ v = q.0 in
      let whole : path_cost price (u ∷ path) ≡ price x + path_cost price path = step_cost price u w in
      let none : path_cost price path ≡ 0 = q.1 in
      let sum : path_cost price (u ∷ path) ≡ path_cost price (u ∷ []) + price x = omega (arith, stay-cost price u) in
      record {
        before = u;
        front = u ∷ [];
        walk = stay u;
        edge = rw to at e;
        cost = rw to at sum;
      })
      (λ (r : WalkEnd b price x path v).
      let whole : path_cost price (u ∷ path) ≡ price x + path_cost price path = step_cost price u w in
      let part : path_cost price (u ∷ r.front) ≡ price x + path_cost price r.front = step_cost price u r.walk in
      let last : path_cost price path ≡ path_cost price r.front + price v = r.cost in
      record {
        before = r.before;
        front = u ∷ r.front;
        walk = step e r.walk;
        edge = r.edge;
        cost = omega arith;
      })
      (last_step price w))

  -- the part of a walk from a node that it passes
  from_node : (price : ℕ → ℕ) (x : ℕ) {u v : ℕ} {path : List ℕ} → Walk b u path v → has x path ≡ true → distinct path ≡ true → Once b price x path v
  unfolding has
  from_node price x (stay u) h d =
      ⊎_elim
      (λ (e : x ≡ u). record { path' = u ∷ []; walk = rw e (stay u); once = d; less = le_refl (total price (u ∷ [])) })
      (λ (m : false ≡ true). absurd (true≢false (sym m)))
      (has_cons x u [] h)
  from_node price x {v = v} (step {u = u} {path = path} e w) h d =
      ⊎_elim
      (λ (q : x ≡ u). record { path' = u ∷ path; walk = rw q (step e w); once = d; less = le_refl (total price (u ∷ path)) })
      (λ (m : has x path ≡ true).
      let r = from_node price x w m (distinct_rest u path d) in
      record { path' = r.path'; walk = r.walk; once = r.once; less = le_trans r.less (rest_less price u path) })
      (has_cons x u path h)

  -- a walk with no node twice between the same two nodes: where the first node comes again, begin there
  once : (price : ℕ → ℕ) {u v : ℕ} {path : List ℕ} → Walk b u path v → Once b price u path v
  unfolding distinct has
  once price (stay u) = record { path' = u ∷ []; walk = stay u; once = refl; less = le_refl (total price (u ∷ [])) }
  once price {v = v} (step {u = u} {path = path} e w) =
      let r = once price w in
      by_test (has u r.path')
      (λ h.
      let s = from_node price u r.walk h r.once in
      record { path' = s.path'; walk = s.walk; once = s.once; less = le_trans s.less (le_trans r.less (rest_less price u path)) })
      (λ h.
      record { path' = u ∷ r.path'; walk = step e r.walk; once = distinct_cons u r.path' h r.once; less = cons_less price u r.path' path r.less })

  module _ (g : Shaped b) where
    -- a walk to a node starts at a node
    pub walk_start : {u v : ℕ} {path : List ℕ} → v < nodes b → Walk b u path v → u < nodes b
    walk_start h (stay u) = h
    walk_start h (step {u = u} {w = x} e w) = edge-node b g u x e

    -- and passes only nodes
    pub walk_nodes : {u v : ℕ} {path : List ℕ} → v < nodes b → Walk b u path v → (i : ℕ) → i < length path → get_or path i 0 < nodes b
    walk_nodes h (stay u) zero l = h
    walk_nodes h (stay u) (suc i) l = absurd (not-suc-le-zero (le_of_suc-le-suc l))
    walk_nodes h (step {u = u} {w = x} e w) zero l = edge-node b g u x e
    walk_nodes h (step e w) (suc i) l = walk_nodes h w i (le_of_suc-le-suc l)

    -- a walk with no node twice has at most as many nodes as the block
    pub shorten : (price : ℕ → ℕ) → Fair b price → {u v : ℕ} {path : List ℕ} → v < nodes b → Walk b u path v → Short b price u path v
    shorten price fair {u} {v} {path} h w =
        let r = once price w in
        let ns = walk_nodes h r.walk in
        let few : length r.path' ≤ nodes b = distinct-short (nodes b) r.path' r.once ns in
        let whole : total price path ≡ price u + path_cost price path = walk_total price w in
        let part : total price r.path' ≡ price u + path_cost price r.path' = walk_total price r.walk in
        let less : total price r.path' ≤ total price path = r.less in
        record { path' = r.path'; walk = r.walk; few = few; less = omega arith; most = cost-most price fair r.path' ns few }
