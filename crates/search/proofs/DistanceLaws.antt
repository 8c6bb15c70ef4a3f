-- Laws of the distance: it is 0 on tree nodes, no way to a node is shorter, and where it is not `far` some path costs exactly that.
-- The first part says what holds after k rounds. A walk costs at least as much as some walk with no node twice, which has no more nodes than there are rounds.
-- Assumes nothing.
use mathlib.Core.Bool.{true, false}
use mathlib.Core.List.{List, [], ◌∷◌, ◌++◌}
use mathlib.Core.Logic.{⊎_elim}
use mathlib.Core.Path.{◌≡◌, sym, ◌∙◌}
use Prim.Native.Nat.{ℕ, zero, suc, ◌+◌, ◌≤◌, ◌<◌, zero-le}
use native.Mathlib.Nat.{le_refl, le_trans, le_antisymm, le_of_eq, le_dest, lt_irrefl, add-zero, suc-add, add-suc, zero-add}
use native.Mathlib.Omega.{arith}
use lib.ListN.{length, get_or, get_or-eq_default}
use borrow.Author.Tests.{eq-eqb, ne_eqb}
use Rattle.price.specs.Bounds.{path_most}
use Rattle.price.specs.Test.{choose}
use Rattle.price.specs.Lists.{up_to, least}
use Rattle.price.proofs.TestLaws.{by_test, true≢false, le_or_lt}
use Rattle.price.proofs.ListLaws.{length_up_to, get_or_up_to}
use Rattle.price.proofs.EntryLaws.{least_top, least-le, least-is}
use Rattle.search.specs.Block.{Block, nodes, has_edge}
use Rattle.search.specs.Paths.{Walk, stay, step, path_cost, Fair}
use Rattle.search.specs.Distance.{far, LeastCost, reached, unreached, tree_has, tree_distances, nearer, round, rounds, distances, distance}
use Rattle.search.proofs.EdgeLaws.{Shaped, edge-node}
use Rattle.search.proofs.WalkLaws.{stay-cost, step_cost, snoc, snoc_cost, last_step, WalkEnd, walk_start, shorten}

-- a node is in the tree where its mark is 1
pub out_of_tree : (marks : List ℕ) (v : ℕ) → (get_or marks v 0 ≡ 1 → ⊥) → tree_has marks v ≡ false
unfolding tree_has
out_of_tree marks v e = ne_eqb (get_or marks v 0) 1 e

pub in_the_tree : (marks : List ℕ) (v : ℕ) → get_or marks v 0 ≡ 1 → tree_has marks v ≡ true
unfolding tree_has
in_the_tree marks v e = eq-eqb (get_or marks v 0) 1 e

-- a node's distance after k rounds
abbrev after : Block → (ℕ → ℕ) → List ℕ → ℕ → ℕ → ℕ
after b price marks k v = get_or (rounds b price (tree_distances b marks) k) v far

-- the way to v over each node
abbrev ways : Block → (ℕ → ℕ) → List ℕ → ℕ → List ℕ
ways b price ds v = up_to (λ u. choose (has_edge b u v) (get_or ds u far + price v) far) (nodes b)

-- a path from the tree to v at cost d
abbrev Path-at : Block → (ℕ → ℕ) → List ℕ → ℕ → ℕ → Type 0
Path-at b price marks v d =
    (t : ℕ) × (path : List ℕ) × (t < nodes b) × (tree_has marks t ≡ true) × Walk b t path v × (path_cost price path ≡ d)

module _ (b : Block) (price : ℕ → ℕ) (marks : List ℕ) where
  -- what holds after k rounds
  length-rounds : (k : ℕ) → length (rounds b price (tree_distances b marks) k) ≡ nodes b
  unfolding rounds round tree_distances
  length-rounds zero = length_up_to (λ v. choose (tree_has marks v) 0 far) (nodes b)
  length-rounds (suc k) = length_up_to (nearer b price (rounds b price (tree_distances b marks) k)) (nodes b)

  -- the entries before the first round, and after one more
  after_none : (v : ℕ) → v < nodes b → after b price marks 0 v ≡ choose (tree_has marks v) 0 far
  unfolding rounds tree_distances
  after_none v h = get_or_up_to (λ v. choose (tree_has marks v) 0 far) (nodes b) v far h

  after_one : (k v : ℕ) → v < nodes b → after b price marks (suc k) v ≡ least (after b price marks k v) (ways b price (rounds b price (tree_distances b marks) k) v)
  unfolding rounds round nearer
  after_one k v h = get_or_up_to (nearer b price (rounds b price (tree_distances b marks) k)) (nodes b) v far h

  -- a round makes no distance larger
  after_keeps : (k v : ℕ) → v < nodes b → after b price marks (suc k) v ≤ after b price marks k v
  after_keeps k v h = rw (after_one k v h) (least_top (after b price marks k v) (ways b price (rounds b price (tree_distances b marks) k) v))

  -- a round goes over each edge
  after_step : (k u v : ℕ) → u < nodes b → v < nodes b → has_edge b u v ≡ true → after b price marks (suc k) v ≤ after b price marks k u + price v
  after_step k u v hu hv e =
      let ds = rounds b price (tree_distances b marks) k in
      let way : get_or (ways b price ds v) u 0 ≡ choose (has_edge b u v) (get_or ds u far + price v) far =
      get_or_up_to (λ x. choose (has_edge b x v) (get_or ds x far + price v) far) (nodes b) u 0 hu in
      let long : length (ways b price ds v) ≡ nodes b = length_up_to (λ x. choose (has_edge b x v) (get_or ds x far + price v) far) (nodes b) in
      rw (after_one k v hv)
      (le_trans (least-le (get_or ds v far) (ways b price ds v) u (rw long hu)) (le_of_eq (way ∙ rw e)))

  -- beyond the nodes it is `far`
  after-out : (k v : ℕ) → nodes b ≤ v → after b price marks k v ≡ far
  after-out k v h = get_or-eq_default (rounds b price (tree_distances b marks) k) far (rw (length-rounds k) h)

  -- it is at most `far`
  after_top_node : (k v : ℕ) → v < nodes b → after b price marks k v ≤ far
  after_top_node zero v h =
      rw (after_none v h)
      (by_test (tree_has marks v)
      (λ t. rw t zero-le)
      (λ t. rw t (le_refl far)))
  after_top_node (suc k) v h = le_trans (after_keeps k v h) (after_top_node k v h)

  after_top : (k v : ℕ) → after b price marks k v ≤ far
  after_top k v =
      ⊎_elim (λ (h : nodes b ≤ v). le_of_eq (after-out k v h)) (λ (h : v < nodes b). after_top_node k v h) (le_or_lt (nodes b) v)

  -- tree nodes keep 0
  after-tree : (k v : ℕ) → v < nodes b → tree_has marks v ≡ true → after b price marks k v ≡ 0
  after-tree zero v h t = after_none v h ∙ rw t
  after-tree (suc k) v h t =
      let kept : after b price marks (suc k) v ≤ after b price marks k v = after_keeps k v h in
      let none : after b price marks k v ≡ 0 = after-tree k v h t in
      le_antisymm (rw none at kept) zero-le

  -- where it is not `far` a path costs exactly that
  after-path : (k v : ℕ) → v < nodes b → after b price marks k v < far → Path-at b price marks v (after b price marks k v)
  after-path zero v h l =
      by_test (tree_has marks v)
      (λ t. (v, v ∷ [], h, t, stay v, stay-cost price v ∙ sym (after-tree 0 v h t)))
      (λ t.
      let none : after b price marks 0 v ≡ far = after_none v h ∙ rw t in
      absurd (lt_irrefl far (rw none at l)))
  after-path (suc k) v h l =
      let ds = rounds b price (tree_distances b marks) k in
      ⊎_elim
      (λ (q : least (get_or ds v far) (ways b price ds v) ≡ get_or ds v far).
      let same : after b price marks (suc k) v ≡ after b price marks k v = after_one k v h ∙ q in
      rw same (after-path k v h (rw same at l)))
      (λ (q : (u : ℕ) × (u < length (ways b price ds v)) × (get_or (ways b price ds v) u 0 ≡ least (get_or ds v far) (ways b price ds v))).
      let u : ℕ = q.0 in
      let long : length (ways b price ds v) ≡ nodes b = length_up_to (λ x. choose (has_edge b x v) (get_or ds x far + price v) far) (nodes b) in
      let hu : u < nodes b = rw long at q.1 in
      let way : choose (has_edge b u v) (after b price marks k u + price v) far ≡ after b price marks (suc k) v =
      sym (get_or_up_to (λ x. choose (has_edge b x v) (get_or ds x far + price v) far) (nodes b) u 0 hu) ∙ q.2 ∙ sym (after_one k v h) in
      by_test (has_edge b u v)
      (λ e.
      let sum : after b price marks k u + price v ≡ after b price marks (suc k) v = rw e at way in
      let near : after b price marks k u < far = omega arith in
      let r = after-path k u hu near in (
        r.0,
        r.1 ++ (v ∷ []),
        r.2,
        r.3,
        snoc r.4 e,
        snoc_cost price v r.4 ∙ rw r.5 sum,
      ))
      (λ e.
      let none : far ≡ after b price marks (suc k) v = rw e at way in
      absurd (lt_irrefl far (rw (← none) at l))))
      (least-is (get_or ds v far) (ways b price ds v))

  -- rounds as many as a walk has nodes go along it
  after_walk :
      Shaped b → (j : ℕ) {u v : ℕ} {path : List ℕ} → v < nodes b → Walk b u path v
      → after b price marks (length path + j) v ≤ after b price marks j u + path_cost price path
  after_walk g j h (stay u) =
      rw (suc-add, zero-add, stay-cost price u, add-zero) (after_keeps j u h)
  after_walk g j {v = v} h (step {u = u} {w = x} {path = path} e w) =
      let hx : x < nodes b = walk_start g h w in
      let here : after b price marks (suc j) x ≤ after b price marks j u + price x = after_step j u x (edge-node b g u x e) hx e in
      let on : after b price marks (length path + suc j) v ≤ after b price marks (suc j) x + path_cost price path = after_walk g (suc j) h w in
      let whole : path_cost price (u ∷ path) ≡ price x + path_cost price path = step_cost price u w in
      rw (suc-add, ← add-suc) (omega arith)

  pub length-distances : length (distances b price marks) ≡ nodes b
  unfolding distances
  length-distances = length-rounds (nodes b)

  pub distance_top : (v : ℕ) → distance b price marks v ≤ far
  unfolding distances
  distance_top v = after_top (nodes b) v

  pub distance-tree : (v : ℕ) → v < nodes b → tree_has marks v ≡ true → distance b price marks v ≡ 0
  unfolding distances
  distance-tree v h t = after-tree (nodes b) v h t

  module _ (g : Shaped b) (fair : Fair b price) where
    -- no walk from the tree costs less that has at most as many nodes as there are rounds
    short_walk : (t v : ℕ) (path : List ℕ) → v < nodes b → tree_has marks t ≡ true → Walk b t path v → length path ≤ nodes b → distance b price marks v ≤ path_cost price path
    unfolding distances
    short_walk t v path h m w few =
        let r = le_dest few in
        let along : after b price marks (length path + r.0) v ≤ after b price marks r.0 t + path_cost price path = after_walk g r.0 h w in
        let whole : length path + r.0 ≡ nodes b = r.1 in
        let start : after b price marks r.0 t ≡ 0 = after-tree r.0 t (walk_start g h w) m in
        rw (whole, start, zero-add) at along

    -- (a) no path from the tree costs less, also one that passes a node twice
    pub no_path-cheaper : (t v : ℕ) (path : List ℕ) → v < nodes b → tree_has marks t ≡ true → Walk b t path v → distance b price marks v ≤ path_cost price path
    no_path-cheaper t v path h m w =
        let s = shorten g price fair h w in
        le_trans (short_walk t v s.path' h m s.walk s.few) s.less

    -- (b) where it is not `far` a path costs exactly that
    pub some_path : (v : ℕ) → v < nodes b → distance b price marks v < far → (t : ℕ) × (path : List ℕ) × (t < nodes b) × (tree_has marks t ≡ true) × Walk b t path v × (path_cost price path ≡ distance b price marks v)
    unfolding distances
    some_path v h l = after-path (nodes b) v h l

    -- (c) these two determine it
    pub distance_is :
        (d v : ℕ) → v < nodes b → d ≤ far
        → ((t : ℕ) (path : List ℕ) → t < nodes b → tree_has marks t ≡ true → Walk b t path v → d ≤ path_cost price path)
        → (d < far → (t : ℕ) × (path : List ℕ) × (t < nodes b) × (tree_has marks t ≡ true) × Walk b t path v × (path_cost price path ≡ d))
        → d ≡ distance b price marks v
    distance_is d v h top a some =
        le_antisymm
        (⊎_elim
        (λ (q : far ≤ distance b price marks v). le_trans top q)
        (λ (q : distance b price marks v < far).
        let r = some_path v h q in
        le_trans (a r.0 r.1 r.2 r.3 r.4) (le_of_eq r.5))
        (le_or_lt far (distance b price marks v)))
        (⊎_elim
        (λ (q : far ≤ d). le_trans (distance_top v) q)
        (λ (q : d < far).
        let r = some q in
        le_trans (no_path-cheaper r.0 v r.1 h r.3 r.4) (le_of_eq r.5))
        (le_or_lt far d))

    -- it is at most the largest price for each node
    pub distance_most : (v : ℕ) → v < nodes b → distance b price marks v < far → distance b price marks v < path_most
    distance_most v h l =
        let r = some_path v h l in
        let s = shorten g price fair h r.4 in
        let less = short_walk r.0 v s.path' h r.3 s.walk s.few in
        omega (arith, s.most)

    -- a node to which any path leads from the tree has a distance
    pub path-near : (t v : ℕ) (path : List ℕ) → v < nodes b → tree_has marks t ≡ true → Walk b t path v → distance b price marks v < far
    path-near t v path h m w =
        let s = shorten g price fair h w in
        let less = short_walk t v s.path' h m s.walk s.few in
        omega (arith, s.most)

    -- so the distance is the least cost of a path from the tree, `far` exactly where there is none
    pub distance_least : (v : ℕ) → v < nodes b → LeastCost b price (tree_has marks) v (distance b price marks v)
    distance_least v h =
        ⊎_elim
        (λ (q : far ≤ distance b price marks v).
        unreached (le_antisymm (distance_top v) q)
        (λ t path m w. let near = path-near t v path h m w in omega arith))
        (λ (q : distance b price marks v < far).
        let r = some_path v h q in
        reached r.0 r.1 r.3 r.4 r.5 q (λ t other m w. no_path-cheaper t v other h m w))
        (le_or_lt far (distance b price marks v))

    -- no edge leads to a shorter way
    pub distance_step : (u v : ℕ) → v < nodes b → has_edge b u v ≡ true → distance b price marks v ≤ distance b price marks u + price v
    distance_step u v h e =
        ⊎_elim
        (λ (q : far ≤ distance b price marks u). omega (arith, distance_top v))
        (λ (q : distance b price marks u < far).
        let r = some_path u (edge-node b g u v e) q in
        let less : distance b price marks v ≤ path_cost price (r.1 ++ (v ∷ [])) = no_path-cheaper r.0 v (r.1 ++ (v ∷ [])) h r.3 (snoc r.4 e) in
        omega (arith, snoc_cost price v r.4, r.5))
        (le_or_lt far (distance b price marks u))

    -- a node outside the tree that has a path has its distance over some edge
    pub distance-over : (v : ℕ) → v < nodes b → tree_has marks v ≡ false → distance b price marks v < far → (u : ℕ) × (has_edge b u v ≡ true) × (distance b price marks v ≡ distance b price marks u + price v)
    distance-over v h o l =
        let r = some_path v h l in
        let t : ℕ = r.0 in
        let path : List ℕ = r.1 in
        ⊎_elim
        (λ (q : (t ≡ v) × (path_cost price path ≡ 0)).
        let e : t ≡ v = q.0 in
        let m : tree_has marks t ≡ true = r.3 in
        absurd (true≢false (sym (rw e at m) ∙ o)))
        (λ (s : WalkEnd b price t path v).
        let less : distance b price marks s.before ≤ path_cost price s.front = no_path-cheaper t s.before s.front (edge-node b g s.before v s.edge) r.3 s.walk in
        let most : distance b price marks v ≤ distance b price marks s.before + price v = distance_step s.before v h s.edge in
        let cost : path_cost price path ≡ path_cost price s.front + price v = s.cost in
        let is : path_cost price path ≡ distance b price marks v = r.5 in
        (s.before, s.edge, omega arith))
        (last_step price r.4)
