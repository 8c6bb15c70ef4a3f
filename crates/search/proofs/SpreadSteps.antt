-- Looking at an edge keeps what holds while labels spread.
--     label-heap                      a label on a bare node leaves the heap in order
--     pass-more                       one more place of a row is passed
--     spread_lower, spread-label      a lower predecessor; a first label
--     onward-none, onward_trans       what stays from step to step
--     relax-step                      what looking at one edge does, whole
-- Assumes nothing.
use mathlib.Core.Bool.{Bool, true, false}
use mathlib.Core.List.{List}
use mathlib.Core.Logic.{◌⊎◌, ⊎_elim, inl, inr}
use mathlib.Core.Path.{◌≡◌, refl, sym, ◌∙◌, ap}
use Prim.Native.Nat.{ℕ, suc, ◌+◌, ◌*◌, ◌/◌, ◌%◌, ◌≤◌, ◌<◌}
use native.Mathlib.Nat.{le_refl, le_trans, mul-le-mul_right, suc-mul}
use native.Mathlib.Omega.{arith}
use lib.ListN.{length, get_or, set, length-set}
use borrow.Author.Tests.{le-leb, lt-leb, leb-true}
use Rattle.price.specs.Bounds.{path_most, nodes_most}
use Rattle.price.proofs.TestLaws.{le_or_lt, true≢false, same_or_not}
use Rattle.price.proofs.BelowLaws.{count_less, count_same}
use Rattle.search.specs.Block.{Block, nodes, has_edge}
use Rattle.search.specs.Labels.{goal, label_at, from_at, with_from, wait_at, key_at, beside_at, Waits, Heaped}
use Rattle.search.specs.Spread.{bare, bare_count, Came, PlacePassed, EdgeLooked, EdgePast, Spread, SpreadOnward, labelled, Idle, Labelled, ends, waits, GoalMet, lowered, stays, EdgeRelaxed, beyond, labels, lowers, tree, LabelReady}
use Rattle.search.proofs.StoreLaws.{store_here, store_other}
use Rattle.search.proofs.HeapLaws.{from_else, from_here, from_other, from_wait}

-- ---- a label on a bare node

module _ {n count u v : ℕ} {firsts w : List ℕ} (r : LabelReady n firsts w count u v) (d : ℕ) where
  labelled-long : length (labelled n w u v d) ≡ length w
  labelled-long = length-set (set w v d) (n + v) (wait_at n (set w v d) v * 65536 + u) ∙ length-set w v d

  labelled_other : (j : ℕ) → (j ≡ v → ⊥) → (j ≡ n + v → ⊥) → get_or (labelled n w u v d) j 0 ≡ get_or w j 0
  labelled_other j a b = from_else n (set w v d) u v j b ∙ store_other w v d j a

  labelled-here : label_at (labelled n w u v d) v ≡ d
  labelled-here = from_else n (set w v d) u v v (λ e. omega (arith, r.v_node)) ∙ store_here w v d (omega (arith, r.heap.long, r.v_node))

  label_small : u < 65536
  label_small = omega (arith, r.few, r.u_node)

  label-room : n + v < length (set w v d)
  label-room = rw (length-set w v d) (omega (arith, r.heap.long, r.v_node))

  labelled_from : from_at n (labelled n w u v d) v ≡ u
  labelled_from = from_here n (set w v d) u v label_small label-room

  -- a waiting node has a label, so that it is not v
  waits_other : (i : ℕ) → i < count → wait_at n w i ≡ v → ⊥
  waits_other i l e =
      let low : label_at w (wait_at n w i) < goal = r.labels-low i l in
      let low' : label_at w v < goal = rw e at low in
      omega (arith, r.v_bare)

  labelled_wait : (i : ℕ) → wait_at n (labelled n w u v d) i ≡ wait_at n w i
  labelled_wait i =
      from_wait n (set w v d) u v label_small label-room i ∙ ap (λ (x : ℕ). x / 65536) (store_other w v d (n + i) (λ e. omega (arith, r.v_node)))

  labelled-beside : (i : ℕ) → beside_at n (labelled n w u v d) i ≡ beside_at n w i
  labelled-beside i = labelled_other (2 * n + i) (λ e. omega (arith, r.v_node)) (λ e. omega (arith, r.v_node))

  labelled_key : (i : ℕ) → i < count → key_at n (labelled n w u v d) i ≡ key_at n w i
  labelled_key i l =
      rw (labelled_wait i)
      (labelled_other (wait_at n w i) (waits_other i l) (λ e. let node : wait_at n w i < n = r.heap.nodes i l in omega arith))

  labelled-heap : Heaped n count (labelled n w u v d)
  labelled-heap = record {
    long = rw labelled-long r.heap.long;
    few = r.heap.few;
    ordered = λ i c a b l.
        let li : i < count = omega arith in
        rw (labelled_key i li, labelled_key c l) (r.heap.ordered i c a b l);
    nodes = λ i l. rw (labelled_wait i) (r.heap.nodes i l);
    keyed = λ i l. labelled-beside i ∙ r.heap.keyed i l ∙ sym (labelled_key i l);
  }

  pub label-heap : {w₁ : List ℕ} → w₁ ≡ labelled n w u v d → Heaped n count w₁
  label-heap e = rw e labelled-heap

-- what a first label leaves: v has label d from u and nothing else has changed, but that v may wait
record Fresh (n : ℕ) (firsts targets : List ℕ) (goals : Bool) (u v d : ℕ) (w w' : List ℕ) (count count' : ℕ) : Type 0 where
  long : length w' ≡ length w
  high : (j : ℕ) → 3 * n ≤ j → get_or w' j 0 ≡ get_or w j 0
  label-here : label_at w' v ≡ d
  label_other : (x : ℕ) → x < n → (x ≡ v → ⊥) → label_at w' x ≡ label_at w x
  from_here : from_at n w' v ≡ u
  from_other : (x : ℕ) → x < n → (x ≡ v → ⊥) → from_at n w' x ≡ from_at n w x
  heap : Heaped n count' w'
  most : count' ≤ count + 1
  all : (i : ℕ) → i < count' → (wait_at n w' i ≡ v) ⊎ Waits n count w (wait_at n w' i)
  kept : (x : ℕ) → Waits n count w x → Waits n count' w' x
  out : Waits n count' w' v ⊎ Idle n firsts targets goals w' v

module _ {n count u v : ℕ} {firsts w : List ℕ} (r : LabelReady n firsts w count u v) (d : ℕ) where
  fresh_of :
      {targets : List ℕ} {goals : Bool} {w' : List ℕ} {count' : ℕ} → Labelled n firsts targets goals u v d w w' count count'
      → Fresh n firsts targets goals u v d w w' count count'
  fresh_of (ends idle e ec) = rw (e, ec) (record {
    long = labelled-long r d;
    high = λ j l. labelled_other r d j (λ q. omega (arith, r.v_node)) (λ q. omega (arith, r.v_node));
    label-here = labelled-here r d;
    label_other = λ x h q. labelled_other r d x q (λ p. omega arith);
    from_here = labelled_from r d;
    from_other = λ x h q. ap (λ (y : ℕ). y % 65536) (labelled_other r d (n + x) (λ p. omega (arith, r.v_node)) (λ p. q (omega arith)));
    heap = labelled-heap r d;
    most = omega arith;
    all = λ i l. inr (i, l, sym (labelled_wait r d i));
    kept = λ x q. (q.0, q.1, labelled_wait r d q.0 ∙ q.2);
    out = inr idle;
  })
  fresh_of {targets} {goals} {w'} (waits a ec) = rw ec (record {
    long = a.moved.same.long ∙ labelled-long r d;
    high = λ j l. a.moved.same.high j l ∙ labelled_other r d j (λ q. omega (arith, r.v_node)) (λ q. omega (arith, r.v_node));
    label-here = a.moved.same.low v r.v_node ∙ labelled-here r d;
    label_other = λ x h q. a.moved.same.low x h ∙ labelled_other r d x q (λ p. omega arith);
    from_here = a.moved.from v r.v_node ∙ labelled_from r d;
    from_other = λ x h q. a.moved.from x h ∙ ap (λ (y : ℕ). y % 65536) (labelled_other r d (n + x) (λ p. omega (arith, r.v_node)) (λ p. q (omega arith)));
    heap = record {
      long = rw (a.moved.same.long, labelled-long r d) r.heap.long;
      few = omega (arith, r.more);
      ordered = a.ordered;
      nodes = λ i l.
          ⊎_elim
          (λ (q : wait_at n w' i ≡ v). rw q r.v_node)
          (λ (q : Waits n count (labelled n w u v d) (wait_at n w' i)). rw q.2 at ((labelled-heap r d).nodes q.0 q.1))
          (a.all i l);
      keyed = a.keyed;
    };
    most = omega arith;
    all = λ i l.
        ⊎_elim
        (λ (q : wait_at n w' i ≡ v). inl q)
        (λ (q : Waits n count (labelled n w u v d) (wait_at n w' i)). inr (q.0, q.1, sym (labelled_wait r d q.0) ∙ q.2))
        (a.all i l);
    kept = λ x q. a.kept x (q.0, q.1, labelled_wait r d q.0 ∙ q.2);
    out = inl a.new;
  })

-- ---- what stays from step to step

pub onward-none : (n : ℕ) (w : List ℕ) (best : ℕ) → SpreadOnward n w w best best
onward-none n w best = record {
  long = refl;
  high = λ j l. refl;
  kept = λ v h l. refl;
  still = λ v h l m. refl;
  pos = λ v h l. omega arith;
  less = le_refl best;
  least = λ v h e l. absurd (omega arith);
  some = inl refl;
}

pub onward_trans : {n : ℕ} {w w₁ w₂ : List ℕ} {best best₁ best₂ : ℕ} → SpreadOnward n w w₁ best best₁ → SpreadOnward n w₁ w₂ best₁ best₂ → SpreadOnward n w w₂ best best₂
onward_trans {n} {w} {w₁} {w₂} {best} {best₁} {best₂} a c =
    let bare-then : (v : ℕ) → v < n → goal ≤ label_at w₂ v → goal ≤ label_at w₁ v =
    λ v h l.
    ⊎_elim (λ q. q) (λ (q : label_at w₁ v < goal). absurd (let e = c.kept v h q in omega arith)) (le_or_lt goal (label_at w₁ v)) in
    let bare-first : (v : ℕ) → v < n → goal ≤ label_at w₁ v → goal ≤ label_at w v =
    λ v h l.
    ⊎_elim (λ q. q) (λ (q : label_at w v < goal). absurd (let e = a.kept v h q in omega arith)) (le_or_lt goal (label_at w v)) in
    record {
      long = c.long ∙ a.long;
      high = λ j l. c.high j l ∙ a.high j l;
      kept = λ v h l. let e = a.kept v h l in c.kept v h (omega arith) ∙ e;
      still = λ v h l m. let l₁ = bare-then v h m in c.still v h l₁ m ∙ a.still v h l l₁;
      pos = λ v h l.
          ⊎_elim
          (λ (q : goal ≤ label_at w₁ v). c.pos v h q)
          (λ (q : label_at w₁ v < goal). let e = c.kept v h q in let p = a.pos v h l in omega arith)
          (le_or_lt goal (label_at w₁ v));
      less = le_trans c.less a.less;
      least = λ v h e l.
          ⊎_elim
          (λ (q : goal ≤ label_at w₁ v).
          let same : label_at w₁ v ≡ label_at w v = a.still v h (omega arith) q in
          c.least v h (same ∙ e) l)
          (λ (q : label_at w₁ v < goal).
          let same : label_at w₂ v ≡ label_at w₁ v = c.kept v h q in
          let first : best₁ ≤ label_at w₁ v = a.least v h e q in
          let less = c.less in
          omega arith)
          (le_or_lt goal (label_at w₁ v));
      some =
          ⊎_elim
          (λ (q : best₂ ≡ best₁).
          ⊎_elim
          (λ (p : best₁ ≡ best). inl (q ∙ p))
          (λ (p : (v : ℕ) × (v < n) × (label_at w v ≡ goal) × (label_at w₁ v ≡ best₁) × (best₁ < goal)).
          let low : label_at w₁ p.0 < goal = let e = p.3 in let l = p.4 in omega arith in
          inr (p.0, p.1, p.2, c.kept p.0 p.1 low ∙ p.3 ∙ sym q, let l = p.4 in omega arith))
          a.some)
          (λ (p : (v : ℕ) × (v < n) × (label_at w₁ v ≡ goal) × (label_at w₂ v ≡ best₂) × (best₂ < goal)).
          let g : goal ≤ label_at w₁ p.0 = let e = p.2 in omega arith in
          let same : label_at w₁ p.0 ≡ label_at w p.0 = a.still p.0 p.1 (bare-first p.0 p.1 g) g in
          inr (p.0, p.1, sym same ∙ p.2, p.3, p.4))
          c.some;
    }

-- ---- the steps

-- a bare node counts
pub bare_some : (n : ℕ) (w : List ℕ) (v : ℕ) → v < n → goal ≤ label_at w v → 0 < bare_count n w
bare_some n w v h l =
    let m = count_less (bare w) (λ (x : ℕ). false) n v (λ x k p. absurd (true≢false (sym p))) h (le-leb goal (label_at w v) l) refl in
    omega arith

-- a node has got a first label
bare-fewer : (n : ℕ) (w w' : List ℕ) (v : ℕ) → v < n → goal ≤ label_at w v → label_at w' v < goal → ((x : ℕ) → x < n → (x ≡ v → ⊥) → label_at w' x ≡ label_at w x) → bare_count n w' < bare_count n w
bare-fewer n w w' v h l m same =
    count_less (bare w) (bare w') n v
    (λ x k p.
    ⊎_elim
    (λ (e : x ≡ v).
    let now : goal ≤ label_at w' x = leb-true goal (label_at w' x) p in
    let then : goal ≤ label_at w' v = rw e at now in
    absurd (omega arith))
    (λ (q : x ≡ v → ⊥). le-leb goal (label_at w x) (rw (same x k q) at (leb-true goal (label_at w' x) p)))
    (same_or_not x v))
    h (le-leb goal (label_at w v) l) (lt-leb goal (label_at w' v) m)

-- one bare node less leaves room for a price more
more_room : (m n c : ℕ) → m < n → m * c + c ≤ n * c
more_room m n c l =
    let z : suc m * c ≤ n * c = mul-le-mul_right c l in
    rw (suc-mul m c) at z

-- what looking at one edge of u, of label d, does
pub record Stepped (b : Block) (price : ℕ → ℕ) (goals : Bool) (start : List ℕ) (d u place : ℕ) (w w' : List ℕ) (count count' best best' : ℕ) : Type 0 where
  pub spread : Spread b price goals start w' count' d u place
  pub here : label_at w' u ≡ d
  pub onward : SpreadOnward (nodes b) w w' best best'
  pub fewer : 2 * bare_count (nodes b) w' + count' ≤ 2 * bare_count (nodes b) w + count

-- one more place of the row is passed
passed :
    {b : Block} {price : ℕ → ℕ} {goals : Bool} {start w : List ℕ} {count d u place : ℕ} → Spread b price goals start w count d u place
    → (get_or b.edge_targets place 0 < nodes b → EdgeLooked (nodes b) price w u (get_or b.edge_targets place 0)) → Spread b price goals start w count d u (place + 1)
passed {b} {price} {goals} {start} {w} {count} {d} {u} {place} s look = record {
  fair = s.fair;
  heap = s.heap;
  room = s.room;
  waits-label = s.waits-label;
  waits-far = s.waits-far;
  bound = s.bound;
  came = s.came;
  unmet = s.unmet;
  done = λ x h l.
      ⊎_elim
      inl
      (λ (f : (k : ℕ) → PlacePassed b u place x k → get_or b.edge_targets k 0 < nodes b → EdgePast b price goals start w x (get_or b.edge_targets k 0)).
      inr
      (λ k p t.
      ⊎_elim
      (λ (e : k ≡ place).
      ⊎_elim
      (λ (ex : x ≡ u). rw (ex, e) (inl (look (rw e at t))))
      (λ (dx : x ≡ u → ⊥). f k (record { from = p.from; below = p.below; within = p.within; seen = λ q. absurd (dx q) }) t)
      (same_or_not x u))
      (λ (dk : k ≡ place → ⊥).
      f k (record { from = p.from; below = p.below; within = p.within; seen = λ q. let z : k < place + 1 = p.seen q in omega arith }) t)
      (same_or_not k place)))
      (s.done x h l);
}

pass_on :
    {b : Block} {price : ℕ → ℕ} {goals : Bool} {start w : List ℕ} {count d u place : ℕ} → Spread b price goals start w count d u place → label_at w u ≡ d
    → (v : ℕ) → get_or b.edge_targets place 0 ≡ v → EdgeLooked (nodes b) price w u v → Spread b price goals start w count d u (place + 1)
pass_on {b} {price} {goals} {start} {w} {count} {d} {u} {place} s here v at look = passed s (λ t. rw at look)

module _ {b : Block} {price : ℕ → ℕ} {goals : Bool} {start w : List ℕ} {count d u place : ℕ}
    (s : Spread b price goals start w count d u place) (few : nodes b ≤ nodes_most) (node : u < nodes b) (here : label_at w u ≡ d) (low : d < goal) where
  -- a label is far below `goal`
  pub spread-low : d < path_most
  spread-low =
      let m = s.bound u node (omega arith) in
      let top : nodes b * s.fair.ceiling < path_most = s.fair.fits in
      omega arith

  look_tree : (v : ℕ) → label_at w v ≡ 0 → EdgeLooked (nodes b) price w u v
  look_tree v e = record { labelled = omega arith; near = omega arith; lowest = λ p q. absurd (omega arith) }

  look_kept :
      (v : ℕ) → v < nodes b → 0 < label_at w v → label_at w v < goal → (label_at w (from_at (nodes b) w v) ≡ d → from_at (nodes b) w v ≤ u)
      → EdgeLooked (nodes b) price w u v
  look_kept v h p l lowest =
      let c = s.came v h p l in
      let sum : label_at w v ≡ label_at w (from_at (nodes b) w v) + price v = c.sum in
      let near : label_at w (from_at (nodes b) w v) ≤ d = c.near in
      record { labelled = l; near = omega arith; lowest = λ q e. lowest (e ∙ here) }

  kept_step : {best : ℕ} → (get_or b.edge_targets place 0 < nodes b → EdgeLooked (nodes b) price w u (get_or b.edge_targets place 0)) → Stepped b price goals start d u (place + 1) w w count count best best
  kept_step {best} look = record { spread = passed s look; here = here; onward = onward-none (nodes b) w best; fewer = le_refl _ }

  -- a lower predecessor of v
  module _ (v : ℕ) (h : v < nodes b) (pos : 0 < label_at w v) (l : label_at w v < goal) (edge : has_edge b u v ≡ true)
      (less : u < from_at (nodes b) w v) (same : label_at w (from_at (nodes b) w v) ≡ d) where
    low-label : (x : ℕ) → x < nodes b → label_at (with_from (nodes b) w u v) x ≡ label_at w x
    low-label x k = from_else (nodes b) w u v x (λ e. omega arith)

    low_wait : (i : ℕ) → wait_at (nodes b) (with_from (nodes b) w u v) i ≡ wait_at (nodes b) w i
    low_wait i = from_wait (nodes b) w u v (omega arith) (omega (arith, s.heap.long)) i

    low-beside : (i : ℕ) → beside_at (nodes b) (with_from (nodes b) w u v) i ≡ beside_at (nodes b) w i
    low-beside i = from_else (nodes b) w u v (2 * nodes b + i) (λ e. omega arith)

    low_key : (i : ℕ) → i < count → key_at (nodes b) (with_from (nodes b) w u v) i ≡ key_at (nodes b) w i
    low_key i k = rw (low_wait i) (low-label (wait_at (nodes b) w i) (s.heap.nodes i k))

    low-bare : bare_count (nodes b) (with_from (nodes b) w u v) ≡ bare_count (nodes b) w
    low-bare = count_same (bare (with_from (nodes b) w u v)) (bare w) (nodes b) (λ x k. rw (low-label x k))

    low-here : from_at (nodes b) (with_from (nodes b) w u v) v ≡ u
    low-here = from_here (nodes b) w u v (omega arith) (omega (arith, s.heap.long))

    low_other : (x : ℕ) → (x ≡ v → ⊥) → from_at (nodes b) (with_from (nodes b) w u v) x ≡ from_at (nodes b) w x
    low_other x q = from_other (nodes b) w u v x q

    -- v has its label over u too
    low-came : Came b price (with_from (nodes b) w u v) d v
    low-came =
        let sum : label_at w v ≡ label_at w (from_at (nodes b) w v) + price v = (s.came v h pos l).sum in
        let lu : label_at (with_from (nodes b) w u v) u ≡ label_at w u = low-label u node in
        let lv : label_at (with_from (nodes b) w u v) v ≡ label_at w v = low-label v h in
        record { node = rw low-here node; near = rw low-here (omega arith); edge = rw low-here edge; sum = rw low-here (omega arith) }

    low-came_other : (x : ℕ) → x < nodes b → (x ≡ v → ⊥) → Came b price w d x → Came b price (with_from (nodes b) w u v) d x
    low-came_other x k q c =
        let f : from_at (nodes b) (with_from (nodes b) w u v) x ≡ from_at (nodes b) w x = low_other x q in
        let lf : label_at (with_from (nodes b) w u v) (from_at (nodes b) w x) ≡ label_at w (from_at (nodes b) w x) = low-label (from_at (nodes b) w x) c.node in
        record { node = rw f c.node; near = rw (f, lf) c.near; edge = rw f c.edge; sum = rw (f, lf, low-label x k) c.sum }

    -- what was looked at still is
    low_looked : (x y : ℕ) → x < nodes b → y < nodes b → EdgeLooked (nodes b) price w x y → EdgeLooked (nodes b) price (with_from (nodes b) w u v) x y
    low_looked x y kx ky f =
        let lx : label_at (with_from (nodes b) w u v) x ≡ label_at w x = low-label x kx in
        let ly : label_at (with_from (nodes b) w u v) y ≡ label_at w y = low-label y ky in
        record {
          labelled = rw ly f.labelled;
          near = rw (ly, lx) f.near;
          lowest = λ p e.
              let p' : 0 < label_at w y = rw ly at p in
              ⊎_elim
              (λ (q : y ≡ v).
              let lu : label_at (with_from (nodes b) w u v) u ≡ label_at w u = low-label u node in
              let at : from_at (nodes b) (with_from (nodes b) w u v) y ≡ u = rw q low-here in
              let e' : label_at (with_from (nodes b) w u v) u ≡ label_at (with_from (nodes b) w u v) x = rw at at e in
              let old : label_at w (from_at (nodes b) w v) ≡ label_at w x = omega arith in
              let lowest : from_at (nodes b) w y ≤ x = f.lowest p' (rw q old) in
              let lowest' : from_at (nodes b) w v ≤ x = rw q at lowest in
              rw at (omega arith))
              (λ (q : y ≡ v → ⊥).
              let at : from_at (nodes b) (with_from (nodes b) w u v) y ≡ from_at (nodes b) w y = low_other y q in
              let c = s.came y ky p' f.labelled in
              let lf : label_at (with_from (nodes b) w u v) (from_at (nodes b) w y) ≡ label_at w (from_at (nodes b) w y) = low-label (from_at (nodes b) w y) c.node in
              let e' : label_at (with_from (nodes b) w u v) (from_at (nodes b) w y) ≡ label_at (with_from (nodes b) w u v) x = rw at at e in
              rw at (f.lowest p' (omega arith)))
              (same_or_not y v);
        }

    spread_lower : Spread b price goals start (with_from (nodes b) w u v) count d u place
    spread_lower = record {
      fair = s.fair;
      heap = record {
        long = rw (length-set w (nodes b + v) (wait_at (nodes b) w v * 65536 + u)) s.heap.long;
        few = s.heap.few;
        ordered = λ i c a e k. let li : i < count = omega arith in rw (low_key i li, low_key c k) (s.heap.ordered i c a e k);
        nodes = λ i k. rw (low_wait i) (s.heap.nodes i k);
        keyed = λ i k. low-beside i ∙ s.heap.keyed i k ∙ sym (low_key i k);
      };
      room = rw low-bare s.room;
      waits-label = λ i k. rw (low_key i k) (s.waits-label i k);
      waits-far = λ i k. rw (low_key i k) (s.waits-far i k);
      bound = λ x k m. rw (low-label x k, low-bare) (s.bound x k (rw (low-label x k) at m));
      came = λ x k p m.
          ⊎_elim
          (λ (q : x ≡ v). rw q low-came)
          (λ (q : x ≡ v → ⊥). low-came_other x k q (s.came x k (rw (low-label x k) at p) (rw (low-label x k) at m)))
          (same_or_not x v);
      unmet = λ x k m. rw (low-label x k) (s.unmet x k (rw (low-label x k) at m));
      done = λ x k m.
          ⊎_elim
          (λ (q : Waits (nodes b) count w x). inl (q.0, q.1, low_wait q.0 ∙ q.2))
          (λ (f : (j : ℕ) → PlacePassed b u place x j → get_or b.edge_targets j 0 < nodes b → EdgePast b price goals start w x (get_or b.edge_targets j 0)).
          inr (λ j p t. ⊎_elim (λ (l : EdgeLooked (nodes b) price w x (get_or b.edge_targets j 0)). inl (low_looked x (get_or b.edge_targets j 0) k t l)) inr (f j p t)))
          (s.done x k (rw (low-label x k) at m));
    }

    lower_onward : (best : ℕ) → SpreadOnward (nodes b) w (with_from (nodes b) w u v) best best
    lower_onward best = record {
      long = length-set w (nodes b + v) (wait_at (nodes b) w v * 65536 + u);
      high = λ j k. from_else (nodes b) w u v j (λ e. omega arith);
      kept = λ x k m. low-label x k;
      still = λ x k m m'. low-label x k;
      pos = λ x k m. rw (low-label x k) (omega arith);
      less = le_refl best;
      least = λ x k e m. absurd (let z : label_at (with_from (nodes b) w u v) x ≡ label_at w x = low-label x k in omega arith);
      some = inl refl;
    }

    lower_looked : EdgeLooked (nodes b) price (with_from (nodes b) w u v) u v
    lower_looked =
        let c = s.came v h pos l in
        let sum : label_at w v ≡ label_at w (from_at (nodes b) w v) + price v = c.sum in
        let lu : label_at (with_from (nodes b) w u v) u ≡ label_at w u = low-label u node in
        let lv : label_at (with_from (nodes b) w u v) v ≡ label_at w v = low-label v h in
        record { labelled = rw lv l; near = omega arith; lowest = λ p e. rw low-here (le_refl u) }

  -- a first label on v
  module _ {firsts w' : List ℕ} {v count' : ℕ} (r : LabelReady (nodes b) firsts w count u v) (rows : firsts ≡ b.first_edges) (edge : has_edge b u v ≡ true)
      (f : Fresh (nodes b) firsts b.edge_targets goals u v (d + price v) w w' count count') where
    v_node : v < nodes b
    v_node = r.v_node

    new-low : d + price v < goal
    new-low = let k = spread-low in let m = s.fair.most v v_node in let most = s.fair.low in omega arith

    -- a node with a label is not v
    not_v : (x : ℕ) → label_at w x < goal → x ≡ v → ⊥
    not_v x m e = let z : label_at w v < goal = rw e at m in omega (arith, r.v_bare)

    new_u : label_at w' u ≡ d
    new_u = f.label_other u node (not_v u (omega arith)) ∙ here

    new-bare : bare_count (nodes b) w' < bare_count (nodes b) w
    new-bare = bare-fewer (nodes b) w w' v v_node r.v_bare (rw f.label-here new-low) f.label_other

    -- the label of a waiting node
    new_key : (i : ℕ) → i < count' → (key_at (nodes b) w' i ≡ d + price v) ⊎ ((j : ℕ) × (j < count) × (key_at (nodes b) w' i ≡ key_at (nodes b) w j))
    new_key i k =
        ⊎_elim
        (λ (q : wait_at (nodes b) w' i ≡ v). inl (rw q f.label-here))
        (λ (q : Waits (nodes b) count w (wait_at (nodes b) w' i)).
        let j : ℕ = q.0 in
        let at : wait_at (nodes b) w q.0 ≡ wait_at (nodes b) w' i = q.2 in
        let other : wait_at (nodes b) w q.0 ≡ v → ⊥ = not_v (wait_at (nodes b) w q.0) (s.waits-label q.0 q.1) in
        inr (j, q.1, rw (← at) (f.label_other (wait_at (nodes b) w q.0) (s.heap.nodes q.0 q.1) other)))
        (f.all i k)

    new-came : Came b price w' d v
    new-came =
        let here' = f.label-here in
        let lu = new_u in
        record { node = rw f.from_here node; near = rw f.from_here (omega arith); edge = rw f.from_here edge; sum = rw f.from_here (omega arith) }

    old_from : (x : ℕ) → x < nodes b → (c : Came b price w d x) → label_at w x < goal → label_at w' (from_at (nodes b) w x) ≡ label_at w (from_at (nodes b) w x)
    old_from x k c m =
        let sum : label_at w x ≡ label_at w (from_at (nodes b) w x) + price x = c.sum in
        f.label_other (from_at (nodes b) w x) c.node (not_v (from_at (nodes b) w x) (omega arith))

    old-came : (x : ℕ) → x < nodes b → (x ≡ v → ⊥) → 0 < label_at w x → label_at w x < goal → Came b price w' d x
    old-came x k q p m =
        let c = s.came x k p m in
        let at : from_at (nodes b) w' x ≡ from_at (nodes b) w x = f.from_other x k q in
        let lf : label_at w' (from_at (nodes b) w x) ≡ label_at w (from_at (nodes b) w x) = old_from x k c m in
        record { node = rw at c.node; near = rw (at, lf) c.near; edge = rw at c.edge; sum = rw (at, lf, f.label_other x k q) c.sum }

    old_looked : (x y : ℕ) → x < nodes b → (x ≡ v → ⊥) → y < nodes b → EdgeLooked (nodes b) price w x y → EdgeLooked (nodes b) price w' x y
    old_looked x y kx qx ky l =
        let qy : y ≡ v → ⊥ = not_v y l.labelled in
        let lx : label_at w' x ≡ label_at w x = f.label_other x kx qx in
        let ly : label_at w' y ≡ label_at w y = f.label_other y ky qy in
        record {
          labelled = rw ly l.labelled;
          near = rw (ly, lx) l.near;
          lowest = λ p e.
              let p' : 0 < label_at w y = rw ly at p in
              let c = s.came y ky p' l.labelled in
              let at : from_at (nodes b) w' y ≡ from_at (nodes b) w y = f.from_other y ky qy in
              let lf : label_at w' (from_at (nodes b) w y) ≡ label_at w (from_at (nodes b) w y) = old_from y ky c l.labelled in
              let e' : label_at w' (from_at (nodes b) w y) ≡ label_at w' x = rw at at e in
              rw at (l.lowest p' (omega arith));
        }

    all-came : (x : ℕ) → x < nodes b → 0 < label_at w' x → label_at w' x < goal → Came b price w' d x
    all-came x k p m =
        ⊎_elim
        (λ (q : x ≡ v). rw q new-came)
        (λ (q : x ≡ v → ⊥). old-came x k q (rw (f.label_other x k q) at p) (rw (f.label_other x k q) at m))
        (same_or_not x v)

    all-unmet : (x : ℕ) → x < nodes b → goal ≤ label_at w' x → label_at start x ≡ label_at w' x
    all-unmet x k m =
        let other : label_at w' x ≡ label_at w x = f.label_other x k (λ q. let z : label_at w' x ≡ d + price v = rw q f.label-here in let n = new-low in omega arith) in
        rw other (s.unmet x k (rw other at m))

    -- a node that has a label got it from a node nearer than v, so that v changes nothing there
    idle_looked : (x : ℕ) → x < nodes b → label_at w' x < goal → EdgeLooked (nodes b) price w' v x
    idle_looked x k m =
        let here-v = f.label-here in
        let pos = s.fair.pos v v_node in
        record {
          labelled = m;
          near =
              ⊎_elim
              (λ (z : label_at w' x ≤ 0). omega arith)
              (λ (p : 0 < label_at w' x).
              let c = all-came x k p m in
              let sum : label_at w' x ≡ label_at w' (from_at (nodes b) w' x) + price x = c.sum in
              let near : label_at w' (from_at (nodes b) w' x) ≤ d = c.near in
              omega arith)
              (le_or_lt (label_at w' x) 0);
          lowest = λ p e. absurd (let near : label_at w' (from_at (nodes b) w' x) ≤ d = (all-came x k p m).near in omega arith);
        }

    -- no edge of v has to be looked at: its targets have their labels, or are dead ends
    idle_past : Idle (nodes b) firsts b.edge_targets goals w' v → (j : ℕ) → PlacePassed b u place v j → get_or b.edge_targets j 0 < nodes b → EdgePast b price goals start w' v (get_or b.edge_targets j 0)
    idle_past idle j p t =
        let from : get_or firsts v 0 ≤ j = rw rows p.from in
        let below : j < get_or firsts (v + 1) 0 = rw rows p.below in
        let spared = idle j from below p.within t in
        ⊎_elim
        (λ (m : goal ≤ label_at w' (get_or b.edge_targets j 0)).
        let same : label_at start (get_or b.edge_targets j 0) ≡ label_at w' (get_or b.edge_targets j 0) = all-unmet (get_or b.edge_targets j 0) t m in
        inr (spared.0, record { no_edges = rw rows at spared.1.no_edges; no_goal = λ e. spared.1.no_goal (sym same ∙ e) }))
        (λ (m : label_at w' (get_or b.edge_targets j 0) < goal). inl (idle_looked (get_or b.edge_targets j 0) t m))
        (le_or_lt goal (label_at w' (get_or b.edge_targets j 0)))

    spread-label : Spread b price goals start w' count' d u place
    spread-label =
        let fewer : bare_count (nodes b) w' < bare_count (nodes b) w = new-bare in
        record {
          fair = s.fair;
          heap = f.heap;
          room = omega (arith, s.room, f.most);
          waits-label = λ i k.
              ⊎_elim
              (λ (q : key_at (nodes b) w' i ≡ d + price v). rw q new-low)
              (λ (q : (j : ℕ) × (j < count) × (key_at (nodes b) w' i ≡ key_at (nodes b) w j)). rw q.2 (s.waits-label q.0 q.1))
              (new_key i k);
          waits-far = λ i k.
              ⊎_elim
              (λ (q : key_at (nodes b) w' i ≡ d + price v). rw q (omega arith))
              (λ (q : (j : ℕ) × (j < count) × (key_at (nodes b) w' i ≡ key_at (nodes b) w j)). rw q.2 (s.waits-far q.0 q.1))
              (new_key i k);
          bound = λ x k m.
              ⊎_elim
              (λ (q : x ≡ v).
              let bu : label_at w u + bare_count (nodes b) w * s.fair.ceiling ≤ nodes b * s.fair.ceiling = s.bound u node (omega arith) in
              let most : price v ≤ s.fair.ceiling = s.fair.most v v_node in
              let is : label_at w' x ≡ d + price v = rw q f.label-here in
              let room : bare_count (nodes b) w' * s.fair.ceiling + s.fair.ceiling ≤ bare_count (nodes b) w * s.fair.ceiling = more_room _ _ s.fair.ceiling fewer in
              omega arith)
              (λ (q : x ≡ v → ⊥).
              let is : label_at w' x ≡ label_at w x = f.label_other x k q in
              let bx : label_at w x + bare_count (nodes b) w * s.fair.ceiling ≤ nodes b * s.fair.ceiling = s.bound x k (omega arith) in
              let room : bare_count (nodes b) w' * s.fair.ceiling + s.fair.ceiling ≤ bare_count (nodes b) w * s.fair.ceiling = more_room _ _ s.fair.ceiling fewer in
              omega arith)
              (same_or_not x v);
          came = all-came;
          unmet = all-unmet;
          done = λ x k m.
              ⊎_elim
              (λ (q : x ≡ v). rw q (⊎_elim inl (λ (idle : Idle (nodes b) firsts b.edge_targets goals w' v). inr (idle_past idle)) f.out))
              (λ (q : x ≡ v → ⊥).
              ⊎_elim
              (λ (p : Waits (nodes b) count w x). inl (f.kept x p))
              (λ (g : (j : ℕ) → PlacePassed b u place x j → get_or b.edge_targets j 0 < nodes b → EdgePast b price goals start w x (get_or b.edge_targets j 0)).
              inr (λ j p t. ⊎_elim (λ (l : EdgeLooked (nodes b) price w x (get_or b.edge_targets j 0)). inl (old_looked x (get_or b.edge_targets j 0) k q t l)) inr (g j p t)))
              (s.done x k (rw (f.label_other x k q) at m)))
              (same_or_not x v);
        }

    label_looked : EdgeLooked (nodes b) price w' u v
    label_looked =
        let is = f.label-here in
        let lu = new_u in
        record { labelled = rw is new-low; near = omega arith; lowest = λ p e. rw f.from_here (le_refl u) }

    label-onward : {best best' : ℕ} → GoalMet (label_at w v) (d + price v) best best' → SpreadOnward (nodes b) w w' best best'
    label-onward {best} {best'} g = record {
      long = f.long;
      high = f.high;
      kept = λ x k m. f.label_other x k (not_v x m);
      still = λ x k m m'.
          f.label_other x k (λ q. let z : label_at w' x ≡ d + price v = rw q f.label-here in let n = new-low in omega arith);
      pos = λ x k m.
          ⊎_elim
          (λ (q : x ≡ v). let z : label_at w' x ≡ d + price v = rw q f.label-here in let p = s.fair.pos v v_node in omega arith)
          (λ (q : x ≡ v → ⊥). rw (f.label_other x k q) (omega arith))
          (same_or_not x v);
      less = g.less;
      least = λ x k e m.
          ⊎_elim
          (λ (q : x ≡ v).
          let z : label_at w' x ≡ d + price v = rw q f.label-here in
          let met : best' ≤ d + price v = g.least (rw q at e) in
          omega arith)
          (λ (q : x ≡ v → ⊥). absurd (let z : label_at w' x ≡ label_at w x = f.label_other x k q in omega arith))
          (same_or_not x v);
      some =
          ⊎_elim
          inl
          (λ (q : (label_at w v ≡ goal) × (best' ≡ d + price v)).
          inr (v, v_node, q.0, f.label-here ∙ sym q.1, rw q.1 new-low))
          g.some;
    }

  -- ready to label
  pub label-ready : length b.first_edges ≡ nodes b + 1 → (v : ℕ) → v < nodes b → goal ≤ label_at w v → LabelReady (nodes b) b.first_edges w count u v
  label-ready long v h l = record {
    few = few;
    firsts-long = long;
    heap = s.heap;
    labels-low = s.waits-label;
    more = let m = bare_some (nodes b) w v h l in let k = s.room in omega arith;
    u_node = node;
    v_node = h;
    v_bare = l;
  }

  -- looking at the edge at `place`
  pub relax_at :
      length b.first_edges ≡ nodes b + 1 → (v : ℕ) → get_or b.edge_targets place 0 ≡ v → has_edge b u v ≡ true
      → {w' : List ℕ} {count' best best' : ℕ} → EdgeRelaxed (nodes b) b.first_edges b.edge_targets goals price u v d w w' count count' best best'
      → Stepped b price goals start d u (place + 1) w w' count count' best best'
  relax_at long v at edge (beyond far-off e ec eb) = rw (e, ec, eb) (kept_step (λ t. absurd (let z : v < nodes b = rw at at t in omega arith)))
  relax_at long v at edge (tree h z e ec eb) = rw (e, ec, eb) (kept_step (λ t. rw at (look_tree v z)))
  relax_at long v at edge (lowers h pos l (stays lowest e) ec eb) = rw (e, ec, eb) (kept_step (λ t. rw at (look_kept v h pos l lowest)))
  relax_at long v at edge {w'} {count'} {best} {best'} (lowers h pos l (lowered less same e) ec eb) =
      rw (e, ec, eb)
      (let next : Spread b price goals start (with_from (nodes b) w u v) count d u place = spread_lower v h pos l edge less same in
      let lu : label_at (with_from (nodes b) w u v) u ≡ d = low-label v h pos l edge less same u node ∙ here in
      record {
        spread = pass_on next lu v at (lower_looked v h pos l edge less same);
        here = lu;
        onward = lower_onward v h pos l edge less same best;
        fewer = rw (low-bare v h pos l edge less same) (le_refl _);
      })
  relax_at long v at edge {w'} {count'} {best} {best'} (labels h l made met) =
      let r = label-ready long v h l in
      let f = fresh_of r (d + price v) made in
      record {
        spread = pass_on (spread-label r refl edge f) (new_u r refl edge f) v at (label_looked r refl edge f);
        here = new_u r refl edge f;
        onward = label-onward r refl edge f met;
        fewer = let m = new-bare r refl edge f in let k = f.most in omega arith;
      }
