-- Laws of the aimed search, over its definitions alone.
--     est_least, est_walk    the estimate is the least cost of a walk to an unjoined sink, at the weights
--     est_step               it is consistent: along an edge it falls by no more than the weight of the node that the edge leads to
--     est_most               one below `far` is at most so many of the largest weight as there are nodes
--     walk_none              a node from which a walk at no weight leads to an unjoined sink is that sink
--     weight_least           no price is below the weight
--     tight_expands          with a node, every node over which it has its distance is expanded; so is the joined sink (sink-expands)
--     expanded-same          prices that are the same on nodes expand as many nodes
-- Assumes nothing.
use mathlib.Core.Bool.{true, false}
use mathlib.Core.List.{List, [], ◌∷◌, map}
use mathlib.Core.Logic.{⊎_elim}
use mathlib.Core.Path.{◌≡◌, refl, sym, ◌∙◌, ap, subst}
use Prim.Native.Nat.{ℕ, suc, ◌+◌, ◌-◌, ◌*◌, ◌≤◌, ◌<◌, suc-le-suc, zero-le}
use native.Mathlib.Nat.{le_trans, le_of_eq, le_refl, mul-le-mul, mul-le-mul_right, mul-pos}
use native.Mathlib.Omega.{arith}
use lib.Dec.{eqb}
use lib.ListN.{length, get_or, length-map}
use borrow.Author.Tests.{eq-eqb, eqb-true, le-leb, leb-true}
use Rattle.price.specs.Test.{choose}
use Rattle.price.specs.Bounds.{kind_most, nodes_most, base_most, criticality_most}
use Rattle.price.specs.Lists.{has, least, count_below}
use Rattle.price.specs.Prices.{base_cost, price_of}
use Rattle.price.specs.declared.Weighting.{Weighting}
use Rattle.price.proofs.TestLaws.{by_test, le_or_lt}
use Rattle.price.proofs.ListLaws.{has-at, has_place, get_or_up_to, total-most}
use Rattle.price.proofs.EntryLaws.{least_top, least-le, least-is}
use Rattle.price.proofs.BelowLaws.{count_same}
use Rattle.price.proofs.PriceLaws.{base-pos, base_most_lem, price-least}
use Rattle.price.proofs.TimedLaws.{timed_share, weighed_timed, weighed-untimed}
use Rattle.search.specs.Block.{Block, nodes, has_edge}
use Rattle.search.specs.Paths.{Walk, stay, step, path_cost, Fair}
use Rattle.search.specs.Distance.{far, tree_has, distances, distance}
use Rattle.search.specs.Turn.{Congestion, congested_at, price_at, open_distance, open_distances, before, nearest_distance}
use Rattle.search.specs.Aimed.{scale_of, weight_at, alone, estimate, expands_by, expanded_by, expanded}
use Rattle.search.proofs.EdgeLaws.{Shaped}
use Rattle.search.proofs.WalkLaws.{stay-cost, step_cost, walk_start, walk_nodes, shorten}
use Rattle.search.proofs.DistanceLaws.{no_path-cheaper, some_path, path-near}
use Rattle.search.proofs.BeforeLaws.{before_edge, before_sum}
use Rattle.search.proofs.NearestLaws.{get_or-map-lt, open_least}
use Rattle.search.proofs.PriceSameLaws.{beyond, distances-same}

-- ---- the weights

pub scale_timed : (w : Weighting) → w.timed ≡ true → scale_of w ≡ 10 - w.criticality
unfolding scale_of
scale_timed w t = rw t

pub scale_untimed : (w : Weighting) → w.timed ≡ false → scale_of w ≡ 1
unfolding scale_of
scale_untimed w t = rw t

-- no price is below the weight: history is at least 1, and a delay only adds
pub weight_least : (b : Block) (c : Congestion) (v : ℕ) → 1 ≤ get_or c.histories v 0 → weight_at b c.weighting v ≤ price_at b c v
unfolding weight_at price_at congested_at
weight_least b c v l =
    let k : ℕ = get_or b.kinds v 0 in
    let w : Weighting = c.weighting in
    let d : ℕ = get_or c.delays v 0 in
    let p : ℕ = price_of k c.factor (get_or c.others v 0) (get_or b.capacities v 0) (get_or c.histories v 0) in
    let low : 100 * base_cost k ≤ p = price-least k c.factor (get_or c.others v 0) (get_or b.capacities v 0) (get_or c.histories v 0) l in
    by_test w.timed
    (λ t.
    rw (scale_timed w t, weighed_timed w d p t)
    (le_trans (mul-le-mul (le_refl (10 - w.criticality)) low) (timed_share w.criticality d p)))
    (λ t. rw (scale_untimed w t, weighed-untimed w d p t) (omega arith))

-- a search can work with the weights
module _ (w : Weighting) (low : w.timed ≡ true → w.criticality ≤ criticality_most) where
  scale_pos : 1 ≤ scale_of w
  scale_pos =
      by_test w.timed
      (λ t. let l = low t in rw (scale_timed w t) (omega arith))
      (λ t. rw (scale_untimed w t) (omega arith))

  scale_most_lem : scale_of w ≤ 10
  scale_most_lem =
      by_test w.timed
      (λ t. rw (scale_timed w t) (omega arith))
      (λ t. rw (scale_untimed w t) (omega arith))

  pub weight_most : (b : Block) (v : ℕ) → get_or b.kinds v 0 ≤ kind_most → weight_at b w v ≤ 10 * (100 * base_most)
  unfolding weight_at
  weight_most b v h = mul-le-mul scale_most_lem (mul-le-mul (le_refl 100) (base_most_lem (get_or b.kinds v 0) h))

  pub weight_fair : (b : Block) → nodes b ≤ nodes_most → ((v : ℕ) → v < nodes b → get_or b.kinds v 0 ≤ kind_most) → Fair b (weight_at b w)
  unfolding weight_at
  weight_fair b few kinds =
      record {
        ceiling = 10 * (100 * base_most);
        low = omega arith;
        fits = omega arith;
        pos = λ v h. mul-pos scale_pos (omega (arith, base-pos (get_or b.kinds v 0)));
        most = λ v h. weight_most b v (kinds v h);
      }

-- ---- the estimate

-- the tree of one node has it and no other
alone_in : (b : Block) (v : ℕ) → v < nodes b → tree_has (alone b v) v ≡ true
unfolding alone tree_has
alone_in b v h = eq-eqb _ 1 (get_or_up_to {A = ℕ} (λ u. choose (eqb u v) 1 0) (nodes b) v 0 h ∙ rw (eq-eqb v v refl))

alone_only : (b : Block) (v t : ℕ) → t < nodes b → tree_has (alone b v) t ≡ true → t ≡ v
unfolding alone tree_has
alone_only b v t h e =
    let is : ◌≡◌ {A = ℕ} (choose (eqb t v) 1 0) 1 = sym (get_or_up_to {A = ℕ} (λ u. choose (eqb u v) 1 0) (nodes b) t 0 h) ∙ eqb-true _ _ e in
    by_test (eqb t v)
    (λ q. eqb-true t v q)
    (λ q. let z : ◌≡◌ {A = ℕ} 0 1 = rw q at is in absurd (omega arith))

-- a sink that the tree lacks, and a walk to it from v
pub record WalkOut (b : Block) (marks sinks : List ℕ) (v : ℕ) (path : List ℕ) : Type 0 where
  pub sink : ℕ
  pub node : sink < nodes b
  pub listed : has sink sinks ≡ true
  pub out : tree_has marks sink ≡ false
  pub walk : Walk b v path sink

-- at most as many nodes as the block has cost at most so many of the largest weight
few-cost :
    (b : Block) (weight : ℕ → ℕ) (most : ℕ) → ((v : ℕ) → v < nodes b → weight v ≤ most) → (path : List ℕ) → ((i : ℕ) → i < length path → get_or path i 0 < nodes b)
    → length path ≤ nodes b → path_cost weight path ≤ nodes b * most
unfolding path_cost
few-cost b weight most low [] ns few = zero-le
few-cost b weight most low (u ∷ path) ns few =
    le_trans (total-most weight most path (λ i l. low (get_or path i 0) (ns (suc i) (suc-le-suc l)))) (mul-le-mul_right most (omega arith))

module _ (b : Block) (weight : ℕ → ℕ) (marks sinks : List ℕ) where
  pub est_top : (v : ℕ) → estimate b weight marks sinks v ≤ far
  unfolding estimate
  est_top v = least_top far (map (open_distance marks (distances b weight (alone b v))) sinks)

  -- at most the distance of each unjoined sink from the node
  est_le : (v s : ℕ) → has s sinks ≡ true → tree_has marks s ≡ false → estimate b weight marks sinks v ≤ distance b weight (alone b v) s
  unfolding estimate open_distance
  est_le v s l o =
      let at = has_place s sinks l in
      let f = open_distance marks (distances b weight (alone b v)) in
      let e : get_or (map f sinks) at.0 0 ≡ distance b weight (alone b v) s = get_or-map-lt f sinks at.0 at.1 ∙ ap f at.2 ∙ rw o in
      le_trans (least-le far (map f sinks) at.0 (rw length-map at.1)) (le_of_eq e)

  module _ (g : Shaped b) (fair : Fair b weight) where
    -- no walk to an unjoined sink costs less
    pub est_least : {v : ℕ} {path : List ℕ} → WalkOut b marks sinks v path → estimate b weight marks sinks v ≤ path_cost weight path
    est_least {v} {path} w =
        let first = alone_in b v (walk_start g w.node w.walk) in
        le_trans (est_le v w.sink w.listed w.out) (no_path-cheaper b weight (alone b v) g fair v w.sink path w.node first w.walk)

    -- a walk from v alone
    alone_walk : (v s : ℕ) → distance b weight (alone b v) s < far → (path : List ℕ) × (s < nodes b) × Walk b v path s × (path_cost weight path ≡ distance b weight (alone b v) s)
    alone_walk v s near =
        let h : s < nodes b = beyond b weight (alone b v) s near in
        let p = some_path b weight (alone b v) g fair s h near in
        let first : p.0 ≡ v = alone_only b v p.0 p.2 p.3 in
        (p.1, h, subst (λ (u : ℕ). Walk b u p.1 s) {x = p.0} first p.4, p.5)

    -- where there is an estimate, some walk to an unjoined sink costs exactly that
    pub est_walk : (v : ℕ) → estimate b weight marks sinks v < far → (path : List ℕ) × WalkOut b marks sinks v path × (path_cost weight path ≡ estimate b weight marks sinks v)
    unfolding estimate open_distance
    est_walk v near =
        let f = open_distance marks (distances b weight (alone b v)) in
        ⊎_elim
        (λ (q : least far (map f sinks) ≡ far). absurd (omega arith))
        (λ (q : (i : ℕ) × (i < length (map f sinks)) × (get_or (map f sinks) i 0 ≡ least far (map f sinks))).
        let l : q.0 < length sinks = rw length-map at q.1 in
        let is : f (get_or sinks q.0 0) ≡ least far (map f sinks) = sym (get_or-map-lt f sinks q.0 l) ∙ q.2 in
        by_test (tree_has marks (get_or sinks q.0 0))
        (λ t. let z : far ≡ least far (map f sinks) = rw t at is in absurd (omega arith))
        (λ t.
        let d : distance b weight (alone b v) (get_or sinks q.0 0) ≡ least far (map f sinks) = rw t at is in
        let p = alone_walk v (get_or sinks q.0 0) (omega arith) in
        (p.0, record { sink = get_or sinks q.0 0; node = p.1; listed = has-at sinks q.0 l; out = t; walk = p.2 }, p.3 ∙ d)))
        (least-is far (map f sinks))

    -- that walk need not have a node twice
    pub est_most : (most : ℕ) → ((v : ℕ) → v < nodes b → weight v ≤ most) → (v : ℕ) → estimate b weight marks sinks v < far → estimate b weight marks sinks v ≤ nodes b * most
    est_most most low v near =
        let w = (est_walk v near).1 in
        let s = shorten g weight fair w.node w.walk in
        le_trans
        (est_least (record { sink = w.sink; node = w.node; listed = w.listed; out = w.out; walk = s.walk }))
        (few-cost b weight most low s.path' (walk_nodes g w.node s.walk) s.few)

    -- a walk at no cost stays
    walk_stays :
        {v s : ℕ} {path : List ℕ} → s < nodes b → has s sinks ≡ true → tree_has marks s ≡ false → Walk b v path s → path_cost weight path ≡ 0
        → (has v sinks ≡ true) × (tree_has marks v ≡ false)
    walk_stays h l o (stay u) none = (l, o)
    walk_stays h l o (step {u = u} {w = x} e w) none =
        let pos = fair.pos x (walk_start g h w) in
        absurd (omega (arith, step_cost weight u w))

    -- so it starts at an unjoined sink
    pub walk_none : {v : ℕ} {path : List ℕ} → WalkOut b marks sinks v path → path_cost weight path ≡ 0 → (has v sinks ≡ true) × (tree_has marks v ≡ false)
    walk_none {v} {path} w none = walk_stays w.node w.listed w.out w.walk none

    -- an unjoined sink is at no cost
    pub est_sink : (s : ℕ) → s < nodes b → has s sinks ≡ true → tree_has marks s ≡ false → estimate b weight marks sinks s ≡ 0
    est_sink s h l o =
        let z = est_least (record { sink = s; node = h; listed = l; out = o; walk = stay s }) in
        omega (arith, stay-cost weight s)

    -- consistency
    pub est_step : (u v : ℕ) → has_edge b u v ≡ true → estimate b weight marks sinks u ≤ weight v + estimate b weight marks sinks v
    est_step u v e =
        ⊎_elim
        (λ (q : far ≤ estimate b weight marks sinks v). omega (arith, est_top u))
        (λ (q : estimate b weight marks sinks v < far).
        let p = est_walk v q in
        let w = p.1 in
        let less = est_least (record { sink = w.sink; node = w.node; listed = w.listed; out = w.out; walk = step e w.walk }) in
        omega (arith, less, step_cost weight u w.walk, p.2))
        (le_or_lt far (estimate b weight marks sinks v))

-- ---- what a turn expands

-- the joined sink is no farther than a walk from the tree to an unjoined sink leads
pub nearest_walk :
    (b : Block) (price : ℕ → ℕ) (marks sinks : List ℕ) → Shaped b → Fair b price → {t : ℕ} {path : List ℕ} → tree_has marks t ≡ true → WalkOut b marks sinks t path
    → (nearest_distance b price marks sinks ≤ path_cost price path) × (nearest_distance b price marks sinks < far)
nearest_walk b price marks sinks g fair {t} {path} i w =
    let low = open_least b price marks sinks w.sink w.listed w.out in
    let less = no_path-cheaper b price marks g fair t w.sink path w.node i w.walk in
    let near = path-near b price marks g fair t w.sink path w.node i w.walk in
    (omega arith, omega arith)

module _ (b : Block) (price est : ℕ → ℕ) (marks sinks : List ℕ) where
  pub expands-le : (v : ℕ) → expands_by b price est marks sinks v ≡ true → distance b price marks v + est v ≤ nearest_distance b price marks sinks
  unfolding expands_by
  expands-le v x = leb-true _ _ x

  pub le-expands : (v : ℕ) → distance b price marks v + est v ≤ nearest_distance b price marks sinks → expands_by b price est marks sinks v ≡ true
  unfolding expands_by
  le-expands v l = le-leb _ _ l

  -- where a sink is joined, what is expanded is a node that has a distance and an estimate
  pub expands-near : (v : ℕ) → nearest_distance b price marks sinks < far → expands_by b price est marks sinks v ≡ true → (v < nodes b) × (distance b price marks v < far) × (est v < far)
  expands-near v near x =
      let most = expands-le v x in
      let close : distance b price marks v < far = omega arith in
      (beyond b price marks v close, close, omega arith)

  -- estimates that are consistent along every edge
  module _ (g : Shaped b) (consistent : (u v : ℕ) → v < nodes b → has_edge b u v ≡ true → est u ≤ price v + est v) where
    -- with a node, every node over which it has its distance is expanded: no predecessor that the tie rule could name is missed
    pub tight_expands :
        (u v : ℕ) → v < nodes b → expands_by b price est marks sinks v ≡ true → has_edge b u v ≡ true
        → distance b price marks u + price v ≡ distance b price marks v → expands_by b price est marks sinks u ≡ true
    tight_expands u v h x e s = le-expands u (omega (arith, expands-le v x, consistent u v h e, s))

    -- so is the node before it on the path
    pub before_expands :
        Fair b price → (v : ℕ) → v < nodes b → tree_has marks v ≡ false → distance b price marks v < far → expands_by b price est marks sinks v ≡ true
        → expands_by b price est marks sinks (before b price (distances b price marks) v) ≡ true
    before_expands fair-price v h o near x =
        tight_expands (before b price (distances b price marks) v) v h x (before_edge b price marks g fair-price v h o near)
        (before_sum b price marks g fair-price v h o near)

  -- the joined sink is, its estimate being 0
  pub sink-expands : (s : ℕ) → est s ≡ 0 → distance b price marks s ≡ nearest_distance b price marks sinks → expands_by b price est marks sinks s ≡ true
  sink-expands s zero is = le-expands s (omega arith)

-- ---- prices and weights that are the same on nodes

module _ (b : Block) (marks sinks : List ℕ) where
  pub expanded-same : (p q weight : ℕ → ℕ) → ((v : ℕ) → v < nodes b → p v ≡ q v) → expanded b p weight marks sinks ≡ expanded b q weight marks sinks
  unfolding expanded_by expands_by open_distances
  expanded-same p q weight same =
      let ds : distances b p marks ≡ distances b q marks = distances-same b p q same marks in
      let est : ℕ → ℕ = estimate b weight marks sinks in
      let count : count_below (expands_by b p est marks sinks) (nodes b) ≡ count_below (expands_by b q est marks sinks) (nodes b) =
      count_same (expands_by b p est marks sinks) (expands_by b q est marks sinks) (nodes b) (λ v h. rw ds) in
      rw (ds, count)
