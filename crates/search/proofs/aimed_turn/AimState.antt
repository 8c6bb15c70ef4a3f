-- What holds between two steps of a turn that aims: `AimTask` is what it is over, `Aiming` how far it has come.
--     task_consistent       estimates over the tables by target are consistent along the edges that count
--     exact, blank          an estimate that stands is the estimate; where none stands, it is at least the level
--     aim_forward           the state is one of `Forward`, up to the least key and what is coming
--     dist-sized            no distance so far is too large
--     estimating_kept       a step that leaves links and estimates leaves what holds of the estimates
-- Assumes nothing.
use mathlib.Core.Bool.{Bool, true, false}
use mathlib.Core.List.{List}
use mathlib.Core.Logic.{◌⊎◌, ⊎_elim, inl, inr}
use mathlib.Core.Path.{◌≡◌, refl, sym, ◌∙◌}
use Prim.Native.Nat.{ℕ, ◌+◌, ◌*◌, ◌≤◌, ◌<◌}
use native.Mathlib.Nat.{le_trans, le_refl, le_antisymm, mul-le-mul, mul-le-mul_right, mul-pos, mul_comm, add-mul}
use native.Mathlib.Omega.{arith}
use lib.Dec.{eqb, ltb}
use lib.ListN.{length, get_or}
use borrow.Author.Tests.{eq-eqb, lt-ltb, eqb-true, ltb-true}
use Rattle.price.specs.Test.{both}
use Rattle.price.specs.Bounds.{nodes_most, base_most}
use Rattle.price.specs.Lists.{has, distinct, count_below}
use Rattle.price.proofs.TestLaws.{by_test, both_true, both_left, both_right, le_or_lt, never_true, same_or_not, true≢false}
use Rattle.price.proofs.BelowLaws.{count_less}
use Rattle.search.specs.Block.{Block, graph_of, nodes, has_edge}
use Rattle.search.specs.Paths.{Fair}
use Rattle.search.specs.Distance.{far, tree_has, distance}
use Rattle.search.specs.Aimed.{estimate, expands_by}
use Rattle.search.specs.Layout.{dist_at, entry_at, leaf_at, link_at, pred_at, estimate_at, Tournament}
use Rattle.search.specs.Buckets.{Lined, waits}
use Rattle.search.specs.Estimates.{scale_most, level_most, key_most, reach_most, lacking_in}
use Rattle.search.specs.Aiming.{BestAim, LowAim, Steps}
use Rattle.search.specs.AimedTurn.{LeastLacking, none_comes, tree_lacks, none-near, others_lack}
use Rattle.search.proofs.EdgeLaws.{Shaped, edge-node}
use Rattle.search.proofs.DistanceLaws.{distance_most}
use Rattle.search.proofs.QueueLaws.{queue-least}
use Rattle.search.proofs.BucketLaws.{one_below, lined-kept}
use Rattle.search.proofs.AimedLaws.{est_step, est_sink, est_most, est_top}
use Rattle.search.proofs.AimedExact.{LabelWalk, Backward, back_above, back_exact, Forward, Consistent}

-- ---- products

pub mul-sum : (k a b : ℕ) → k * (a + b) ≡ k * a + k * b
mul-sum k a b = mul_comm k (a + b) ∙ add-mul a b k ∙ rw (mul_comm a k, mul_comm b k)

pub mul_cancel : (k a b : ℕ) → 1 ≤ k → k * a ≤ k * b → a ≤ b
mul_cancel k a b pos le =
    ⊎_elim
    (λ (q : a ≤ b). q)
    (λ (q : b < a).
    let more : k * (b + 1) ≤ k * a = mul-le-mul (le_refl k) (omega arith) in
    let sum = mul-sum k b 1 in
    absurd (omega arith))
    (le_or_lt a b)

-- ---- what a turn is over

pub record AimTask (a : Block) : Type 0 where
  -- the estimate's graph, and the tables by target from which it comes
  pub firsts : List ℕ
  pub targets : List ℕ
  pub backs : List ℕ
  pub sources : List ℕ
  -- the test of an edge that counts
  pub edge : ℕ → ℕ → Bool
  pub price : ℕ → ℕ
  pub base : ℕ → ℕ
  pub scale : ℕ
  pub some : 1 ≤ nodes a
  pub shape : Shaped a
  pub firsts-long : length firsts ≡ nodes a + 1
  pub fair : Fair a price
  pub base-pos : (v : ℕ) → v < nodes a → 1 ≤ base v
  pub base_most_lem : (v : ℕ) → v < nodes a → base v ≤ base_most
  pub scale_pos : 1 ≤ scale
  pub scale_most_lem : scale ≤ scale_most
  pub dear : (v : ℕ) → v < nodes a → scale * base v ≤ price v
  pub counts : (u v : ℕ) → u < nodes a → v < nodes a → has_edge a u v ≡ edge u v
  pub turned : (u v : ℕ) → u < nodes a → v < nodes a → has_edge (graph_of a.kinds firsts targets) u v ≡ has_edge (graph_of a.kinds backs sources) v u
  pub within : (u v : ℕ) → v < nodes a → has_edge a u v ≡ true → has_edge (graph_of a.kinds firsts targets) u v ≡ true

module _ {a : Block} (t : AimTask a) where
  -- the graph that estimates go by, and the tables by target
  abbrev pub ahead : Block
  ahead = graph_of a.kinds t.firsts t.targets

  abbrev pub back : Block
  back = graph_of a.kinds t.backs t.sources

  abbrev pub weight : ℕ → ℕ
  weight v = t.scale * t.base v

  abbrev pub est : List ℕ → List ℕ → ℕ → ℕ
  est marks sinks v = estimate (graph_of a.kinds t.firsts t.targets) (λ x. t.scale * t.base x) marks sinks v

  pub ahead_shape : Shaped ahead
  ahead_shape = record { few = t.shape.few; firsts-long = t.firsts-long }

  -- edges over the tables by target, as the estimate's graph has them
  pub edge_ahead : (x y : ℕ) → x < nodes a → y < nodes a → has_edge back y x ≡ true → has_edge ahead x y ≡ true
  edge_ahead x y hx hy e = t.turned x y hx hy ∙ e

  pub edge-back : (x y : ℕ) → y < nodes a → has_edge ahead x y ≡ true → has_edge back y x ≡ true
  edge-back x y hy e = sym (t.turned x y (edge-node ahead ahead_shape x y e) hy) ∙ e

  pub weight_most : (v : ℕ) → v < nodes a → t.scale * t.base v ≤ t.scale * base_most
  weight_most v h = mul-le-mul (le_refl t.scale) (t.base_most_lem v h)

  pub weight_light : (v : ℕ) → v < nodes a → t.scale * t.base v ≤ scale_most * base_most
  weight_light v h = mul-le-mul t.scale_most_lem (t.base_most_lem v h)

  pub weight_fair : Fair ahead (λ v. t.scale * t.base v)
  weight_fair =
      record {
        ceiling = scale_most * base_most;
        low = omega arith;
        fits = let f = t.shape.few in omega arith;
        pos = λ v h. mul-pos t.scale_pos (t.base-pos v h);
        most = weight_light;
      }

  module _ (marks sinks : List ℕ) where
    pub task_consistent : Consistent a t.price (est marks sinks) marks sinks
    task_consistent =
        record {
          along = λ u v h e. omega (arith, est_step ahead weight marks sinks ahead_shape weight_fair u v (t.within u v h e), t.dear v h);
          zero_there = λ s h l o. est_sink ahead weight marks sinks ahead_shape weight_fair s h l o;
        }

-- ---- nodes

-- an expanded node has left the queue
pub record Left (n : ℕ) (w : List ℕ) (v : ℕ) : Type 0 where
  pub node : v < n
  pub left : leaf_at n w v ≡ far
  pub near : dist_at w v < far
  pub known : estimate_at n w v < far

abbrev pub has_left : ℕ → List ℕ → ℕ → Bool
has_left n w v = both (both (eqb (leaf_at n w v) far) (ltb (dist_at w v) far)) (ltb (estimate_at n w v) far)

pub left_test : (n : ℕ) (w : List ℕ) (v : ℕ) → Left n w v → has_left n w v ≡ true
left_test n w v l =
    both_true
    (both_true (eq-eqb (leaf_at n w v) far l.left) (lt-ltb (dist_at w v) far l.near))
    (lt-ltb (estimate_at n w v) far l.known)

pub left_of : (n : ℕ) (w : List ℕ) (v : ℕ) → v < n → has_left n w v ≡ true → Left n w v
left_of n w v h e =
    let gone : Bool = eqb (leaf_at n w v) far in
    let near : Bool = ltb (dist_at w v) far in
    let known : Bool = ltb (estimate_at n w v) far in
    let first : both gone near ≡ true = both_left (both gone near) known e in
    record {
      node = h;
      left = eqb-true (leaf_at n w v) far (both_left gone near first);
      near = ltb-true (dist_at w v) far (both_right gone near first);
      known = ltb-true (estimate_at n w v) far (both_right (both gone near) known e);
    }

-- a node has left the queue, or it waits at its distance and estimate together, or it lacks one of the two
pub data Place (n : ℕ) (w : List ℕ) (v : ℕ) : Type 0 where
  gone : Left n w v → Place n w v
  waiting : dist_at w v < far → estimate_at n w v < far → leaf_at n w v ≡ dist_at w v + estimate_at n w v → leaf_at n w v < far → Place n w v
  lacking : leaf_at n w v ≡ far → (dist_at w v ≡ far) ⊎ (estimate_at n w v ≡ far) → Place n w v

-- v was reached from its predecessor, an expanded node, over an edge
pub record AimReached (a : Block) (price : ℕ → ℕ) (w : List ℕ) (v : ℕ) : Type 0 where
  pub pred-left : Left (nodes a) w (pred_at (nodes a) w v)
  pub pred-edge : has_edge a (pred_at (nodes a) w v) v ≡ true
  pub sum : dist_at w v ≡ dist_at w (pred_at (nodes a) w v) + price v

-- ---- between two steps

-- the estimates
pub record Estimating {a : Block} (t : AimTask a) (marks sinks w head : List ℕ) (count level : ℕ) : Type 0 where
  pub level_most_lem : level ≤ level_most
  pub lined : Lined (nodes a) t.base t.scale w head count level
  pub top : (v : ℕ) → v < nodes a → estimate_at (nodes a) w v ≤ far
  pub goals : (s : ℕ) → s < nodes a → has s sinks ≡ true → tree_has marks s ≡ false → estimate_at (nodes a) w s ≡ 0
  pub goals_only : (s : ℕ) → s < nodes a → estimate_at (nodes a) w s ≡ 0 → (has s sinks ≡ true) × (tree_has marks s ≡ false)
  pub walks : (v : ℕ) → v < nodes a → estimate_at (nodes a) w v < far → LabelWalk (ahead t) (weight t) marks sinks v (estimate_at (nodes a) w v)
  -- nodes get their estimates in the order of these
  pub below : (v : ℕ) → v < nodes a → estimate_at (nodes a) w v < far → estimate_at (nodes a) w v ≤ t.scale * level
  pub spread :
      (u v : ℕ) → v < nodes a → estimate_at (nodes a) w v < far → waits lined v ≡ false → has_edge (ahead t) u v ≡ true
      → estimate_at (nodes a) w u ≤ estimate_at (nodes a) w v + t.scale * t.base v

-- the search
pub record Searching {a : Block} (t : AimTask a) (marks sinks w : List ℕ) (lacking best low : ℕ) : Type 0 where
  pub long : 8 * nodes a ≤ length w
  pub queue : Tournament (nodes a) w
  pub dist_top : (v : ℕ) → v < nodes a → dist_at w v ≤ far
  pub tree : (v : ℕ) → v < nodes a → tree_has marks v ≡ true → dist_at w v ≡ 0
  pub places : (v : ℕ) → v < nodes a → Place (nodes a) w v
  pub relaxed : (u v : ℕ) → v < nodes a → Left (nodes a) w u → has_edge a u v ≡ true → dist_at w v ≤ dist_at w u + t.price v
  pub reached : (v : ℕ) → v < nodes a → tree_has marks v ≡ false → dist_at w v < far → AimReached a t.price w v
  -- the predecessor is the lowest-numbered expanded node over which v has its distance
  pub lowest :
      (u v : ℕ) → v < nodes a → tree_has marks v ≡ false → Left (nodes a) w u → has_edge a u v ≡ true
      → dist_at w v ≡ dist_at w u + t.price v → pred_at (nodes a) w v ≤ u
  pub final :
      (v : ℕ) → Left (nodes a) w v
      → (dist_at w v ≡ distance a t.price marks v) × (expands_by a t.price (est t marks sinks) marks sinks v ≡ true)
  pub best_aim : BestAim (nodes a) best w
  pub low_aim : LowAim (nodes a) low w
  pub lacking_is : lacking ≡ lacking_in (nodes a) w

-- the nodes expanded so far, each once
pub record Expanding {a : Block} (t : AimTask a) (w₀ w : List ℕ) (expanded : ℕ) : Type 0 where
  pub order : List ℕ
  pub steps : Steps (nodes a) t.edge t.price w₀ w order
  pub once : distinct order ≡ true
  pub exactly : (v : ℕ) → v < nodes a → has v order ≡ has_left (nodes a) w v
  pub count-is : expanded ≡ length order
  pub counted : expanded ≡ count_below (has_left (nodes a) w) (nodes a)

pub record Aiming {a : Block} (t : AimTask a) (marks sinks w₀ w head : List ℕ) (count lacking best low level expanded : ℕ) : Type 0 where
  pub estimating : Estimating t marks sinks w head count level
  pub searching : Searching t marks sinks w lacking best low
  pub expanding : Expanding t w₀ w expanded
  pub same-long : length w ≡ length w₀
  pub beyond : (j : ℕ) → 7 * nodes a ≤ j → get_or w j 0 ≡ get_or w₀ j 0

-- how many nodes lack an estimate
abbrev pub blanks : ℕ → List ℕ → ℕ
blanks n w = count_below (λ v. eqb (estimate_at n w v) far) n

-- ---- what it says of the estimates

module _ {a : Block} {t : AimTask a} {marks sinks w head : List ℕ} {count level : ℕ} (s : Estimating t marks sinks w head count level) where
  -- settled for the backward pass: it has an estimate, and has spread it
  abbrev Spent : ℕ → Type 0
  Spent v = (estimate_at (nodes a) w v < far) × (waits s.lined v ≡ false)

  pub key_small : t.scale * level ≤ key_most
  key_small = mul-le-mul t.scale_most_lem s.level_most_lem

  behind : (l : ℕ) → ((v : ℕ) → v < nodes a → waits s.lined v ≡ true → l ≤ estimate_at (nodes a) w v + t.scale * t.base v) → l ≤ far
      → Backward (ahead t) (weight t) marks sinks (estimate_at (nodes a) w) Spent l
  behind l low top =
      record {
        top = s.top;
        goals = s.goals;
        walks = s.walks;
        relaxed = λ u v h d e. s.spread u v h d.0 d.1 e;
        sides = λ v h.
            by_test (waits s.lined v)
            (λ q. inr (low v h q))
            (λ q.
            ⊎_elim
            (λ (m : far ≤ estimate_at (nodes a) w v). inr (omega arith))
            (λ (m : estimate_at (nodes a) w v < far). inl (m, q))
            (le_or_lt far (estimate_at (nodes a) w v)));
      }

  -- with the level of the estimates
  level-low : (v : ℕ) → v < nodes a → waits s.lined v ≡ true → t.scale * level ≤ estimate_at (nodes a) w v + t.scale * t.base v
  level-low v h q =
      let at = s.lined.at_level v q in
      let more : t.scale * level ≤ t.scale * s.lined.level v = mul-le-mul (le_refl t.scale) at.low in
      omega (arith, at.sum)

  at_the_level : Backward (ahead t) (weight t) marks sinks (estimate_at (nodes a) w) Spent (t.scale * level)
  at_the_level = behind (t.scale * level) level-low (omega (arith, key_small))

  pub above : (v : ℕ) → v < nodes a → est t marks sinks v ≤ estimate_at (nodes a) w v
  above = back_above (ahead t) (weight t) marks sinks (ahead_shape t) (weight_fair t) (estimate_at (nodes a) w) Spent (t.scale * level) at_the_level

  -- an estimate that stands is right
  pub exact : (v : ℕ) → v < nodes a → estimate_at (nodes a) w v < far → estimate_at (nodes a) w v ≡ est t marks sinks v
  exact v h near =
      ⊎_elim
      (λ e. e)
      (λ (q : t.scale * level ≤ est t marks sinks v). le_antisymm (omega (arith, s.below v h near)) (above v h))
      (back_exact (ahead t) (weight t) marks sinks (ahead_shape t) (weight_fair t) (estimate_at (nodes a) w) Spent (t.scale * level) at_the_level v h)

  -- where none stands, it is at least the level
  pub blank : (v : ℕ) → v < nodes a → estimate_at (nodes a) w v ≡ far → t.scale * level ≤ est t marks sinks v
  blank v h none =
      ⊎_elim
      (λ (e : estimate_at (nodes a) w v ≡ est t marks sinks v). omega (arith, key_small))
      (λ q. q)
      (back_exact (ahead t) (weight t) marks sinks (ahead_shape t) (weight_fair t) (estimate_at (nodes a) w) Spent (t.scale * level) at_the_level v h)

  -- and where no node waits to spread its own, there is none
  pub blank_all : ((v : ℕ) → v < nodes a → waits s.lined v ≡ false) → (v : ℕ) → v < nodes a → estimate_at (nodes a) w v ≡ far → est t marks sinks v ≡ far
  blank_all none v h e =
      ⊎_elim
      (λ (q : estimate_at (nodes a) w v ≡ est t marks sinks v). sym q ∙ e)
      (λ (q : far ≤ est t marks sinks v). le_antisymm (est_top (ahead t) (weight t) marks sinks v) q)
      (back_exact (ahead t) (weight t) marks sinks (ahead_shape t) (weight_fair t) (estimate_at (nodes a) w) Spent far
      (behind far (λ x hx q. absurd (true≢false (sym q ∙ none x hx))) (omega arith)) v h)

  pub few : (v : ℕ) → v < nodes a → estimate_at (nodes a) w v < far → estimate_at (nodes a) w v ≤ key_most
  few v h near = le_trans (s.below v h near) key_small

  -- a level at which a node waits is small: its estimate is right
  pub level-few : (v : ℕ) → waits s.lined v ≡ true → s.lined.level v ≤ level_most
  level-few v q =
      let at = s.lined.at_level v q in
      let h = at.node in
      let right : estimate_at (nodes a) w v ≡ est t marks sinks v = exact v h at.known in
      let known : estimate_at (nodes a) w v < far = at.known in
      let most : est t marks sinks v ≤ nodes a * (t.scale * base_most) =
      est_most (ahead t) (weight t) marks sinks (ahead_shape t) (weight_fair t) (t.scale * base_most) (weight_most t) v (omega arith) in
      let all : nodes a * (t.scale * base_most) ≤ nodes_most * (t.scale * base_most) = mul-le-mul_right (t.scale * base_most) t.shape.few in
      let own = weight_most t v h in
      let sum : estimate_at (nodes a) w v + t.scale * t.base v ≡ t.scale * s.lined.level v = at.sum in
      mul_cancel t.scale (s.lined.level v) level_most t.scale_pos (omega arith)

-- a step that leaves links and estimates leaves what holds of the estimates
pub estimating_kept :
    {a : Block} {t : AimTask a} {marks sinks w w₂ head : List ℕ} {count level : ℕ} → ((x : ℕ) → x < nodes a → link_at (nodes a) w₂ x ≡ link_at (nodes a) w x)
    → ((x : ℕ) → x < nodes a → estimate_at (nodes a) w₂ x ≡ estimate_at (nodes a) w x)
    → Estimating t marks sinks w head count level → Estimating t marks sinks w₂ head count level
estimating_kept {a} {t} {marks} {sinks} {w} {w₂} links same s =
    let k = lined-kept links same s.lined in
    record {
      level_most_lem = s.level_most_lem;
      lined = k.0;
      top = λ v h. rw (same v h) (s.top v h);
      goals = λ v h l o. same v h ∙ s.goals v h l o;
      goals_only = λ v h z. s.goals_only v h (sym (same v h) ∙ z);
      walks = λ v h near. rw (same v h) (s.walks v h (rw (same v h) at near));
      below = λ v h near. rw (same v h) (s.below v h (rw (same v h) at near));
      spread = λ u v h near none e.
          let p = same u (edge-node (ahead t) (ahead_shape t) u v e) in
          let q = same v h in
          let m = s.spread u v h (rw (same v h) at near) (sym (k.1 v) ∙ none) e in
          omega arith;
    }

-- where none is counted, none waits to spread its estimate
pub none-waits :
    {n : ℕ} {base : ℕ → ℕ} {scale : ℕ} {w head : List ℕ} {count least : ℕ} (l : Lined n base scale w head count least) (v : ℕ) → count ≡ 0 → v < n
    → waits l v ≡ false
none-waits {n} l v none h = never_true (waits l v) (λ q. omega (arith, one_below (waits l) n v h q, l.counted))

-- ---- what it says of the distances

module _ {a : Block} {t : AimTask a} {marks sinks w : List ℕ} {lack best low : ℕ} (s : Searching t marks sinks w lack best low) where
  -- outside the tree a distance is above 0
  pub dist-pos : (v : ℕ) → v < nodes a → dist_at w v ≡ 0 → tree_has marks v ≡ true
  dist-pos v h zero =
      by_test (tree_has marks v)
      (λ i. i)
      (λ o.
      let sum : dist_at w v ≡ dist_at w (pred_at (nodes a) w v) + t.price v = (s.reached v h o (omega arith)).sum in
      absurd (omega (arith, t.fair.pos v h)))

  -- none is too large
  pub dist-sized : (v : ℕ) → v < nodes a → (dist_at w v ≡ far) ⊎ (dist_at w v ≤ reach_most)
  dist-sized v h =
      by_test (tree_has marks v)
      (λ i. inr (omega (arith, s.tree v h i)))
      (λ o.
      ⊎_elim
      (λ (q : far ≤ dist_at w v). inl (le_antisymm (s.dist_top v h) q))
      (λ (q : dist_at w v < far).
      let r = s.reached v h o q in
      let sum : dist_at w v ≡ dist_at w (pred_at (nodes a) w v) + t.price v = r.sum in
      let own = (s.final (pred_at (nodes a) w v) r.pred-left).0 in
      let near : dist_at w (pred_at (nodes a) w v) < far = r.pred-left.near in
      let m = distance_most a t.price marks t.shape t.fair (pred_at (nodes a) w v) r.pred-left.node (omega arith) in
      let p = t.fair.most v h in
      let c = t.fair.low in
      inr (omega arith))
      (le_or_lt far (dist_at w v)))

-- ---- what it says of both: up to the least key and what is coming, nothing is missed

module _ {a : Block} {t : AimTask a} {marks sinks w₀ w head : List ℕ} {count lack best low level expanded : ℕ}
    (s : Aiming t marks sinks w₀ w head count lack best low level expanded) where
  -- where none is lacking, no node at distance 0 is
  none_lacks : lack ≡ 0 → (v : ℕ) → v < nodes a → dist_at w v ≡ 0 → estimate_at (nodes a) w v ≡ far → ⊥
  none_lacks full v h zero none =
      let test : ℕ → Bool = λ x. both (eqb (dist_at w x) 0) (eqb (estimate_at (nodes a) w x) far) in
      let here : test v ≡ true = both_true (eq-eqb (dist_at w v) 0 zero) (eq-eqb (estimate_at (nodes a) w v) far none) in
      let less = count_less test (λ x. false) (nodes a) v (λ x k e. absurd (true≢false (sym e))) h here refl in
      let is = s.searching.lacking_is in
      omega arith

  -- a node that lacks an estimate has no key below what is coming
  coming_low : {coming : ℕ} → LeastLacking t.scale level count lack low coming
      → (v : ℕ) → v < nodes a → estimate_at (nodes a) w v ≡ far → (coming ≤ dist_at w v + est t marks sinks v) ⊎ (far ≤ dist_at w v + est t marks sinks v)
  coming_low (none_comes none is) v h e =
      inr (omega (arith, blank_all s.estimating (λ x hx. none-waits s.estimating.lined x none hx) v h e))
  coming_low (tree_lacks some lacks is) v h e = inl (omega (arith, blank s.estimating v h e))
  coming_low (none-near some full none is) v h e =
      ⊎_elim
      (λ (q : dist_at w v ≡ 0). absurd (none_lacks full v h q e))
      (λ (q : dist_at w v ≡ 0 → ⊥). inr (omega (arith, s.searching.low_aim.least v h e (omega arith))))
      (same_or_not (dist_at w v) 0)
  coming_low (others_lack some full near is) v h e =
      ⊎_elim
      (λ (q : dist_at w v ≡ 0). absurd (none_lacks full v h q e))
      (λ (q : dist_at w v ≡ 0 → ⊥). inl (omega (arith, blank s.estimating v h e, s.searching.low_aim.least v h e (omega arith))))
      (same_or_not (dist_at w v) 0)

  -- so up to the least key and what is coming nothing is missed
  pub aim_forward : {coming : ℕ} (level' : ℕ) → LeastLacking t.scale level count lack low coming → level' ≤ entry_at (nodes a) w 1 → level' ≤ coming → level' ≤ far
      → Forward a t.price (est t marks sinks) marks sinks (dist_at w) (Left (nodes a) w) level'
  aim_forward {coming} level' lack least next top =
      record {
        tree = s.searching.tree;
        sides = λ v h. side v h (s.searching.places v h);
        relaxed = s.searching.relaxed;
        reached = λ v h o near.
            let r = s.searching.reached v h o near in
            record { pred = pred_at (nodes a) w v; is-settled = r.pred-left; edge = r.pred-edge; sum = r.sum };
      }
    where
      side : (v : ℕ) → v < nodes a → Place (nodes a) w v → Left (nodes a) w v ⊎ (level' ≤ dist_at w v + est t marks sinks v)
      side v h (gone l) = inl l
      side v h (waiting near known key less) =
          inr (omega (arith, queue-least (nodes a) w s.searching.queue v h, exact s.estimating v h known))
      side v h (lacking key (inl none)) = inr (omega arith)
      side v h (lacking key (inr none)) =
          ⊎_elim (λ (q : coming ≤ dist_at w v + est t marks sinks v). inr (omega arith)) (λ (q : far ≤ dist_at w v + est t marks sinks v). inr (omega arith))
          (coming_low lack v h none)
