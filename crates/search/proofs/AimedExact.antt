-- Why both passes of an aimed turn are right, over labels and settled nodes as functions.
--     back_exact   the backward pass: a label is the estimate, or the estimate is at least the level
--     back_above   it is never below the estimate
--     aim_exact    the forward pass: a node whose distance and estimate together are below its level has its distance, and is settled
--     aim-final    so has a node that is settled at the level, and there its distance and estimate together are the level
--     aim_within   while no unjoined sink's label is below the level, the level is at most the joined sink's distance
--     aim_settles, aim_all   hence only nodes that the turn expands are settled, and at the end all of them
-- Assumes nothing.
use mathlib.Core.Bool.{true, false}
use mathlib.Core.List.{List}
use mathlib.Core.Logic.{◌⊎◌, ⊎_elim, inl, inr}
use mathlib.Core.Path.{◌≡◌}
use Prim.Native.Nat.{ℕ, zero, suc, ◌+◌, ◌≤◌, ◌<◌}
use native.Mathlib.Nat.{le_antisymm}
use native.Mathlib.Omega.{arith}
use lib.ListN.{get_or}
use Rattle.price.specs.Lists.{has}
use Rattle.price.proofs.TestLaws.{either_way, le_or_lt}
use Rattle.price.proofs.ListLaws.{has-at}
use Rattle.search.specs.Block.{Block, nodes, has_edge}
use Rattle.search.specs.Paths.{Walk, stay, step, path_cost, Fair}
use Rattle.search.specs.Distance.{far, tree_has, distance}
use Rattle.search.specs.Turn.{open_distances, nearest_distance, nearest_place}
use Rattle.search.specs.Aimed.{estimate, expands_by}
use Rattle.search.proofs.EdgeLaws.{Shaped, edge-node}
use Rattle.search.proofs.WalkLaws.{step_cost, walk_start}
use Rattle.search.proofs.DistanceLaws.{distance_top, distance-tree, distance_step, distance-over}
use Rattle.search.proofs.NearestLaws.{nearest}
use Rattle.search.proofs.PriceSameLaws.{beyond}
use Rattle.search.proofs.AimedLaws.{WalkOut, est_top, est_least, est_walk, expands-le, le-expands, expands-near}

-- ---- the backward pass

-- the walk that a label stands for: it weighs so much
pub record LabelWalk (b : Block) (weight : ℕ → ℕ) (marks sinks : List ℕ) (v label : ℕ) : Type 0 where
  pub path : List ℕ
  pub out : WalkOut b marks sinks v path
  pub weighs : path_cost weight path ≡ label

-- between two settlings: each label stands for a walk to an unjoined sink, and no settled node has a predecessor with a higher one
pub record Backward (b : Block) (weight : ℕ → ℕ) (marks sinks : List ℕ) (label : ℕ → ℕ) (done : ℕ → Type 0) (level : ℕ) : Type 0 where
  pub top : (v : ℕ) → v < nodes b → label v ≤ far
  pub goals : (s : ℕ) → s < nodes b → has s sinks ≡ true → tree_has marks s ≡ false → label s ≡ 0
  pub walks : (v : ℕ) → v < nodes b → label v < far → LabelWalk b weight marks sinks v (label v)
  pub relaxed : (u v : ℕ) → v < nodes b → done v → has_edge b u v ≡ true → label u ≤ label v + weight v
  pub sides : (v : ℕ) → v < nodes b → done v ⊎ (level ≤ label v + weight v)

module _ (b : Block) (weight : ℕ → ℕ) (marks sinks : List ℕ) (g : Shaped b) (fair : Fair b weight)
    (label : ℕ → ℕ) (done : ℕ → Type 0) (level : ℕ) (f : Backward b weight marks sinks label done level) where
  -- no walk is cheaper than its first node's label, or it costs at least the level
  back_walk :
      {v s : ℕ} {path : List ℕ} → s < nodes b → has s sinks ≡ true → tree_has marks s ≡ false → Walk b v path s
      → (label v ≤ path_cost weight path) ⊎ (level ≤ path_cost weight path)
  back_walk h l o (stay u) = inl (omega (arith, f.goals u h l o))
  back_walk h l o (step {u = u} {w = x} {path = path} e w) =
      let hx : x < nodes b = walk_start g h w in
      let sum = step_cost weight u w in
      ⊎_elim
      (λ (q : label x ≤ path_cost weight path).
      ⊎_elim
      (λ (d : done x). inl (omega (arith, f.relaxed u x hx d e)))
      (λ (m : level ≤ label x + weight x). inr (omega arith))
      (f.sides x hx))
      (λ (q : level ≤ path_cost weight path). inr (omega arith))
      (back_walk h l o w)

  -- a label is never below the estimate
  pub back_above : (v : ℕ) → v < nodes b → estimate b weight marks sinks v ≤ label v
  back_above v h =
      ⊎_elim
      (λ (m : far ≤ label v). omega (arith, est_top b weight marks sinks v))
      (λ (m : label v < far).
      let w = f.walks v h m in
      omega (arith, est_least b weight marks sinks g fair w.out, w.weighs))
      (le_or_lt far (label v))

  pub back_exact : (v : ℕ) → v < nodes b → (label v ≡ estimate b weight marks sinks v) ⊎ (level ≤ estimate b weight marks sinks v)
  back_exact v h =
      let above : estimate b weight marks sinks v ≤ label v = back_above v h in
      ⊎_elim
      (λ (q : far ≤ estimate b weight marks sinks v). inl (le_antisymm (omega (arith, f.top v h)) above))
      (λ (q : estimate b weight marks sinks v < far).
      let p = est_walk b weight marks sinks g fair v q in
      let w = p.1 in
      ⊎_elim
      (λ (m : label v ≤ path_cost weight p.0). inl (le_antisymm (omega (arith, p.2)) above))
      (λ (m : level ≤ path_cost weight p.0). inr (omega (arith, p.2)))
      (back_walk w.node w.listed w.out w.walk))
      (le_or_lt far (estimate b weight marks sinks v))

-- ---- the forward pass

-- v was reached from a settled node over an edge
pub record From (b : Block) (price : ℕ → ℕ) (d : ℕ → ℕ) (settled : ℕ → Type 0) (v : ℕ) : Type 0 where
  pub pred : ℕ
  pub is-settled : settled pred
  pub edge : has_edge b pred v ≡ true
  pub sum : d v ≡ d pred + price v

-- between two settlings, by these estimates
pub record Forward (b : Block) (price est : ℕ → ℕ) (marks sinks : List ℕ) (d : ℕ → ℕ) (settled : ℕ → Type 0) (level : ℕ) : Type 0 where
  pub tree : (v : ℕ) → v < nodes b → tree_has marks v ≡ true → d v ≡ 0
  pub sides : (v : ℕ) → v < nodes b → settled v ⊎ (level ≤ d v + est v)
  pub relaxed : (u v : ℕ) → v < nodes b → settled u → has_edge b u v ≡ true → d v ≤ d u + price v
  pub reached : (v : ℕ) → v < nodes b → tree_has marks v ≡ false → d v < far → From b price d settled v

-- estimates that are consistent along the edges and 0 on the unjoined sinks
pub record Consistent (b : Block) (price est : ℕ → ℕ) (marks sinks : List ℕ) : Type 0 where
  pub along : (u v : ℕ) → v < nodes b → has_edge b u v ≡ true → est u ≤ price v + est v
  pub zero_there : (s : ℕ) → s < nodes b → has s sinks ≡ true → tree_has marks s ≡ false → est s ≡ 0

module _ (b : Block) (price est : ℕ → ℕ) (marks sinks : List ℕ) (g : Shaped b) (fair : Fair b price) (c : Consistent b price est marks sinks)
    (d : ℕ → ℕ) (settled : ℕ → Type 0) (level : ℕ) (f : Forward b price est marks sinks d settled level) where
  -- no label is below the distance: by the node it was reached from, which is nearer
  pub never_below : (k v : ℕ) → d v < k → v < nodes b → distance b price marks v ≤ d v
  never_below zero v l hv = absurd (omega arith)
  never_below (suc k) v l hv =
      ⊎_elim
      (λ (t : tree_has marks v ≡ true). omega (arith, distance-tree b price marks v hv t))
      (λ (t : tree_has marks v ≡ false).
      ⊎_elim
      (λ (top : far ≤ d v). omega (arith, distance_top b price marks v))
      (λ (near : d v < far).
      let r = f.reached v hv t near in
      let pos = fair.pos v hv in
      let sum : d v ≡ d r.pred + price v = r.sum in
      let low = never_below k r.pred (omega arith) (edge-node b g r.pred v r.edge) in
      omega (arith, distance_step b price marks g fair r.pred v hv r.edge))
      (le_or_lt far (d v)))
      (either_way (tree_has marks v))

  -- a node whose distance and estimate are below the level is settled, once it has its distance
  now_settled : (v : ℕ) → v < nodes b → distance b price marks v + est v < level → d v ≤ distance b price marks v → settled v
  now_settled v hv fits at = ⊎_elim (λ s. s) (λ (m : level ≤ d v + est v). absurd (omega arith)) (f.sides v hv)

  never_above :
      (k v : ℕ) → distance b price marks v < k → v < nodes b → distance b price marks v < far → distance b price marks v + est v < level
      → d v ≤ distance b price marks v
  never_above zero v l hv near fits = absurd (omega arith)
  never_above (suc k) v l hv near fits =
      ⊎_elim
      (λ (t : tree_has marks v ≡ true). omega (arith, f.tree v hv t))
      (λ (t : tree_has marks v ≡ false).
      let o = distance-over b price marks g fair v hv t near in
      let u : ℕ = o.0 in
      let hu : u < nodes b = edge-node b g u v o.1 in
      let sum : distance b price marks v ≡ distance b price marks u + price v = o.2 in
      let pos = fair.pos v hv in
      let fits' : distance b price marks u + est u < level = omega (arith, c.along u v hv o.1) in
      let at : d u ≤ distance b price marks u = never_above k u (omega arith) hu (omega arith) fits' in
      let s : settled u = now_settled u hu fits' at in
      let r = f.relaxed u v hv s o.1 in
      omega arith)
      (either_way (tree_has marks v))

  pub aim_exact : (v : ℕ) → v < nodes b → distance b price marks v < far → distance b price marks v + est v < level → (d v ≡ distance b price marks v) × settled v
  aim_exact v hv near fits =
      let at = never_above (suc (distance b price marks v)) v (omega arith) hv near fits in
      (le_antisymm at (never_below (suc (d v)) v (omega arith) hv), now_settled v hv fits at)

  -- a level that no unjoined sink's label is below is at most the joined sink's distance
  pub aim_within :
      level ≤ far → ((s : ℕ) → s < nodes b → has s sinks ≡ true → tree_has marks s ≡ false → level ≤ d s)
      → level ≤ nearest_distance b price marks sinks
  unfolding open_distances
  aim_within top low =
      ⊎_elim
      (λ (q : far ≤ nearest_distance b price marks sinks). omega arith)
      (λ (near : nearest_distance b price marks sinks < far).
      let n = nearest b price marks sinks (λ q. absurd (omega arith)) in
      let s : ℕ = get_or sinks (nearest_place b price marks sinks) 0 in
      let hs : s < nodes b = beyond b price marks s n.near in
      let listed = has-at sinks (nearest_place b price marks sinks) n.within in
      let here : distance b price marks s ≡ nearest_distance b price marks sinks = n.here in
      let zero = c.zero_there s hs listed n.out in
      ⊎_elim
      (λ (q : level ≤ distance b price marks s). omega arith)
      (λ (q : distance b price marks s < level).
      let at = (aim_exact s hs (omega arith) (omega arith)).0 in
      absurd (omega (arith, low s hs listed n.out)))
      (le_or_lt level (distance b price marks s)))
      (le_or_lt far (nearest_distance b price marks sinks))

  -- a node that is taken at the level, while no unjoined sink's label is below it, has its distance and is one that the turn expands
  pub aim_settles :
      (u : ℕ) → u < nodes b → d u + est u ≡ level → level < far → ((s : ℕ) → s < nodes b → has s sinks ≡ true → tree_has marks s ≡ false → level ≤ d s)
      → (d u ≡ distance b price marks u) × (expands_by b price est marks sinks u ≡ true)
  aim_settles u hu key near low =
      let least = never_below (suc (d u)) u (omega arith) hu in
      let at : d u ≡ distance b price marks u =
      ⊎_elim
      (λ (q : d u ≤ distance b price marks u). le_antisymm q least)
      (λ (q : distance b price marks u < d u). (aim_exact u hu (omega arith) (omega arith)).0)
      (le_or_lt (d u) (distance b price marks u)) in
      (at, le-expands b price est marks sinks u (omega (arith, aim_within (omega arith) low)))

  -- once the level is above the joined sink's distance, every node that the turn expands is settled and has its distance
  pub aim_all :
      (v : ℕ) → nearest_distance b price marks sinks < far → nearest_distance b price marks sinks < level → expands_by b price est marks sinks v ≡ true
      → (d v ≡ distance b price marks v) × settled v
  aim_all v near past x =
      let n = expands-near b price est marks sinks v near x in
      aim_exact v n.0 n.1 (omega (arith, expands-le b price est marks sinks v x))
