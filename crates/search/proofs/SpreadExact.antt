-- Where labels have spread: a label that is had over nodes nearer than the level is the distance, and its predecessor is the node before.
-- Not so on dead ends that were spared. Whatever has an edge is none, so no path to another node goes over one.
-- Assumes nothing.
use mathlib.Core.Bool.{Bool, true, false}
use mathlib.Core.List.{List}
use mathlib.Core.Logic.{⊎_elim}
use mathlib.Core.Path.{◌≡◌}
use Prim.Native.Nat.{ℕ, zero, suc, ◌+◌, ◌≤◌, ◌<◌}
use native.Mathlib.Nat.{le_antisymm}
use native.Mathlib.Omega.{arith}
use lib.ListN.{get_or}
use Rattle.price.proofs.TestLaws.{by_test}
use Rattle.search.specs.Block.{Block, nodes, has_edge}
use Rattle.search.specs.Distance.{far, tree_has, distances, distance}
use Rattle.search.specs.Turn.{before}
use Rattle.search.specs.Paths.{Fair}
use Rattle.search.specs.Labels.{goal, label_at, from_at, wait_at, Waits}
use Rattle.search.specs.Spread.{Came, PlacePassed, EdgeLooked, Spared, EdgePast, Spread}
use Rattle.search.proofs.EdgeLaws.{Shaped, edge_where, edge-node}
use Rattle.search.proofs.DistanceLaws.{distance-tree, distance_step, distance-over}
use Rattle.search.proofs.BeforeLaws.{before_edge, before_sum, before_lowest}

-- a node that was not spared; what has an edge is one
abbrev pub Live : Block → Bool → List ℕ → ℕ → Type 0
Live b goals start v = Spared goals b.first_edges start v → ⊥

pub edge_live : (b : Block) (goals : Bool) (start : List ℕ) (u v : ℕ) → has_edge b u v ≡ true → Live b goals start u
edge_live b goals start u v e spared = let p = edge_where b u v e in let from = p.1 in let below = p.2 in let none = spared.1.no_edges in omega arith

module _ {b : Block} {price : ℕ → ℕ} {goals : Bool} (marks : List ℕ) {start w : List ℕ} {count level : ℕ} (g : Shaped b) (fair : Fair b price) (s : Spread b price goals start w count level (nodes b) 0)
    (zero_in : (v : ℕ) → v < nodes b → tree_has marks v ≡ true → label_at w v ≡ 0) (pos-out : (v : ℕ) → v < nodes b → tree_has marks v ≡ false → 0 < label_at w v) where
  -- no label is below the distance: by its predecessor, which is nearer
  below_by :
      (v : ℕ) → v < nodes b → label_at w v < goal → ((p : ℕ) → label_at w p < label_at w v → p < nodes b → label_at w p < goal → distance b price marks p ≤ label_at w p)
      → distance b price marks v ≤ label_at w v
  below_by v h l nearer =
      by_test (tree_has marks v)
      (λ t. omega (arith, distance-tree b price marks v h t))
      (λ t.
      let c = s.came v h (pos-out v h t) l in
      let p : ℕ = from_at (nodes b) w v in
      let pos = fair.pos v h in
      let sum : label_at w v ≡ label_at w (from_at (nodes b) w v) + price v = c.sum in
      let low : distance b price marks (from_at (nodes b) w v) ≤ label_at w (from_at (nodes b) w v) = nearer (from_at (nodes b) w v) (omega arith) c.node (omega arith) in
      let edge = distance_step b price marks g fair (from_at (nodes b) w v) v h c.edge in
      omega arith)

  never_below : (k v : ℕ) → label_at w v < k → v < nodes b → label_at w v < goal → distance b price marks v ≤ label_at w v
  never_below zero v m h l = absurd (omega arith)
  never_below (suc k) v m h l = below_by v h l (λ p nearer hp lp. never_below k p (omega arith) hp lp)

  -- a settled node has spread its label along each of its edges to a node that was not spared
  looked : (u v : ℕ) → u < nodes b → v < nodes b → Live b goals start v → has_edge b u v ≡ true → label_at w u < goal → label_at w u < level → EdgeLooked (nodes b) price w u v
  looked u v hu hv live e l less =
      ⊎_elim
      (λ (q : Waits (nodes b) count w u).
      absurd
      (let far-off : level ≤ label_at w (wait_at (nodes b) w q.0) = s.waits-far q.0 q.1 in
      let at : label_at w (wait_at (nodes b) w q.0) ≡ label_at w u = rw q.2 in
      omega arith))
      (λ (f : (k : ℕ) → PlacePassed b (nodes b) 0 u k → get_or b.edge_targets k 0 < nodes b → EdgePast b price goals start w u (get_or b.edge_targets k 0)).
      let p = edge_where b u v e in
      let past : EdgePast b price goals start w u v =
      rw p.4 at
      (f p.0 (record { from = p.1; below = p.2; within = p.3; seen = λ q. absurd (omega arith) }) (rw p.4 hv)) in
      ⊎_elim (λ l. l) (λ (spared : Spared goals b.first_edges start v). absurd (live spared)) past)
      (s.done u hu l)

  -- a distance that is had over a node nearer than the level is kept
  above_by :
      (v : ℕ) → v < nodes b → Live b goals start v → distance b price marks v < far → distance b price marks v < level + price v
      → ((u : ℕ) → distance b price marks u < distance b price marks v → distance b price marks u < level → u < nodes b → Live b goals start u → (label_at w u < goal) × (label_at w u ≤ distance b price marks u))
      → (label_at w v < goal) × (label_at w v ≤ distance b price marks v)
  above_by v h live near le nearer =
      by_test (tree_has marks v)
      (λ t. let z = zero_in v h t in (omega arith, omega arith))
      (λ t.
      let o = distance-over b price marks g fair v h t near in
      let u : ℕ = o.0 in
      let hu : o.0 < nodes b = edge-node b g o.0 v o.1 in
      let pos = fair.pos v h in
      let sum : distance b price marks v ≡ distance b price marks o.0 + price v = o.2 in
      let low = nearer o.0 (omega arith) (omega arith) hu (edge_live b goals start o.0 v o.1) in
      let low₁ : label_at w o.0 ≤ distance b price marks o.0 = low.1 in
      let f = looked o.0 v hu h live o.1 low.0 (omega arith) in
      let close : label_at w v ≤ label_at w o.0 + price v = f.near in
      (f.labelled, omega arith))

  never_above : (k v : ℕ) → distance b price marks v < k → v < nodes b → Live b goals start v → distance b price marks v < far → distance b price marks v < level + price v → (label_at w v < goal) × (label_at w v ≤ distance b price marks v)
  never_above zero v m h live near le = absurd (omega arith)
  never_above (suc k) v m h live near le =
      above_by v h live near le (λ u nearer below hu live-u. never_above k u (omega arith) hu live-u (omega arith) (omega (arith, fair.pos u hu)))

  -- so it is final
  pub exact : (v : ℕ) → v < nodes b → Live b goals start v → distance b price marks v < far → distance b price marks v < level + price v → (label_at w v < goal) × (label_at w v ≡ distance b price marks v)
  exact v h live near le =
      let up = never_above (suc (distance b price marks v)) v (omega arith) h live near le in
      (up.0, le_antisymm up.1 (never_below (suc (label_at w v)) v (omega arith) h up.0))

  pub exact_label : (v : ℕ) → v < nodes b → Live b goals start v → label_at w v < goal → label_at w v < level + price v → label_at w v ≡ distance b price marks v
  exact_label v h live l le =
      let low = never_below (suc (label_at w v)) v (omega arith) h l in
      (exact v h live (omega arith) (omega arith)).1

  -- and so is its predecessor: the lowest-numbered node over which the distance is had
  module _ (v : ℕ) (h : v < nodes b) (live : Live b goals start v) (out : tree_has marks v ≡ false) (near : distance b price marks v < far) (le : distance b price marks v < level + price v) where
    here : (label_at w v < goal) × (label_at w v ≡ distance b price marks v)
    here = exact v h live near le

    made : Came b price w level v
    made = s.came v h (pos-out v h out) here.0

    pred_final : distance b price marks (from_at (nodes b) w v) + price v ≡ distance b price marks v
    pred_final =
        let sum : label_at w v ≡ label_at w (from_at (nodes b) w v) + price v = made.sum in
        let l = here.0 in
        let is = here.1 in
        let pos = fair.pos (from_at (nodes b) w v) made.node in
        let at = exact_label (from_at (nodes b) w v) made.node (edge_live b goals start (from_at (nodes b) w v) v made.edge) (omega arith) (omega (arith, made.near)) in
        omega arith

    pred-lowest : (u : ℕ) → has_edge b u v ≡ true → distance b price marks u + price v ≡ distance b price marks v → from_at (nodes b) w v ≤ u
    pred-lowest u e sum =
        let hu : u < nodes b = edge-node b g u v e in
        let pos = fair.pos u hu in
        let at = exact u hu (edge_live b goals start u v e) (omega arith) (omega arith) in
        let is : label_at w u ≡ distance b price marks u = at.1 in
        let f = looked u v hu h live e at.0 (omega arith) in
        let whole : label_at w v ≡ label_at w (from_at (nodes b) w v) + price v = made.sum in
        let is-v : label_at w v ≡ distance b price marks v = here.1 in
        f.lowest (pos-out v h out) (omega arith)

    pub pred_exact : from_at (nodes b) w v ≡ before b price (distances b price marks) v
    pred_exact =
        le_antisymm
        (pred-lowest (before b price (distances b price marks) v) (before_edge b price marks g fair v h out near) (before_sum b price marks g fair v h out near))
        (before_lowest b price marks g fair v h out near (from_at (nodes b) w v) made.edge pred_final)
