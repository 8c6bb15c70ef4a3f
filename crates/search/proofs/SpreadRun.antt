-- Settling one node after the other keeps what holds while labels spread.
--     LabelRowSoFar, row-..     the row of a node that is being settled, looked at up to a place
--     LabelsRunning, run-..     the nodes settled so far, and where that stops
-- Assumes nothing.
use mathlib.Core.Bool.{Bool, true}
use mathlib.Core.List.{List}
use mathlib.Core.Logic.{⊎_elim, inl, inr}
use mathlib.Core.Path.{◌≡◌, refl, ◌∙◌}
use Prim.Native.Nat.{ℕ, ◌+◌, ◌-◌, ◌*◌, ◌/◌, ◌^◌, ◌≤◌, ◌<◌, min}
use native.Mathlib.Nat.{le_refl, le_trans}
use native.Mathlib.Omega.{arith}
use lib.ListN.{length, get_or}
use Rattle.price.specs.Bounds.{path_most, nodes_most, timed_nodes_most}
use Rattle.price.specs.Timed.{weighed_most}
use Rattle.price.proofs.BelowLaws.{count_same}
use Rattle.price.proofs.TimedLaws.{weighed-path, weighed-low}
use Rattle.search.specs.Block.{Block, nodes, graph_of, row_start}
use Rattle.search.specs.Distance.{far}
use Rattle.search.specs.Turn.{Congestion}
use Rattle.search.specs.Paths.{any_price_most, Fair}
use Rattle.search.specs.Clamped.{clamped_price, ListsLong}
use Rattle.search.specs.Labels.{goal, label_at, from_at, wait_at, key_at, Waits, Taken}
use Rattle.search.specs.Spread.{bare, bare_count, Came, PlacePassed, EdgeLooked, EdgePast, Spread, SpreadOnward, EdgeRelaxed, RelaxReady, SettleReady, NodeSettled, SpreadStopped}
use Rattle.search.proofs.ClampedLaws.{clamped-pos, clamped-fair}
use Rattle.search.proofs.EdgeLaws.{place_edge}
use Rattle.search.proofs.HeapLaws.{first_least}
use Rattle.search.proofs.SpreadSteps.{spread-low, label-ready, relax_at, onward-none, onward_trans}

-- clamped prices are fair
pub fair-clamped :
    (b : Block) (kinds capacities : List ℕ) (c : Congestion) → nodes b ≤ nodes_most → (c.weighting.timed ≡ true → nodes b ≤ timed_nodes_most) → Fair b (clamped_price kinds capacities c)
fair-clamped b kinds capacities c few timed_few = record {
  ceiling = weighed_most c.weighting;
  low = let most = weighed-low c.weighting in omega arith;
  fits = weighed-path c.weighting (nodes b) few timed_few;
  pos = λ v h. clamped-pos kinds capacities c v;
  most = λ v h. clamped-fair kinds capacities c v;
}

-- ---- one row

-- the row of u, looked at up to place e
pub record LabelRowSoFar (b : Block) (price : ℕ → ℕ) (goals : Bool) (u : ℕ) (w₀ w : List ℕ) (e count₀ count best₀ best : ℕ) : Type 0 where
  pub spread : (start : List ℕ) → Spread b price goals start w₀ count₀ (label_at w₀ u) u 0 → Spread b price goals start w count (label_at w₀ u) u e
  pub here : label_at w u ≡ label_at w₀ u
  pub onward : SpreadOnward (nodes b) w₀ w best₀ best
  pub fewer : 2 * bare_count (nodes b) w + count ≤ 2 * bare_count (nodes b) w₀ + count₀
  pub from : min (row_start b u) (length b.edge_targets) ≤ e

module _ {b : Block} {price : ℕ → ℕ} {goals : Bool} {u : ℕ} {w₀ : List ℕ} {count₀ : ℕ} (ready : SettleReady b price goals w₀ count₀ u) where
  pub row_begin : {e best : ℕ} → e ≡ min (row_start b u) (length b.edge_targets) → LabelRowSoFar b price goals u w₀ w₀ e count₀ count₀ best best
  row_begin {e} {best} is =
      record {
        spread = λ start s. record {
          fair = s.fair;
          heap = s.heap;
          room = s.room;
          waits-label = s.waits-label;
          waits-far = s.waits-far;
          bound = s.bound;
          came = s.came;
          unmet = s.unmet;
          done = λ x h l.
              ⊎_elim
              inl
              (λ (f : (k : ℕ) → PlacePassed b u 0 x k → get_or b.edge_targets k 0 < nodes b → EdgePast b price goals start w₀ x (get_or b.edge_targets k 0)).
              inr
              (λ k p t.
              f k
              (record {
                from = p.from;
                below = p.below;
                within = p.within;
                seen = λ q.
                    let z : k < e = p.seen q in
                    let a : row_start b x ≤ k = p.from in
                    let a' : row_start b u ≤ k = rw q at a in
                    absurd (omega arith);
              })
              t))
              (s.done x h l);
        };
        here = refl;
        onward = onward-none (nodes b) w₀ best;
        fewer = le_refl _;
        from = rw is (le_refl _);
      }

  module _ (few : nodes b ≤ nodes_most) {w : List ℕ} {e count best₀ best to : ℕ} (r : LabelRowSoFar b price goals u w₀ w e count₀ count best₀ best)
      (is : to ≡ min (row_start b (u + 1)) (length b.edge_targets)) where
    -- as far as it has spread by the marks that are known
    pub row-spread : Spread b price goals ready.start w count (label_at w₀ u) u e
    row-spread = r.spread ready.start ready.spread

    module _ (more : e < to) where
      row_from : row_start b u ≤ e
      row_from = omega (arith, r.from)

      row_below : e < row_start b (u + 1)
      row_below = omega arith

      pub row_within : e < length b.edge_targets
      row_within = omega arith

      pub row_low : label_at w₀ u < path_most
      row_low = spread-low row-spread few ready.node r.here ready.labelled

      pub row_more : {w' : List ℕ} {count' best' : ℕ} → EdgeRelaxed (nodes b) b.first_edges b.edge_targets goals price u (get_or b.edge_targets e 0) (label_at w₀ u) w w' count count' best best' → LabelRowSoFar b price goals u w₀ w' (e + 1) count₀ count' best₀ best'
      row_more made =
          let edge = place_edge b u e row_from row_below row_within in
          let t = relax_at row-spread few ready.node r.here ready.labelled ready.firsts-long (get_or b.edge_targets e 0) refl edge made in
          record {
            spread = λ start s. (relax_at (r.spread start s) few ready.node r.here ready.labelled ready.firsts-long (get_or b.edge_targets e 0) refl edge made).spread;
            here = t.here;
            onward = onward_trans r.onward t.onward;
            fewer = le_trans t.fewer r.fewer;
            from = let f = r.from in omega arith;
          }

    pub row-end : to ≤ e → NodeSettled b price goals (label_at w₀ u) u w₀ w count₀ count best₀ best
    row-end end =
        record {
          spread = λ start s₀. let s = r.spread start s₀ in record {
            fair = s.fair;
            heap = s.heap;
            room = s.room;
            waits-label = s.waits-label;
            waits-far = s.waits-far;
            bound = s.bound;
            came = s.came;
            unmet = s.unmet;
            done = λ x h l.
                ⊎_elim
                inl
                (λ (f : (k : ℕ) → PlacePassed b u e x k → get_or b.edge_targets k 0 < nodes b → EdgePast b price goals start w x (get_or b.edge_targets k 0)).
                inr
                (λ k p t.
                f k
                (record {
                  from = p.from;
                  below = p.below;
                  within = p.within;
                  seen = λ q.
                      let z : k < row_start b (x + 1) = p.below in
                      let z' : k < row_start b (u + 1) = rw q at z in
                      omega (arith, p.within);
                })
                t))
                (s.done x h l);
          };
          onward = r.onward;
          fewer = r.fewer;
        }

-- safe to look at the edge at place e
pub row-ready :
    {ks cs fs ts : List ℕ} {c : Congestion} {goals : Bool} {u : ℕ} {w₀ w : List ℕ} {e count₀ count best₀ best to : ℕ} → ListsLong ks cs c
    → SettleReady (graph_of ks fs ts) (clamped_price ks cs c) goals w₀ count₀ u → LabelRowSoFar (graph_of ks fs ts) (clamped_price ks cs c) goals u w₀ w e count₀ count best₀ best
    → to ≡ min (get_or fs (u + 1) 0) (length ts) → e < to → RelaxReady ks cs c fs w count u (get_or ts e 0) (label_at w₀ u)
row-ready {ks} {cs} {fs} {ts} {c} {goals} {u} lent ready r is more =
    let s = row-spread ready lent.few r is in
    record {
      lent = lent;
      firsts-long = ready.firsts-long;
      heap = s.heap;
      labels-low = s.waits-label;
      near = row_low ready lent.few r is more;
      u_node = ready.node;
      more = λ h l. (label-ready s lent.few ready.node r.here ready.labelled ready.firsts-long _ h l).more;
      from_node = λ h p l. (s.came _ h p l).node;
    }

-- ---- one node after the other

-- nodes have been settled from w₀ to w
pub record LabelsRunning (b : Block) (price : ℕ → ℕ) (goals : Bool) (w₀ w : List ℕ) (best count : ℕ) : Type 0 where
  pub level : ℕ
  pub spread : Spread b price goals w₀ w count level (nodes b) 0
  pub onward : SpreadOnward (nodes b) w₀ w far best

-- a higher level, where every waiting node is as far
raised : {b : Block} {price : ℕ → ℕ} {goals : Bool} {start w : List ℕ} {count level cur place : ℕ} (level' : ℕ) → Spread b price goals start w count level cur place
    → ((i : ℕ) → i < count → level' ≤ key_at (nodes b) w i) → ((v : ℕ) → v < nodes b → Came b price w level v → label_at w v < goal → label_at w (from_at (nodes b) w v) ≤ level')
    → Spread b price goals start w count level' cur place
raised level' s above near = record {
  fair = s.fair;
  heap = s.heap;
  room = s.room;
  waits-label = s.waits-label;
  waits-far = above;
  bound = s.bound;
  came = λ v h p l.
      let c = s.came v h p l in
      record { node = c.node; near = near v h c l; edge = c.edge; sum = c.sum };
  unmet = s.unmet;
  done = s.done;
}

-- the heap's first entry
first_wait : (n : ℕ) (w : List ℕ) → wait_at n w 0 ≡ get_or w n 0 / 65536
first_wait n w = let z : n + 0 ≡ n = omega arith in rw z

module _ {b : Block} {price : ℕ → ℕ} {goals : Bool} {w₀ w : List ℕ} {best count : ℕ} (r : LabelsRunning b price goals w₀ w best count) where
  pub run_end : {step : ℕ} → count ≤ 0 → SpreadStopped b price goals step w₀ w best
  run_end none = record {
    count = count;
    level = far;
    spread = raised far r.spread (λ i l. absurd (omega arith)) (λ v h c l. let sum : label_at w v ≡ label_at w (from_at (nodes b) w v) + price v = c.sum in omega arith);
    onward = r.onward;
    stopped = inl refl;
  }

  module _ (some : 0 < count) where
    pub run_node : get_or w (nodes b) 0 / 65536 < nodes b
    run_node = rw (first_wait (nodes b) w) at (r.spread.heap.nodes 0 some)

    run_key : key_at (nodes b) w 0 ≡ label_at w (get_or w (nodes b) 0 / 65536)
    run_key = rw (first_wait (nodes b) w)

    run_label : label_at w (get_or w (nodes b) 0 / 65536) < goal
    run_label = rw run_key at (r.spread.waits-label 0 some)

    run_raised : Spread b price goals w₀ w count (label_at w (get_or w (nodes b) 0 / 65536)) (nodes b) 0
    run_raised =
        let level : r.level ≤ label_at w (get_or w (nodes b) 0 / 65536) = rw run_key at (r.spread.waits-far 0 some) in
        raised (label_at w (get_or w (nodes b) 0 / 65536)) r.spread
        (λ i l. rw run_key at (first_least (nodes b) count w r.spread.heap.ordered i l))
        (λ v h c l. le_trans c.near level)

    pub run_fits : {step : ℕ} → step ≤ any_price_most → label_at w (get_or w (nodes b) 0 / 65536) + step < 2 ^ 64
    run_fits small =
        let m = r.spread.bound (get_or w (nodes b) 0 / 65536) run_node run_label in
        let top : nodes b * r.spread.fair.ceiling < path_most = r.spread.fair.fits in
        omega arith

    pub run_early : {step : ℕ} → best < label_at w (get_or w (nodes b) 0 / 65536) + step → SpreadStopped b price goals step w₀ w best
    run_early less = record { count = count; level = label_at w (get_or w (nodes b) 0 / 65536); spread = run_raised; onward = r.onward; stopped = inr less }

    -- the first entry is taken out
    module _ {w₁ : List ℕ} (t : Taken (nodes b) (count - 1) w w₁) where
      took_label : (x : ℕ) → x < nodes b → label_at w₁ x ≡ label_at w x
      took_label x h = t.moved.same.low x h

      took_from : (x : ℕ) → x < nodes b → from_at (nodes b) w₁ x ≡ from_at (nodes b) w x
      took_from x h = t.moved.from x h

      took_bare : bare_count (nodes b) w₁ ≡ bare_count (nodes b) w
      took_bare = count_same (bare w₁) (bare w) (nodes b) (λ x k. rw (took_label x k))

      -- an entry that is left was there before
      took_entry : (i : ℕ) → i < count - 1 → (j : ℕ) × (j < count) × (wait_at (nodes b) w j ≡ wait_at (nodes b) w₁ i)
      took_entry i l = let q = t.all i l in (q.0, (let k = q.1 in omega arith), q.2)

      took_node : (i : ℕ) → i < count - 1 → wait_at (nodes b) w₁ i < nodes b
      took_node i l = let q = took_entry i l in rw q.2 at (r.spread.heap.nodes q.0 q.1)

      took_key : (i : ℕ) → i < count - 1 → (j : ℕ) × (j < count) × (key_at (nodes b) w₁ i ≡ key_at (nodes b) w j)
      took_key i l = let q = took_entry i l in (q.0, q.1, took_label (wait_at (nodes b) w₁ i) (took_node i l) ∙ rw q.2)

      took_came : (level x : ℕ) → x < nodes b → Came b price w level x → Came b price w₁ level x
      took_came level x h c =
          let f : from_at (nodes b) w₁ x ≡ from_at (nodes b) w x = took_from x h in
          let lf : label_at w₁ (from_at (nodes b) w x) ≡ label_at w (from_at (nodes b) w x) = took_label (from_at (nodes b) w x) c.node in
          record { node = rw f c.node; near = rw (f, lf) c.near; edge = rw f c.edge; sum = rw (f, lf, took_label x h) c.sum }

      took_looked : (x y : ℕ) → x < nodes b → y < nodes b → EdgeLooked (nodes b) price w x y → EdgeLooked (nodes b) price w₁ x y
      took_looked x y hx hy f =
          let lx : label_at w₁ x ≡ label_at w x = took_label x hx in
          let ly : label_at w₁ y ≡ label_at w y = took_label y hy in
          record {
            labelled = rw ly f.labelled;
            near = rw (ly, lx) f.near;
            lowest = λ p e.
                let p' : 0 < label_at w y = rw ly at p in
                let c = r.spread.came y hy p' f.labelled in
                let at : from_at (nodes b) w₁ y ≡ from_at (nodes b) w y = took_from y hy in
                let lf : label_at w₁ (from_at (nodes b) w y) ≡ label_at w (from_at (nodes b) w y) = took_label (from_at (nodes b) w y) c.node in
                let e' : label_at w₁ (from_at (nodes b) w y) ≡ label_at w₁ x = rw at at e in
                rw at (f.lowest p' (omega arith));
          }

      took_spread : Spread b price goals w₀ w₁ (count - 1) (label_at w (get_or w (nodes b) 0 / 65536)) (get_or w (nodes b) 0 / 65536) 0
      took_spread =
          let s = run_raised in
          record {
            fair = s.fair;
            heap = record { long = rw t.moved.same.long s.heap.long; few = let f = s.heap.few in omega arith; ordered = t.ordered; nodes = took_node; keyed = t.keyed };
            room = rw took_bare (let f = s.room in omega arith);
            waits-label = λ i l. let q = took_key i l in rw q.2 (s.waits-label q.0 q.1);
            waits-far = λ i l. let q = took_key i l in rw q.2 (s.waits-far q.0 q.1);
            bound = λ x h l. rw (took_label x h, took_bare) (s.bound x h (rw (took_label x h) at l));
            came = λ x h p l. took_came (label_at w (get_or w (nodes b) 0 / 65536)) x h (s.came x h (rw (took_label x h) at p) (rw (took_label x h) at l));
            unmet = λ x h l. rw (took_label x h) (s.unmet x h (rw (took_label x h) at l));
            done = λ x h l.
                ⊎_elim
                (λ (q : Waits (nodes b) count w x).
                let e : count - 1 + 1 ≡ count = omega arith in
                ⊎_elim
                (λ (z : x ≡ wait_at (nodes b) w 0).
                inr (λ k p d. absurd (let n : k < 0 = p.seen (z ∙ first_wait (nodes b) w) in omega arith)))
                inl
                (t.kept x (rw e q)))
                (λ (f : (k : ℕ) → PlacePassed b (nodes b) 0 x k → get_or b.edge_targets k 0 < nodes b → EdgePast b price goals w₀ w x (get_or b.edge_targets k 0)).
                inr
                (λ k p d.
                ⊎_elim
                (λ (g : EdgeLooked (nodes b) price w x (get_or b.edge_targets k 0)). inl (took_looked x (get_or b.edge_targets k 0) h d g))
                inr
                (f k (record { from = p.from; below = p.below; within = p.within; seen = λ q. absurd (omega arith) }) d)))
                (s.done x h (rw (took_label x h) at l));
          }

      pub run_settle : length b.first_edges ≡ nodes b + 1 → SettleReady b price goals w₁ (count - 1) (get_or w (nodes b) 0 / 65536)
      run_settle long =
          let same : label_at w₁ (get_or w (nodes b) 0 / 65536) ≡ label_at w (get_or w (nodes b) 0 / 65536) = took_label (get_or w (nodes b) 0 / 65536) run_node in
          record { firsts-long = long; node = run_node; labelled = rw same run_label; start = w₀; spread = rw same took_spread }

      took_onward : SpreadOnward (nodes b) w w₁ best best
      took_onward = record {
        long = t.moved.same.long;
        high = λ j l. t.moved.same.high j l;
        kept = λ v h l. took_label v h;
        still = λ v h l m. took_label v h;
        pos = λ v h l. rw (took_label v h) (omega arith);
        less = le_refl best;
        least = λ v h e l. absurd (let z : label_at w₁ v ≡ label_at w v = took_label v h in omega arith);
        some = inl refl;
      }

      module _ {w₂ : List ℕ} {count₂ best₂ : ℕ}
          (s : NodeSettled b price goals (label_at w₁ (get_or w (nodes b) 0 / 65536)) (get_or w (nodes b) 0 / 65536) w₁ w₂ (count - 1) count₂ best best₂) where
        pub run_more : LabelsRunning b price goals w₀ w₂ best₂ count₂
        run_more = record { level = label_at w₁ (get_or w (nodes b) 0 / 65536); spread = s.spread w₀ (rw (took_label (get_or w (nodes b) 0 / 65536) run_node) took_spread); onward = onward_trans r.onward (onward_trans took_onward s.onward) }

        pub run_falls : 2 * bare_count (nodes b) w₂ + count₂ < 2 * bare_count (nodes b) w + count
        run_falls = let f = s.fewer in let e = took_bare in omega arith
