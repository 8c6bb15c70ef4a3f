-- What labels that have stopped spreading say of the turn: the least label of a goal is the distance of the nearest sink that is still to be joined, or none of them has a path.
-- Assumes nothing.
use mathlib.Core.Bool.{Bool, true, false}
use mathlib.Core.List.{List, ◌++◌}
use mathlib.Core.Logic.{◌⊎◌, ⊎_elim}
use mathlib.Core.Path.{◌≡◌, sym, ◌∙◌}
use Prim.Native.Nat.{ℕ, ◌+◌, ◌-◌, ◌*◌, ◌≤◌, ◌<◌}
use native.Mathlib.Nat.{le_antisymm}
use native.Mathlib.Omega.{arith}
use lib.ListN.{length, get_or, take, drop, replicate, get_or-eq_default}
use Rattle.price.proofs.TestLaws.{le_or_lt, never_true}
use Rattle.search.specs.Block.{Block, nodes, has_edge}
use Rattle.search.specs.Distance.{far, tree_has, distances, distance}
use Rattle.search.specs.Turn.{joins, stuck, path_to, turn}
use Rattle.search.specs.Paths.{Fair}
use Rattle.search.specs.Replies.{sinks_most, read_off, turn_reply, path_reply_of}
use Rattle.search.specs.Labels.{goal, label_at}
use Rattle.search.specs.Spread.{Came, Spread}
use Rattle.search.specs.TurnWork.{Leads, path_in, Found, Read}
use Rattle.std.specs.Prelude.{Some, None, Ok}
use Rattle.search.specs.declared.Joins.{Joins}
use Rattle.search.proofs.EdgeLaws.{Shaped}
use Rattle.search.proofs.DistanceLaws.{length-distances, distance_top}
use Rattle.search.proofs.PathToLaws.{path-short}
use Rattle.search.proofs.TrailLaws.{trail-to, OnTheWay}
use Rattle.search.proofs.TurnLaws.{turn_is, stuck-is}
use Rattle.search.proofs.SpreadExact.{Live, edge_live, exact, exact_label, pred_exact}

-- a listed node outside the tree
abbrev pub OpenAt : (n : ℕ) (marks sinks : List ℕ) (j : ℕ) → Type 0
OpenAt n marks sinks j = (j < length sinks) × (get_or sinks j 0 < n) × (tree_has marks (get_or sinks j 0) ≡ false)

-- labels have spread from the tree and stopped; `best` is the least one of a listed node outside the tree, and past 3 n the work slice is as it was
pub record Halted (b : Block) (price : ℕ → ℕ) (marks sinks w₀ w : List ℕ) (best : ℕ) : Type 0 where
  pub shaped : Shaped b
  pub fair : Fair b price
  pub marks_long : nodes b ≤ length marks
  pub sinks-few : length sinks ≤ sinks_most
  pub count : ℕ
  pub level : ℕ
  pub step : ℕ
  pub goals : Bool
  pub start : List ℕ
  pub spread : Spread b price goals start w count level (nodes b) 0
  pub live : (j : ℕ) → OpenAt (nodes b) marks sinks j → Live b goals start (get_or sinks j 0)
  pub zero_in : (v : ℕ) → v < nodes b → tree_has marks v ≡ true → label_at w v ≡ 0
  pub pos-out : (v : ℕ) → v < nodes b → tree_has marks v ≡ false → 0 < label_at w v
  pub most : best ≤ far
  pub least : (j : ℕ) → OpenAt (nodes b) marks sinks j → label_at w (get_or sinks j 0) < goal → best ≤ label_at w (get_or sinks j 0)
  pub some : (best ≡ far) ⊎ ((j : ℕ) × OpenAt (nodes b) marks sinks j × (label_at w (get_or sinks j 0) ≡ best) × (best < goal))
  pub stopped : (level ≡ far) ⊎ (best < level + step)
  pub last : (j : ℕ) → OpenAt (nodes b) marks sinks j → step ≤ price (get_or sinks j 0)
  pub kept : drop (3 * nodes b) w ≡ drop (3 * nodes b) w₀

module _ {b : Block} {price : ℕ → ℕ} {marks sinks w₀ w : List ℕ} {best : ℕ} (s : Halted b price marks sinks w₀ w best) where
  -- an open sink that is at most `best` far is had over a node nearer than the level
  sink_close : (j d : ℕ) → OpenAt (nodes b) marks sinks j → d ≤ best → d < far → d < s.level + price (get_or sinks j 0)
  sink_close j d o le near =
      ⊎_elim
      (λ (e : s.level ≡ far). omega arith)
      (λ (m : best < s.level + s.step). omega (arith, s.last j o))
      s.stopped

  -- what is no node has no distance
  beyond : (v : ℕ) → nodes b ≤ v → distance b price marks v ≡ far
  beyond v h = get_or-eq_default (distances b price marks) far (rw (length-distances b price marks) h)

  -- so no unjoined sink is nearer than `best`
  sink_above : (j : ℕ) → j < length sinks → tree_has marks (get_or sinks j 0) ≡ false → best ≤ distance b price marks (get_or sinks j 0)
  sink_above j l out =
      let v : ℕ = get_or sinks j 0 in
      ⊎_elim
      (λ (h : nodes b ≤ get_or sinks j 0). rw (beyond (get_or sinks j 0) h) s.most)
      (λ (h : get_or sinks j 0 < nodes b).
      ⊎_elim
      (λ q. q)
      (λ (q : distance b price marks (get_or sinks j 0) < best).
      let o : OpenAt (nodes b) marks sinks j = (l, h, out) in
      let near : distance b price marks (get_or sinks j 0) < far = let m = s.most in omega arith in
      let final = exact marks s.shaped s.fair s.spread s.zero_in s.pos-out (get_or sinks j 0) h (s.live j o) near (sink_close j (distance b price marks (get_or sinks j 0)) o (omega arith) near) in
      let is : label_at w (get_or sinks j 0) ≡ distance b price marks (get_or sinks j 0) = final.1 in
      absurd (omega (arith, s.least j o final.0)))
      (le_or_lt best (distance b price marks (get_or sinks j 0))))
      (le_or_lt (nodes b) (get_or sinks j 0))

  -- no goal has a label: no unjoined sink has a path
  module _ (none : best ≡ far) where
    turn-stuck : turn b price marks sinks ≡ stuck
    turn-stuck =
        stuck-is b price marks s.shaped s.fair sinks
        (λ j l out. le_antisymm (distance_top b price marks (get_or sinks j 0)) (rw none at (sink_above j l out)))

    pub halted_stuck : {w' : List ℕ} → w' ≡ take 0 w ++ (replicate (3 * nodes b - 0) 0 ++ drop (3 * nodes b) w) → path_reply_of (Ok None) w' ≡ turn_reply (nodes b) w₀ (turn b price marks sinks)
    unfolding read_off
    halted_stuck e = rw (turn-stuck, e, s.kept)

  -- some goal has a label
  module _ (some : best ≡ far → ⊥) where
    near : best < goal
    near = ⊎_elim (λ e. absurd (some e)) (λ (g : (j : ℕ) × OpenAt (nodes b) marks sinks j × (label_at w (get_or sinks j 0) ≡ best) × (best < goal)). g.3) s.some

    pos : 0 < best
    pos =
        ⊎_elim
        (λ e. absurd (some e))
        (λ (g : (j : ℕ) × OpenAt (nodes b) marks sinks j × (label_at w (get_or sinks j 0) ≡ best) × (best < goal)).
        let p = s.pos-out (get_or sinks g.0 0) g.1.1 g.1.2 in
        let e = g.2 in
        omega arith)
        s.some

    -- a listed node of label `best` is an open sink
    open_at : (j : ℕ) → j < length sinks → get_or sinks j 0 < nodes b → label_at w (get_or sinks j 0) ≡ best → OpenAt (nodes b) marks sinks j
    open_at j l h e = (
      l,
      h,
      never_true (tree_has marks (get_or sinks j 0)) (λ t. let z = s.zero_in (get_or sinks j 0) h t in let p = pos in omega arith),
    )

    -- its label is its distance, and predecessors lead from it to the tree by the turn's path
    module _ (j : ℕ) (o : OpenAt (nodes b) marks sinks j) (e : label_at w (get_or sinks j 0) ≡ best) where
      sink_final : label_at w (get_or sinks j 0) ≡ distance b price marks (get_or sinks j 0)
      sink_final =
          let n = near in
          exact_label marks s.shaped s.fair s.spread s.zero_in s.pos-out (get_or sinks j 0) o.1 (s.live j o) (omega arith)
          (sink_close j (label_at w (get_or sinks j 0)) o (omega arith) (omega arith))

      -- nodes on the way to it were not spared
      way_live : (x : ℕ) → OnTheWay b price marks s.shaped s.fair (get_or sinks j 0) x → Live b s.goals s.start x
      way_live x way =
          ⊎_elim
          (λ (q : x ≡ get_or sinks j 0). rw q (s.live j o))
          (λ (q : (y : ℕ) × (has_edge b x y ≡ true)). edge_live b s.goals s.start x q.0 q.1)
          way

      path_in_lem : path_in (nodes b) marks w (get_or sinks j 0) ≡ path_to b price marks (get_or sinks j 0)
      path_in_lem =
          let final = sink_final in
          let n = near in
          trail-to b price marks s.shaped s.fair (get_or sinks j 0) o.1 (omega arith) w (label_at w (get_or sinks j 0)) s.level (omega arith)
          (sink_close j (distance b price marks (get_or sinks j 0)) o (omega arith) (omega arith))
          (λ x way hx out close le. pred_exact marks s.shaped s.fair s.spread s.zero_in s.pos-out x hx (way_live x way) out close le)

      path-fits : length (path_in (nodes b) marks w (get_or sinks j 0)) ≤ nodes b
      path-fits =
          let final = sink_final in
          let n = near in
          rw path_in_lem (path-short b price marks s.shaped s.fair (get_or sinks j 0) o.1 (omega arith))

    path-leads : Leads (nodes b) best marks w
    path-leads =
        let n = near in
        let came : (v : ℕ) → v < nodes b → label_at w v ≤ best → tree_has marks v ≡ false → Came b price w s.level v =
        λ v h le out. s.spread.came v h (s.pos-out v h out) (omega arith) in
        record {
          few = s.shaped.few;
          long = s.spread.heap.long;
          marks_long = s.marks_long;
          pred-node = λ v h le out. (came v h le out).node;
          pred-nearer = λ v h le out. omega (arith, (came v h le out).sum, s.fair.pos v h);
        }

    pub halted_found : Found (nodes b) marks sinks w best
    halted_found =
        ⊎_elim
        (λ e. absurd (some e))
        (λ (g : (j : ℕ) × OpenAt (nodes b) marks sinks j × (label_at w (get_or sinks j 0) ≡ best) × (best < goal)).
        record {
          sinks-few = s.sinks-few;
          some_place = g.0;
          within = g.1.0;
          node = g.1.1;
          label = g.2;
          leads = path-leads;
          short = λ j l h e. path-fits j (open_at j l h e) e;
        })
        s.some

    -- what is read off is the turn
    module _ {j : Joins} {w' : List ℕ} (d : Read (nodes b) marks sinks w best j w') where
      read_open : OpenAt (nodes b) marks sinks d.place
      read_open = open_at d.place d.within (d.first.node d.within) (d.first.label d.within)

      read_label : label_at w (get_or sinks d.place 0) ≡ best
      read_label = d.first.label d.within

      turn-joins : turn b price marks sinks ≡ joins d.place best (path_to b price marks (get_or sinks d.place 0))
      turn-joins =
          let n = near in
          let o = read_open in
          turn_is b price marks s.shaped s.fair sinks d.place best d.within o.1 (omega arith) o.2
          (sym (sink_final d.place o read_label) ∙ read_label)
          sink_above
          (λ j l out e.
          let within : j < length sinks = omega (arith, d.within) in
          ⊎_elim
          (λ (h : nodes b ≤ get_or sinks j 0). let z = beyond (get_or sinks j 0) h in omega arith)
          (λ (h : get_or sinks j 0 < nodes b).
          let final = exact marks s.shaped s.fair s.spread s.zero_in s.pos-out (get_or sinks j 0) h (s.live j (within, h, out)) (omega arith)
          (sink_close j (distance b price marks (get_or sinks j 0)) (within, h, out) (omega arith) (omega arith)) in
          d.first.earlier j l h (final.1 ∙ e))
          (le_or_lt (nodes b) (get_or sinks j 0)))

      pub halted_joins : path_reply_of (Ok (Some j)) w' ≡ turn_reply (nodes b) w₀ (turn b price marks sinks)
      unfolding read_off
      halted_joins = rw (d.answer, turn-joins, ← path_in_lem d.place read_open read_label, d.work, s.kept)
