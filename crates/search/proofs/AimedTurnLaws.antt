-- A turn that aims, step by step: what its end says of the path, and what is read off.
-- Assumes nothing.
use mathlib.Core.Bool.{true, false}
use mathlib.Core.List.{List, [], ◌∷◌, ◌++◌, append_assoc}
use mathlib.Core.Logic.{⊎_elim}
use mathlib.Core.Path.{◌≡◌, refl, sym, ◌∙◌, ap}
use Prim.Native.Nat.{ℕ, zero, suc, ◌+◌, ◌-◌, ◌*◌, ◌%◌, ◌≤◌, ◌<◌}
use native.Mathlib.Nat.{le_antisymm}
use native.Mathlib.Omega.{arith}
use lib.ListN.{length, get_or, take, drop, replicate, length-append, length-replicate, replicate-append-replicate}
use lib.Seq.{take_at, drop_at, drop-drop}
use borrow.Author.Tests.{eq-eqb, ne_eqb}
use Rattle.price.specs.Lists.{up_to}
use Rattle.price.proofs.TestLaws.{either_way, le_or_lt, never_true}
use Rattle.price.proofs.ListLaws.{has-at, get_or_up_to}
use Rattle.price.proofs.EntryLaws.{least_top}
use Rattle.search.specs.Block.{Block, nodes}
use Rattle.search.specs.Paths.{Fair}
use Rattle.search.specs.Distance.{far, tree_has, distances, distance}
use Rattle.search.specs.Turn.{joins, stuck, before, path_to, open_distances, nearest_distance, nearest_place, turn}
use Rattle.search.specs.Aimed.{expands_by, expanded_by}
use Rattle.search.specs.Layout.{dist_at, pred_at}
use Rattle.search.specs.Labels.{label_at, from_at}
use Rattle.search.specs.Replies.{sinks_most, cleared, read_off}
use Rattle.search.specs.TurnWork.{trail, path_in, Leads, Found, Read}
use Rattle.search.specs.Aiming.{AimDone}
use Rattle.search.specs.AimedTurn.{PredecessorsMoved, Readable}
use Rattle.search.specs.declared.Joins.{Joins}
use Rattle.search.proofs.EdgeLaws.{Shaped}
use Rattle.search.proofs.BeforeLaws.{before_node, before_near}
use Rattle.search.proofs.PathToLaws.{path-short}
use Rattle.search.proofs.TrailLaws.{trail_is}
use Rattle.search.proofs.NearestLaws.{Nearest, open_least, turn-far, nearest}
use Rattle.search.proofs.PriceSameLaws.{beyond}
use Rattle.search.proofs.TurnLaws.{turn_is}
use Rattle.search.proofs.AimedLaws.{expands-near, before_expands, sink-expands}
use Rattle.search.proofs.AimedExact.{Consistent}

-- ---- a trail goes by the predecessors of the nodes that it meets

-- some nodes, and with each the one before it
record Closed (n : ℕ) (marks w w' : List ℕ) (on : ℕ → Type 0) : Type 0 where
  same : (v : ℕ) → on v → tree_has marks v ≡ false → from_at n w v ≡ from_at n w' v
  next : (v : ℕ) → on v → tree_has marks v ≡ false → on (from_at n w' v)

trail-same :
    (n : ℕ) (marks w w' : List ℕ) (on : ℕ → Type 0) → Closed n marks w w' on → (fuel v : ℕ) (path : List ℕ) → on v
    → trail n marks w fuel v path ≡ trail n marks w' fuel v path
unfolding trail
trail-same n marks w w' on c zero v path o = refl
trail-same n marks w w' on c (suc fuel) v path o =
    ⊎_elim
    (λ (q : tree_has marks v ≡ true). rw q)
    (λ (q : tree_has marks v ≡ false). rw (q, c.same v o q) (trail-same n marks w w' on c fuel (from_at n w' v) (v ∷ path) (c.next v o q)))
    (either_way (tree_has marks v))

-- a lower part that is small
small-part : (x : ℕ) → x < 4096 → x % 65536 ≡ x
small-part x l = omega arith

-- ---- what the end of a turn that aims says

-- what a turn has, and how it ended
pub record TurnEnd (a : Block) (price est : ℕ → ℕ) (marks sinks w : List ℕ) (cost count : ℕ) : Type 0 where
  pub shape : Shaped a
  pub fair : Fair a price
  pub consistent : Consistent a price est marks sinks
  pub marks_long : nodes a ≤ length marks
  pub sinks-few : length sinks ≤ sinks_most
  pub long : 8 * nodes a ≤ length w
  pub done : AimDone a price est marks sinks w cost count

module _ {b : Block} {price est : ℕ → ℕ} {marks sinks w : List ℕ} {cost count : ℕ} (a : TurnEnd b price est marks sinks w cost count) where
  g : Shaped b
  g = a.shape

  -- no unjoined sink has a path
  pub aimed_stuck : cost ≡ far → (turn b price marks sinks ≡ stuck) × (expanded_by b price est marks sinks ≡ 0)
  unfolding expanded_by
  aimed_stuck e =
      let none : nearest_distance b price marks sinks ≡ far = sym a.done.cost_is_lem ∙ e in
      (turn-far b price marks sinks none, rw (eq-eqb (nearest_distance b price marks sinks) far none))

  -- a sink is joined
  module _ (some : cost ≡ far → ⊥) where
    some_near : nearest_distance b price marks sinks ≡ far → ⊥
    some_near e = some (a.done.cost_is_lem ∙ e)

    near : cost < far
    near =
        let top : nearest_distance b price marks sinks ≤ far = least_top far (open_distances b price marks sinks) in
        let e : cost ≡ nearest_distance b price marks sinks = a.done.cost_is_lem in
        ⊎_elim
        (λ (l : far ≤ cost). absurd (some (le_antisymm (rw e top) l)))
        (λ l. l)
        (le_or_lt far cost)

    pub aimed_count : expanded_by b price est marks sinks ≡ count
    unfolding expanded_by
    aimed_count = rw (ne_eqb (nearest_distance b price marks sinks) far some_near) (sym (a.done.count-is near))

    -- the nearest sink, and where it stands
    abbrev place₀ : ℕ
    place₀ = nearest_place b price marks sinks

    nearest₀ : Nearest b price marks sinks place₀
    nearest₀ = nearest b price marks sinks some_near

    cost-far : nearest_distance b price marks sinks < far
    cost-far = let e = a.done.cost_is_lem in let n = near in omega arith

    -- outside the tree a distance is above 0
    pos : (v : ℕ) → v < nodes b → tree_has marks v ≡ false → distance b price marks v < far → 0 < distance b price marks v
    pos v h out close = omega (arith, before_near b price marks g a.fair v h out close)

    cost-pos : 0 < cost
    cost-pos =
        let n = nearest₀ in
        omega (arith, a.done.cost_is_lem, n.here, pos (get_or sinks place₀ 0) (beyond b price marks (get_or sinks place₀ 0) n.near) n.out n.near)

    -- an unjoined sink as near as the joined one is a node, it is expanded, and its distance is final
    module _ (j : ℕ) (l : j < length sinks) (out : tree_has marks (get_or sinks j 0) ≡ false) (e : distance b price marks (get_or sinks j 0) ≡ cost) where
      close_node : get_or sinks j 0 < nodes b
      close_node = beyond b price marks (get_or sinks j 0) (rw e near)

      close_expands : expands_by b price est marks sinks (get_or sinks j 0) ≡ true
      close_expands = sink-expands b price est marks sinks (get_or sinks j 0) (a.consistent.zero_there (get_or sinks j 0) close_node (has-at sinks j l) out) (e ∙ a.done.cost_is_lem)

      close_final : dist_at w (get_or sinks j 0) ≡ cost
      close_final = a.done.dist_final near (get_or sinks j 0) close_node close_expands ∙ e

    -- no unjoined sink is nearer
    none-nearer : (j : ℕ) → j < length sinks → tree_has marks (get_or sinks j 0) ≡ false → cost ≤ distance b price marks (get_or sinks j 0)
    none-nearer j l out = rw a.done.cost_is_lem (open_least b price marks sinks (get_or sinks j 0) (has-at sinks j l) out)

    -- a listed node at `cost` is an unjoined sink so far
    module _ (j : ℕ) (l : j < length sinks) (node : get_or sinks j 0 < nodes b) (e : dist_at w (get_or sinks j 0) ≡ cost) where
      close_out : tree_has marks (get_or sinks j 0) ≡ false
      close_out = never_true (tree_has marks (get_or sinks j 0)) (λ t. omega (arith, a.done.dist-tree (get_or sinks j 0) node t, cost-pos))

      close_distance : distance b price marks (get_or sinks j 0) ≡ cost
      close_distance = le_antisymm (rw (sym e) (a.done.dist-least (get_or sinks j 0) node)) (none-nearer j l close_out)

    -- the predecessors are moved to where a path is read off
    module _ {w' : List ℕ} (m : PredecessorsMoved (nodes b) w w') where
      label_is : (v : ℕ) → v < nodes b → label_at w' v ≡ dist_at w v
      label_is v h = m.same.low v h

      from_is : (v : ℕ) → v < nodes b → pred_at (nodes b) w v < nodes b → from_at (nodes b) w' v ≡ pred_at (nodes b) w v
      from_is v h l = ap (λ (x : ℕ). x % 65536) (m.here v h) ∙ small-part (pred_at (nodes b) w v) (let f = g.few in omega arith)

      moved-leads : Leads (nodes b) cost marks w'
      moved-leads =
          let n = near in
          let node : (v : ℕ) → v < nodes b → label_at w' v ≤ cost → tree_has marks v ≡ false → pred_at (nodes b) w v < nodes b =
          λ v h le out. a.done.pred-node v h out (omega (arith, label_is v h)) in
          record {
            few = g.few;
            long = omega (arith, m.same.long, a.long);
            marks_long = a.marks_long;
            pred-node = λ v h le out. rw (from_is v h (node v h le out)) (node v h le out);
            pred-nearer = λ v h le out.
                let close : dist_at w v < far = omega (arith, label_is v h) in
                rw (from_is v h (node v h le out), label_is (pred_at (nodes b) w v) (node v h le out), label_is v h) (a.done.pred-nearer v h out close);
          }

      -- a work slice with the node before each node
      abbrev befores : List ℕ
      befores = up_to (λ i. before b price (distances b price marks) (i - nodes b)) (nodes b + nodes b)

      before_is : (v : ℕ) → v < nodes b → tree_has marks v ≡ false → distance b price marks v < far → from_at (nodes b) befores v ≡ before b price (distances b price marks) v
      before_is v h out close =
          let at : nodes b + v - nodes b ≡ v = omega arith in
          let is : get_or befores (nodes b + v) 0 ≡ before b price (distances b price marks) v =
          get_or_up_to (λ i. before b price (distances b price marks) (i - nodes b)) (nodes b + nodes b) (nodes b + v) 0 (omega arith)
          ∙ ap (before b price (distances b price marks)) at in
          ap (λ (x : ℕ). x % 65536) is
          ∙ small-part (before b price (distances b price marks) v) (let f = g.few in omega (arith, before_node b price marks g a.fair v h out close))

      -- the predecessors of the nodes that are expanded are those
      expanded_closed : Closed (nodes b) marks w' befores (λ v. expands_by b price est marks sinks v ≡ true)
      expanded_closed =
          record {
            same = λ v x out.
                let n = expands-near b price est marks sinks v cost-far x in
                let final = a.done.pred_final near v n.0 out x in
                let node = before_node b price marks g a.fair v n.0 out n.1 in
                from_is v n.0 (rw final node) ∙ final ∙ sym (before_is v n.0 out n.1);
            next = λ v x out.
                let n = expands-near b price est marks sinks v cost-far x in
                rw (before_is v n.0 out n.1) (before_expands b price est marks sinks g a.consistent.along a.fair v n.0 out n.1 x);
          }

      -- so from a listed node at `cost` they lead along the turn's path
      module _ (j : ℕ) (l : j < length sinks) (node : get_or sinks j 0 < nodes b) (e : label_at w' (get_or sinks j 0) ≡ cost) where
        at-cost : dist_at w (get_or sinks j 0) ≡ cost
        at-cost = sym (label_is (get_or sinks j 0) node) ∙ e

        here : distance b price marks (get_or sinks j 0) ≡ cost
        here = close_distance j l node at-cost

        here-near : distance b price marks (get_or sinks j 0) < far
        here-near = rw here near

        path_in_lem : path_in (nodes b) marks w' (get_or sinks j 0) ≡ path_to b price marks (get_or sinks j 0)
        path_in_lem =
            let s : ℕ = get_or sinks j 0 in
            let x = close_expands j l (close_out j l node at-cost) here in
            trail-same (nodes b) marks w' befores (λ v. expands_by b price est marks sinks v ≡ true) expanded_closed (label_at w' s) s [] x
            ∙ trail_is b price marks g a.fair s node here-near befores (label_at w' s) far (omega (arith, here)) (omega (arith, here-near))
            (λ v h out close le. before_is v h out close)

        path-fits : length (path_in (nodes b) marks w' (get_or sinks j 0)) ≤ nodes b
        path-fits = rw path_in_lem (path-short b price marks g a.fair (get_or sinks j 0) node here-near)

      moved-found : Found (nodes b) marks sinks w' cost
      moved-found =
          let n = nearest₀ in
          let here : distance b price marks (get_or sinks place₀ 0) ≡ cost = n.here ∙ sym a.done.cost_is_lem in
          let node = close_node place₀ n.within n.out here in
          record {
            sinks-few = a.sinks-few;
            some_place = place₀;
            within = n.within;
            node = node;
            label = label_is (get_or sinks place₀ 0) node ∙ close_final place₀ n.within n.out here;
            leads = moved-leads;
            short = λ j l h e. path-fits j l h e;
          }

      -- what is read off is the turn
      module _ {r : Joins} {w₂ : List ℕ} (d : Read (nodes b) marks sinks w' cost r w₂) where
        read_node : get_or sinks d.place 0 < nodes b
        read_node = d.first.node d.within

        read_label : label_at w' (get_or sinks d.place 0) ≡ cost
        read_label = d.first.label d.within

        read_out : tree_has marks (get_or sinks d.place 0) ≡ false
        read_out = close_out d.place d.within read_node (at-cost d.place d.within read_node read_label)

        pub read_turn : turn b price marks sinks ≡ joins d.place cost (path_to b price marks (get_or sinks d.place 0))
        read_turn =
            turn_is b price marks g a.fair sinks d.place cost d.within read_node near read_out
            (here d.place d.within read_node read_label)
            none-nearer
            (λ j l out e.
            let within : j < length sinks = omega (arith, d.within) in
            let node = close_node j within out e in
            d.first.earlier j l node (label_is (get_or sinks j 0) node ∙ close_final j within out e))

        pub read_path : path_in (nodes b) marks w' (get_or sinks d.place 0) ≡ path_to b price marks (get_or sinks d.place 0)
        read_path = path_in_lem d.place d.within read_node read_label

        pub read_short : length (path_to b price marks (get_or sinks d.place 0)) ≤ nodes b
        read_short = path-short b price marks g a.fair (get_or sinks d.place 0) read_node (here-near d.place d.within read_node read_label)

  -- the path can be read off
  pub aimed_readable : Readable (nodes b) marks sinks w cost
  aimed_readable = record { few = g.few; long = a.long; found = λ some w' m. moved-found some m }

-- ---- the work slice when the path is read off and the rest cleared

pub rest_cleared :
    (n : ℕ) (path w₀ w' : List ℕ) {w₂ w₃ : List ℕ} → length path ≤ n → drop (8 * n) w' ≡ drop (8 * n) w₀ → w₂ ≡ read_off n path w'
    → w₃ ≡ take (3 * n) w₂ ++ (replicate (8 * n - 3 * n) 0 ++ drop (8 * n) w₂) → w₃ ≡ cleared n path w₀
unfolding read_off cleared
rest_cleared n path w₀ w' {w₂} {w₃} short kept read e =
    let front : List ℕ = path ++ replicate (3 * n - length path) 0 in
    let long : length front ≡ 3 * n = simp (length-append, length-replicate) (omega arith) in
    let is : w₂ ≡ front ++ drop (3 * n) w' = read ∙ sym (append_assoc path (replicate (3 * n - length path) 0) (drop (3 * n) w')) in
    let begin : take (3 * n) w₂ ≡ front = ap (take (3 * n)) is ∙ take_at front (drop (3 * n) w') (3 * n) long in
    let sum : 3 * n + 5 * n ≡ 8 * n = omega arith in
    let later : (xs : List ℕ) → drop (8 * n) xs ≡ drop (5 * n) (drop (3 * n) xs) = λ xs. rw (← sum) (sym (drop-drop (5 * n) (3 * n) xs)) in
    let third : drop (3 * n) w₂ ≡ drop (3 * n) w' = ap (drop (3 * n)) is ∙ drop_at front (drop (3 * n) w') (3 * n) long in
    let end : drop (8 * n) w₂ ≡ drop (8 * n) w₀ = later w₂ ∙ ap (drop (5 * n)) third ∙ sym (later w') ∙ kept in
    let zeros : 3 * n - length path + (8 * n - 3 * n) ≡ 8 * n - length path = omega arith in
    let nought : ℕ = 0 in
    let run : replicate (3 * n - length path) nought ++ replicate (8 * n - 3 * n) nought ≡ replicate (8 * n - length path) nought =
    replicate-append-replicate {A = ℕ} (3 * n - length path) (8 * n - 3 * n) 0 ∙ ap (λ (k : ℕ). replicate k 0) zeros in
    e ∙ rw (begin, end, ← run) (simp append_assoc)

-- with no path all of it is cleared
pub all-cleared : (n : ℕ) (w : List ℕ) {w' : List ℕ} → w' ≡ take 0 w ++ (replicate (8 * n - 0) 0 ++ drop (8 * n) w) → w' ≡ cleared n [] w
unfolding cleared
all-cleared n w e = e
