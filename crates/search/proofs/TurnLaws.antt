-- Laws of one turn: it joins the first sink of least distance by its path, and no path from the tree to an unjoined sink costs less;
-- where it is stuck, there is no such path.
-- Assumes nothing.
use mathlib.Core.Bool.{true, false}
use mathlib.Core.List.{List}
use mathlib.Core.Path.{◌≡◌, sym, ◌∙◌, ap, subst}
use Prim.Native.Nat.{ℕ, ◌≤◌, ◌<◌}
use native.Mathlib.Nat.{le_trans, le_antisymm}
use native.Mathlib.Omega.{arith}
use lib.Dec.{eqb}
use lib.ListN.{length, get_or}
use borrow.Author.Tests.{eqb-true, eqb-false}
use Rattle.price.specs.Lists.{has}
use Rattle.price.proofs.TestLaws.{by_test}
use Rattle.price.proofs.ListLaws.{has-at, has_place}
use Rattle.price.proofs.EntryLaws.{least_top, least-le, place_of-is}
use Rattle.search.specs.Block.{Block, nodes}
use Rattle.search.specs.Paths.{Walk, path_cost, CheapestPath, NoPath, Fair}
use Rattle.search.specs.Distance.{far, tree_has, distance}
use Rattle.search.specs.Turn.{joins, stuck, path_to, open_distances, join_at, nearest_distance, nearest_place, turn}
use Rattle.search.proofs.EdgeLaws.{Shaped}
use Rattle.search.proofs.DistanceLaws.{no_path-cheaper, path-near}
use Rattle.search.proofs.PathToLaws.{path_walk, path_cost_lem}
use Rattle.search.proofs.NearestLaws.{Nearest, open_long, open_out, open_in, open_least, open_above, turn-far, turn_near, nearest}

module _ (b : Block) (price : ℕ → ℕ) (marks : List ℕ) (g : Shaped b) (fair : Fair b price) where
  -- the turn of a list of sinks
  module _ (sinks : List ℕ) where
    -- the first unjoined sink of least distance is joined, by its path
    pub turn_is :
        (place d : ℕ) → place < length sinks → get_or sinks place 0 < nodes b → d < far → tree_has marks (get_or sinks place 0) ≡ false → distance b price marks (get_or sinks place 0) ≡ d
        → ((j : ℕ) → j < length sinks → tree_has marks (get_or sinks j 0) ≡ false → d ≤ distance b price marks (get_or sinks j 0))
        → ((j : ℕ) → j < place → tree_has marks (get_or sinks j 0) ≡ false → distance b price marks (get_or sinks j 0) ≡ d → ⊥)
        → turn b price marks sinks ≡ joins place d (path_to b price marks (get_or sinks place 0))
    unfolding join_at
    turn_is place d within node near out here low first =
        let os : List ℕ = open_distances b price marks sinks in
        let length-os : length os ≡ length sinks = open_long b price marks sinks in
        let at : get_or os place 0 ≡ d = open_out b price marks sinks place within out ∙ here in
        let lowest : nearest_distance b price marks sinks ≡ d =
        le_antisymm (rw at at (least-le far os place (omega arith))) (open_above b price marks sinks d (omega arith) low) in
        let earlier : (j : ℕ) → j < place → get_or os j 0 ≡ d → ⊥ =
        λ j l e.
        by_test (tree_has marks (get_or sinks j 0))
        (λ q. omega (arith, open_in b price marks sinks j (omega arith) q))
        (λ q. first j l q (sym (open_out b price marks sinks j (omega arith) q) ∙ e)) in
        let this : nearest_place b price marks sinks ≡ place =
        rw lowest (place_of-is d os place (omega arith) at earlier) in
        turn_near b price marks sinks (λ e. omega arith)
        ∙ rw (this, path_cost_lem b price marks g fair (get_or sinks place 0) node (omega arith), here)

    pub stuck-is :
        ((j : ℕ) → j < length sinks → tree_has marks (get_or sinks j 0) ≡ false → distance b price marks (get_or sinks j 0) ≡ far)
        → turn b price marks sinks ≡ stuck
    stuck-is none =
        turn-far b price marks sinks
        (le_antisymm (least_top far (open_distances b price marks sinks))
        (open_above b price marks sinks far (omega arith) (λ j l o. omega (arith, none j l o))))

  -- the turn of a list of nodes
  module _ (sinks : List ℕ) (all-nodes : (i : ℕ) → i < length sinks → get_or sinks i 0 < nodes b) where
    -- a listed sink is a node
    listed-node : (s : ℕ) → has s sinks ≡ true → s < nodes b
    listed-node s l = let at = has_place s sinks l in rw at.2 at (all-nodes at.0 at.1)

    -- what a turn that joins has
    module _ (place cost : ℕ) (path : List ℕ) (is : turn b price marks sinks ≡ joins place cost path) where
      joins_nearest : Nearest b price marks sinks place × (cost ≡ path_cost price path) × (path ≡ path_to b price marks (get_or sinks place 0))
      unfolding join_at
      joins_nearest =
          by_test (eqb (nearest_distance b price marks sinks) far)
          (λ q.
          let e : turn b price marks sinks ≡ stuck = turn-far b price marks sinks (eqb-true _ _ q) in
          let z : ◌≡◌ {A = ℕ} 0 1 = cc in
          absurd (omega arith))
          (λ q.
          let some : nearest_distance b price marks sinks ≡ far → ⊥ = eqb-false _ _ q in
          let e = turn_near b price marks sinks some in
          let p : place ≡ nearest_place b price marks sinks = cc in
          (rw p (nearest b price marks sinks some), cc, cc))

      pub joins-within : place < length sinks
      joins-within = joins_nearest.0.within

      pub joins-path : path ≡ path_to b price marks (get_or sinks place 0)
      joins-path = joins_nearest.2

      pub joins-near : distance b price marks (get_or sinks place 0) < far
      joins-near = joins_nearest.0.near

      pub joins-cost : cost ≡ distance b price marks (get_or sinks place 0)
      joins-cost =
          joins_nearest.1 ∙ ap (path_cost price) joins-path ∙ path_cost_lem b price marks g fair (get_or sinks place 0) (all-nodes place joins-within) joins-near

      joins-least : (s : ℕ) → has s sinks ≡ true → tree_has marks s ≡ false → cost ≤ distance b price marks s
      joins-least s l o = rw (joins-cost, joins_nearest.0.here) (open_least b price marks sinks s l o)

      pub joins-cheapest : CheapestPath b price (tree_has marks) sinks (get_or sinks place 0) cost path
      joins-cheapest =
          let start = path_walk b price marks g fair (get_or sinks place 0) (all-nodes place joins-within) joins-near in
          record {
            joins =
                record {
                  start = start.0;
                  starts_in_tree = start.2;
                  follows = subst (λ (p : List ℕ). Walk b start.0 p (get_or sinks place 0)) (sym joins-path) start.3;
                  sink-listed = has-at sinks place joins-within;
                  sink_open = joins_nearest.0.out;
                  costs = joins_nearest.1;
                };
            cheapest = λ t s other m l o w. le_trans (joins-least s l o) (no_path-cheaper b price marks g fair t s other (listed-node s l) m w);
          }

    -- a stuck turn leaves no path from the tree to an unjoined sink
    pub stuck_no_path : turn b price marks sinks ≡ stuck → NoPath b (tree_has marks) sinks
    unfolding join_at
    stuck_no_path is t s path m l o w =
        let close = path-near b price marks g fair t s path (listed-node s l) m w in
        by_test (eqb (nearest_distance b price marks sinks) far)
        (λ q.
        let none : nearest_distance b price marks sinks ≡ far = eqb-true _ _ q in
        omega (arith, open_least b price marks sinks s l o))
        (λ q.
        let e = turn_near b price marks sinks (eqb-false _ _ q) in
        let z : ◌≡◌ {A = ℕ} 0 1 = cc in
        omega arith)
