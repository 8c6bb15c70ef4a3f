-- Distances, turns and estimates go by the edges between nodes alone: blocks of the same nodes with the same edges have the same.
-- Assumes nothing.
use mathlib.Core.Bool.{Bool}
use mathlib.Core.List.{List, [], ◌∷◌}
use mathlib.Core.Path.{◌≡◌, refl, sym, ◌∙◌, ap}
use Prim.Native.Nat.{ℕ, zero, suc, ◌+◌, ◌<◌}
use native.Mathlib.Omega.{arith}
use lib.Dec.{eqb}
use lib.ListN.{length, get_or}
use borrow.Author.Tests.{eqb-true, eqb-false}
use Rattle.price.specs.Test.{choose, both}
use Rattle.price.specs.Lists.{up_to, first_below, least, count_below}
use Rattle.price.proofs.TestLaws.{by_test}
use Rattle.price.proofs.ListLaws.{length_up_to, get_or_up_to, up_to_is}
use Rattle.price.proofs.BelowLaws.{count_same}
use Rattle.search.specs.Block.{Block, block_of, has_edge}
use Rattle.search.specs.Paths.{Fair}
use Rattle.search.specs.Distance.{far, tree_has, tree_distances, nearer, round, rounds, distances, distance}
use Rattle.search.specs.Turn.{before, back, path_to, open_distances, join_at, nearest_distance, nearest_place, turn}
use Rattle.search.specs.Aimed.{alone, estimate, expands_by, expanded_by}
use Rattle.search.proofs.EdgeLaws.{Shaped}
use Rattle.search.proofs.BeforeLaws.{before_node, before_near}
use Rattle.search.proofs.NearestLaws.{nearest, turn-far, turn_near}
use Rattle.search.proofs.PriceSameLaws.{beyond}

up_to_same : (f g : ℕ → ℕ) (n : ℕ) → ((i : ℕ) → i < n → f i ≡ g i) → up_to f n ≡ up_to g n
up_to_same f g n same = up_to_is g n (up_to f n) (length_up_to f n) (λ v h. get_or_up_to f n v 0 h ∙ same v h)

first_same : (s t : ℕ → Bool) (n : ℕ) → ((i : ℕ) → i < n → s i ≡ t i) → first_below s n ≡ first_below t n
unfolding first_below
first_same s t zero same = refl
first_same s t (suc n) same =
    let lower : first_below s n ≡ first_below t n = first_same s t n (λ i h. same i (omega arith)) in
    let here : s n ≡ t n = same n (omega arith) in
    rw (lower, here)

module _ (ks cs fs ts cs' fs' ts' : List ℕ)
    (same : (u v : ℕ) → u < length ks → v < length ks → has_edge (block_of ks cs fs ts) u v ≡ has_edge (block_of ks cs' fs' ts') u v) where
  abbrev a : Block
  a = block_of ks cs fs ts

  abbrev b : Block
  b = block_of ks cs' fs' ts'

  module _ (price : ℕ → ℕ) (marks : List ℕ) where
    nearer-edges : (ds : List ℕ) (v : ℕ) → v < length ks → nearer a price ds v ≡ nearer b price ds v
    unfolding nearer
    nearer-edges ds v h =
        ap (least (get_or ds v far))
        (up_to_same (λ u. choose (has_edge a u v) (get_or ds u far + price v) far) (λ u. choose (has_edge b u v) (get_or ds u far + price v) far) (length ks)
        (λ u l. ap (λ (t : Bool). choose t (get_or ds u far + price v) far) (same u v l h)))

    round-edges : (ds : List ℕ) → round a price ds ≡ round b price ds
    unfolding round
    round-edges ds = up_to_same (nearer a price ds) (nearer b price ds) (length ks) (nearer-edges ds)

    rounds-edges : (ds : List ℕ) (k : ℕ) → rounds a price ds k ≡ rounds b price ds k
    unfolding rounds
    rounds-edges ds zero = refl
    rounds-edges ds (suc k) = ap (round a price) (rounds-edges ds k) ∙ round-edges (rounds b price ds k)

    distances-edges : distances a price marks ≡ distances b price marks
    unfolding distances tree_distances
    distances-edges = rounds-edges (tree_distances b marks) (length ks)

    before_edges : (ds : List ℕ) (v : ℕ) → v < length ks → before a price ds v ≡ before b price ds v
    unfolding before
    before_edges ds v h =
        first_same (λ u. both (has_edge a u v) (eqb (get_or ds u far + price v) (get_or ds v far))) (λ u. both (has_edge b u v) (eqb (get_or ds u far + price v) (get_or ds v far))) (length ks)
        (λ u l. ap (λ (t : Bool). both t (eqb (get_or ds u far + price v) (get_or ds v far))) (same u v l h))

    open_edges : (sinks : List ℕ) → open_distances a price marks sinks ≡ open_distances b price marks sinks
    unfolding open_distances
    open_edges sinks = rw distances-edges

    module _ (g : Shaped a) (fair : Fair a price) where
      back-edges :
          (k v : ℕ) (path : List ℕ) → v < length ks → distance a price marks v < far
          → back a price marks (distances a price marks) k v path ≡ back b price marks (distances a price marks) k v path
      unfolding back
      back-edges zero v path h near = refl
      back-edges (suc k) v path h near =
          by_test (tree_has marks v)
          (λ t. rw t)
          (λ t.
          let closer = before_near a price marks g fair v h t near in
          rw t
          (back-edges k (before a price (distances a price marks) v) (v ∷ path) (before_node a price marks g fair v h t near) (omega arith)
          ∙ ap (λ (u : ℕ). back b price marks (distances a price marks) k u (v ∷ path)) (before_edges (distances a price marks) v h)))

      path-edges : (s : ℕ) → s < length ks → distance a price marks s < far → path_to a price marks s ≡ path_to b price marks s
      unfolding path_to
      path-edges s h near =
          back-edges (length ks) s [] h near ∙ ap (λ (ds : List ℕ). back b price marks ds (length ks) s []) distances-edges

      pub turn-edges : (sinks : List ℕ) → turn a price marks sinks ≡ turn b price marks sinks
      unfolding join_at
      turn-edges sinks =
          let os : open_distances a price marks sinks ≡ open_distances b price marks sinks = open_edges sinks in
          let least : nearest_distance a price marks sinks ≡ nearest_distance b price marks sinks = rw os in
          let place : nearest_place a price marks sinks ≡ nearest_place b price marks sinks = rw os in
          by_test (eqb (nearest_distance a price marks sinks) far)
          (λ t.
          let none : nearest_distance a price marks sinks ≡ far = eqb-true _ _ t in
          turn-far a price marks sinks none ∙ sym (turn-far b price marks sinks (sym least ∙ none)))
          (λ t.
          let some : nearest_distance a price marks sinks ≡ far → ⊥ = eqb-false _ _ t in
          let n = nearest a price marks sinks some in
          let s : ℕ = get_or sinks (nearest_place a price marks sinks) 0 in
          let h = beyond a price marks s n.near in
          let same-join : join_at a price marks sinks (nearest_place a price marks sinks) ≡ join_at b price marks sinks (nearest_place b price marks sinks) =
          rw (path-edges s h n.near, place) in
          turn_near a price marks sinks some ∙ same-join ∙ sym (turn_near b price marks sinks (λ e. some (least ∙ e))))

    -- with estimates that are the same on nodes, a turn expands as many of them
    pub expanded-edges :
        (sinks : List ℕ) (est est' : ℕ → ℕ) → ((v : ℕ) → v < length ks → est v ≡ est' v)
        → expanded_by a price est marks sinks ≡ expanded_by b price est' marks sinks
    unfolding expanded_by expands_by open_distances
    expanded-edges sinks est est' like =
        let ds : distances a price marks ≡ distances b price marks = distances-edges in
        let count : count_below (expands_by a price est marks sinks) (length ks) ≡ count_below (expands_by b price est' marks sinks) (length ks) =
        count_same (expands_by a price est marks sinks) (expands_by b price est' marks sinks) (length ks) (λ v h. rw (ds, like v h)) in
        rw (ds, count)

  pub estimate-edges : (weight : ℕ → ℕ) (marks sinks : List ℕ) (v : ℕ) → estimate a weight marks sinks v ≡ estimate b weight marks sinks v
  unfolding estimate alone
  estimate-edges weight marks sinks v = rw (distances-edges weight (alone b v))
