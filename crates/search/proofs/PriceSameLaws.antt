-- A turn goes by the prices of the nodes alone: prices that are the same on nodes make the same turn.
-- Assumes nothing.
use mathlib.Core.List.{List, [], ◌∷◌}
use mathlib.Core.Logic.{⊎_elim}
use mathlib.Core.Path.{◌≡◌, refl, sym, ◌∙◌, ap}
use Prim.Native.Nat.{ℕ, zero, suc, ◌+◌, ◌≤◌, ◌<◌}
use native.Mathlib.Omega.{arith}
use lib.Dec.{eqb}
use lib.ListN.{length, get_or, get_or-eq_default}
use lib.Seq.{ext_get_or}
use borrow.Author.Tests.{eqb-true, eqb-false}
use Rattle.price.specs.Test.{both}
use Rattle.price.specs.Lists.{up_to, first_below, total}
use Rattle.price.proofs.TestLaws.{by_test, le_or_lt}
use Rattle.price.proofs.ListLaws.{length_up_to, get_or_up_to}
use Rattle.search.specs.Block.{Block, nodes, has_edge}
use Rattle.search.specs.Paths.{path_cost, Fair}
use Rattle.search.specs.Distance.{far, tree_has, tree_distances, nearer, round, rounds, distances, distance}
use Rattle.search.specs.Turn.{before, back, path_to, open_distances, join_at, nearest_distance, nearest_place, turn}
use Rattle.search.proofs.EdgeLaws.{Shaped}
use Rattle.search.proofs.DistanceLaws.{length-distances}
use Rattle.search.proofs.BeforeLaws.{before_node, before_near}
use Rattle.search.proofs.PathToLaws.{path_nodes_lem}
use Rattle.search.proofs.NearestLaws.{nearest, turn-far, turn_near}

-- sums over a list
total-same : (p q : ℕ → ℕ) (xs : List ℕ) → ((i : ℕ) → i < length xs → p (get_or xs i 0) ≡ q (get_or xs i 0)) → total p xs ≡ total q xs
unfolding total
total-same p q [] same = refl
total-same p q (x ∷ xs) same =
    let first : p x ≡ q x = same 0 (omega arith) in
    let rest = total-same p q xs (λ i l. same (suc i) (omega arith)) in
    omega arith

-- what is no node has no distance
pub beyond : (b : Block) (price : ℕ → ℕ) (marks : List ℕ) (v : ℕ) → distance b price marks v < far → v < nodes b
beyond b price marks v near =
    ⊎_elim
    (λ (h : nodes b ≤ v).
    absurd (let z : distance b price marks v ≡ far = get_or-eq_default (distances b price marks) far (rw (length-distances b price marks) h) in omega arith))
    (λ h. h)
    (le_or_lt (nodes b) v)

module _ (b : Block) (p q : ℕ → ℕ) (same : (v : ℕ) → v < nodes b → p v ≡ q v) (marks : List ℕ) where
  nearer-same : (ds : List ℕ) (v : ℕ) → v < nodes b → nearer b p ds v ≡ nearer b q ds v
  unfolding nearer
  nearer-same ds v h = rw (same v h)

  round_same : (ds : List ℕ) → round b p ds ≡ round b q ds
  unfolding round
  round_same ds =
      ext_get_or 0 (up_to (nearer b p ds) (nodes b)) (up_to (nearer b q ds) (nodes b))
      (length_up_to (nearer b p ds) (nodes b) ∙ sym (length_up_to (nearer b q ds) (nodes b)))
      (λ i l.
      let h : i < nodes b = rw (length_up_to (nearer b p ds) (nodes b)) at l in
      get_or_up_to (nearer b p ds) (nodes b) i 0 h ∙ nearer-same ds i h ∙ sym (get_or_up_to (nearer b q ds) (nodes b) i 0 h))

  rounds-same : (ds : List ℕ) (k : ℕ) → rounds b p ds k ≡ rounds b q ds k
  unfolding rounds
  rounds-same ds zero = refl
  rounds-same ds (suc k) = ap (round b p) (rounds-same ds k) ∙ round_same (rounds b q ds k)

  pub distances-same : distances b p marks ≡ distances b q marks
  unfolding distances
  distances-same = rounds-same (tree_distances b marks) (nodes b)

  before_same : (ds : List ℕ) (v : ℕ) → v < nodes b → before b p ds v ≡ before b q ds v
  unfolding before
  before_same ds v h = ap (λ (x : ℕ). first_below (λ u. both (has_edge b u v) (eqb (get_or ds u far + x) (get_or ds v far))) (nodes b)) (same v h)

  open_same : (sinks : List ℕ) → open_distances b p marks sinks ≡ open_distances b q marks sinks
  unfolding open_distances
  open_same sinks = rw distances-same

  path_cost-same : (path : List ℕ) → ((i : ℕ) → i < length path → get_or path i 0 < nodes b) → path_cost p path ≡ path_cost q path
  unfolding path_cost
  path_cost-same [] ns = refl
  path_cost-same (u ∷ path) ns = total-same p q path (λ i l. same (get_or path i 0) (ns (suc i) (omega arith)))

  module _ (g : Shaped b) (fair : Fair b p) where
    back-same :
        (k v : ℕ) (path : List ℕ) → v < nodes b → distance b p marks v < far
        → back b p marks (distances b p marks) k v path ≡ back b q marks (distances b p marks) k v path
    unfolding back
    back-same zero v path h near = refl
    back-same (suc k) v path h near =
        by_test (tree_has marks v)
        (λ t. rw t)
        (λ t.
        let closer = before_near b p marks g fair v h t near in
        rw t
        (back-same k (before b p (distances b p marks) v) (v ∷ path) (before_node b p marks g fair v h t near) (omega arith)
        ∙ ap (λ (u : ℕ). back b q marks (distances b p marks) k u (v ∷ path)) (before_same (distances b p marks) v h)))

    path_to-same : (s : ℕ) → s < nodes b → distance b p marks s < far → path_to b p marks s ≡ path_to b q marks s
    unfolding path_to
    path_to-same s h near =
        back-same (nodes b) s [] h near ∙ ap (λ (ds : List ℕ). back b q marks ds (nodes b) s []) distances-same

    cost-same : (s : ℕ) → s < nodes b → distance b p marks s < far → path_cost p (path_to b p marks s) ≡ path_cost q (path_to b p marks s)
    cost-same s h near = path_cost-same (path_to b p marks s) (path_nodes_lem b p marks g fair s h near)

    pub turn_price_lem : (sinks : List ℕ) → turn b p marks sinks ≡ turn b q marks sinks
    unfolding join_at
    turn_price_lem sinks =
        let os : open_distances b p marks sinks ≡ open_distances b q marks sinks = open_same sinks in
        let least : nearest_distance b p marks sinks ≡ nearest_distance b q marks sinks = rw os in
        let place : nearest_place b p marks sinks ≡ nearest_place b q marks sinks = rw os in
        by_test (eqb (nearest_distance b p marks sinks) far)
        (λ t.
        let none : nearest_distance b p marks sinks ≡ far = eqb-true _ _ t in
        turn-far b p marks sinks none ∙ sym (turn-far b q marks sinks (sym least ∙ none)))
        (λ t.
        let some : nearest_distance b p marks sinks ≡ far → ⊥ = eqb-false _ _ t in
        let n = nearest b p marks sinks some in
        let s : ℕ = get_or sinks (nearest_place b p marks sinks) 0 in
        let h = beyond b p marks s n.near in
        let same-join : join_at b p marks sinks (nearest_place b p marks sinks) ≡ join_at b q marks sinks (nearest_place b q marks sinks) =
        rw (cost-same s h n.near, path_to-same s h n.near, place) in
        turn_near b p marks sinks some ∙ same-join ∙ sym (turn_near b q marks sinks (λ e. some (least ∙ e))))
