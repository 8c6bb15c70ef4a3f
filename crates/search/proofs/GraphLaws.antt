-- Distances and turns go by tables 1, 3 and 4 alone: the graph without capacities has the same.
-- Assumes nothing.
use mathlib.Core.List.{List, ◌∷◌}
use mathlib.Core.Path.{◌≡◌, refl, ap}
use Prim.Native.Nat.{ℕ, zero, suc}
use Rattle.price.specs.Test.{choose}
use Rattle.search.specs.Block.{block_of, graph_of, row, has_edge}
use Rattle.search.specs.Distance.{tree_has, tree_distances, nearer, round, rounds, distances}
use Rattle.search.specs.Turn.{before, back, path_to, open_distances, join_at, turn}

module _ (ks cs fs ts : List ℕ) (price : ℕ → ℕ) (marks : List ℕ) where
  rounds-same : (ds : List ℕ) (k : ℕ) → rounds (graph_of ks fs ts) price ds k ≡ rounds (block_of ks cs fs ts) price ds k
  unfolding rounds round nearer has_edge row
  rounds-same ds zero = refl
  rounds-same ds (suc k) = ap (λ (l : List ℕ). round (block_of ks cs fs ts) price l) (rounds-same ds k)

  pub distances-same : distances (graph_of ks fs ts) price marks ≡ distances (block_of ks cs fs ts) price marks
  unfolding distances tree_distances
  distances-same = rounds-same (tree_distances (block_of ks cs fs ts) marks) _

  back-same : (ds : List ℕ) (k v : ℕ) (path : List ℕ) → back (graph_of ks fs ts) price marks ds k v path ≡ back (block_of ks cs fs ts) price marks ds k v path
  unfolding back before has_edge row
  back-same ds zero v path = refl
  back-same ds (suc k) v path =
      ap (λ (l : List ℕ). choose (tree_has marks v) (v ∷ path) l) (back-same ds k (before (block_of ks cs fs ts) price ds v) (v ∷ path))

  path_to-same : (s : ℕ) → path_to (graph_of ks fs ts) price marks s ≡ path_to (block_of ks cs fs ts) price marks s
  unfolding path_to
  path_to-same s = rw distances-same (back-same (distances (block_of ks cs fs ts) price marks) _ s _)

  open_same : (sinks : List ℕ) → open_distances (graph_of ks fs ts) price marks sinks ≡ open_distances (block_of ks cs fs ts) price marks sinks
  unfolding open_distances
  open_same sinks = rw distances-same

  join_same : (sinks : List ℕ) (place : ℕ) → join_at (graph_of ks fs ts) price marks sinks place ≡ join_at (block_of ks cs fs ts) price marks sinks place
  unfolding join_at
  join_same sinks place = rw path_to-same

  pub turn-same : (sinks : List ℕ) → turn (graph_of ks fs ts) price marks sinks ≡ turn (block_of ks cs fs ts) price marks sinks
  unfolding turn
  turn-same sinks = rw (open_same, join_same)
