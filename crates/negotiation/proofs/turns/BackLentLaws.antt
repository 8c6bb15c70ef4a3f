-- The edges by their target as a run that aims has them: lists of the tables' lengths that hold 0, parts of arrays, and what they say of the whole block.
-- Assumes nothing.
use mathlib.Core.Bool.{true}
use mathlib.Core.List.{List, []}
use mathlib.Core.Path.{◌≡◌, sym, ◌∙◌, ap}
use Prim.Native.Nat.{ℕ, ◌+◌, ◌≤◌, ◌<◌}
use native.Mathlib.Omega.{arith}
use lib.Dec.{leb}
use lib.ListN.{length, get_or, take, replicate, length-replicate, get_or-replicate}
use borrow.Author.Tests.{leb-true}
use Rattle.price.proofs.TestLaws.{both_left}
use Rattle.search.specs.Block.{Block, block_of, graph_of, row, has_edge}
use Rattle.search.specs.Tables.{Sound, Graph, edges_most, edge_targets_sound}
use Rattle.search.specs.Turn.{congestion_of}
use Rattle.search.specs.ByTarget.{ListsBack}
use Rattle.search.proofs.BlockLaws.{graph_of_lem, first_edges-long, kinds-few}
use Rattle.search.proofs.PriceableLaws.{sound-graph}
use Rattle.negotiation.specs.BackSteps.{Fitting}
use Rattle.negotiation.proofs.KeepStart.{take-replicate}

edges_few : (b : Block) → edge_targets_sound b ≡ true → length b.edge_targets ≤ edges_most
unfolding edge_targets_sound
edges_few b s = leb-true (length b.edge_targets) edges_most (both_left (leb (length b.edge_targets) edges_most) _ s)

-- an array that holds 0
abbrev pub zeros : ℕ → List ℕ
zeros most = replicate most 0

-- a part of it
pub part-long : (k most : ℕ) → k ≤ most → k ≡ length (take k (zeros most))
part-long k most h = sym (ap length (take-replicate k most 0 h) ∙ length-replicate k 0)

part_zero : (k most : ℕ) → k ≤ most → (v : ℕ) → v < length (take k (zeros most)) → get_or (take k (zeros most)) v 0 ≡ 0
part_zero k most h v l =
    let below : v < k = omega (arith, part-long k most h) in
    ap (λ (xs : List ℕ). get_or xs v 0) (take-replicate k most 0 h) ∙ get_or-replicate k v 0 0 below

module _ (ks cs fs ts : List ℕ) (sound : Sound (block_of ks cs fs ts)) where
  -- the arrays are long enough
  pub firsts_fit : length ks + 1 ≤ 4097
  firsts_fit = omega (arith, kinds-few ks sound.kinds_sound_lem)

  pub sources_fit : length ts ≤ edges_most
  sources_fit = edges_few (block_of ks cs fs ts) sound.edge_targets_sound_lem

  -- their parts have the tables' lengths, and the first holds 0
  pub parts_fit :
      (most : ℕ) → length ks + 1 ≤ most → (many : ℕ) → length ts ≤ many
      → Fitting fs ts (take (length ks + 1) (zeros most)) (take (length ts) (zeros many))
      × ((v : ℕ) → v < length (take (length ks + 1) (zeros most)) → get_or (take (length ks + 1) (zeros most)) v 0 ≡ 0)
  parts_fit most h many l = (
    (sym (part-long (length ks + 1) most h) ∙ sym (first_edges-long (block_of ks cs fs ts) (graph_of_lem (block_of ks cs fs ts) sound)), sym (part-long (length ts) many l)),
    part_zero (length ks + 1) most h,
  )

  -- graph and edges don't go by capacities
  pub graph-alone : Graph (graph_of ks fs ts)
  graph-alone = sound-graph ks cs fs ts (congestion_of 0 [] []) [] sound

  pub back_whole : {r : Block} → ListsBack (graph_of ks fs ts) r → ListsBack (block_of ks cs fs ts) r
  unfolding has_edge row
  back_whole l = record { firsts-long = l.firsts-long; edges = l.edges }
