-- The test before iteration 1, net after net: a sink is marked where a path leads to it from its source, and the first that is not.
-- Assumes nothing.
use mathlib.Core.Bool.{true, false, not}
use mathlib.Core.List.{List, [], ◌∷◌, ◌++◌}
use mathlib.Core.Logic.{⊎_elim}
use mathlib.Core.Path.{◌≡◌, sym, ◌∙◌}
use Prim.Native.Nat.{ℕ, ◌+◌, ◌*◌, ◌-◌, ◌≤◌, ◌<◌}
use native.Mathlib.Nat.{le_refl}
use native.Mathlib.Omega.{arith}
use lib.ListN.{length, get_or, take, drop}
use lib.Seq.{length-take-le, length_front, take_at, length-slice}
use borrow.Author.Count.{below_more}
use borrow.Author.Tests.{lt-ltb, le-ltb, not-true, not-false}
use Rattle.price.specs.Lists.{every, first_below}
use Rattle.price.proofs.TestLaws.{by_test, le_or_lt}
use Rattle.price.proofs.ListLaws.{every-all, every-none, part_slice}
use Rattle.price.proofs.BelowLaws.{first_below-below, first_below_holds, first_below-is, first_below-all}
use Rattle.search.specs.Block.{Block, graph_of, row, has_edge}
use Rattle.search.specs.Paths.{Walk, stay, step}
use Rattle.search.proofs.PriceableLaws.{sound-graph}
use Rattle.job.specs.Job.{Job, nodes, nets, source, net_sinks}
use Rattle.negotiation.specs.Machine.{congestion_for, first_state}
use Rattle.negotiation.specs.Outcome.{has_path, unreachable_net, unreachable_place}
use Rattle.job.specs.Steps.{AllBelow}
use Rattle.negotiation.specs.Steps.{SameFrom, missing}
use Rattle.negotiation.specs.Flood.{FloodReady, Flooded, FirstUnmarked}
use Rattle.negotiation.specs.Routable.{Routable}
use Rattle.negotiation.proofs.NetLaws.{path_from}
use Rattle.negotiation.proofs.DemandLaws.{walk_path}
use Rattle.negotiation.proofs.FloodLaws.{same_from_trans, same_from_higher}

-- ---- a path and a walk

-- a walk along edges that another block has too
walk_as : {b b' : Block} → ((u v : ℕ) → has_edge b u v ≡ true → has_edge b' u v ≡ true) → {u v : ℕ} {path : List ℕ} → Walk b u path v → Walk b' u path v
walk_as edges (stay u) = stay u
walk_as edges (step e w) = step (edges _ _ e) (walk_as edges w)

-- the job's graph alone
abbrev graph : Job → Block
graph j = graph_of j.block.kinds j.block.first_edges j.block.edge_targets

module _ (j : Job) where
  graph_walk : {u v : ℕ} {path : List ℕ} → Walk j.block u path v → Walk (graph j) u path v
  unfolding has_edge row
  graph_walk w = walk_as (λ u v e. e) w

  block_walk : {u v : ℕ} {path : List ℕ} → Walk (graph j) u path v → Walk j.block u path v
  unfolding has_edge row
  block_walk w = walk_as (λ u v e. e) w

-- ---- one net after the other

-- the nets before this one have no sink without a path
pub record Tested (j : Job) (m : ℕ) (before work marks : List ℕ) (net : ℕ) : Type 0 where
  pub within : net ≤ nets j
  pub same : SameFrom (8 * nodes j) before work
  pub marks_long : length marks ≡ m
  pub passed : (i : ℕ) → i < net → every (has_path j i) (net_sinks j i) ≡ true

-- where every net is tested, none lacks a path
pub tested-all : {j : Job} {m net : ℕ} {before work marks : List ℕ} → nets j ≤ net → Tested j m before work marks net → [] ≡ missing j
unfolding unreachable_net
tested-all {j} {m} {net} h t =
    let none : unreachable_net j ≡ nets j = first_below-all _ (nets j) (λ i l. rw (t.passed i (omega arith))) in
    rw (none, le-ltb (nets j) (nets j) (le_refl _))

module _ (j : Job) (sound : Routable j) (i : ℕ) (h : i < nets j) where
  -- its sinks, as the call is handed them
  abbrev from : ℕ
  from = get_or j.first_sinks i 0

  abbrev to : ℕ
  to = get_or j.first_sinks (i + 1) 0

  abbrev part : List ℕ
  part = take (to - from) (drop from j.sinks)

  net-part : part ≡ net_sinks j i
  unfolding net_sinks
  net-part = part_slice from to j.sinks

  net-long : length (net_sinks j i) ≡ to - from
  unfolding net_sinks
  net-long = length-slice from to j.sinks (sound.sinks-end (i + 1) (omega arith))

  -- what the place of its first sink without a path says
  module _ (place : ℕ) (is : place ≡ first_below (λ (p : ℕ). not (has_path j i (get_or (net_sinks j i) p 0))) (length (net_sinks j i))) where
    place_all : to - from ≤ place → every (has_path j i) (net_sinks j i) ≡ true
    place_all l =
        let long = net-long in
        every-all (has_path j i) (net_sinks j i)
        (λ k q. not-false _ (first_below-below (λ (p : ℕ). not (has_path j i (get_or (net_sinks j i) p 0))) (length (net_sinks j i)) k (omega arith)))

    place_none : place < to - from → every (has_path j i) (net_sinks j i) ≡ false
    place_none l =
        let long = net-long in
        let q = first_below_holds (λ (p : ℕ). not (has_path j i (get_or (net_sinks j i) p 0))) (length (net_sinks j i)) (omega arith) in
        every-none (has_path j i) (net_sinks j i) place (omega arith) (not-true _ (rw (sym is) at q))

    module _ (passed : (k : ℕ) → k < i → every (has_path j k) (net_sinks j k) ≡ true) (l : place < to - from) where
      missing-net : unreachable_net j ≡ i
      unfolding unreachable_net
      missing-net = first_below-is _ (nets j) i h (rw (place_none l)) (λ k q. rw (passed k q))

      missing_place : unreachable_place j ≡ place
      unfolding unreachable_place
      missing_place = rw missing-net (sym is)

      place_missing : i ∷ place ∷ [] ≡ missing j
      place_missing = rw (missing-net, missing_place, lt-ltb i (nets j) h)

  module _ {m : ℕ} {before work marks : List ℕ} (few : nodes j ≤ m) (enough : 8 * nodes j ≤ length before) (t : Tested j m before work marks i) where
    marks_wide : length (take (nodes j) marks) ≡ nodes j
    marks_wide = length-take-le (nodes j) marks (let l = t.marks_long in omega arith)

    -- what the flood asks
    pub flood_asked : FloodReady (graph j) (source j i) part (take (nodes j) marks) work
    flood_asked =
        record {
          graph = sound-graph j.block.kinds j.block.capacities j.block.first_edges j.block.edge_targets (congestion_for j (first_state j) i) [] sound.block-sound;
          source-node = sound.source-node i h;
          sinks-nodes = rw net-part (λ k l. sound.sink-node i h k l);
          marks_long = marks_wide;
          work-long = let l = t.same.long in omega arith;
        }

    -- what it leaves
    module _ {flooded w : List ℕ} (f : Flooded (graph j) (source j i) part flooded work w) where
      mark_path : (s : ℕ) → s < nodes j → 0 < get_or flooded s 0 → has_path j i s ≡ true
      mark_path s node l =
          let bit = f.bits s node in
          let p = f.sound s node (omega arith) in
          walk_path j sound i s p.0 h (block_walk j p.1)

      mark_none : (k : ℕ) → k < length (net_sinks j i) → get_or flooded (get_or (net_sinks j i) k 0) 0 ≡ 0 → has_path j i (get_or (net_sinks j i) k 0) ≡ false
      mark_none k l e =
          let s : ℕ = get_or (net_sinks j i) k 0 in
          by_test (has_path j i (get_or (net_sinks j i) k 0))
          (λ q.
          let p = path_from j sound i h s (sound.sink-node i h k l) q in
          ⊎_elim
          (λ (all : (n : ℕ) → n < length part → get_or flooded (get_or part n 0) 0 ≡ 1).
          let marked : (n : ℕ) → n < length (net_sinks j i) → get_or flooded (get_or (net_sinks j i) n 0) 0 ≡ 1 = rw net-part at all in
          absurd (let one = marked k l in omega arith))
          (λ (whole : (v : ℕ) (path : List ℕ) → Walk (graph j) (source j i) path v → get_or flooded v 0 ≡ 1).
          absurd (let one = whole (get_or (net_sinks j i) k 0) p.0 (graph_walk j p.1) in omega arith))
          f.complete)
          (λ q. q)

      marks_are : take (nodes j) (flooded ++ drop (nodes j) marks) ≡ flooded
      marks_are = take_at flooded (drop (nodes j) marks) (nodes j) f.long

      marks_whole : length (flooded ++ drop (nodes j) marks) ≡ m
      marks_whole = length_front marks flooded (nodes j) (f.long ∙ sym marks_wide) ∙ t.marks_long

      pub marks_fit : nodes j ≤ length (flooded ++ drop (nodes j) marks)
      marks_fit = rw marks_whole few

      pub tested-same : SameFrom (8 * nodes j) before w
      tested-same = same_from_trans t.same (same_from_higher (omega arith) f.same)

      -- what is asked of the sinks
      pub sinks-asked : AllBelow (length (take (nodes j) (flooded ++ drop (nodes j) marks))) part
      sinks-asked = rw (marks_are, f.long, net-part) (λ k l. sound.sink-node i h k l)

      module _ (place : ℕ) (is : FirstUnmarked (take (nodes j) (flooded ++ drop (nodes j) marks)) part 0 place) where
        first_is : FirstUnmarked flooded (net_sinks j i) 0 place
        first_is = rw (marks_are, net-part) at is

        before_path : (p : ℕ) → p < place → not (has_path j i (get_or (net_sinks j i) p 0)) ≡ false
        before_path p l =
            let within = first_is.within in
            rw (mark_path (get_or (net_sinks j i) p 0) (sound.sink-node i h p (omega arith)) (first_is.before p l (omega arith)))

        net-answer : place ≡ first_below (λ (p : ℕ). not (has_path j i (get_or (net_sinks j i) p 0))) (length (net_sinks j i))
        net-answer =
            ⊎_elim
            (λ (l : length (net_sinks j i) ≤ place).
            let within = first_is.within in
            let e : place ≡ length (net_sinks j i) = omega arith in
            e ∙ sym (first_below-all _ (length (net_sinks j i)) (λ p q. before_path p (omega arith))))
            (λ (l : place < length (net_sinks j i)).
            sym
            (first_below-is _ (length (net_sinks j i)) place l
            (rw (mark_none place l (first_is.here l)))
            before_path))
            (le_or_lt (length (net_sinks j i)) place)

        -- a sink without a path
        pub tested-found : place < to - from → i ∷ place ∷ [] ≡ missing j
        tested-found = place_missing place net-answer t.passed

        -- one net more
        pub tested-more : to - from ≤ place → Tested j m before w (flooded ++ drop (nodes j) marks) (i + 1)
        tested-more l =
            record {
              within = omega arith;
              same = tested-same;
              marks_long = marks_whole;
              passed = below_more _ _ t.passed (place_all place net-answer l);
            }
