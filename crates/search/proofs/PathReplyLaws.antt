-- What the cheapest path answers where nothing is due: the turn, by its cases. The crates above cite this file.
-- Assumes nothing.
use mathlib.Core.Bool.{Bool, true, false}
use mathlib.Core.List.{List, [], ◌∷◌, ◌++◌}
use mathlib.Core.Path.{◌≡◌, refl, sym, ap}
use Prim.Native.Nat.{ℕ, ◌+◌, ◌*◌, ◌-◌, ◌≤◌, ◌<◌}
use native.Mathlib.Omega.{arith}
use lib.Dec.{leb}
use lib.ListN.{length, take, drop, replicate}
use lib.Seq.{take_at}
use borrow.Author.Tests.{le-leb, eq-eqb}
use Rattle.price.specs.Bounds.{factor_most, timed_nodes_most}
use Rattle.price.proofs.TestLaws.{both_left, both_true}
use Rattle.search.specs.Block.{Block, nodes}
use Rattle.search.specs.Tables.{edges_most, edge_targets_sound, Sound}
use Rattle.search.specs.Turn.{Congestion, price_at, Turn, joins, stuck, turn}
use Rattle.search.specs.Clamped.{clamped_price}
use Rattle.search.specs.Replies.{node_sound, sink_list_sound, PathReply, read_off, timed_fitting, fitting_lengths, lengths_fitting, fitting, turn_reply, path_reply, path_reply_of}
use Rattle.search.specs.Priceable.{Weighable, PricesReady}
use Rattle.std.specs.Prelude.{Some, None, Ok}
use Rattle.search.specs.declared.Joins.{Joins}
use Rattle.search.proofs.BlockLaws.{graph_of_lem, capacities-long, first_edges-long}
use Rattle.search.proofs.EdgeLaws.{shape_of}
use Rattle.search.proofs.PriceableLaws.{ready-price, ready-long, ready-delays, sinks-few}
use Rattle.search.proofs.ClampedLaws.{clamped-is}
use Rattle.search.proofs.PriceSameLaws.{turn_price_lem}
use Rattle.search.proofs.SpreadRun.{fair-clamped}

-- what is left at the beginning of the work slice is read back
pub read_front : (n : ℕ) {count : ℕ} (path work : List ℕ) {work' : List ℕ} → count ≡ length path → work' ≡ read_off n path work → take count work' ≡ path
unfolding read_off
read_front n {count} path work c e = rw e (take_at path (replicate (3 * n - length path) 0 ++ drop (3 * n) work) count (sym c))

-- the lengths of a timed turn
timed_fits : (timed : Bool) (n delays : ℕ) → (timed ≡ true → n ≤ timed_nodes_most) → (timed ≡ true → n ≤ delays) → timed_fitting timed n delays ≡ true
timed_fits false n delays few long = refl
timed_fits true n delays few long = rw (le-leb n timed_nodes_most (few refl), le-leb n delays (long refl))

module _ (b : Block) (c : Congestion) (marks sinks work : List ℕ) where
  -- where tables, sinks and numbers keep their rules
  module _ (s : Sound b) (t : sink_list_sound (nodes b) sinks ≡ true) (l : 8 * nodes b ≤ length work)
      (n : (v : ℕ) → v < nodes b → node_sound c marks v ≡ true) (f : c.factor ≤ factor_most) (d : c.weighting.timed ≡ true → Weighable (nodes b) c) where
    ready : PricesReady b.kinds b.capacities c marks
    ready = record { kinds_sound_lem = s.kinds_sound_lem; capacities_sound_lem = s.capacities_sound_lem; nodes-sound = n; factor_most_lem = f; weighable = d }

    -- every length is right
    delays_fit : c.weighting.timed ≡ true → nodes b ≤ length c.delays
    delays_fit t =
        let long : length c.delays ≡ nodes b = ready-delays b.kinds b.capacities b.first_edges b.edge_targets c marks ready t in
        omega arith

    lengths_fit : lengths_fitting b c marks sinks work ≡ true
    unfolding fitting_lengths edge_targets_sound
    lengths_fit =
        let g = graph_of_lem b s in
        let long = ready-long b.kinds b.capacities b.first_edges b.edge_targets c marks ready g.some in
        rw (
          le-leb 1 (nodes b) g.some,
          le-leb (nodes b) 4096 g.few,
          eq-eqb (length b.capacities) (nodes b) (capacities-long (nodes b) b.capacities s.capacities_sound_lem),
          eq-eqb (length b.first_edges) (nodes b + 1) (first_edges-long b g),
          both_left (leb (length b.edge_targets) edges_most) _ s.edge_targets_sound_lem,
          le-leb (8 * nodes b) (length work) l,
          le-leb (nodes b) (length c.histories) long.0,
          le-leb (nodes b) (length c.others) long.1,
          le-leb (nodes b) (length marks) long.2,
          le-leb (length sinks) 4096 (sinks-few (nodes b) sinks t),
        )

    pub fitting-sound : fitting b c marks sinks work ≡ true
    fitting-sound = both_true lengths_fit (timed_fits c.weighting.timed (nodes b) (length c.delays) (λ t. (d t).few) delays_fit)

    -- a clamped price is the price
    pub price-clamped : (v : ℕ) → v < nodes b → clamped_price b.kinds b.capacities c v ≡ price_at b c v
    price-clamped v h = clamped-is b c v (ready-price b.kinds b.capacities b.first_edges b.edge_targets c marks ready v h).bounds

    pub path-turn : path_reply b c marks sinks work ≡ turn_reply (nodes b) work (turn b (price_at b c) marks sinks)
    unfolding path_reply
    path-turn =
        let g = graph_of_lem b s in
        rw (fitting-sound, turn_price_lem b (clamped_price b.kinds b.capacities c) (price_at b c) price-clamped marks (shape_of b g) (fair-clamped b b.kinds b.capacities c g.few (λ t. (d t).few)) sinks)

  module _ (n : ℕ) (w' : List ℕ) (t : Turn) where
    pub joined-turn : (j : Joins) → path_reply_of (Ok (Some j)) w' ≡ turn_reply n work t → (path : List ℕ) × (t ≡ joins j.place j.cost path) × (j.length ≡ length path) × (w' ≡ read_off n path work)
    joined-turn j e = go t e
      where
        go : (t : Turn) → path_reply_of (Ok (Some j)) w' ≡ turn_reply n work t → (path : List ℕ) × (t ≡ joins j.place j.cost path) × (j.length ≡ length path) × (w' ≡ read_off n path work)
        go (joins p k path) e =
            let numbers : (j.place ∷ j.cost ∷ j.length ∷ []) ≡ (p ∷ k ∷ length path ∷ []) = ap (λ (r : PathReply). r.joined) e in
            let a : j.place ≡ p = cc in
            let b : j.cost ≡ k = cc in
            let c : j.length ≡ length path = cc in
            (path, (cc), c, ap (λ (r : PathReply). r.work) e)
        go stuck e =
            let numbers : (j.place ∷ j.cost ∷ j.length ∷ []) ≡ [] = ap (λ (r : PathReply). r.joined) e in
            let z : ◌≡◌ {A = ℕ} 0 1 = cc in
            absurd (omega arith)

    pub stuck-turn : path_reply_of (Ok None) w' ≡ turn_reply n work t → (t ≡ stuck) × (w' ≡ read_off n [] work)
    stuck-turn e = go t e
      where
        go : (t : Turn) → path_reply_of (Ok None) w' ≡ turn_reply n work t → (t ≡ stuck) × (w' ≡ read_off n [] work)
        go (joins p k path) e =
            let numbers : [] ≡ (p ∷ k ∷ length path ∷ []) = ap (λ (r : PathReply). r.joined) e in
            let z : ◌≡◌ {A = ℕ} 0 1 = cc in
            absurd (omega arith)
        go stuck e = (refl, ap (λ (r : PathReply). r.work) e)
