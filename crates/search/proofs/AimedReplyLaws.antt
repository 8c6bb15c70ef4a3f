-- The reply of the cheapest path by the search that aims: a turn from its steps, what is refused, and the answer in terms of paths alone.
--     back-counted    tables by target that belong to the block: the edges that count are the block's, as its own tables have them
--     aimed_sound     there, where nothing is due, the reply is the plain turn with the count of request 2.13
-- Assumes nothing.
use mathlib.Core.Bool.{Bool, true, false}
use mathlib.Core.List.{List, [], ◌++◌}
use mathlib.Core.Path.{◌≡◌, refl, sym, ◌∙◌, ap}
use Prim.Native.Nat.{ℕ, ◌+◌, ◌-◌, ◌*◌, ◌≤◌, ◌<◌}
use native.Mathlib.Omega.{arith}
use lib.ListN.{length, get_or, take, drop, replicate}
use lib.Seq.{take_at}
use borrow.Author.Tests.{eq-eqb, ne_eqb}
use Rattle.price.specs.Test.{both}
use Rattle.price.proofs.TestLaws.{both_right}
use Rattle.price.proofs.ListLaws.{drop-same}
use Rattle.search.specs.Block.{Block, block_of, graph_of, row, has_edge}
use Rattle.search.specs.Paths.{Fair}
use Rattle.search.specs.Turn.{Congestion, price_at, path_to, Turn, turn}
use Rattle.search.specs.Aimed.{weight_at, alone, estimate, expanded_by, expanded}
use Rattle.search.specs.Clamped.{clamped_price, clamped_weight}
use Rattle.search.specs.ByTarget.{agreed, turned, Counted, ListsBack}
use Rattle.search.specs.Replies.{cleared, PathReply, turn_path, read_off, turn_reply, fitting, path_due, refusal_numbers, path_reply_of, JoinsCheapest}
use Rattle.search.specs.Priceable.{Fitted, PricesReady}
use Rattle.search.specs.TurnWork.{path_in}
use Rattle.search.specs.AimedTurn.{Started, TurnReady, SinksAimed, Readable, AimedRead, none, reads}
use Rattle.search.specs.AimedReplies.{AimedPathReply, joined_reply, aimed_turn_reply, aimed_path_reply, aimed_path_reply_of, joins_of}
use Rattle.std.specs.Prelude.{Option, Some, None, Result, Ok, Err, IsErrAnd}
use Rattle.search.specs.declared.AimedTurn.{AimedTurn}
use Rattle.search.specs.declared.Joins.{Joins}
use Rattle.search.specs.declared.Refusal.{Refusal}
use Rattle.search.specs.declared.Refusal.TheVariants.{BadTable}
use Rattle.search.proofs.BlockLaws.{graph_of_lem, kind_most_lem}
use Rattle.search.proofs.EdgeLaws.{Shaped, shape_of, edge-node}
use Rattle.search.proofs.TableOfLaws.{agreed-counted}
use Rattle.search.proofs.PriceSameLaws.{distances-same, turn_price_lem}
use Rattle.search.proofs.SpreadRun.{fair-clamped}
use Rattle.search.proofs.PathTestLaws.{path-ready}
use Rattle.search.proofs.PathReplyLaws.{path-turn, price-clamped, joined-turn, read_front}
use Rattle.search.proofs.AnswersHold.{path-cheapest, due-fitting}
use Rattle.search.proofs.AimedLaws.{est_step, est_sink, expanded-same}
use Rattle.search.proofs.AimedExact.{Consistent}
use Rattle.search.proofs.EdgeSameLaws.{turn-edges, estimate-edges, expanded-edges}
use Rattle.search.proofs.WeightLaws.{weight_dear, fair_weight, weight_is}
use Rattle.search.proofs.AimedTurnLaws.{TurnEnd, aimed_stuck, aimed_count, aimed_readable, read_turn, read_path, read_short, rest_cleared}

-- ---- a turn, from its steps

module _ (ks cs fs ts fb bs : List ℕ) (c : Congestion) (marks sinks : List ℕ) where
  abbrev block : Block
  block = block_of ks cs fs ts

  abbrev back : Block
  back = graph_of ks fb bs

  abbrev price : ℕ → ℕ
  price = clamped_price ks cs c

  abbrev weight : ℕ → ℕ
  weight = clamped_weight ks c.weighting

  -- the edges that count, and those by which estimates go, as some tables have them
  module _ {firsts targets backs sources : List ℕ} (k : Counted block back firsts targets backs sources) where
    abbrev searched : Block
    searched = block_of ks cs firsts targets

    abbrev ahead : Block
    ahead = graph_of ks backs sources

    -- an edge that counts is one of those
    counts_ahead : (u v : ℕ) → u < length ks → v < length ks → has_edge searched u v ≡ true → has_edge ahead u v ≡ true
    unfolding has_edge row
    counts_ahead u v hu hv e =
        k.estimated.edges u v hu hv ∙ both_right (has_edge block u v) (has_edge back v u) (sym (k.searched.edges u v hu hv) ∙ e)

    module _ (few : length ks ≤ 4096) where
      counts_shaped : Shaped searched
      counts_shaped = record { few = few; firsts-long = k.searched.firsts-long }

      ahead_shaped : Shaped ahead
      ahead_shaped = record { few = few; firsts-long = k.estimated.firsts-long }

      counts_consistent : Consistent searched price (estimate ahead weight marks sinks) marks sinks
      counts_consistent = record {
        along = λ u v h e.
            let there = counts_ahead u v (edge-node searched counts_shaped u v e) h e in
            let step = est_step ahead weight marks sinks ahead_shaped (fair_weight ks c.weighting ahead few) u v there in
            omega (arith, step, weight_dear ks cs c v);
        zero_there = λ s h l o. est_sink ahead weight marks sinks ahead_shaped (fair_weight ks c.weighting ahead few) s h l o;
      }

  module _ {w₀ : List ℕ} (f : Fitted (block_of ks cs fs ts) c marks sinks w₀) {w₁ : List ℕ} {trees : ℕ} (s : Started (length ks) marks w₀ w₁ trees) where
    -- the turn may run
    pub turn-ready : length fb ≡ length ks + 1 → TurnReady block back c marks sinks w₁ × ((w : List ℕ) × Started (length ks) marks w w₁ trees)
    turn-ready long = (
      record {
        fitted = record {
          some = f.some;
          few = f.few;
          capacities-long = f.capacities-long;
          firsts-long = f.firsts-long;
          targets-few = f.targets-few;
          enough = omega (arith, f.enough, s.long);
          histories-long = f.histories-long;
          others-long = f.others-long;
          marks_long = f.marks_long;
          sinks-few = f.sinks-few;
          timed_few = f.timed_few;
          delays-long = f.delays-long;
        };
        same_nodes = refl;
        backs-long = long;
        firsts = (agreed block back).first_edges;
        targets = (agreed block back).edge_targets;
        backs = (turned back).first_edges;
        sources = (turned back).edge_targets;
        counted = agreed-counted block back refl;
      },
      (w₀, s),
    )

    -- it has aimed, over any tables of the edges that count
    module _ {w₂ : List ℕ} {cost count : ℕ}
        (aims : (firsts targets backs sources : List ℕ) → Counted block back firsts targets backs sources → SinksAimed block back c marks sinks w₁ w₂ firsts targets backs sources cost count) where
      turn_end :
          {firsts targets backs sources : List ℕ} → Counted block back firsts targets backs sources
          → TurnEnd (block_of ks cs firsts targets) price (estimate (graph_of ks backs sources) weight marks sinks) marks sinks w₂ cost count
      turn_end {firsts} {targets} {backs} {sources} k =
          let a = aims firsts targets backs sources k in
          record {
            shape = counts_shaped k f.few;
            fair = fair-clamped (block_of ks cs firsts targets) ks cs c f.few f.timed_few;
            consistent = counts_consistent k f.few;
            marks_long = f.marks_long;
            sinks-few = f.sinks-few;
            long = omega (arith, f.enough, s.long, a.long);
            done = a.done;
          }

      pub turn_readable : Readable (length ks) marks sinks w₂ cost
      turn_readable = aimed_readable (turn_end (agreed-counted block back refl))

      -- past 8 n the work slice is as it was
      kept : (w' : List ℕ) → length w' ≡ length w₂ → ((j : ℕ) → 8 * length ks ≤ j → get_or w' j 0 ≡ get_or w₂ j 0) → drop (8 * length ks) w' ≡ drop (8 * length ks) w₀
      kept w' long high =
          let a = aims (agreed block back).first_edges (agreed block back).edge_targets (turned back).first_edges (turned back).edge_targets (agreed-counted block back refl) in
          drop-same (8 * length ks) w₀ w' (long ∙ a.long ∙ s.long)
          (λ j l. high j l ∙ a.beyond j (omega arith) ∙ s.beyond j (omega arith))

      module _ (firsts targets backs sources : List ℕ) (k : Counted block back firsts targets backs sources) where
        reply_is :
            {r : PathReply} {n : ℕ} → r ≡ joined_reply (length ks) w₀ (turn (searched k) price marks sinks)
            → expanded_by (searched k) price (estimate (ahead k) weight marks sinks) marks sinks ≡ n
            → record { path = r; expanded = n } ≡ aimed_turn_reply (searched k) (ahead k) c marks sinks w₀
        unfolding aimed_turn_reply
        reply_is e f = rw (e, ← f)

        pub turn_replies :
            {r : Option Joins} {n : ℕ} {w₃ : List ℕ} → AimedRead (length ks) marks sinks w₂ cost count r n w₃
            → record { path = path_reply_of (Ok r) w₃; expanded = n } ≡ aimed_turn_reply (block_of ks cs firsts targets) (graph_of ks backs sources) c marks sinks w₀
        unfolding cleared
        turn_replies (none e r n w) =
            let z = aimed_stuck (turn_end k) e in
            reply_is (rw (r, w, z.0, kept w₂ refl (λ j l. refl))) (z.1 ∙ sym n)
        turn_replies (reads some moved read m j is-j d n w) =
            let path : List ℕ = path_in (length ks) marks moved (get_or sinks d.place 0) in
            let is : path ≡ path_to (searched k) price marks (get_or sinks d.place 0) = read_path (turn_end k) some m d in
            let short : length path ≤ length ks = rw is (read_short (turn_end k) some m d) in
            let end = rest_cleared (length ks) path w₀ moved short (kept moved m.same.long (λ j l. m.same.high j (omega arith))) d.work w in
            reply_is (rw (is-j, d.answer, read_turn (turn_end k) some m d, ← is, end)) (aimed_count (turn_end k) some ∙ sym n)

-- ---- tables by target that belong to the block

both_twice : (t : Bool) → both t t ≡ t
both_twice true = refl
both_twice false = refl

-- what is left at the beginning of the work slice is read back
front_left : (n : ℕ) {count : ℕ} (path work : List ℕ) {work' : List ℕ} → count ≡ length path → work' ≡ cleared n path work → take count work' ≡ path
unfolding cleared
front_left n {count} path work e is = rw is (take_at path (replicate (8 * n - length path) 0 ++ drop (8 * n) work) count (sym e))

module _ (ks cs fs ts fb bs : List ℕ) (back : ListsBack (block_of ks cs fs ts) (graph_of ks fb bs)) where
  abbrev b : Block
  b = block_of ks cs fs ts

  abbrev r : Block
  r = graph_of ks fb bs

  -- the edges that count are the block's
  pub back-counted : length fs ≡ length ks + 1 → Counted b r fs ts fs ts
  unfolding has_edge row
  back-counted long = record {
    searched = record { firsts-long = long; edges = λ u v hu hv. sym (ap (both (has_edge b u v)) (back.edges u v hu hv) ∙ both_twice (has_edge b u v)) };
    estimated = record { firsts-long = long; edges = λ u v hu hv. sym (back.edges u v hu hv) };
  }

  agreed-edges : (u v : ℕ) → u < length ks → v < length ks → has_edge (agreed b r) u v ≡ has_edge b u v
  unfolding has_edge row
  agreed-edges u v hu hv =
      (agreed-counted b r refl).searched.edges u v hu hv ∙ ap (both (has_edge b u v)) (back.edges u v hu hv) ∙ both_twice (has_edge b u v)

  turned-edges : (u v : ℕ) → u < length ks → v < length ks → has_edge (turned r) u v ≡ has_edge b u v
  turned-edges u v hu hv = (agreed-counted b r refl).estimated.edges u v hu hv ∙ back.edges u v hu hv

  module _ (c : Congestion) (marks sinks work : List ℕ) (due : path_due (block_of ks cs fs ts) c marks sinks work ≡ []) where
    -- the clamped prices and weights are the prices and weights
    abbrev ready : PricesReady ks cs c marks
    ready = (path-ready ks cs fs ts c sinks marks work due).0

    b_shaped : Shaped b
    b_shaped = shape_of b (graph_of_lem b (path-ready ks cs fs ts c sinks marks work due).1.0)

    prices_are : (v : ℕ) → v < length ks → clamped_price ks cs c v ≡ price_at b c v
    prices_are =
        let t = path-ready ks cs fs ts c sinks marks work due in
        price-clamped b c marks sinks work t.1.0 t.1.1.1 t.1.1.0 t.0.nodes-sound t.0.factor_most_lem t.0.weighable

    weights_are : (v : ℕ) → v < length ks → clamped_weight ks c.weighting v ≡ weight_at b c.weighting v
    weights_are v h = weight_is b c.weighting v (kind_most_lem ks ready.kinds_sound_lem v h) (λ t. (ready.weighable t).criticality_most_lem)

    turn-all : turn (agreed b r) (clamped_price ks cs c) marks sinks ≡ turn b (price_at b c) marks sinks
    turn-all =
        let fair : Fair (agreed b r) (clamped_price ks cs c) = fair-clamped (agreed b r) ks cs c b_shaped.few (λ t. (ready.weighable t).few) in
        let fair-b : Fair b (clamped_price ks cs c) = fair-clamped b ks cs c b_shaped.few (λ t. (ready.weighable t).few) in
        let shape : Shaped (agreed b r) = record { few = b_shaped.few; firsts-long = (agreed-counted b r refl).searched.firsts-long } in
        turn-edges ks cs (agreed b r).first_edges (agreed b r).edge_targets cs fs ts agreed-edges (clamped_price ks cs c) marks shape fair sinks
        ∙ turn_price_lem b (clamped_price ks cs c) (price_at b c) prices_are marks b_shaped fair-b sinks

    estimates-weighed : (v : ℕ) → estimate b (clamped_weight ks c.weighting) marks sinks v ≡ estimate b (weight_at b c.weighting) marks sinks v
    unfolding estimate
    estimates-weighed v = rw (distances-same b (clamped_weight ks c.weighting) (weight_at b c.weighting) weights_are (alone b v))

    estimates_are : (v : ℕ) → estimate (turned r) (clamped_weight ks c.weighting) marks sinks v ≡ estimate b (weight_at b c.weighting) marks sinks v
    estimates_are v =
        estimate-edges ks [] (turned r).first_edges (turned r).edge_targets cs fs ts turned-edges (clamped_weight ks c.weighting) marks sinks v
        ∙ estimates-weighed v

    count-all :
        expanded_by (agreed b r) (clamped_price ks cs c) (estimate (turned r) (clamped_weight ks c.weighting) marks sinks) marks sinks
        ≡ expanded b (price_at b c) (weight_at b c.weighting) marks sinks
    count-all =
        expanded-edges ks cs (agreed b r).first_edges (agreed b r).edge_targets cs fs ts agreed-edges (clamped_price ks cs c) marks sinks
        (estimate (turned r) (clamped_weight ks c.weighting) marks sinks) (estimate b (weight_at b c.weighting) marks sinks) (λ v h. estimates_are v)
        ∙ expanded-same b marks sinks (clamped_price ks cs c) (price_at b c) (weight_at b c.weighting) prices_are

    -- the plain turn, with the count of the nodes that a turn that aims expands
    pub aimed_sound :
        aimed_path_reply (block_of ks cs fs ts) (graph_of ks fb bs) c marks sinks work
        ≡ record {
          path = joined_reply (length ks) work (turn (block_of ks cs fs ts) (price_at (block_of ks cs fs ts) c) marks sinks);
          expanded = expanded (block_of ks cs fs ts) (price_at (block_of ks cs fs ts) c) (weight_at (block_of ks cs fs ts) c.weighting) marks sinks;
        }
    unfolding aimed_path_reply aimed_turn_reply
    aimed_sound =
        rw (due-fitting ks cs fs ts c marks work sinks due, eq-eqb (length fb) (length ks + 1) back.firsts-long, turn-all, count-all)

    -- ---- the answer in terms of paths alone

    -- the plain turn, and the work slice that it leaves
    abbrev made : Turn
    made = turn b (price_at b c) marks sinks

    abbrev left : List ℕ
    left = read_off (length ks) (turn_path made) work

    -- the same answer with that work slice is the plain turn's
    plain : (x : Result (Option Joins) Refusal) {w' : List ℕ} → path_reply_of x w' ≡ joined_reply (length ks) work made → path_reply_of x left ≡ turn_reply (length ks) work made
    plain x e = ap (λ (y : PathReply). record { refusal = y.refusal; joined = y.joined; work = left }) e

    plain_cheapest : (x : Result (Option Joins) Refusal) {w' : List ℕ} → path_reply_of x w' ≡ joined_reply (length ks) work made → JoinsCheapest b (price_at b c) marks sinks x left
    plain_cheapest x e =
        let t = path-ready ks cs fs ts c sinks marks work due in
        path-cheapest ks cs fs ts c marks work sinks due x left
        (plain x e ∙ sym (path-turn b c marks sinks work t.1.0 t.1.1.1 t.1.1.0 t.0.nodes-sound t.0.factor_most_lem t.0.weighable))

    joined-cheapest : (x : Result (Option Joins) Refusal) {w' : List ℕ} → path_reply_of x w' ≡ joined_reply (length ks) work made → JoinsCheapest b (price_at b c) marks sinks x w'
    joined-cheapest (Ok (Some joined)) {w'} e =
        let j = joined-turn b c marks sinks work (length ks) left made joined (plain (Ok (Some joined)) e) in
        let is : w' ≡ cleared (length ks) j.0 work = ap (λ (y : PathReply). y.work) e ∙ ap (λ (t : Turn). cleared (length ks) (turn_path t) work) j.1 in
        let same : take joined.length w' ≡ take joined.length left = front_left (length ks) j.0 work j.2 is ∙ sym (read_front (length ks) j.0 work j.2 j.3) in
        rw same (plain_cheapest (Ok (Some joined)) e)
    joined-cheapest (Ok None) e = plain_cheapest (Ok None) e
    joined-cheapest (Err refusal) e = tt

    pub aimed_cheapest :
        (x : Result AimedTurn Refusal) (w' : List ℕ) → aimed_path_reply_of x w' ≡ aimed_path_reply (block_of ks cs fs ts) (graph_of ks fb bs) c marks sinks work
        → JoinsCheapest (block_of ks cs fs ts) (price_at (block_of ks cs fs ts) c) marks sinks (joins_of x) w'
    aimed_cheapest x w' e = joined-cheapest (joins_of x) (ap (λ (y : AimedPathReply). y.path) (e ∙ aimed_sound))

-- ---- the whole call

module _ (ks cs fs ts fb bs : List ℕ) (c : Congestion) (marks sinks work : List ℕ) where
  -- where every length is right the turn is the reply
  pub aimed_joined :
      (r : Result AimedTurn Refusal) (w' : List ℕ) → fitting (block_of ks cs fs ts) c marks sinks work ≡ true → length fb ≡ length ks + 1
      → ((firsts targets backs sources : List ℕ) → Counted (block_of ks cs fs ts) (graph_of ks fb bs) firsts targets backs sources
      → aimed_path_reply_of r w' ≡ aimed_turn_reply (block_of ks cs firsts targets) (graph_of ks backs sources) c marks sinks work)
      → (aimed_path_reply_of r w' ≡ aimed_path_reply (block_of ks cs fs ts) (graph_of ks fb bs) c marks sinks work)
      × (path_due (block_of ks cs fs ts) c marks sinks work ≡ [] → ListsBack (block_of ks cs fs ts) (graph_of ks fb bs)
      → JoinsCheapest (block_of ks cs fs ts) (price_at (block_of ks cs fs ts) c) marks sinks (joins_of r) w')
  unfolding aimed_path_reply
  aimed_joined r w' t long e =
      let is : aimed_path_reply_of r w' ≡ aimed_path_reply (block_of ks cs fs ts) (graph_of ks fb bs) c marks sinks work =
      rw (t, eq-eqb (length fb) (length ks + 1) long) (e _ _ _ _ (agreed-counted (block_of ks cs fs ts) (graph_of ks fb bs) refl)) in
      (is, λ due back. aimed_cheapest ks cs fs ts fb bs back c marks sinks work due r w' is)

  -- a wrong length of the first table by target is refused as table 3's
  pub aimed_short :
      fitting (block_of ks cs fs ts) c marks sinks work ≡ true → (length fb ≡ length ks + 1 → ⊥)
      → (aimed_path_reply_of (Err (BadTable 3)) work ≡ aimed_path_reply (block_of ks cs fs ts) (graph_of ks fb bs) c marks sinks work)
      × (path_due (block_of ks cs fs ts) c marks sinks work ≡ [] → ListsBack (block_of ks cs fs ts) (graph_of ks fb bs)
      → JoinsCheapest (block_of ks cs fs ts) (price_at (block_of ks cs fs ts) c) marks sinks (Err (BadTable 3)) work)
  unfolding aimed_path_reply
  aimed_short t short = (rw (t, ne_eqb (length fb) (length ks + 1) short), λ due back. tt)

  -- where another one is wrong what is due is the reply
  pub aimed_refused :
      (r : Result AimedTurn Refusal) (refusal : Refusal) → IsErrAnd r (λ x. x ≡ refusal) → fitting (block_of ks cs fs ts) c marks sinks work ≡ false
      → refusal_numbers refusal ≡ path_due (block_of ks cs fs ts) c marks sinks work
      → (aimed_path_reply_of r work ≡ aimed_path_reply (block_of ks cs fs ts) (graph_of ks fb bs) c marks sinks work)
      × (path_due (block_of ks cs fs ts) c marks sinks work ≡ [] → ListsBack (block_of ks cs fs ts) (graph_of ks fb bs)
      → JoinsCheapest (block_of ks cs fs ts) (price_at (block_of ks cs fs ts) c) marks sinks (joins_of r) work)
  unfolding aimed_path_reply
  aimed_refused (Ok _) refusal is t e = absurd is
  aimed_refused (Err _) refusal is t e = (rw (is, t, e), λ due back. tt)
