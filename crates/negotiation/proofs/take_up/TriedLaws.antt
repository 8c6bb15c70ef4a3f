-- The turn that a net makes next, as the lists have it: the sinks that it tries are goals, and they weigh its prices.
--     goals-asked, -fit, -on              the goals of the sinks that are tried
--     least_asks, least_said              the search for them
--     tried-tested, judge_asks, -said     the record is tested with them, and its cost held against the least
--     sinks-here, tried-is, price-is      sinks and prices are those of the job's turn
--     least-is                            so is its least cost
--     try_ready                           and all that the turn reads is there
-- Assumes nothing.
use mathlib.Core.Bool.{Bool, true, false}
use mathlib.Core.List.{List, ◌++◌}
use mathlib.Core.Path.{◌≡◌, sym, ◌∙◌, ap, subst}
use Prim.Native.Nat.{ℕ, ◌+◌, ◌-◌, ◌*◌, ◌≤◌, ◌<◌}
use native.Mathlib.Omega.{arith}
use lib.Dec.{leb}
use lib.ListN.{length, get_or, take, drop, replicate, length-append, length-replicate, length-drop, get_or-replicate}
use lib.Seq.{slice, length-slice, ext_get_or, take-append_seam}
use Rattle.std.specs.Prelude.{Option, Some, None, Result}
use Rattle.price.specs.Bounds.{nodes_most}
use Rattle.price.specs.Test.{choose, both}
use Rattle.price.specs.Lists.{has, up_to}
use Rattle.price.proofs.TestLaws.{by_test, both_left}
use Rattle.price.proofs.ListLaws.{part_slice, has-at, has_place, length_up_to, get_or_up_to}
use Rattle.search.specs.Block.{Block}
use Rattle.search.specs.Block as block
use Rattle.search.specs.Distance.{far, tree_has}
use Rattle.search.specs.Turn.{Congestion, weighed_congestion, price_at, turn}
use Rattle.search.specs.Block.{block_in}
use Rattle.search.specs.Replies.{sink_list_sound}
use Rattle.search.specs.Priceable.{PriceReady}
use Rattle.search.proofs.BlockLaws.{kinds-few, capacities-long}
use Rattle.job.specs.Job.{Job, nodes, nets, net_sinks}
use Rattle.job.specs.Job.{job_in}
use Rattle.job.specs.Steps.{AllBelow, Stored}
use Rattle.job.specs.declared.JobTables.{JobTables}
use Rattle.negotiation.specs.Routable.{Routable}
use Rattle.negotiation.specs.Order.{turn_sinks, turn_weighting, turn_congestion}
use Rattle.negotiation.specs.OrderSteps.{TriedSinks}
use Rattle.negotiation.specs.Machine.{State, others_of, marks_of, congestion_for}
use Rattle.negotiation.specs.Resume.{turn_price, least_cost}
use Rattle.negotiation.specs.ResumeSteps.{RecordReady, named_cost, frame_follows, turn_passes, least_asked}
use Rattle.negotiation.specs.Steps.{TurnReady}
use Rattle.negotiation.specs.TakeSteps.{judged_as, tried_as, tried_here, weighting_here, congestion_here, goals_of, TryReady, tried_passes, tried_least, NetPlaces}
use Rattle.negotiation.specs.declared.order.Tried.{Tried}
use Rattle.negotiation.specs.declared.take_up.Stopped.{Stopped}
use Rattle.negotiation.specs.declared.take_up.Walk.{Walk}
use Rattle.negotiation.specs.declared.tariff.Tariff.{Tariff}
use Rattle.negotiation.proofs.FollowLaws.{whole_long}
use Rattle.negotiation.proofs.FrameLaws.{Frame, frame_of}
use Rattle.negotiation.proofs.OrderLaws.{tried-listed, weighting_timed}
use Rattle.negotiation.proofs.NetLaws.{StateReady, weighed-bounds}
use Rattle.negotiation.proofs.NextTriedLaws.{part_at}
use Rattle.negotiation.proofs.KeepProgress.{marks_length}
use Rattle.negotiation.proofs.KeepStart.{take-replicate}
use Rattle.negotiation.proofs.KeepTurn.{Lent}
use Rattle.negotiation.proofs.KeepTurn as keep

-- ---- goals

-- an array without goals, of which a beginning is lent
abbrev none : List ℕ
none = replicate nodes_most 0

module _ (n : ℕ) (few : n ≤ nodes_most) (part : List ℕ) where
  first_none : take n none ≡ replicate n 0
  first_none = take-replicate n nodes_most 0 few

  first_long : length (take n none) ≡ n
  first_long = ap length first_none ∙ length-replicate n 0

  first_zero : (v : ℕ) → v < n → get_or (take n none) v 0 ≡ 0
  first_zero v h = ap (λ (l : List ℕ). get_or l v 0) first_none ∙ get_or-replicate n v 0 0 h

  module _ {ys : List ℕ} (given : Stored 1 part (take n none) ys) where
    ys_long : length ys ≡ n
    ys_long = given.long ∙ first_long

    ys_are : ys ≡ goals_of n part
    ys_are =
        ext_get_or 0 ys (goals_of n part) (ys_long ∙ sym (length_up_to (λ v. choose (has v part) 1 0) n))
        (λ v l.
        let h : v < n = rw ys_long at l in
        given.at v ∙ ap (λ (k : ℕ). choose (has v part) 1 k) (first_zero v h) ∙ sym (get_or_up_to (λ v. choose (has v part) 1 0) n v 0 h))

    lent_fits : n ≤ length (ys ++ drop n none)
    lent_fits = let all = length-append ys (drop n none) in let long = ys_long in omega arith

    lent_are : take n (ys ++ drop n none) ≡ goals_of n part
    lent_are = subst (λ (k : ℕ). take k (ys ++ drop n none) ≡ ys) ys_long (take-append_seam ys (drop n none)) ∙ ys_are

module _ {tables : JobTables} {from to : ℕ} {t : Tariff} {history users marks work log : List ℕ} (ready : TryReady tables from to t history users marks work log)
    {next : Tried} (found : TriedSinks tables.terms.timed marks tables.sink.now tables.criticality.now from to next) where
  abbrev b : Block
  b = block_in tables.block

  abbrev sinks : List ℕ
  sinks = tables.sink.now

  abbrev tried : List ℕ
  tried = tried_here tables from to marks

  -- what prices it
  abbrev congestion : Congestion
  congestion = weighed_congestion next.weighting tables.delay.now t.factor history users

  abbrev part : List ℕ
  part = take (next.to - next.from) (drop next.from sinks)

  part-is : part ≡ tried
  part-is = part_slice next.from next.to sinks ∙ found.tried

  few : block.nodes b ≤ nodes_most
  few = kinds-few _ ready.tested.sound.kinds_sound_lem

  -- there is a goal mark for each node
  pub goals-enough : block.nodes b ≤ length none
  goals-enough = let long : length none ≡ nodes_most = length-replicate {A = ℕ} nodes_most 0 in let most = few in omega arith

  -- a sink of the net is a node
  listed_below : (x : ℕ) → has x (slice from to sinks) ≡ true → x < block.nodes b
  listed_below x h =
      let place = has_place x (slice from to sinks) h in
      let inside : place.0 < to - from = rw (length-slice from to sinks ready.choosable.within) at place.1 in
      let is : get_or (slice from to sinks) place.0 0 ≡ get_or sinks (from + place.0) 0 = part_at from to sinks place.0 (omega arith) in
      let low : get_or sinks (from + place.0) 0 < length marks = ready.choosable.nodes (from + place.0) (omega arith) (omega arith) in
      let long = ready.tested.marks_long in
      let same : x ≡ get_or sinks (from + place.0) 0 = sym place.2 ∙ is in
      omega arith

  -- what is asked of those that are tried
  pub goals-asked : AllBelow (length (take (block.nodes b) none)) part
  goals-asked k l =
      let x : ℕ = get_or part k 0 in
      let on : has x tried ≡ true = subst (λ (xs : List ℕ). has x xs ≡ true) part-is (has-at part k l) in
      let low = listed_below x (tried-listed _ (tree_has marks) (slice from to sinks) _ x on) in
      let long = first_long (block.nodes b) few part in
      omega arith

  -- and of their search
  pub least_asks : TurnReady b congestion marks work × (sink_list_sound (block.nodes b) part ≡ true)
  least_asks = (rw found.weighting-is ready.searchable, rw part-is ready.sinks_sound_lem)

  pub least_said :
      (audit : Bool) {least : ℕ}
      → least ≡ least_asked audit (turn b (price_at b congestion) marks part)
      → least ≡ tried_least tables from to t audit history users marks
  least_said audit e = rw (found.weighting-is, part-is) at e

  module _ {ys : List ℕ} (given : Stored 1 part (take (block.nodes b) none) ys) where
    pub goals_fit : block.nodes b ≤ length (ys ++ drop (block.nodes b) none)
    goals_fit = lent_fits (block.nodes b) few part given

    abbrev goals : List ℕ
    goals = take (block.nodes b) (ys ++ drop (block.nodes b) none)

    goals-on : goals ≡ goals_of (block.nodes b) tried
    goals-on = lent_are (block.nodes b) few part given ∙ ap (goals_of (block.nodes b)) part-is

    -- the record is tested with them
    pub tried-tested : RecordReady b congestion goals marks log t.words
    tried-tested = rw (goals-on, found.weighting-is) ready.tested

    -- as the call answers
    module _
        (net : ℕ)
        {count : Option ℕ}
        (answer :
        count
        ≡ choose (turn_passes b (price_at b congestion) goals marks t.iteration net (drop t.words log))
        (Some (6 + get_or (drop t.words log) 5 0)) None)
      where
        abbrev ws : List ℕ
        ws = drop t.words log

        abbrev passes : Bool
        passes = tried_passes tables from to t net history users marks ws

        count-is : count ≡ choose passes (Some (6 + get_or ws 5 0)) None
        count-is = rw (goals-on, found.weighting-is) at answer

        -- a record that follows has its cost's words
        pub judge_asks : (count ≡ None → ⊥) → t.words + 6 ≤ length log
        unfolding turn_passes
        judge_asks some =
            by_test passes
            (λ y.
            let f : Frame (block.nodes b) t.iteration net ws = frame_of (both_left (frame_follows (block.nodes b) t.iteration net ws) _ y) in
            let long = whole_long ws f.is_whole in
            let rest : length ws ≡ length log - t.words = length-drop t.words log in
            let within = ready.tested.within in
            omega arith)
            (λ n. absurd (some (count-is ∙ rw n)))

        pub tried_said :
            (walk : Walk) {end : Bool} {least : ℕ} {r : Result ℕ Stopped} → end ≡ both walk.audit (leb (length log) t.words) → end ≡ false
            → least ≡ tried_least tables from to t walk.audit history users marks → r ≡ judged_as t walk.over count (named_cost ws) least
            → r
            ≡ tried_as t walk (leb (length log) t.words) passes ws (tried_least tables from to t walk.audit history users marks)
        unfolding tried_as
        tried_said walk ends on least-is is = rw (← ends, on, ← least-is, ← count-is) is

-- ---- the job's turn

module _ {j : Job} {i from to : ℕ} (places : NetPlaces j i from to) where
  pub sinks-here : take (to - from) (drop from j.sinks) ≡ net_sinks j i
  unfolding net_sinks
  sinks-here = part_slice from to j.sinks ∙ rw (places.from_is, places.to_is)

-- tables 9 and 10 are read in a timed job
lent : (tables : JobTables) → Lent (job_in tables) tables.delay.now tables.criticality.now
lent tables = record { delays_are = λ w. rw w; criticalities_are = λ w. rw w }

module _ (tables : JobTables) {i from to : ℕ} (places : NetPlaces (job_in tables) i from to) where
  abbrev j : Job
  j = job_in tables

  weighs : (tree : List ℕ) → (turn_weighting j i tree).timed ≡ true → j.terms.timed ≡ true
  weighs tree w = sym (weighting_timed j i tree) ∙ w

  module _ (sound : Routable j) (hi : i < nets j) (tree : List ℕ) {marks : List ℕ} (marked : marks ≡ marks_of j tree) where
    pub tried-is : tried_here tables from to marks ≡ turn_sinks j i tree
    tried-is = rw (places.from_is, places.to_is) (keep.tried-is j sound i hi tree (lent tables) marked)

    weighting-is : weighting_here tables from to marks ≡ turn_weighting j i tree
    weighting-is = rw (places.from_is, places.to_is) (keep.weighting-is j sound i hi tree (lent tables) marked)

    module _ (s : State) (t : Tariff) (history users : List ℕ) (factor-is : t.factor ≡ s.factor) (history_is : history ≡ s.histories)
        (users-is : users ≡ up_to (others_of j s.trees i) (nodes j)) where
      pub price-is : price_at j.block (congestion_here tables from to marks t history users) ≡ turn_price j s i tree
      unfolding turn_congestion congestion_for
      price-is =
          rw (places.from_is, places.to_is)
          (keep.price-is j sound i hi tree (lent tables) marked t.factor history users ∙ rw (factor-is, history_is, users-is))

      -- so is what it costs at least
      pub least-is : (audit : Bool) → tried_least tables from to t audit history users marks ≡ choose audit (least_cost j s i tree) far
      unfolding least_asked least_cost
      least-is audit =
          rw (places.from_is, places.to_is, keep.same_turn j sound i hi tree (lent tables) marked s t history users factor-is history_is users-is)

      -- ---- and it can be tested

      module _ (state-ready : StateReady j s) where
        prices-ready :
            (v : ℕ) → v < nodes j → PriceReady j.block.kinds j.block.capacities (weighed_congestion (turn_weighting j i tree) tables.delay.now t.factor history users) v
        prices-ready v h =
            let others-long : length users ≡ nodes j = ap length users-is ∙ length_up_to (others_of j s.trees i) (nodes j) in
            let history_long : length history ≡ nodes j = ap length history_is ∙ state-ready.long in
            let capacities : length j.block.capacities ≡ nodes j = capacities-long _ _ sound.block-sound.capacities_sound_lem in
            let others : get_or users v 0 ≡ others_of j s.trees i v =
            ap (λ (l : List ℕ). get_or l v 0) users-is ∙ get_or_up_to (others_of j s.trees i) (nodes j) v 0 h in
            let grown : get_or history v 0 ≡ get_or s.histories v 0 = ap (λ (l : List ℕ). get_or l v 0) history_is in
            let bounds = weighed-bounds j sound s state-ready i hi tree v h in
            record {
              has_kind = h;
              has_capacity = omega arith;
              has_history = omega arith;
              has-others = omega arith;
              has_delay = λ w.
                  let same : length tables.delay.now ≡ nodes j = ap length ((lent tables).delays_are (weighs tree w)) ∙ (sound.timing (weighs tree w)).delays-long in
                  omega arith;
              bounds =
                  record {
                    five = rw (factor-is, others, grown) bounds.five;
                    history_bound_lem = rw grown bounds.history_bound_lem;
                    delay_most_lem = λ w. rw ((lent tables).delays_are (weighs tree w)) (bounds.delay_most_lem w);
                    criticality_most_lem = bounds.criticality_most_lem;
                  };
            }

        pub try_ready :
            {work log : List ℕ} → 8 * nodes j ≤ length work → t.words ≤ length log
            → TryReady tables from to t history users marks work log
        try_ready enough within =
            let long : length marks ≡ nodes j = ap length marked ∙ marks_length j tree in
            record {
              choosable = rw (places.from_is, places.to_is) (keep.tried-ready j sound i hi (lent tables) marks long);
              tested =
                  rw weighting-is
                  (record {
                    sound = sound.block-sound;
                    prices = prices-ready;
                    nodes-few = λ w. (sound.timing (weighs tree w)).nodes-few;
                    marks_long = long;
                    goals-long = length_up_to _ (nodes j);
                    within = within;
                  });
              searchable =
                  rw (places.from_is, places.to_is)
                  (keep.turn-ready j sound i hi tree (lent tables) marked s state-ready t history users factor-is history_is users-is enough);
              sinks_sound_lem = subst (λ (l : List ℕ). sink_list_sound (nodes j) l ≡ true) (sym tried-is) (keep.turn-searched j sound i hi tree);
            }
