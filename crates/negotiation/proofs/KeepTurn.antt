-- A turn of a net that is due.
-- Assumes nothing.
use mathlib.Core.Bool.{Bool, true, false}
use mathlib.Core.List.{List, [], ◌∷◌, ◌++◌, append_assoc}
use mathlib.Core.Logic.{⊎_elim, inr}
use mathlib.Core.Path.{◌≡◌, sym, ◌∙◌, ap, subst}
use Prim.Native.Nat.{ℕ, suc, ◌+◌, ◌-◌, ◌*◌, ◌^◌, ◌≤◌, ◌<◌}
use native.Mathlib.Nat.{le_trans}
use native.Mathlib.Omega.{arith}
use lib.Dec.{leb, ltb}
use lib.ListN.{length, get_or, get_or-eq_default}
use lib.Seq.{slice, length-slice, append_snoc}
use borrow.Author.Tests.{le-leb, eq-eqb}
use Rattle.price.specs.Bounds.{limit_most, delay_most, criticality_most}
use Rattle.price.specs.Lists.{has, up_to}
use Rattle.price.specs.Test.{choose}
use Rattle.price.specs.Timed.{weighed, history_bound}
use Rattle.price.specs.declared.Weighting.{Weighting}
use Rattle.price.proofs.TestLaws.{by_test, le_or_lt, both_true, one_most}
use Rattle.price.proofs.ListLaws.{every-all, length_up_to, get_or_up_to}
use Rattle.search.specs.Block.{Block}
use Rattle.search.specs.Distance.{tree_has}
use Rattle.search.specs.Tables.{delays_sound}
use Rattle.search.specs.Replies.{sinks_most, sink_list_sound}
use Rattle.search.specs.Priceable.{Weighable}
use Rattle.search.specs.Turn.{Congestion, weighed_congestion, Turn, joins, stuck, turn, congested_at, price_at}
use Rattle.search.proofs.BlockLaws.{kinds_some}
use Rattle.search.proofs.PriceableLaws.{sinks-few}
use Rattle.job.specs.declared.Terms.{Terms}
use Rattle.job.specs.Job.{Job, nodes, nets, job_of, sinks_between, net_sinks, net_criticalities}
use Rattle.negotiation.specs.Order.{place_due, sink_due, sinks_tried, weighting_due, turn_sinks, turn_weighting, turn_congestion}
use Rattle.negotiation.specs.OrderSteps.{SinksReady}
use Rattle.negotiation.specs.Routable.{Routable}
use Rattle.negotiation.specs.Records.{Record, record_of}
use Rattle.negotiation.specs.Machine.{State, Progress, others_of, marks_of, congestion_for, turn_of, turns_of, tree_from}
use Rattle.negotiation.specs.Outcome.{iterations_left}
use Rattle.negotiation.specs.Steps.{SameFrom, TurnReady, turn_count, CanTurn, Skipped, Overflows, TurnLogged, TurnDone}
use Rattle.negotiation.specs.Kept.{Tallied}
use Rattle.negotiation.specs.declared.tariff.Tariff.{Tariff}
use Rattle.negotiation.specs.declared.turns.NoRoom.{NoRoom}
use Rattle.std.specs.Prelude.{Option, Some, None, Result, Ok, Err}
use Rattle.std.specs.Option.{unwrap_or}
use Rattle.negotiation.proofs.OrderLaws.{untimed-sinks, timed_sinks, weighting_timed, criticality_low, turn-nodes}
use Rattle.negotiation.proofs.NextTriedLaws.{part_at, tried_alike, weighting_alike}
use Rattle.negotiation.proofs.StateLaws.{nets-factor}
use Rattle.negotiation.proofs.RoutableLaws.{sinks_listed, sinks-searched}
use Rattle.negotiation.proofs.RecordLaws.{records-few}
use Rattle.negotiation.proofs.NetLaws.{StateReady, state-ready, weighed-bounds, tree-more}
use Rattle.negotiation.proofs.KeepLaws.{start_of, reached, Under, AtTurn, AtIdle, AtTurns}
use Rattle.negotiation.proofs.KeepProgress.{marks_length, others_below, tree-long, opened_more}
use Rattle.negotiation.proofs.TurnStepLaws.{node_sound_lem, mark_at, turns-stuck, turns_more, log-length, tallied-more}

-- ---- the turn that the code makes is the machine's

-- tables 9 and 10 as they are lent are those of a timed job
pub record Lent (j : Job) (delays cs : List ℕ) : Type 0 where
  pub delays_are : j.terms.timed ≡ true → delays ≡ j.delays
  pub criticalities_are : j.terms.timed ≡ true → cs ≡ j.criticalities

-- what a turn of net i tries, and how it weighs delay, by these marks and criticalities; the turn, and how many nodes it expands
module _ (j : Job) (i : ℕ) (marks cs : List ℕ) where
  abbrev pub tried_by : List ℕ
  tried_by = sinks_tried j.terms.timed (tree_has marks) (sinks_between j.first_sinks j.sinks i) (sinks_between j.first_sinks cs i)

  abbrev pub weighting_by : Weighting
  weighting_by = weighting_due j.terms.timed (tree_has marks) (sinks_between j.first_sinks j.sinks i) (sinks_between j.first_sinks cs i)

  abbrev pub prices_by : List ℕ → Tariff → (history users : List ℕ) → Congestion
  prices_by delays t history users = weighed_congestion weighting_by delays t.factor history users

  abbrev pub turn_by : List ℕ → Tariff → (history users : List ℕ) → Turn
  turn_by delays t history users = turn j.block (price_at j.block (prices_by delays t history users)) marks tried_by

  abbrev pub count_by : List ℕ → Tariff → (history users : List ℕ) → ℕ
  count_by delays t history users = turn_count t.aimed j.block (prices_by delays t history users) marks tried_by

-- where delay isn't weighed it doesn't matter
price-untimed :
    (b : Block) (w : Weighting) (old new : List ℕ) (factor : ℕ) (histories others : List ℕ) → w.timed ≡ false
    → price_at b (weighed_congestion w old factor histories others) ≡ price_at b (weighed_congestion w new factor histories others)
unfolding price_at congested_at weighed
price-untimed b w old new factor histories others e = rw e

-- a sink due is one
due-short : (joined : ℕ → Bool) (sinks cs : List ℕ) → length (sink_due joined sinks cs) ≤ 1
unfolding sink_due
due-short joined sinks cs =
    by_test (ltb (place_due joined sinks cs) (length sinks))
    (λ q. rw q (omega arith))
    (λ q. rw q (omega arith))

module _ (j : Job) (sound : Routable j) (i : ℕ) (hi : i < nets j) (tree : List ℕ) where
  -- the search takes the sinks that a turn tries
  pub turn-searched : sink_list_sound (nodes j) (turn_sinks j i tree) ≡ true
  turn-searched =
      let few : length (turn_sinks j i tree) ≤ sinks_most =
      by_test j.terms.timed
      (λ w.
      rw (timed_sinks j i tree w) (le_trans (due-short (λ s. has s tree) (net_sinks j i) (net_criticalities j i)) (omega arith)))
      (λ w. rw (untimed-sinks j i tree w) (sinks-few (nodes j) (net_sinks j i) (sinks-searched j sound i hi))) in
      sinks_listed (nodes j) (turn_sinks j i tree) few (turn-nodes j sound i hi tree)

  module _ {delays cs : List ℕ} (lent : Lent j delays cs) {marks : List ℕ} (marked : marks ≡ marks_of j tree) where
    -- a sink's mark says whether the tree has it
    marks_agree : (p : ℕ) → tree_has marks (get_or (net_sinks j i) p 0) ≡ has (get_or (net_sinks j i) p 0) tree
    unfolding tree_has
    marks_agree p =
        let v : ℕ = get_or (net_sinks j i) p 0 in
        let some : 1 ≤ nodes j = kinds_some j.block.kinds sound.block-sound.kinds_sound_lem in
        let node : v < nodes j =
        ⊎_elim
        (λ (l : length (net_sinks j i) ≤ p). rw (get_or-eq_default (net_sinks j i) 0 l) (omega arith))
        (λ (l : p < length (net_sinks j i)). sound.sink-node i hi p l)
        (le_or_lt (length (net_sinks j i)) p) in
        let is : get_or marks v 0 ≡ choose (has v tree) 1 0 = ap (λ (l : List ℕ). get_or l v 0) marked ∙ mark_at j tree v node in
        rw is (by_test (has v tree) (λ q. rw q) (λ q. rw q))

    pub tried-is : tried_by j i marks cs ≡ turn_sinks j i tree
    unfolding turn_sinks net_sinks net_criticalities
    tried-is =
        let sinks : List ℕ = sinks_between j.first_sinks j.sinks i in
        by_test j.terms.timed
        (λ w.
        ap (λ (l : List ℕ). sinks_tried j.terms.timed (tree_has marks) sinks (sinks_between j.first_sinks l i)) (lent.criticalities_are w)
        ∙ tried_alike (tree_has marks) (λ s. has s tree) sinks marks_agree j.terms.timed (sinks_between j.first_sinks j.criticalities i))
        (λ w. rw w)

    pub weighting-is : weighting_by j i marks cs ≡ turn_weighting j i tree
    unfolding turn_weighting net_sinks net_criticalities
    weighting-is =
        let sinks : List ℕ = sinks_between j.first_sinks j.sinks i in
        by_test j.terms.timed
        (λ w.
        ap (λ (l : List ℕ). weighting_due j.terms.timed (tree_has marks) sinks (sinks_between j.first_sinks l i)) (lent.criticalities_are w)
        ∙ weighting_alike (tree_has marks) (λ s. has s tree) sinks marks_agree j.terms.timed (sinks_between j.first_sinks j.criticalities i))
        (λ w. rw w)

    -- the weighting is timed where the job is
    timed_is : (weighting_by j i marks cs).timed ≡ j.terms.timed
    timed_is = ap (λ (w : Weighting). w.timed) weighting-is ∙ weighting_timed j i tree

    -- so are the delays weighed
    pub price-is :
        (factor : ℕ) (histories others : List ℕ)
        → price_at j.block (weighed_congestion (weighting_by j i marks cs) delays factor histories others)
        ≡ price_at j.block (weighed_congestion (turn_weighting j i tree) j.delays factor histories others)
    price-is factor histories others =
        by_test j.terms.timed
        (λ w.
        ap (λ (l : List ℕ). price_at j.block (weighed_congestion (weighting_by j i marks cs) l factor histories others)) (lent.delays_are w))
        (λ w.
        price-untimed j.block (weighting_by j i marks cs) delays j.delays factor histories others (timed_is ∙ w))
        ∙ ap (λ (x : Weighting). price_at j.block (weighed_congestion x j.delays factor histories others)) weighting-is

    -- a turn by the same numbers
    pub same_turn :
        (s : State) (t : Tariff) (histories others : List ℕ) → t.factor ≡ s.factor → histories ≡ s.histories → others ≡ up_to (others_of j s.trees i) (nodes j)
        → turn_by j i marks cs delays t histories others ≡ turn_of j (congestion_for j s i) i tree
    unfolding turn_of congestion_for turn_congestion
    same_turn s t histories others p q r = rw (price-is t.factor histories others, tried-is, marked, p, q, r)

    -- and as many nodes expanded
    same_count :
        (s : State) (t : Tariff) (histories others : List ℕ) → t.factor ≡ s.factor → histories ≡ s.histories → others ≡ up_to (others_of j s.trees i) (nodes j)
        → count_by j i marks cs delays t histories others ≡ turn_count t.aimed j.block (turn_congestion j (congestion_for j s i) i tree) (marks_of j tree) (turn_sinks j i tree)
    unfolding congestion_for turn_congestion
    same_count s t histories others p q r = rw (price-is t.factor histories others, weighting-is, tried-is, marked, p, q, r)

    -- the search can work with its delays and its criticality
    weighable : (factor : ℕ) (histories others : List ℕ) → j.terms.timed ≡ true → Weighable (nodes j) (weighed_congestion (weighting_by j i marks cs) delays factor histories others)
    unfolding delays_sound
    weighable factor histories others w =
        let timing = sound.timing w in
        record {
          few = timing.nodes-few;
          delays_sound_lem =
              rw (lent.delays_are w)
              (both_true (eq-eqb (length j.delays) (nodes j) timing.delays-long)
              (every-all (λ d. leb d delay_most) j.delays (λ v l. le-leb (get_or j.delays v 0) delay_most (timing.delay_most_lem v (rw timing.delays-long at l)))));
          criticality_most_lem = subst (λ (x : Weighting). x.criticality ≤ criticality_most) (sym weighting-is) (criticality_low j sound i hi w tree);
        }

    -- nothing is refused
    pub turn-ready :
        (s : State) → StateReady j s → (t : Tariff) (history users : List ℕ) → t.factor ≡ s.factor → history ≡ s.histories
        → users ≡ up_to (others_of j s.trees i) (nodes j) → {work : List ℕ} → 8 * nodes j ≤ length work
        → TurnReady j.block (prices_by j i marks cs delays t history users) marks work
    turn-ready s state t history users factor-is history_is users-is enough =
        let history_long : length history ≡ nodes j = ap length history_is ∙ state.long in
        let users-long : length users ≡ nodes j = ap length users-is ∙ length_up_to (others_of j s.trees i) (nodes j) in
        let marks_long : length marks ≡ nodes j = ap length marked ∙ marks_length j tree in
        record {
          sound = sound.block-sound;
          enough = enough;
          numbers =
              λ v h.
              let is : get_or history v 0 ≡ get_or s.histories v 0 = ap (λ (l : List ℕ). get_or l v 0) history_is in
              let least = state.history_least v h in
              let bound : get_or s.histories v 0 ≤ history_bound (weighting_by j i marks cs) =
              subst (λ (x : Weighting). get_or s.histories v 0 ≤ history_bound x) (sym weighting-is) (weighed-bounds j sound s state i hi tree v h).history_bound_lem in
              let most : get_or history v 0 ≤ history_bound (weighting_by j i marks cs) = rw is bound in
              let others : get_or users v 0 ≡ others_of j s.trees i v =
              ap (λ (l : List ℕ). get_or l v 0) users-is ∙ get_or_up_to (others_of j s.trees i) (nodes j) v 0 h in
              let few = others_below j sound s.trees i v hi in
              let mark : get_or marks v 0 ≡ choose (has v tree) 1 0 = ap (λ (l : List ℕ). get_or l v 0) marked ∙ mark_at j tree v h in
              let one = one_most (has v tree) in
              node_sound_lem (prices_by j i marks cs delays t history users) marks v
              (omega arith) (omega arith) most (omega arith) (omega arith) (omega arith) (omega arith);
          factor_most_lem = rw factor-is state.factor_most_lem;
          weighable = λ w. weighable t.factor history users (sym timed_is ∙ w);
        }

-- work memory past what a turn uses stays
pub same_twice : {n : ℕ} {work₀ work work' : List ℕ} → SameFrom n work₀ work → SameFrom n work work' → SameFrom n work₀ work'
same_twice a b = record { long = b.long ∙ a.long; high = λ k h. b.high k h ∙ a.high k h }

-- the state keeps its bounds
pub ready-state : (j : Job) → Routable j → {p : Progress} {m : ℕ} {t : Tariff} (i : ℕ) → Under j p m t → StateReady j (reached j p m i).state
unfolding iterations_left
ready-state j sound {p} {m} i under =
    let few : j.terms.limit ≤ limit_most = sound.limit_few in
    let below : m < j.terms.limit + 1 - p.state.iteration = under.below in
    let made = under.can.iteration-is in
    state-ready j sound under.can.grown m i (omega arith)

module _ (j : Job) (sound : Routable j) {p : Progress} {work₀ log₀ : List ℕ} (enough : 8 * nodes j ≤ length work₀) {m i left : ℕ} {t : Tariff}
    {history users marks from to dues work log : List ℕ} {first : ℕ} (at : AtTurn j p work₀ log₀ m i left t history users marks from to dues work log first) where
  abbrev here : State
  here = (reached j p m i).state

  abbrev tree : List ℕ
  tree = tree_from j i at.made

  state : StateReady j here
  state = ready-state j sound i at.under

  factor-same : t.factor ≡ here.factor
  factor-same = at.under.factor-is ∙ sym (nets-factor j (start_of j p m) i)

  words-within : t.words ≤ length log
  words-within =
      let long : length log ≡ length log₀ = ap length at.tallied.log_is ∙ log-length ((reached j p m i).records ++ at.made) log₀ at.tallied.fits in
      let is = at.tallied.words-is in
      let fits = at.tallied.fits in
      omega arith

  module _ {delays cs : List ℕ} (lent : Lent j delays cs) where
    -- nothing is refused
    pub keep_can : t.expanded + nodes j < 2 ^ 64 → CanTurn j.block (prices_by j i marks cs delays t history users) t (tried_by j i marks cs) marks work log
    keep_can few-expanded =
        let marked = at.opened.marks_is in
        record {
          ready =
              turn-ready j sound i at.net tree lent marked here state t history users factor-same at.opened.history_is at.opened.users-is
              (let same = at.work-same.long in omega arith);
          marks_long = tree-long j at.opened;
          sinks_sound_lem =
              subst (λ (l : List ℕ). sink_list_sound (nodes j) l ≡ true) (sym (tried-is j sound i at.net tree lent marked)) (turn-searched j sound i at.net tree);
          within = words-within;
          few-turns =
              let few = records-few ((reached j p m i).records ++ at.made) in
              let words_are = at.tallied.words-is in
              let turns_are = at.tallied.turns-is in
              omega arith;
          few-expanded = few-expanded;
        }

    -- the turn that the search makes
    abbrev searched : Turn
    searched = turn_by j i marks cs delays t history users

    -- is the machine's
    pub keep_turn : searched ≡ turn_of j (congestion_for j here i) i tree
    keep_turn = same_turn j sound i at.net tree lent at.opened.marks_is here t history users factor-same at.opened.history_is at.opened.users-is

    -- as is how many nodes it expands
    pub keep_count : count_by j i marks cs delays t history users ≡ turn_count t.aimed j.block (turn_congestion j (congestion_for j here i) i tree) (marks_of j tree) (turn_sinks j i tree)
    keep_count = same_count j sound i at.net tree lent at.opened.marks_is here t history users factor-same at.opened.history_is at.opened.users-is

    -- for its sinks
    pub keep_tried : tried_by j i marks cs ≡ turn_sinks j i tree
    keep_tried = tried-is j sound i at.net tree lent at.opened.marks_is

-- one turn fewer is left
module _ (j : Job) (sound : Routable j) {p : Progress} {work₀ log₀ : List ℕ} (enough : 8 * nodes j ≤ length work₀) {m i left : ℕ} {t : Tariff}
    {history users marks from to dues work log : List ℕ} {first : ℕ} (at : AtTurn j p work₀ log₀ m i (suc left) t history users marks from to dues work log first)
    {delays cs : List ℕ} (lent : Lent j delays cs) (work' log' marks' : List ℕ) (kept : SameFrom (8 * nodes j) work work') where
  abbrev now : ℕ
  now = p.state.iteration + m

  abbrev congestion : Congestion
  congestion = congestion_for j (reached j p m i).state i

  -- no sink is left to be joined
  pub keep_skipped :
      Skipped (searched j sound enough at lent) log marks log' marks'
      → AtTurn j p work₀ log₀ m i left t history users marks' from to dues work' log' first
  keep_skipped s =
      let made : List Record = at.made in
      let none : turn_of j congestion i (tree_from j i made) ≡ stuck = sym (keep_turn j sound enough at lent) ∙ s.is_stuck in
      record {
        under = at.under;
        net = at.net;
        taken = at.taken;
        made = made;
        rest_is =
            at.rest_is
            ∙ ap (λ (l : List Record). made ++ l)
            (turns-stuck j now congestion i (suc left) (tree_from j i made) none ∙ sym (turns-stuck j now congestion i left (tree_from j i made) none));
        tallied = rw s.log-same at.tallied;
        first_is = at.first_is;
        opened = rw s.marks_same at.opened;
        due-is = at.due-is;
        work-same = same_twice at.work-same kept;
      }

  -- the turn is logged: its record stands behind those so far
  pub logged-tallied :
      (t' : Tariff) (l : TurnLogged (searched j sound enough at lent) (count_by j i marks cs delays t history users) t i (tried_by j i marks cs) log marks t' log' marks')
      → Tallied (((reached j p m i).records ++ at.made) ++ (record_of now i (get_or (turn_sinks j i (tree_from j i at.made)) l.place 0) l.cost l.path ∷ [])) log₀ t' log'
  logged-tallied t' l =
      rw l.tariff_is
      (tallied-more ((reached j p m i).records ++ at.made) log₀ t log _ log' (count_by j i marks cs delays t history users) at.tallied l.room
      (rw (at.under.iteration-is, keep_tried j sound enough at lent) at l.log_is))

  pub keep_logged :
      (t' : Tariff) → TurnLogged (searched j sound enough at lent) (count_by j i marks cs delays t history users) t i (tried_by j i marks cs) log marks t' log' marks'
      → AtTurn j p work₀ log₀ m i left t' history users marks' from to dues work' log' first
  keep_logged t' l =
      let made : List Record = at.made in
      let tree : List ℕ = tree_from j i made in
      let r : Record = record_of now i (get_or (turn_sinks j i tree) l.place 0) l.cost l.path in
      let is : turn_of j congestion i tree ≡ joins l.place l.cost l.path = sym (keep_turn j sound enough at lent) ∙ l.is-turn in
      record {
        under =
            rw l.tariff_is
            (record {
              can = at.under.can;
              below = at.under.below;
              unsettled = at.under.unsettled;
              iteration-is = at.under.iteration-is;
              factor-is = at.under.factor-is;
            });
        net = at.net;
        taken = at.taken;
        made = made ++ (r ∷ []);
        rest_is =
            at.rest_is
            ∙ ap (λ (rs : List Record). made ++ rs) (turns_more j now congestion i left tree l.place l.cost l.path is)
            ∙ rw (tree-more j i made r) (sym (append_snoc made r (turns_of j now congestion i left (tree_from j i (made ++ (r ∷ []))))));
        tallied = rw (← append_assoc (reached j p m i).records made (r ∷ [])) (logged-tallied t' l);
        first_is = at.first_is;
        opened = opened_more j at.opened r l.marks_set;
        due-is = at.due-is;
        work-same = same_twice at.work-same kept;
      }

-- ---- the turn as the call asks for it and gives it

-- the tables that are lent as 9 and 10 are the job's
pub lent_tables : (kinds capacities first_edges edge_targets sources first_sinks sinks delays cs : List ℕ) (terms : Terms) → Lent (job_of kinds capacities first_edges edge_targets sources first_sinks sinks delays cs terms) delays cs
lent_tables kinds capacities first_edges edge_targets sources first_sinks sinks delays cs terms = record { delays_are = λ w. rw w; criticalities_are = λ w. rw w }

-- the net's part of tables 7 and 10 can be read
pub tried-ready :
    (j : Job) → Routable j → (i : ℕ) → i < nets j → {delays cs : List ℕ} → Lent j delays cs → (marks : List ℕ) → length marks ≡ nodes j
    → SinksReady j.terms.timed j.sinks cs (get_or j.first_sinks i 0) (get_or j.first_sinks (i + 1) 0) marks
unfolding net_sinks
tried-ready j sound i hi lent marks long =
    let begins : ℕ = get_or j.first_sinks i 0 in
    let ends : ℕ = get_or j.first_sinks (i + 1) 0 in
    let within : ends ≤ length j.sinks = sound.sinks-end (i + 1) (omega arith) in
    let part : length (slice begins ends j.sinks) ≡ ends - begins = length-slice begins ends j.sinks within in
    record {
      order = sound.sinks-order i hi;
      within = within;
      nodes =
          λ q least most.
          let k : ℕ = q - begins in
          let is : begins + k ≡ q = omega arith in
          let node : get_or (slice begins ends j.sinks) k 0 < nodes j = sound.sink-node i hi k (omega arith) in
          let there : get_or (slice begins ends j.sinks) k 0 ≡ get_or j.sinks q 0 = part_at begins ends j.sinks k (omega arith) ∙ ap (λ (x : ℕ). get_or j.sinks x 0) is in
          rw (long, ← there) node;
      criticalities-long = λ w. ap length (lent.criticalities_are w) ∙ (sound.timing w).criticalities-long;
      criticality_most_lem = λ w q l. rw (lent.criticalities_are w) ((sound.timing w).criticality_most_lem q l);
    }

module _ (j : Job) (sound : Routable j) {p : Progress} {work₀ log₀ : List ℕ} (enough : 8 * nodes j ≤ length work₀) {m i left : ℕ} {t : Tariff}
    {history users marks from to dues work log : List ℕ} {first : ℕ} (head : AtTurns j p work₀ log₀ m i left t history users marks from to dues work log first)
    (some : 0 < left) {delays cs : List ℕ} (lent : Lent j delays cs) where
  -- a net with turns left is due
  pub at_more : AtTurn j p work₀ log₀ m i (suc (left - 1)) t history users marks from to dues work log first
  at_more =
      ⊎_elim
      (λ (idle : AtIdle j p work₀ log₀ m i left t history users marks from to dues work log). absurd (let none = idle.none_left in omega arith))
      (λ at.
      let e : left ≡ suc (left - 1) = omega arith in
      subst (λ (k : ℕ). AtTurn j p work₀ log₀ m i k t history users marks from to dues work log first) e at)
      head

  -- what the call asks: the net's part of tables 7 and 10, and that nothing is refused
  pub call_tried : SinksReady j.terms.timed j.sinks cs (get_or j.first_sinks i 0) (get_or j.first_sinks (i + 1) 0) marks
  call_tried = tried-ready j sound i at_more.net lent marks (tree-long j at_more.opened)

  pub call_turn : t.expanded + nodes j < 2 ^ 64 → CanTurn j.block (prices_by j i marks cs delays t history users) t (tried_by j i marks cs) marks work log
  call_turn = keep_can j sound enough at_more lent

  -- what the attempt at a turn did, by its cases
  module _ (work' log' marks' : List ℕ) (kept : SameFrom (8 * nodes j) work work') (made : Result (Option Tariff) NoRoom)
      (done : TurnDone made (turn_by j i marks cs delays t history users) (count_by j i marks cs delays t history users) t i (tried_by j i marks cs) log marks log' marks') where
    case : (r : Result (Option Tariff) NoRoom) → made ≡ r → TurnDone r (turn_by j i marks cs delays t history users) (count_by j i marks cs delays t history users) t i (tried_by j i marks cs) log marks log' marks'
    case r e = subst (λ (x : Result (Option Tariff) NoRoom). TurnDone x (turn_by j i marks cs delays t history users) (count_by j i marks cs delays t history users) t i (tried_by j i marks cs) log marks log' marks') e done

    pub after_nothing : made ≡ Ok None → (t'' : Tariff) → t'' ≡ t → AtTurns j p work₀ log₀ m i (left - 1) t'' history users marks' from to dues work' log' first
    after_nothing e t'' q =
        subst (λ (x : Tariff). AtTurns j p work₀ log₀ m i (left - 1) x history users marks' from to dues work' log' first) (sym q)
        (inr (keep_skipped j sound enough at_more lent work' log' marks' kept (case (Ok None) e)))

    pub after-logged : (t' : Tariff) → made ≡ Ok (Some t') → (t'' : Tariff) → t'' ≡ t' → AtTurns j p work₀ log₀ m i (left - 1) t'' history users marks' from to dues work' log' first
    after-logged t' e t'' q =
        subst (λ (x : Tariff). AtTurns j p work₀ log₀ m i (left - 1) x history users marks' from to dues work' log' first) (sym q)
        (inr (keep_logged j sound enough at_more lent work' log' marks' kept t' (case (Ok (Some t')) e)))

    pub after_turn : (o : Option Tariff) → made ≡ Ok o → (t'' : Tariff) → t'' ≡ unwrap_or o t → AtTurns j p work₀ log₀ m i (left - 1) t'' history users marks' from to dues work' log' first
    after_turn None e t'' q = after_nothing e t'' q
    after_turn (Some t') e t'' q = after-logged t' e t'' q

    pub overflows : {full : NoRoom} → made ≡ Err full → Overflows (turn_of j (congestion_for j (reached j p m i).state i) i (tree_from j i at_more.made)) t log log'
    overflows {full} e = subst (λ (u : Turn). Overflows u t log log') (keep_turn j sound enough at_more lent) (case (Err full) e)
