-- A job with other kinds of the same base costs: distances, turns, runs and replays are the same. Kinds count elsewhere by their number alone, which is the node count.
-- Assumes nothing.
use mathlib.Core.Bool.{Bool, true, false}
use mathlib.Core.List.{List, [], ◌∷◌, ◌++◌}
use mathlib.Core.Logic.{⊎_elim}
use mathlib.Core.Path.{◌≡◌, refl, ◌∙◌, ap, fun_ext}
use Prim.Native.Nat.{ℕ, zero, suc, ◌+◌, ◌-◌, ◌≤◌}
use lib.Dec.{ltb}
use lib.ListN.{length, get_or, take, get_or-eq_default}
use Rattle.price.specs.Test.{choose}
use Rattle.price.specs.Lists.{up_to, first_below}
use Rattle.price.specs.Prices.{base_cost, price_of}
use Rattle.price.proofs.TestLaws.{le_or_lt}
use Rattle.search.specs.Block.{Block, block_of, row, has_edge}
use Rattle.search.specs.Distance.{far, tree_distances, nearer, round, rounds, distances}
use Rattle.search.specs.Turn.{Congestion, congested_at, price_at, Turn, joins, stuck, before, back, path_to, open_distances, join_at, turn}
use Rattle.job.specs.Job.{Job, nodes, nets, source, net_sinks, net_criticalities}
use Rattle.negotiation.specs.Records.{Record}
use Rattle.negotiation.specs.Order.{turn_sinks, turn_weighting, turn_congestion}
use Rattle.negotiation.specs.Machine.{State, Progress, others_of, users_of, marks_of, congestion_for, turn_of, log_turn, turns_of, net_records, tree_from, has_sinks, all_due}
use Rattle.negotiation.specs.Machine.{crowded, due, route_if, after_nets, iterate, overfull, over_count, move_on, first_state, state_after, records_after, settles_at}
use Rattle.negotiation.specs.Outcome.{RouteReply, has_path, unreachable_net, unreachable_place, iterations_made, iterations_left, made_from, first_progress, all_records, logged_records, cut_iteration, end_numbers, continued, reached_reply}
use Rattle.negotiation.specs.Resume.{path_follows, record_path, record_in, turn_price, turn_follows, all_joined, least_cost, Replay, on, off, ends, not_cheapest, if_on, since_start, after, replay_turns, replay_nets, replay_next, replay_from, replay_by, replay, resumed_reply}
use Rattle.negotiation.specs.OlderJobs.{SameCosts, with_kinds}

-- ---- prices

module _ (kinds others : List ℕ) (same : SameCosts kinds others) where
  -- what is no node counts as kind 0 in both
  cost-same : (v : ℕ) → base_cost (get_or others v 0) ≡ base_cost (get_or kinds v 0)
  cost-same v =
      ⊎_elim
      (λ (h : length kinds ≤ v).
      let past : length others ≤ v = rw same.as_many h in
      rw (get_or-eq_default kinds 0 h, get_or-eq_default others 0 past))
      (same.same v)
      (le_or_lt (length kinds) v)

  prices-same : (capacities first_edges edge_targets : List ℕ) (c : Congestion) → price_at (block_of others capacities first_edges edge_targets) c ≡ price_at (block_of kinds capacities first_edges edge_targets) c
  unfolding price_at congested_at price_of
  prices-same capacities first_edges edge_targets c = fun_ext (λ v. rw (cost-same v))

-- ---- a turn at some prices

module _ (b : Block) (ks : List ℕ) (len : length ks ≡ length b.kinds) where
  abbrev other : Block
  other = block_of ks b.capacities b.first_edges b.edge_targets

  module _ (price : ℕ → ℕ) where
    nearer-same : (ds : List ℕ) (v : ℕ) → nearer other price ds v ≡ nearer b price ds v
    unfolding nearer has_edge row
    nearer-same ds v = rw len

    round_same : (ds : List ℕ) → round other price ds ≡ round b price ds
    unfolding round
    round_same ds = rw len (ap (λ (f : ℕ → ℕ). up_to f (length b.kinds)) (fun_ext (nearer-same ds)))

    rounds-same : (ds : List ℕ) (k : ℕ) → rounds other price ds k ≡ rounds b price ds k
    unfolding rounds
    rounds-same ds zero = refl
    rounds-same ds (suc k) = rw (rounds-same ds k) (round_same (rounds b price ds k))

    tree-same : (marks : List ℕ) → tree_distances other marks ≡ tree_distances b marks
    unfolding tree_distances
    tree-same marks = rw len

    pub distances-same : (marks : List ℕ) → distances other price marks ≡ distances b price marks
    unfolding distances
    distances-same marks = rw (len, tree-same marks) (rounds-same (tree_distances b marks) (length b.kinds))

    before_same : (ds : List ℕ) (v : ℕ) → before other price ds v ≡ before b price ds v
    unfolding before has_edge row
    before_same ds v = rw len

    back-same : (marks ds : List ℕ) (k v : ℕ) (path : List ℕ) → back other price marks ds k v path ≡ back b price marks ds k v path
    unfolding back
    back-same marks ds zero v path = refl
    back-same marks ds (suc k) v path = rw (before_same ds v, back-same marks ds k (before b price ds v) (v ∷ path))

    path-same : (marks : List ℕ) (sink : ℕ) → path_to other price marks sink ≡ path_to b price marks sink
    unfolding path_to
    path-same marks sink = rw (len, distances-same marks) (back-same marks (distances b price marks) (length b.kinds) sink [])

    open_same : (marks sinks : List ℕ) → open_distances other price marks sinks ≡ open_distances b price marks sinks
    unfolding open_distances
    open_same marks sinks = rw (distances-same marks)

    join_same : (marks sinks : List ℕ) (place : ℕ) → join_at other price marks sinks place ≡ join_at b price marks sinks place
    unfolding join_at
    join_same marks sinks place = rw (path-same marks (get_or sinks place 0))

    pub turn-same : (marks sinks : List ℕ) → turn other price marks sinks ≡ turn b price marks sinks
    unfolding turn
    turn-same marks sinks = rw (open_same marks sinks, join_same marks sinks)

-- ---- what asks how many kinds there are, and no more

module _ (j : Job) (ks : List ℕ) (len : length ks ≡ nodes j) where
  abbrev other_job : Job
  other_job = with_kinds j ks

  marks_same : (tree : List ℕ) → marks_of other_job tree ≡ marks_of j tree
  unfolding marks_of
  marks_same tree = rw len

  congestion_same : (s : State) (i : ℕ) → congestion_for other_job s i ≡ congestion_for j s i
  unfolding congestion_for others_of
  congestion_same s i = rw len

  pub first_same : first_state other_job ≡ first_state j
  unfolding first_state
  first_same = rw len

  pub due-same : (s : State) (i : ℕ) → due other_job s i ≡ due j s i
  unfolding due has_sinks net_sinks all_due crowded overfull users_of
  due-same s i = refl

  pub move_same : (s : State) → move_on other_job s ≡ move_on j s
  unfolding move_on users_of
  move_same s = rw len

  pub over-same : (trees : List (List ℕ)) → over_count other_job trees ≡ over_count j trees
  unfolding over_count overfull users_of
  over-same trees = rw len

-- ---- runs

module _ (j : Job) (ks : List ℕ) (same : SameCosts j.block.kinds ks) where
  abbrev len : length ks ≡ nodes j
  len = same.as_many

  abbrev k : Job
  k = with_kinds j ks

  price-same : (c : Congestion) → price_at k.block c ≡ price_at j.block c
  price-same c = prices-same j.block.kinds ks same j.block.capacities j.block.first_edges j.block.edge_targets c

  made-same : (c : Congestion) (i : ℕ) (tree : List ℕ) → turn_of k c i tree ≡ turn_of j c i tree
  unfolding turn_of turn_sinks turn_weighting turn_congestion net_sinks net_criticalities
  made-same c i tree =
      turn-same j.block ks len (price_at k.block (turn_congestion j c i tree)) (marks_of k tree) (turn_sinks j i tree)
      ∙ ap (λ (p : ℕ → ℕ). turn j.block p (marks_of k tree) (turn_sinks j i tree)) (price-same (turn_congestion j c i tree))
      ∙ ap (λ (m : List ℕ). turn j.block (price_at j.block (turn_congestion j c i tree)) m (turn_sinks j i tree)) (marks_same j ks len tree)

  log-same : (t i : ℕ) (tree : List ℕ) (made : Turn) (rest rest' : List ℕ → List Record) → ((tree : List ℕ) → rest tree ≡ rest' tree)
      → log_turn k t i tree made rest ≡ log_turn j t i tree made rest'
  unfolding turn_sinks net_sinks net_criticalities
  log-same t i tree (joins place cost path) rest rest' e = rw (e (tree ++ path))
  log-same t i tree stuck rest rest' e = refl

  turns_same : (t : ℕ) (c : Congestion) (i n : ℕ) (tree : List ℕ) → turns_of k t c i n tree ≡ turns_of j t c i n tree
  unfolding turns_of
  turns_same t c i zero tree = refl
  turns_same t c i (suc n) tree = rw (made-same c i tree) (log-same t i tree (turn_of j c i tree) (turns_of k t c i n) (turns_of j t c i n) (turns_same t c i n))

  net-same : (s : State) (i : ℕ) → net_records k s i ≡ net_records j s i
  unfolding net_records net_sinks
  net-same s i = rw (congestion_same j ks len s i) (turns_same s.iteration (congestion_for j s i) i (length (net_sinks j i)) (source j i ∷ []))

  route_same : (d : Bool) (i : ℕ) (p : Progress) → route_if d k i p ≡ route_if d j i p
  route_same true i p = rw (net-same p.state i)
  route_same false i p = refl

  nets-same : (s : State) (i : ℕ) → after_nets k s i ≡ after_nets j s i
  unfolding after_nets
  nets-same s zero = refl
  nets-same s (suc i) = rw (nets-same s i, due-same j ks len s i) (route_same (due j s i) i (after_nets j s i))

  iterate-same : (s : State) → iterate k s ≡ iterate j s
  unfolding iterate
  iterate-same s = nets-same s (nets j)

  state-same : (s : State) (m : ℕ) → state_after k s m ≡ state_after j s m
  unfolding state_after
  state-same s zero = refl
  state-same s (suc m) = rw (state-same s m, iterate-same (state_after j s m), move_same j ks len (iterate j (state_after j s m)).state)

  records-same : (s : State) (m : ℕ) → records_after k s m ≡ records_after j s m
  unfolding records_after
  records-same s zero = refl
  records-same s (suc m) = rw (records-same s m, state-same s m, iterate-same (state_after j s m))

  settles_same : (s : State) (m : ℕ) → settles_at k s m ≡ settles_at j s m
  unfolding settles_at
  settles_same s m = rw (state-same s m, iterate-same (state_after j s m), over-same j ks len (iterate j (state_after j s m)).state.trees)

  most-same : (s : State) (most : ℕ) → iterations_made k s most ≡ iterations_made j s most
  unfolding iterations_made
  most-same s most = ap (λ (t : ℕ → Bool). choose (ltb (first_below t most) most) (first_below t most + 1) most) (fun_ext (settles_same s))

  from_same : (s : State) → made_from k s ≡ made_from j s
  unfolding iterations_left
  from_same s = most-same s (iterations_left j s)

  all_same : (p : Progress) → all_records k p ≡ all_records j p
  unfolding all_records
  all_same p = rw (from_same p.state, records-same p.state (made_from j p.state))

  end_same : (s : State) → end_numbers k s ≡ end_numbers j s
  unfolding end_numbers
  end_same s =
      rw (
        from_same s,
        settles_same s (made_from j s - 1),
        state-same s (made_from j s - 1),
        iterate-same (state_after j s (made_from j s - 1)),
        over-same j ks len (iterate j (state_after j s (made_from j s - 1))).state.trees,
      )

  pub continued-same : (p : Progress) (work log : List ℕ) → continued k p work log ≡ continued j p work log
  unfolding continued logged_records cut_iteration
  continued-same p work log = rw (all_same p, end_same p.state, from_same p.state, len)

  -- ---- refusal 7

  reach_same : (i s : ℕ) → has_path k i s ≡ has_path j i s
  unfolding has_path
  reach_same i s =
      let c : Congestion = congestion_for j (first_state j) i in
      let marks : List ℕ = marks_of j (source j i ∷ []) in
      rw (first_same j ks len, congestion_same j ks len (first_state j) i, marks_same j ks len (source j i ∷ []), price-same c)
      (ap (λ (ds : List ℕ). ltb (get_or ds s far) far) (distances-same j.block ks len (price_at j.block c) marks))

  all_reach : has_path k ≡ has_path j
  all_reach = fun_ext (λ i. fun_ext (reach_same i))

  unreached-same : unreachable_net k ≡ unreachable_net j
  unfolding unreachable_net net_sinks
  unreached-same = rw all_reach

  place_same : unreachable_place k ≡ unreachable_place j
  unfolding unreachable_place net_sinks
  place_same = rw (unreached-same, all_reach)

  pub reached-same : (work log : List ℕ) (run : RouteReply) → reached_reply k work log run ≡ reached_reply j work log run
  reached-same work log run = rw (unreached-same, place_same, len)

  -- ---- a lent log

  follows_same : (i : ℕ) (tree : List ℕ) (sink : ℕ) (path : List ℕ) → path_follows k i tree sink path ≡ path_follows j i tree sink path
  unfolding path_follows has_edge row turn_sinks net_sinks net_criticalities
  follows_same i tree sink path = refl

  turn_price_lem : (s : State) (i : ℕ) (tree : List ℕ) → turn_price k s i tree ≡ turn_price j s i tree
  unfolding turn_congestion turn_weighting net_sinks net_criticalities
  turn_price_lem s i tree = rw (congestion_same j ks len s i) (price-same (turn_congestion j (congestion_for j s i) i tree))

  test_same : (s : State) (i : ℕ) (tree ws : List ℕ) → turn_follows k s i tree ws ≡ turn_follows j s i tree ws
  unfolding turn_follows
  test_same s i tree ws = rw (follows_same i tree (get_or ws 2 0) (record_path ws), turn_price_lem s i tree)

  least-same : (s : State) (i : ℕ) (tree : List ℕ) → least_cost k s i tree ≡ least_cost j s i tree
  unfolding least_cost
  least-same s i tree = rw (congestion_same j ks len s i, made-same (congestion_for j s i) i tree)

  lent_same : (audit : Bool) (ws : List ℕ) (i : ℕ) (p : Progress) (n : ℕ) (made : List Record) → replay_turns audit k ws i p n made ≡ replay_turns audit j ws i p n made
  unfolding replay_turns all_joined net_sinks
  lent_same audit ws i p zero made = refl
  lent_same audit ws i p (suc n) made =
      let tree : List ℕ = tree_from j i made in
      let here : List ℕ = after ws (p.records ++ made) in
      rw (
        test_same p.state i tree here,
        turn_price_lem p.state i tree,
        least-same p.state i tree,
        lent_same audit ws i p n (made ++ (record_in (turn_price j p.state i tree) here ∷ [])),
      )

  on_same : (a : Replay) (f g : Progress → Replay) → ((p : Progress) → f p ≡ g p) → if_on a f ≡ if_on a g
  on_same (on p) f g e = e p
  on_same (off word) f g e = refl
  on_same (ends p) f g e = refl
  on_same (not_cheapest p cost least) f g e = refl

  lent-nets : (audit : Bool) (ws : List ℕ) (s : State) (rs : List Record) (i : ℕ) → replay_nets audit k ws s rs i ≡ replay_nets audit j ws s rs i
  unfolding replay_nets net_sinks
  lent-nets audit ws s rs zero = refl
  lent-nets audit ws s rs (suc i) =
      rw (lent-nets audit ws s rs i)
      (on_same (replay_nets audit j ws s rs i) _ _ (λ p. rw (due-same j ks len s i, lent_same audit ws i p (length (net_sinks j i)) [])))

  lent-next :
      (audit : Bool) (ws : List ℕ) (p : Progress) (f g : State → List Record → Replay) → ((s : State) (rs : List Record) → f s rs ≡ g s rs)
      → replay_next audit k ws p f ≡ replay_next audit j ws p g
  lent-next audit ws p f g e = rw (over-same j ks len p.state.trees, move_same j ks len p.state, e (move_on j p.state) p.records)

  lent_from : (audit : Bool) (ws : List ℕ) (n : ℕ) (s : State) (rs : List Record) → replay_from audit k ws n s rs ≡ replay_from audit j ws n s rs
  unfolding replay_from
  lent_from audit ws zero s rs = refl
  lent_from audit ws (suc n) s rs =
      rw (lent-nets audit ws s rs (nets j))
      (on_same (since_start s (replay_nets audit j ws s rs (nets j))) _ _
      (λ p. lent-next audit ws p (replay_from audit k ws n) (replay_from audit j ws n) (lent_from audit ws n)))

  replay-same : (audit : Bool) (used : ℕ) (log : List ℕ) → replay_by audit k used log ≡ replay_by audit j used log
  unfolding replay_by
  replay-same audit used log = rw (first_same j ks len, lent_from audit (take used log) j.terms.limit (first_state j) [])

  after_same : (a : Replay) (work log : List ℕ) → resumed_reply k a work log ≡ resumed_reply j a work log
  after_same (on p) work log = continued-same p work log
  after_same (off word) work log = rw len
  after_same (ends p) work log = rw len
  after_same (not_cheapest p cost least) work log = rw len

  pub resumed-same : (used : ℕ) (work log : List ℕ) → resumed_reply k (replay k used log) work log ≡ resumed_reply j (replay j used log) work log
  resumed-same used work log = rw (replay-same false used log) (after_same (replay j used log) work log)

  pub begun_same : (work log : List ℕ) → continued k (first_progress k) work log ≡ continued j (first_progress j) work log
  begun_same work log = rw (first_same j ks len) (continued-same (first_progress j) work log)
