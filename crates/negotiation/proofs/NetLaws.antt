-- One net in an iteration: its turns are cheapest paths from its tree, they join every sink, and they reach no node twice. In a timed job a turn
-- may join further sinks that its path passes, so that a net may make fewer turns than it has sinks.
-- Assumes nothing.
use mathlib.Core.Bool.{true, false, not}
use mathlib.Core.List.{List, [], ◌∷◌, ◌++◌, append-nil}
use mathlib.Core.Logic.{⊎_elim}
use mathlib.Core.Path.{◌≡◌, refl, sym, ◌∙◌, ap, subst}
use Prim.Native.Nat.{ℕ, zero, suc, ◌+◌, ◌*◌, ◌≤◌, ◌<◌}
use native.Mathlib.Nat.{le_trans, le_of_eq}
use native.Mathlib.Omega.{arith}
use lib.Dec.{eqb}
use lib.ListN.{length, get_or, drop, length-append, length-replicate, get_or-replicate}
use lib.Seq.{append_snoc}
use borrow.Author.Tests.{eq-eqb, ltb-true}
use Rattle.price.specs.Bounds.{factor_most, history_most, history_gain, others_most, timed_history_most, price_most, path_most}
use Rattle.price.specs.Test.{both}
use Rattle.price.specs.Lists.{every, has, distinct, up_to}
use Rattle.price.specs.Replies.{InBounds}
use Rattle.price.specs.Timed.{weighed, WeighedInBounds, history_bound, weighed_most}
use Rattle.price.proofs.TestLaws.{by_test, true≢false}
use Rattle.price.proofs.ListLaws.{length_up_to, get_or_up_to, has-at, has_place}
use Rattle.price.proofs.BelowLaws.{count_most_lem, count_less}
use Rattle.price.proofs.PriceLaws as price
use Rattle.price.proofs.PriceLaws.{price-pos, price_most_lem, next_factor-most, history_grows, history_reach}
use Rattle.price.proofs.TimedLaws.{timed_history_reach, bound_timed, bound-untimed, weighed-path, weighed-low, weighed-pos, weighed_most_lem}
use Rattle.search.specs.Paths.{Walk, CheapestPath, Fair}
use Rattle.search.specs.Turn.{Congestion, congested_at, price_at}
use Rattle.search.proofs.BlockLaws.{graph_of_lem, kind_most_lem, capacity_least, capacity_most_lem}
use Rattle.search.proofs.WalkLaws.{cost-most}
use Rattle.search.proofs.EdgeLaws.{shaped}
use Rattle.search.proofs.DistanceLaws.{some_path}
use Rattle.search.proofs.DistinctLaws.{has_first, lacks, distinct_cons, distinct_rest}
use Rattle.job.specs.Job.{Job, nodes, nets, source, net_sinks}
use Rattle.job.specs.Tables.{nets_most}
use Rattle.negotiation.specs.Records.{Record, path_nodes}
use Rattle.negotiation.specs.Order.{turn_sinks, turn_weighting, turn_congestion}
use Rattle.negotiation.specs.Resume.{turn_price}
use Rattle.negotiation.specs.Machine.{State, tree_at, others_of, users_of, marks_of, congestion_for, net_records, tree_from, after_nets, iterate, moved_history, move_on, first_state, state_after}
use Rattle.negotiation.specs.Outcome.{has_path}
use Rattle.negotiation.specs.Unreachable.{Reachable}
use Rattle.negotiation.specs.Kept.{Grown}
use Rattle.negotiation.proofs.StateLaws.{nets-factor, nets-histories}
use Rattle.negotiation.specs.Routable.{Routable}
use Rattle.negotiation.specs.Runs.{step_ends, branch_ends}
use Rattle.negotiation.proofs.RoutableLaws.{tuning-fits}
use Rattle.negotiation.proofs.RecordLaws.{path_nodes-append}
use Rattle.negotiation.proofs.MemberLaws.{no_entry, has-append_split, none_has, lacks_left, lacks_right, distinct_append, missing-most}
use Rattle.negotiation.proofs.OrderLaws.{weighting_timed, criticality_low, turn_some, turn-nodes}
use Rattle.negotiation.proofs.TreeLaws.{TreeNodes, mark_is, TreeTurn, Turns, none, stop, more, turns_are, turns_join, turns-source, only_entry}

-- factor and histories keep the bounds of row 13, in a timed job the search's own of history
pub record StateReady (j : Job) (s : State) : Type 0 where
  pub long : length s.histories ≡ nodes j
  pub history_least : (v : ℕ) → v < nodes j → 1 ≤ get_or s.histories v 0
  pub history_most_lem : (v : ℕ) → v < nodes j → get_or s.histories v 0 ≤ history_most
  pub history_timed : j.terms.timed ≡ true → (v : ℕ) → v < nodes j → get_or s.histories v 0 ≤ timed_history_most
  pub factor_most_lem : s.factor ≤ factor_most

-- what they have grown by after so many whole iterations hangs on histories and factor alone
pub grown-same : (j : Job) (s t : State) (m : ℕ) → t.histories ≡ s.histories → t.factor ≡ s.factor → Grown j s m → Grown j t m
grown-same j s t m hs f g =
    record { long = rw hs g.long; least = rw hs g.least; most = rw hs g.most; factor_most_lem = rw f g.factor_most_lem }

grown-after : (j : Job) (s : State) (m i : ℕ) → Grown j s m → Grown j (after_nets j s i).state m
grown-after j s m i g = grown-same j s (after_nets j s i).state m (nets-histories j s i) (nets-factor j s i) g

pub grown_first : (j : Job) → Routable j → Grown j (first_state j) 0
unfolding first_state
grown_first j sound =
    record {
      long = length-replicate (nodes j) 1;
      least = λ v h. le_of_eq (sym (get_or-replicate (nodes j) v 1 0 h));
      most = λ v h. le_of_eq (get_or-replicate (nodes j) v 1 0 h);
      factor_most_lem = next_factor-most _ (tuning-fits j sound).few_first 0 0;
    }

-- a node has at most as many users as there are nets
users-few : (j : Job) → Routable j → (trees : List (List ℕ)) (v : ℕ) → users_of j trees v ≤ others_most + 1
unfolding users_of
users-few j sound trees v =
    le_trans (count_most_lem (λ k. has v (tree_at trees k)) (nets j)) sound.nets-few

pub grown-on : (j : Job) → Routable j → (s : State) (m : ℕ) → Grown j s m → Grown j (move_on j s) (suc m)
unfolding move_on
grown-on j sound s m g =
    record {
      long = length_up_to (moved_history j s) (nodes j);
      least = λ v h. rw (get_or_up_to (moved_history j s) (nodes j) v 0 h) (price.history_least _ _ _ _ (g.least v h));
      most =
          λ v h.
          rw (get_or_up_to (moved_history j s) (nodes j) v 0 h)
          (let most : moved_history j s v ≤ 1 + (m + 1) * history_gain =
          history_grows _ m _ _ _ (tuning-fits j sound).few_step (g.most v h) (users-few j sound s.trees v) (capacity_least (nodes j) j.block.capacities sound.block-sound.capacities_sound_lem v h) in
          omega arith);
      factor_most_lem = next_factor-most _ (tuning-fits j sound).few_first _ _;
    }

grown : (j : Job) → Routable j → {s : State} {n : ℕ} → Grown j s n → (m : ℕ) → Grown j (state_after j s m) (n + m)
unfolding state_after iterate
grown j sound {s} {n} g zero = let e : n + 0 ≡ n = omega arith in rw e g
grown j sound {s} {n} g (suc m) =
    let e : n + suc m ≡ suc (n + m) = omega arith in
    rw e (grown-on j sound _ (n + m) (grown-after j (state_after j s m) (n + m) (nets j) (grown j sound g m)))

-- below the limit it keeps the bounds
pub grown-ready : (j : Job) → Routable j → (s : State) (m : ℕ) → m < j.terms.limit → Grown j s m → StateReady j s
grown-ready j sound s m h g =
    record {
      long = g.long;
      history_least = g.least;
      history_most_lem = λ v l. history_reach m _ (g.most v l) (le_trans h sound.limit_few);
      history_timed = λ t v l. timed_history_reach m _ (g.most v l) (le_trans h (sound.timing t).limit_low);
      factor_most_lem = g.factor_most_lem;
    }

-- from such a state on, every state in which a net is routed keeps them
pub state-ready :
    (j : Job) → Routable j → {s : State} {n : ℕ} → Grown j s n → (m i : ℕ) → n + m < j.terms.limit → StateReady j (after_nets j (state_after j s m) i).state
state-ready j sound {s} {n} g m i h =
    grown-ready j sound (after_nets j (state_after j s m) i).state (n + m) h (grown-after j (state_after j s m) (n + m) i (grown j sound g m))

-- fewer other nets have a node than there are nets
pub others-few : (j : Job) (trees : List (List ℕ)) (i v : ℕ) → i < nets j → others_of j trees i v < nets j
unfolding others_of
others-few j trees i v h =
    le_trans
    (count_less (λ k. true) (λ k. both (not (eqb k i)) (has v (tree_at trees k))) (nets j) i (λ x l e. refl) h refl (rw (eq-eqb i i refl)))
    (count_most_lem (λ k. true) (nets j))

-- so the search can work with the prices of a turn
module _ (j : Job) (sound : Routable j) (s : State) (ready : StateReady j s) (i : ℕ) (hi : i < nets j) where
  pub turn-bounds : (v : ℕ) → v < nodes j → InBounds (get_or j.block.kinds v 0) s.factor (others_of j s.trees i v) (get_or j.block.capacities v 0) (get_or s.histories v 0)
  turn-bounds v h =
      let few : others_of j s.trees i v < nets j = others-few j s.trees i v hi in
      let most : nets j ≤ nets_most = sound.nets-few in
      record {
        kind_most_lem = kind_most_lem j.block.kinds sound.block-sound.kinds_sound_lem v h;
        factor_most_lem = ready.factor_most_lem;
        others_most_lem = omega arith;
        capacity_least = capacity_least (nodes j) j.block.capacities sound.block-sound.capacities_sound_lem v h;
        capacity_most_lem = capacity_most_lem (nodes j) j.block.capacities sound.block-sound.capacities_sound_lem v h;
        history_least = ready.history_least v h;
        history_most_lem = ready.history_most_lem v h;
      }

  others-at : (v : ℕ) → v < nodes j → get_or (up_to (others_of j s.trees i) (nodes j)) v 0 ≡ others_of j s.trees i v
  others-at v h = get_or_up_to (others_of j s.trees i) (nodes j) v 0 h

  -- with the congestion prices alone
  pub congestion_fair : Fair j.block (price_at j.block (congestion_for j s i))
  unfolding price_at congested_at weighed congestion_for
  congestion_fair =
      record {
        ceiling = price_most;
        low = omega arith;
        fits = price.path_most_lem (nodes j) (graph_of_lem j.block sound.block-sound).few;
        pos = λ v h. price-pos _ _ _ _ _ (ready.history_least v h);
        most = λ v h. rw (others-at v h) (price_most_lem (turn-bounds v h));
      }

  -- a turn's prices, weighed or not
  module _ (tree : List ℕ) where
    weighs : (turn_weighting j i tree).timed ≡ true → j.terms.timed ≡ true
    weighs t = sym (weighting_timed j i tree) ∙ t

    history_bounded_lem : (v : ℕ) → v < nodes j → get_or s.histories v 0 ≤ history_bound (turn_weighting j i tree)
    history_bounded_lem v h =
        by_test (turn_weighting j i tree).timed
        (λ t. rw (bound_timed (turn_weighting j i tree) t) (ready.history_timed (weighs t) v h))
        (λ t. rw (bound-untimed (turn_weighting j i tree) t) (ready.history_most_lem v h))

    pub weighed-bounds :
        (v : ℕ) → v < nodes j
        → WeighedInBounds (turn_weighting j i tree) (get_or j.block.kinds v 0) s.factor (others_of j s.trees i v) (get_or j.block.capacities v 0) (get_or s.histories v 0) (get_or j.delays v 0)
    weighed-bounds v h =
        record {
          five = turn-bounds v h;
          history_bound_lem = history_bounded_lem v h;
          delay_most_lem = λ t. (sound.timing (weighs t)).delay_most_lem v h;
          criticality_most_lem = λ t. criticality_low j sound i hi (weighs t) tree;
        }

    pub turn-fair : Fair j.block (turn_price j s i tree)
    unfolding price_at congested_at turn_congestion congestion_for
    turn-fair =
        record {
          ceiling = weighed_most (turn_weighting j i tree);
          low = omega (arith, weighed-low (turn_weighting j i tree));
          fits =
              weighed-path (turn_weighting j i tree) (nodes j) (graph_of_lem j.block sound.block-sound).few (λ t. (sound.timing (weighs t)).nodes-few);
          pos = λ v h. rw (others-at v h) (weighed-pos (weighed-bounds v h));
          most = λ v h. rw (others-at v h) (weighed_most_lem (weighed-bounds v h));
        }

-- a turn of net i in state s after its earlier ones of the same iteration
pub record NetTurn (j : Job) (s : State) (i : ℕ) (earlier : List Record) (r : Record) : Type 0 where
  pub iteration-is : r.iteration ≡ s.iteration
  pub net-is : r.net ≡ i
  pub cheapest :
      CheapestPath j.block (turn_price j s i (tree_from j i earlier)) (λ v. has v (tree_from j i earlier)) (turn_sinks j i (tree_from j i earlier)) r.sink r.cost r.path
  -- its path begins in the tree, and the rest is new to it
  pub begins : has (get_or r.path 0 0) (tree_from j i earlier) ≡ true
  pub new-nodes : every (λ v. not (has v (tree_from j i earlier))) (step_ends r) ≡ true
  pub path-distinct : distinct r.path ≡ true
  pub path_some : 1 ≤ length r.path
  pub path-short : length r.path ≤ nodes j
  pub path_nodes_lem : (k : ℕ) → k < length r.path → get_or r.path k 0 < nodes j

-- a turn's cost is below the bound on a path's
pub turn-cost :
    (j : Job) → Routable j → (s : State) → StateReady j s → (i : ℕ) → i < nets j → (earlier : List Record) (r : Record) → NetTurn j s i earlier r
    → r.cost < path_most
turn-cost j sound s ready i hi earlier r t =
    rw t.cheapest.joins.costs
    (cost-most (turn_price j s i (tree_from j i earlier)) (turn-fair j sound s ready i hi (tree_from j i earlier)) r.path t.path_nodes_lem t.path-short)

-- the tree of the source alone
source-alone : (j : Job) → Routable j → (i : ℕ) → i < nets j → TreeNodes j (source j i ∷ [])
source-alone j sound i hi v h = rw (only_entry v (source j i) h) (sound.source-node i hi)

-- the first state keeps its bounds
pub first_ready : (j : Job) → Routable j → StateReady j (first_state j)
unfolding after_nets state_after
first_ready j sound = state-ready j sound (grown_first j sound) 0 0 sound.limit_some

-- a node that the test before iteration 1 finds has a path from the source
pub path_from : (j : Job) → Routable j → (i : ℕ) → i < nets j → (x : ℕ) → x < nodes j → has_path j i x ≡ true → Reachable j i x
unfolding has_path
path_from j sound i hi x node found =
    let p =
    some_path j.block (price_at j.block (congestion_for j (first_state j) i)) (marks_of j (source j i ∷ [])) (shaped j.block sound.block-sound)
    (congestion_fair j sound (first_state j) (first_ready j sound) i hi) x node (ltb-true _ _ found) in
    let first : p.0 ≡ source j i =
    only_entry p.0 (source j i) (sym (mark_is j (source j i ∷ []) (source-alone j sound i hi) p.0) ∙ p.3) in
    (p.1, subst (λ (u : ℕ). Walk j.block u p.1 x) first p.4)

-- and so has a sink
pub sink-path : (j : Job) → Routable j → (i : ℕ) → i < nets j → (x : ℕ) → has x (net_sinks j i) ≡ true → has_path j i x ≡ true → Reachable j i x
sink-path j sound i hi x h found =
    let at = has_place x (net_sinks j i) h in
    path_from j sound i hi x (rw at.2 at (sound.sink-node i hi at.0 at.1)) found

-- a record of the turns from a tree, by what stands before it

pub no_split : (earlier later : List Record) (r : Record) → [] ≡ earlier ++ (r ∷ later) → ⊥
no_split earlier later r e =
    let long : 0 ≡ length (earlier ++ (r ∷ later)) = ap length e in
    omega (arith, length-append earlier (r ∷ later))

turn-here : (j : Job) (s : State) (i : ℕ) (tree : List ℕ) (before : List Record) (r : Record) → tree ≡ tree_from j i before → r.iteration ≡ s.iteration → r.net ≡ i → TreeTurn j (congestion_for j s i) i tree r.sink r.cost r.path → NetTurn j s i before r
turn-here j s i tree before r e at of joined =
    let here : TreeTurn j (congestion_for j s i) i (tree_from j i before) r.sink r.cost r.path = rw e at joined in
    record {
      iteration-is = at;
      net-is = of;
      cheapest = here.cheapest;
      begins = here.begins;
      new-nodes = here.new-nodes;
      path-distinct = here.path-distinct;
      path_some = here.path_some;
      path-short = here.path-short;
      path_nodes_lem = here.path_nodes_lem;
    }

-- the tree with one record more
pub tree-more : (j : Job) (i : ℕ) (before : List Record) (r : Record) → tree_from j i before ++ r.path ≡ tree_from j i (before ++ (r ∷ []))
unfolding path_nodes
tree-more j i before r =
    ap (λ (l : List ℕ). source j i ∷ l) (rw (path_nodes-append before (r ∷ []), append-nil r.path))

turns-turn :
    (j : Job) (s : State) (i : ℕ) {k : ℕ} {tree : List ℕ} {rs : List Record} → Turns j s.iteration (congestion_for j s i) i k tree rs
    → (before earlier later : List Record) (r : Record) → tree ≡ tree_from j i before → rs ≡ earlier ++ (r ∷ later) → NetTurn j s i (before ++ earlier) r
turns-turn j s i none before earlier later r e split = absurd (no_split earlier later r split)
turns-turn j s i (stop is) before earlier later r e split = absurd (no_split earlier later r split)
turns-turn j s i {tree = tree} (more {r = first} at of joined rest) before [] later r e split =
    let same : first ≡ r = cc in
    rw (append-nil before)
    (subst (NetTurn j s i before) same (turn-here j s i tree before first e at of joined))
turns-turn j s i {tree = tree} (more {r = first} {rs = rs} at of joined rest) before (x ∷ xs) later r e split =
    let same : first ≡ x = cc in
    let on : rs ≡ xs ++ (r ∷ later) = cc in
    let grown : tree ++ first.path ≡ tree_from j i (before ++ (first ∷ [])) = rw e (tree-more j i before first) in
    rw (← same, ← append_snoc before first xs)
    (turns-turn j s i rest (before ++ (first ∷ [])) xs later r grown on)

-- the ends of the turns' steps are new to the tree, and distinct
turns-new :
    (j : Job) {t : ℕ} {c : Congestion} {i k : ℕ} {tree : List ℕ} {rs : List Record} → Turns j t c i k tree rs
    → (v : ℕ) → has v (branch_ends rs) ≡ true → has v tree ≡ false
unfolding branch_ends
turns-new j none v h = absurd (no_entry v h)
turns-new j (stop is) v h = absurd (no_entry v h)
turns-new j {tree = tree} (more {r = r} {rs = rs} at of joined rest) v h =
    ⊎_elim
    (λ (q : has v (step_ends r) ≡ true). none_has tree (step_ends r) joined.new-nodes v q)
    (λ (q : has v (branch_ends rs) ≡ true). lacks_left v tree r.path (turns-new j rest v q))
    (has-append_split v (step_ends r) (branch_ends rs) h)

ends-distinct : (path : List ℕ) → distinct path ≡ true → distinct (drop 1 path) ≡ true
ends-distinct [] d = d
ends-distinct (x ∷ xs) d = distinct_rest x xs d

ends-within : (v : ℕ) (path : List ℕ) → has v path ≡ false → has v (drop 1 path) ≡ false
ends-within v [] h = h
ends-within v (x ∷ xs) h = lacks_right v (x ∷ []) xs h

turns-distinct :
    (j : Job) {t : ℕ} {c : Congestion} {i k : ℕ} {tree : List ℕ} {rs : List Record} → Turns j t c i k tree rs
    → distinct (branch_ends rs) ≡ true
unfolding branch_ends distinct
turns-distinct j none = refl
turns-distinct j (stop is) = refl
turns-distinct j {tree = tree} (more {r = r} {rs = rs} at of joined rest) =
    distinct_append (step_ends r) (branch_ends rs) (ends-distinct r.path joined.path-distinct) (turns-distinct j rest)
    (λ v h. ends-within v r.path (lacks_right v tree r.path (turns-new j rest v h)))

module _ (j : Job) (sound : Routable j) (s : State) (ready : StateReady j s) (i : ℕ) (hi : i < nets j) where
  net-turns : Turns j s.iteration (congestion_for j s i) i (length (net_sinks j i)) (source j i ∷ []) (net_records j s i)
  unfolding net_records
  net-turns =
      turns_are j (congestion_for j s i) i (shaped j.block sound.block-sound) (turn-fair j sound s ready i hi) (turn-nodes j sound i hi)
      s.iteration (length (net_sinks j i)) (source j i ∷ []) (source-alone j sound i hi)

  pub net-turn : (earlier later : List Record) (r : Record) → net_records j s i ≡ earlier ++ (r ∷ later) → NetTurn j s i earlier r
  unfolding path_nodes
  net-turn earlier later r e = turns-turn j s i net-turns [] earlier later r refl e

  -- the source and the ends of all steps are distinct
  pub net-distinct : distinct (source j i ∷ branch_ends (net_records j s i)) ≡ true
  net-distinct =
      distinct_cons (source j i) (branch_ends (net_records j s i))
      (lacks (source j i) (branch_ends (net_records j s i))
      (λ h. true≢false (sym (has_first (source j i) []) ∙ turns-new j net-turns (source j i) h)))
      (turns-distinct j net-turns)

  module _ (all : (x : ℕ) → has x (net_sinks j i) ≡ true → has_path j i x ≡ true) where
    -- every sink is joined
    pub net-joins : (x : ℕ) → has x (net_sinks j i) ≡ true → has x (tree_from j i (net_records j s i)) ≡ true
    net-joins x h =
        turns_join j (congestion_for j s i) i (shaped j.block sound.block-sound) (turn-fair j sound s ready i hi) (turn-nodes j sound i hi)
        (turn_some j sound i hi) net-turns (source-alone j sound i hi) (missing-most (source j i ∷ []) (net_sinks j i)) (source j i) (has_first (source j i) [])
        (λ y k. sink-path j sound i hi y k (all y k)) x h

    -- where the net has sinks there is a record, and the source is on its path
    pub net-source : 1 ≤ length (net_sinks j i) → has (source j i) (path_nodes (net_records j s i)) ≡ true
    net-source some =
        let x : ℕ = get_or (net_sinks j i) 0 0 in
        let h : has x (net_sinks j i) ≡ true = has-at (net_sinks j i) 0 some in
        turns-source j (congestion_for j s i) i (source j i) net-turns refl x
        (λ e. true≢false (sym h ∙ ap (λ (v : ℕ). has v (net_sinks j i)) e ∙ sound.source_no_sink i hi))
        (net-joins x h)
