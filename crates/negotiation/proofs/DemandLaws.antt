-- What demand 3 rests on: where a logged turn stands in the run, prices read off the log, the final trees, and which sinks have a path.
-- Assumes nothing.
use mathlib.Core.Bool.{Bool, true, false, not}
use mathlib.Core.List.{List, [], ◌∷◌, ◌++◌, append_assoc}
use mathlib.Core.Logic.{◌⊎◌, ⊎_elim, inl, inr}
use mathlib.Core.Path.{◌≡◌, refl, sym, ◌∙◌, ap}
use Prim.Native.Nat.{ℕ, zero, suc, ◌+◌, ◌-◌, ◌≤◌, ◌<◌}
use native.Mathlib.Nat.{not-suc-le-zero, le_of_suc-le-suc, eq-or-lt_of_le}
use native.Mathlib.Omega.{arith}
use lib.Dec.{ltb}
use lib.ListN.{get_or}
use borrow.Author.Tests.{ltb-false, lt-ltb, eqb-true, eq-eqb, not-true, not-false}
use Rattle.price.specs.Test.{choose}
use Rattle.price.specs.Bounds.{path_most}
use Rattle.price.specs.Lists.{every, has, up_to, first_below, count_below, total}
use Rattle.price.specs.Prices.{price_of}
use Rattle.price.specs.Timed.{weighed}
use Rattle.price.proofs.TestLaws.{by_test, true≢false}
use Rattle.price.proofs.ListLaws.{every-at, every-all, has-at, has_place, get_or_up_to}
use Rattle.price.proofs.BelowLaws.{first_below-below, first_below_holds}
use Rattle.search.specs.Block.{Block}
use Rattle.search.specs.Block as block
use Rattle.search.specs.Tables.{Graph}
use Rattle.search.specs.Paths.{Walk, stay, step, path_cost, JoiningPath, CheapestPath}
use Rattle.search.specs.Distance.{tree_has}
use Rattle.search.specs.Turn.{congested_at, price_at}
use Rattle.search.proofs.BlockLaws.{graph_of_lem, edge_to}
use Rattle.search.proofs.DistinctLaws.{has_first}
use Rattle.search.proofs.WalkLaws.{WalkEnd, step_cost, last_step}
use Rattle.search.proofs.EdgeLaws.{shaped}
use Rattle.search.proofs.DistanceLaws.{path-near}
use Rattle.job.specs.Job.{Job, nodes, nets, source, net_sinks}
use Rattle.negotiation.specs.Records.{Record}
use Rattle.negotiation.specs.Order.{turn_sinks, turn_weighting, turn_congestion}
use Rattle.negotiation.specs.Resume.{turn_price}
use Rattle.negotiation.specs.Machine.{State, Progress, others_of, users_of, marks_of, congestion_for, net_records, tree_from, due, after_nets, iterate, overfull, over_count, move_on, first_state, state_after, iteration_after, records_after, settles_at}
use Rattle.negotiation.specs.Outcome.{has_path, unreachable_net}
use Rattle.negotiation.specs.Demand.{own_tree, others_read, history_read, congested_read, price_read, OfTurn, TurnHolds, FinalTrees}
use Rattle.negotiation.specs.Unreachable.{AllReachable}
use Rattle.negotiation.proofs.StateLaws.{route_if_lem}
use Rattle.negotiation.specs.Routable.{Routable}
use Rattle.negotiation.specs.Runs.{All, Of, NetsRan, Ran}
use Rattle.negotiation.proofs.NetLaws.{first_ready, congestion_fair, NetTurn, turn-cost, net-turn}
use Rattle.negotiation.proofs.FilterLaws.{all_left, all_splits}
use Rattle.negotiation.proofs.RanLaws.{nets-iteration, nets-factor, ran-iteration, ran-factor, ran-users, ran_done, others_read_lem, own_read, history_read_lem}
use Rattle.negotiation.proofs.MachineRan.{Reached, ran-ready, machine_nets, machine_ran}

-- ---- lists and counts

-- an entry of two lists stands in the first or in the second
pub split-append {ℓ} :
    {A : Type ℓ} (xs ys earlier later : List A) (t : A) → xs ++ ys ≡ earlier ++ (t ∷ later)
    → ((rest : List A) × (xs ≡ earlier ++ (t ∷ rest))) ⊎ ((e : List A) × (ys ≡ e ++ (t ∷ later)) × (earlier ≡ xs ++ e))
split-append [] ys earlier later t is = inr (earlier, is, refl)
split-append (x ∷ xs) ys [] later t is = inl (xs, cc)
split-append (x ∷ xs) ys (z ∷ zs) later t is =
    ⊎_elim
    (λ r. inl (r.0, let e = r.1 in cc))
    (λ r. inr (r.0, r.1, let e = r.2 in cc))
    (split-append xs ys zs later t (cc))

-- where no number is counted, none passes
count_none : (t : ℕ → Bool) (n : ℕ) → count_below t n ≡ 0 → (x : ℕ) → x < n → t x ≡ false
unfolding count_below
count_none t zero e x l = absurd (not-suc-le-zero l)
count_none t (suc n) e x l =
    by_test (t n)
    (λ q.
    let z : count_below t n + 1 ≡ 0 = rw q at e in
    absurd (omega arith))
    (λ q.
    let z : count_below t n + 0 ≡ 0 = rw q at e in
    ⊎_elim (λ (h : x ≡ n). rw h q) (λ h. count_none t n (omega arith) x h) (eq-or-lt_of_le (le_of_suc-le-suc l)))

-- ---- costs by two prices

module _ (b : Block) (g : Graph b) (p q : ℕ → ℕ) (same : (v : ℕ) → v < block.nodes b → p v ≡ q v) where
  -- each node of a path but the first has an edge to it, so it is a node of the block
  cost-same : {u v : ℕ} {path : List ℕ} → Walk b u path v → path_cost p path ≡ path_cost q path
  unfolding path_cost total
  cost-same (stay u) = refl
  cost-same (step {u} {w} {v} {path} e r) =
      step_cost p u r ∙ rw (same w (edge_to b g u w e), cost-same r) (sym (step_cost q u r))

  -- a path that joins, or a cheapest one, by one is one by the other
  pub joining_same :
      {tree : ℕ → Bool} {sinks : List ℕ} {sink cost : ℕ} {path : List ℕ}
      → JoiningPath b p tree sinks sink cost path → JoiningPath b q tree sinks sink cost path
  joining_same c =
      record {
        start = c.start;
        starts_in_tree = c.starts_in_tree;
        follows = c.follows;
        sink-listed = c.sink-listed;
        sink_open = c.sink_open;
        costs = c.costs ∙ cost-same c.follows;
      }

  pub cheapest-same :
      {tree : ℕ → Bool} {sinks : List ℕ} {sink cost : ℕ} {path : List ℕ}
      → CheapestPath b p tree sinks sink cost path → CheapestPath b q tree sinks sink cost path
  cheapest-same c =
      record { joins = joining_same c.joins; cheapest = λ t s other m l o w. rw (cost-same w) at (c.cheapest t s other m l o w) }

-- ---- where a logged turn stands in the run

-- among the records of the first nets of an iteration from state s
record NetSplit (j : Job) (s : State) (i : ℕ) (earlier : List Record) (t : Record) : Type 0 where
  net : ℕ
  below : net < i
  own : List Record
  rest : List Record
  is : net_records j (after_nets j s net).state net ≡ own ++ (t ∷ rest)
  before : earlier ≡ (after_nets j s net).records ++ own

later_net : {j : Job} {s : State} {i : ℕ} {earlier : List Record} {t : Record} → NetSplit j s i earlier t → NetSplit j s (suc i) earlier t
later_net n = record { net = n.net; below = omega (arith, n.below); own = n.own; rest = n.rest; is = n.is; before = n.before }

no_record : (earlier later : List Record) (t : Record) → [] ≡ earlier ++ (t ∷ later) → ⊥
no_record [] later t e = let z : ◌≡◌ {A = ℕ} 0 1 = cc in omega arith
no_record (r ∷ rs) later t e = let z : ◌≡◌ {A = ℕ} 0 1 = cc in omega arith

net_split : (j : Job) (s : State) (i : ℕ) (earlier later : List Record) (t : Record) → (after_nets j s i).records ≡ earlier ++ (t ∷ later) → NetSplit j s i earlier t
unfolding after_nets
net_split j s zero earlier later t e = absurd (no_record earlier later t e)
net_split j s (suc i) earlier later t e =
    route_if_lem (λ p. p.records ≡ earlier ++ (t ∷ later) → NetSplit j s (suc i) earlier t) (due j s i) j i (after_nets j s i)
    (λ q.
    ⊎_elim
    (λ r. later_net (net_split j s i earlier r.0 t r.1))
    (λ r. record { net = i; below = omega arith; own = r.0; rest = later; is = r.1; before = r.2 })
    (split-append (after_nets j s i).records (net_records j (after_nets j s i).state i) earlier later t q))
    (λ q. later_net (net_split j s i earlier later t q))
    e

-- among the records of the first iterations from state s
record RunSplit (j : Job) (s : State) (most : ℕ) (earlier : List Record) (t : Record) : Type 0 where
  whole : ℕ
  below : whole < most
  here : List Record
  at : NetSplit j (state_after j s whole) (nets j) here t
  before : earlier ≡ records_after j s whole ++ here

run_split : (j : Job) (s : State) (most : ℕ) (earlier later : List Record) (t : Record) → records_after j s most ≡ earlier ++ (t ∷ later) → RunSplit j s most earlier t
unfolding records_after iterate
run_split j s zero earlier later t e = absurd (no_record earlier later t e)
run_split j s (suc m) earlier later t e =
    ⊎_elim
    (λ r.
    let n : RunSplit j s m earlier t = run_split j s m earlier r.0 t r.1 in
    record { whole = n.whole; below = omega arith; here = n.here; at = n.at; before = n.before })
    (λ r.
    record { whole = m; below = omega arith; here = r.0; at = net_split j (state_after j s m) (nets j) r.0 later t r.1; before = r.2 })
    (split-append (records_after j s m) (iteration_after j s m).records earlier later t e)

-- ---- sinks and their paths

-- a mark of a tree's node
mark_in : (j : Job) (tree : List ℕ) (v : ℕ) → v < nodes j → has v tree ≡ true → tree_has (marks_of j tree) v ≡ true
unfolding tree_has marks_of
mark_in j tree v h e =
    rw (get_or_up_to {A = ℕ} (λ x. choose (has x tree) 1 0) (nodes j) v 0 h, e) (eq-eqb 1 1 refl)

-- a sink to which a path leads from its source has a path
pub walk_path : (j : Job) → Routable j → (i x : ℕ) (path : List ℕ) → i < nets j → Walk j.block (source j i) path x → has_path j i x ≡ true
unfolding has_path
walk_path j sound i x path h w =
    let at = sound.source-node i h in
    let node : x < nodes j =
    ⊎_elim
    (λ (q : (source j i ≡ x) × (path_cost (λ (v : ℕ). 0) path ≡ 0)). rw q.0 at at)
    (λ (s : WalkEnd j.block (λ (v : ℕ). 0) (source j i) path x). edge_to j.block (graph_of_lem j.block sound.block-sound) s.before x s.edge)
    (last_step (λ (v : ℕ). 0) w) in
    lt-ltb _ _
    (path-near j.block (price_at j.block (congestion_for j (first_state j) i)) (marks_of j (source j i ∷ [])) (shaped j.block sound.block-sound)
    (congestion_fair j sound (first_state j) (first_ready j sound) i h) (source j i) x path node (mark_in j (source j i ∷ []) (source j i) at (has_first (source j i) [])) w)

-- where the first net with an unreachable sink is none, every sink has a path
pub all-reached : (j : Job) → nets j ≤ unreachable_net j → Reached j
unfolding unreachable_net
all-reached j none i x h l =
    let reached : every (has_path j i) (net_sinks j i) ≡ true = not-false _ (first_below-below (λ k. not (every (has_path j k) (net_sinks j k))) (nets j) i (omega arith)) in
    let place = has_place x (net_sinks j i) l in
    rw place.2 at (every-at (has_path j i) (net_sinks j i) reached place.0 place.1)

-- where every sink has a path from its source, no net has an unreachable sink
pub none_unreachable : (j : Job) → Routable j → AllReachable j → unreachable_net j < nets j → ⊥
unfolding unreachable_net
none_unreachable j sound all h =
    let i : ℕ = first_below (λ k. not (every (has_path j k) (net_sinks j k))) (nets j) in
    let lacks : every (has_path j i) (net_sinks j i) ≡ false = not-true _ (first_below_holds (λ k. not (every (has_path j k) (net_sinks j k))) (nets j) h) in
    let reached : every (has_path j i) (net_sinks j i) ≡ true =
    every-all (has_path j i) (net_sinks j i) (λ k l. let w = all i (get_or (net_sinks j i) k 0) h (has-at (net_sinks j i) k l) in walk_path j sound i (get_or (net_sinks j i) k 0) w.0 h w.1) in
    true≢false (sym reached ∙ lacks)

-- ---- a logged turn holds

same-price : (kind capacity : ℕ) {f f' o o' h h' : ℕ} → f ≡ f' → o ≡ o' → h ≡ h' → price_of kind f o capacity h ≡ price_of kind f' o' capacity h'
same-price kind capacity p q r = rw (p, q, r)

-- a turn of net i in iteration k
pub turn_of_lem :
    (Asked : Block → (ℕ → ℕ) → (ℕ → Bool) → List ℕ → ℕ → ℕ → List ℕ → Type 0) (j : Job) (earlier before : List Record) (t : Record) (i k : ℕ) → t.net ≡ i → t.iteration ≡ k → earlier ≡ before
    → Asked j.block (price_read j i k before) (λ v. has v (own_tree j i k before)) (turn_sinks j i (own_tree j i k before)) t.sink t.cost t.path
    → OfTurn Asked j earlier t
turn_of_lem Asked j earlier before t i k p q r c = rw (p, q, r) c

-- the tree, by another list
pub tree_as :
    (Asked : Block → (ℕ → ℕ) → (ℕ → Bool) → List ℕ → ℕ → ℕ → List ℕ → Type 0) (j : Job) (i : ℕ) {price : ℕ → ℕ} {xs ys : List ℕ} {sink cost : ℕ} {path : List ℕ} → xs ≡ ys
    → Asked j.block price (λ v. has v xs) (turn_sinks j i xs) sink cost path → Asked j.block price (λ v. has v ys) (turn_sinks j i ys) sink cost path
tree_as Asked j i e c = rw e at c

-- a turn of the machine's in a run: of net i, after its own records e and those before them in the run
module _ (j : Job) (sound : Routable j) {m : ℕ} {rs : List Record} {s : State} (r : Ran j m rs s) (hm : m < j.terms.limit)
    {i : ℕ} {p : Progress} (n : NetsRan j s i p) (hi : i < nets j) where
  -- what is read off the log is the state's
  module _ (e : List Record) (own : All (Of i (m + 1)) e) where
    abbrev before : List Record
    before = (rs ++ p.records) ++ e

    -- the net's own tree
    pub own_same : tree_from j i e ≡ own_tree j i (m + 1) before
    unfolding own_tree
    own_same = rw (own_read j r n hi e own)

    -- a congestion price, and so a price
    congested-same : (v : ℕ) → v < nodes j → congested_at j.block (congestion_for j p.state i) v ≡ congested_read j i (m + 1) before v
    unfolding congested_at congestion_for congested_read
    congested-same v h =
        let others : get_or (up_to (others_of j p.state.trees i) (nodes j)) v 0 ≡ others_read j i before v =
        get_or_up_to (others_of j p.state.trees i) (nodes j) v 0 h ∙ sym (others_read_lem j r n hi e own v) in
        let one : m + 1 - 1 ≡ m = omega arith in
        let history : get_or p.state.histories v 0 ≡ history_read j before (m + 1 - 1) v = rw one (sym (history_read_lem j r n hi e own v h)) in
        same-price _ _ (nets-factor j n ∙ ran-factor j r) others history

    pub price-same : (v : ℕ) → v < nodes j → turn_price j p.state i (tree_from j i e) v ≡ price_read j i (m + 1) before v
    unfolding price_at congested_at turn_congestion price_read
    price-same v h =
        rw (← own_same)
        (ap (weighed (turn_weighting j i (tree_from j i e)) (get_or j.delays v 0)) (congested-same v h))

  -- the records of the same net before a turn are of it and of this iteration
  pub own-all : (e rest : List Record) → net_records j p.state i ≡ e ++ rest → All (Of i (m + 1)) e
  own-all e rest is =
      let at : p.state.iteration ≡ m + 1 = nets-iteration j n ∙ ran-iteration j r in
      all_left (Of i (m + 1)) e rest
      (rw is at
      (all_splits (Of i (m + 1)) (net_records j p.state i)
      (λ earlier later q split.
      let turn = net-turn j sound p.state (ran-ready j sound r n hm) i hi earlier later q split in
      record { net-is = turn.net-is; iteration-is = turn.iteration-is ∙ at })))

  pub turn-here :
      (e rest : List Record) (t : Record) → net_records j p.state i ≡ e ++ (t ∷ rest) → (earlier : List Record) → earlier ≡ (rs ++ p.records) ++ e
      → TurnHolds j earlier t
  turn-here e rest t is earlier parts =
      let own : All (Of i (m + 1)) e = own-all e (t ∷ rest) is in
      let turn : NetTurn j p.state i e t = net-turn j sound p.state (ran-ready j sound r n hm) i hi e rest t is in
      turn_of_lem CheapestPath j earlier ((rs ++ p.records) ++ e) t i (m + 1) turn.net-is (turn.iteration-is ∙ nets-iteration j n ∙ ran-iteration j r) parts
      (tree_as CheapestPath j i (own_same e own)
      (cheapest-same j.block (graph_of_lem j.block sound.block-sound) _ _ (price-same e own) turn.cheapest))

regrouped :
    (rs earlier whole here nets own : List Record) → earlier ≡ whole ++ here → here ≡ nets ++ own → rs ++ earlier ≡ ((rs ++ whole) ++ nets) ++ own
regrouped rs earlier whole here nets own e f = rw (e, f) (simp append_assoc)

-- where a logged turn stands: after whole iterations, nets of the next one, and its net's own turns
pub record TurnPlace (j : Job) (earlier : List Record) (t : Record) : Type 0 where
  pub whole : ℕ
  pub made : List Record
  pub state : State
  pub ran : Ran j whole made state
  pub below : whole < j.terms.limit
  pub net : ℕ
  pub progress : Progress
  pub nets-ran : NetsRan j state net progress
  pub net-below : net < nets j
  pub own : List Record
  pub rest : List Record
  pub is : net_records j progress.state net ≡ own ++ (t ∷ rest)
  pub before : earlier ≡ (made ++ progress.records) ++ own

-- each turn that the machine makes from a state, whatever run leads there
pub turn_place :
    (j : Job) → Routable j → Reached j → {m : ℕ} {rs : List Record} {s : State} → Ran j m rs s → (most : ℕ) → m + most ≤ j.terms.limit
    → (earlier later : List Record) (t : Record) → records_after j s most ≡ earlier ++ (t ∷ later) → TurnPlace j (rs ++ earlier) t
turn_place j sound all {m} {rs} {s} r most few earlier later t e =
    let c : RunSplit j s most earlier t = run_split j s most earlier later t e in
    let k : ℕ = c.whole in
    let below : k < most = c.below in
    let n : NetSplit j (state_after j s k) (nets j) c.here t = c.at in
    let net-below : n.net < nets j = n.below in
    let hm : m + k < j.terms.limit = omega arith in
    let ran : Ran j (m + k) (rs ++ records_after j s k) (state_after j s k) = machine_ran j sound all r k (omega arith) in
    record {
      whole = m + k;
      made = rs ++ records_after j s k;
      state = state_after j s k;
      ran = ran;
      below = hm;
      net = n.net;
      progress = after_nets j (state_after j s k) n.net;
      nets-ran = machine_nets j sound all ran hm n.net (omega arith);
      net-below = net-below;
      own = n.own;
      rest = n.rest;
      is = n.is;
      before = regrouped rs earlier (records_after j s k) c.here (after_nets j (state_after j s k) n.net).records n.own c.before n.before;
    }

module _ (j : Job) (sound : Routable j) {earlier : List Record} {t : Record} (at : TurnPlace j earlier t) where
  -- it holds
  pub turn_holds : TurnHolds j earlier t
  turn_holds = turn-here j sound at.ran at.below at.nets-ran at.net-below at.own at.rest t at.is earlier at.before

  -- and its cost is below the bound on a path's
  pub turn_below : t.cost < path_most
  turn_below =
      let ready = ran-ready j sound at.ran at.nets-ran at.below in
      turn-cost j sound _ ready at.net at.net-below at.own t (net-turn j sound _ ready at.net at.net-below at.own at.rest t at.is)

-- ---- the final trees

-- where nothing is over capacity, no node has more users than its capacity
none_over :
    (j : Job) (trees : List (List ℕ)) → over_count j trees ≡ 0 → (v : ℕ) → v < nodes j → users_of j trees v ≤ get_or j.block.capacities v 0
unfolding over_count overfull
none_over j trees e v h = ltb-false _ _ (count_none (λ v. ltb (get_or j.block.capacities v 0) (users_of j trees v)) (nodes j) e v h)

-- the trees after whole iterations, whoever made the turns
pub final_of : (j : Job) → Routable j → {m : ℕ} {rs : List Record} {s : State} → Ran j m rs s → 1 ≤ m → over_count j s.trees ≡ 0 → FinalTrees j rs
final_of j sound {s = s} ran some none =
    record {
      no_sink_missed = λ i x h l. (ran_done j sound.until_some ran some i h).joined x l;
      none_twice = λ i h. (ran_done j sound.until_some ran some i h).once;
      within_capacity = λ v h. rw (ran-users j ran v) (none_over j s.trees none v h);
    }

-- the trees after an iteration of the machine's that settles, whatever run leads there
pub final_trees_hold :
    (j : Job) → Routable j → Reached j → {m : ℕ} {rs : List Record} {s : State} → Ran j m rs s → (k : ℕ) → m + k < j.terms.limit
    → settles_at j s k ≡ true → FinalTrees j (rs ++ records_after j s (suc k))
unfolding state_after move_on settles_at
final_trees_hold j sound all {m} {rs} {s} r k few settled =
    let ran : Ran j (m + suc k) (rs ++ records_after j s (suc k)) (state_after j s (suc k)) = machine_ran j sound all r (suc k) (omega arith) in
    final_of j sound ran (omega arith) (eqb-true _ _ settled)
