-- The machine's own turns follow, so its log over whole iterations that leave a node overfull is taken up, with exactly the machine's state.
-- Assumes nothing.
use mathlib.Core.Bool.{true, false}
use mathlib.Core.List.{List, [], ◌∷◌, ◌++◌, append-nil}
use mathlib.Core.Path.{◌≡◌, refl, sym, ◌∙◌, subst}
use Prim.Native.Nat.{ℕ, suc, ◌+◌, ◌-◌, ◌/◌, ◌%◌, ◌^◌, ◌≤◌, ◌<◌}
use native.Mathlib.Nat.{le_refl}
use native.Mathlib.Omega.{arith}
use lib.ListN.{length, get_or, take, length-append}
use lib.Seq.{take-append_seam, append_snoc}
use borrow.Author.Tests.{eq-eqb, le-leb, le-ltb, eqb-false}
use Rattle.price.specs.Lists.{every, has, neighbours}
use Rattle.price.proofs.TestLaws.{by_test, true≢false}
use Rattle.search.specs.Block.{Block, has_edge}
use Rattle.search.specs.Paths.{Walk, stay, step, path_cost}
use Rattle.search.proofs.BlockLaws.{graph_of_lem}
use Rattle.job.specs.Job.{Job, nets, net_sinks}
use Rattle.negotiation.specs.Records.{Record, words}
use Rattle.negotiation.specs.Routable.{Routable}
use Rattle.negotiation.specs.Order.{turn_sinks}
use Rattle.negotiation.specs.Machine.{State, net_records, tree_from, after_nets, iterate, over_count, first_state, state_after, iteration_after, records_after, settles_at}
use Rattle.negotiation.specs.Outcome.{has_path}
use Rattle.negotiation.specs.Resume.{record_path, whole_record, cost_follows, turn_price, turn_follows, all_joined, on, replay_by, replay, OwnLog}
use Rattle.negotiation.specs.Runs.{Ran, start}
use Rattle.negotiation.proofs.MemberLaws.{every-has, every_members}
use Rattle.negotiation.proofs.OrderLaws.{turn-listed}
use Rattle.negotiation.proofs.StateLaws.{nets-iteration}
use Rattle.negotiation.proofs.NetLaws.{StateReady, NetTurn, turn-fair, net-turn, net-joins}
use Rattle.negotiation.proofs.RanLaws.{ran-iteration}
use Rattle.negotiation.proofs.MachineRan.{Reached, ran-ready, machine_nets, machine_ran}
use Rattle.negotiation.proofs.FollowLaws.{PathHolds, turn_follows_lem}
use Rattle.negotiation.proofs.OneSinkLaws.{one_sink}
use Rattle.negotiation.proofs.LeastLaws.{cheapest-least}
use Rattle.negotiation.proofs.OwnReplayLaws.{Follow, done, more, NetsFollow, OwnRun, own_run}
use Rattle.negotiation.proofs.SomeTurnLaws.{some_turn}

-- ---- a walk as a list of nodes

walk_edges : {b : Block} {u v : ℕ} {path : List ℕ} → Walk b u path v → neighbours (has_edge b) path ≡ true
unfolding neighbours
walk_edges (stay u) = refl
walk_edges (step e (stay w)) = rw e
walk_edges (step e (step f r)) = rw e (walk_edges (step f r))

walk_end : {b : Block} {u v : ℕ} {path : List ℕ} → Walk b u path v → get_or path (length path - 1) 0 ≡ v
walk_end (stay u) = refl
walk_end (step e (stay w)) = refl
walk_end (step e (step {path = path} f r)) =
    let n : suc (suc (length path)) - 1 ≡ suc (suc (length path) - 1) = omega arith in
    rw n (walk_end (step f r))

-- ---- one turn

-- a record with such a path follows, whatever words come after its own
module _ (j : Job) (s : State) (i : ℕ) (tree : List ℕ) (r : Record) (path : PathHolds j i tree r.sink r.path) (ws : List ℕ) where
  path_in_lem : record_path (words r ++ ws) ≡ r.path
  unfolding words
  path_in_lem = take-append_seam r.path ws

  words_whole : whole_record (words r ++ ws) ≡ true
  unfolding whole_record words
  words_whole =
      let long = length-append r.path ws in
      rw (le-leb 6 (length (words r ++ ws)) (omega arith)) (le-leb (6 + length r.path) (length (words r ++ ws)) (omega arith))

  words-cost : r.cost ≡ path_cost (turn_price j s i tree) r.path → cost_follows (turn_price j s i tree) (words r ++ ws) ≡ true
  unfolding cost_follows words
  words-cost costs =
      rw (path_in_lem, ← costs, eq-eqb (r.cost % 2 ^ 32) (r.cost % 2 ^ 32) refl) (eq-eqb (r.cost / 2 ^ 32) (r.cost / 2 ^ 32) refl)

  words_follow :
      r.iteration ≡ s.iteration → r.net ≡ i → r.cost ≡ path_cost (turn_price j s i tree) r.path
      → turn_follows j s i tree (words r ++ ws) ≡ true
  unfolding words
  words_follow at of costs =
      turn_follows_lem j s i tree (words r ++ ws)
      (record { is_whole = words_whole; iteration-is = at; net-is = of; path = rw path_in_lem path; cost = words-cost costs })

-- ---- the turns of one net

module _ (j : Job) (sound : Routable j) (s : State) (ready : StateReady j s) (i : ℕ) (hi : i < nets j) where
  turn_path_lem : (earlier : List Record) (r : Record) → NetTurn j s i earlier r → PathHolds j i (tree_from j i earlier) r.sink r.path
  turn_path_lem earlier r t =
      record {
        edges = walk_edges t.cheapest.joins.follows;
        once = t.path-distinct;
        begins = t.begins;
        new-nodes = t.new-nodes;
        ends = walk_end t.cheapest.joins.follows;
        sink-listed = t.cheapest.joins.sink-listed;
        sink_open = t.cheapest.joins.sink_open;
        alone =
            one_sink j.block (graph_of_lem j.block sound.block-sound) (turn_price j s i (tree_from j i earlier))
            (turn-fair j sound s ready i hi (tree_from j i earlier)).pos (tree_from j i earlier) (turn_sinks j i (tree_from j i earlier)) r.sink r.cost r.path
            t.cheapest;
      }

  -- before a turn its sink is not joined
  still_open : (earlier : List Record) (r : Record) → NetTurn j s i earlier r → all_joined j i earlier ≡ false
  unfolding all_joined
  still_open earlier r t =
      by_test (every (λ x. has x (tree_from j i earlier)) (net_sinks j i))
      (λ q.
      absurd
      (true≢false
      (sym (every-has (λ x. has x (tree_from j i earlier)) (net_sinks j i) q r.sink (turn-listed j i (tree_from j i earlier) r.sink t.cheapest.joins.sink-listed)) ∙ t.cheapest.joins.sink_open)))
      (λ q. q)

  net_follow :
      ((x : ℕ) → has x (net_sinks j i) ≡ true → has_path j i x ≡ true) → (made rest : List Record) → net_records j s i ≡ made ++ rest → Follow j s i made rest
  unfolding all_joined
  net_follow all made [] e =
      let whole : net_records j s i ≡ made = e ∙ append-nil made in
      done
      (every_members (λ x. has x (tree_from j i made)) (net_sinks j i)
      (λ x h. subst (λ (l : List Record). has x (tree_from j i l) ≡ true) whole (net-joins j sound s ready i hi all x h)))
  net_follow all made (r ∷ rest) e =
      let t : NetTurn j s i made r = net-turn j sound s ready i hi made rest r e in
      more (still_open made r t) t.cheapest.joins.costs
      (λ ws. words_follow j s i (tree_from j i made) r (turn_path_lem made r t) ws t.iteration-is t.net-is t.cheapest.joins.costs)
      (cheapest-least j sound s ready i hi (tree_from j i made) t.cheapest)
      (net_follow all (made ++ (r ∷ [])) rest (e ∙ sym (append_snoc made r rest)))

-- ---- whole iterations

module _ (j : Job) (sound : Routable j) (all : Reached j) where
  pub nets_follow : {m : ℕ} {rs : List Record} {s : State} → Ran j m rs s → m < j.terms.limit → NetsFollow j s
  nets_follow {s = s} r h k l d =
      net_follow j sound (after_nets j s k).state (ran-ready j sound r (machine_nets j sound all r h k (omega arith)) h) k l (λ x listed. all k x l listed)
      [] (net_records j (after_nets j s k).state k) refl

  -- the machine after so many whole iterations
  pub ran-after : (n : ℕ) → n ≤ j.terms.limit → Ran j n (records_after j (first_state j) n) (state_after j (first_state j) n)
  ran-after n h =
      let e : 0 + n ≡ n = omega arith in
      subst (λ (k : ℕ). Ran j k (records_after j (first_state j) n) (state_after j (first_state j) n)) e (machine_ran j sound all start n (omega arith))

  module _ (n used : ℕ) (log : List ℕ) (own : OwnLog j n used log) where
    own_some : (k : ℕ) → k < n → 1 ≤ length (iteration_after j (first_state j) k).records
    unfolding settles_at iterate
    own_some k h =
        let below = own.below in
        let ran = ran-after k (omega arith) in
        some_turn j ran (machine_nets j sound all ran (omega arith) (nets j) (le_refl (nets j)))
        (eqb-false (over_count j (iteration_after j (first_state j) k).state.trees) 0 (own.unsettled k h))

    own_below : (k : ℕ) → k < n → (iteration_after j (first_state j) k).state.iteration < j.terms.limit
    unfolding iterate
    own_below k h =
        let now = nets-iteration j (state_after j (first_state j) k) (nets j) in
        let below = own.below in
        let at = ran-iteration j (ran-after k (omega arith)) in
        omega arith

    own-follows : OwnRun j (first_state j) n
    own-follows =
        record {
          follow = λ k h. let below = own.below in nets_follow (ran-after k (omega arith)) (omega arith);
          unsettled = own.unsettled;
          below = own_below;
          some = own_some;
        }

    -- the job's own log is taken up
    pub own-taken : replay j used log ≡ on (record { records = records_after j (first_state j) n; state = state_after j (first_state j) n })
    unfolding replay_by
    own-taken =
        let below = own.below in
        rw (le-ltb (length log) used own.within)
        (own_run j (take used log) (first_state j) n own-follows own.words_are j.terms.limit own.some (omega arith))
