-- The turns of a run, as the writer sees them: what each record has, and that an accepted job's log has one.
--     Turned, iteration-turned      the records of one iteration
--     TurnedUpTo, run_turned        those of a run
--     Accepted, accepted-           the log of an accepted job
--     SomeSinks, run_some           a job of which a net makes turns, so that its run has a record
-- Assumes nothing.
use mathlib.Core.Bool.{true, false}
use mathlib.Core.List.{List, [], ◌∷◌}
use mathlib.Core.Logic.{⊎_elim}
use mathlib.Core.Path.{◌≡◌, refl, sym, ◌∙◌, ap}
use Prim.Native.Nat.{ℕ, zero, suc, ◌+◌, ◌*◌, ◌-◌, ◌≤◌, ◌<◌, zero-le, suc-le-suc}
use native.Mathlib.Nat.{not-suc-le-zero, le_refl}
use native.Mathlib.Omega.{arith}
use lib.Dec.{ltb}
use lib.ListN.{length, get_or, take, drop, length-append}
use lib.Seq.{take-append_seam}
use borrow.Author.Tests.{le-leb, lt-ltb, leb-true}
use Rattle.price.specs.Lists.{has}
use Rattle.price.proofs.TestLaws.{by_test, both_true, true≢false, le_or_lt}
use Rattle.price.proofs.ListLaws.{has-at, has_place}
use Rattle.search.specs.Block.{Block}
use Rattle.search.specs.Paths.{Walk, stay, step}
use Rattle.job.specs.Job.{Job, nodes, nets, net_sinks}
use Rattle.job.specs.Tables.{exceeds, SoundJob}
use Rattle.negotiation.specs.Routable.{Routable}
use Rattle.job.specs.Join.{first_of, joined}
use Rattle.negotiation.specs.Records.{Record, encode}
use Rattle.negotiation.specs.Machine.{State, Progress, net_records, tree_from, has_sinks, due, after_nets, iterate, first_state, state_after, iteration_after, records_after}
use Rattle.negotiation.specs.Outcome.{RouteReply, unreachable_net, unreachable_place, first_progress, iterations_left, made_from, all_records, logged_records, cut_iteration, log_with, continued, negotiated, route_reply}
use Rattle.negotiation.specs.Demand.{latest}
use Rattle.job.proofs.JobLaws.{faulty_none}
use Rattle.negotiation.proofs.RoutableLaws.{nets_some, all-sinks}
use Rattle.negotiation.proofs.JoinedHolds.{sinks_lead, joined-nets, joined-routable}
use Rattle.negotiation.proofs.NetLaws.{NetTurn, net-turn, grown_first, state-ready}
use Rattle.negotiation.specs.Runs.{All, start}
use Rattle.negotiation.proofs.FilterLaws.{all_append, all_map, all_splits}
use Rattle.negotiation.proofs.StateLaws.{nets-iteration, first_iteration}
use Rattle.negotiation.proofs.DueLaws.{due-sinks, first_due}
use Rattle.negotiation.proofs.RanLaws.{ran-latest}
use Rattle.negotiation.proofs.MachineRan.{Reached, machine_nets}
use Rattle.negotiation.proofs.DemandHolds.{made-most}
use Rattle.negotiation.proofs.DemandLaws.{all-reached}
use Rattle.negotiation.proofs.EndLaws.{left_first, made-least, all_made}
use Rattle.negotiation.proofs.RefusalLaws.{route_large, route_unreachable, route_run_lem}
use Rattle.text.specs.Routes.{net_writable}
use Rattle.job.proofs.FirstNetLaws.{first_below_lem}

-- ---- the records of a run

-- a walk's nodes
module _ (b : Block) where
  walk_some : {u v : ℕ} {path : List ℕ} → Walk b u path v → 1 ≤ length path
  walk_some (stay u) = suc-le-suc zero-le
  walk_some (step e w) = suc-le-suc zero-le

  walk_long : {u v : ℕ} {path : List ℕ} → Walk b u path v → (u ≡ v → ⊥) → 2 ≤ length path
  walk_long (stay u) ne = absurd (ne refl)
  walk_long (step e w) ne = suc-le-suc (walk_some w)

  walk_end : {u v : ℕ} {path : List ℕ} → Walk b u path v → get_or path (length path - 1) 0 ≡ v
  walk_end (stay u) = refl
  walk_end (step {path = path} e w) =
      let some = walk_some w in
      let place : suc (length path) - 1 ≡ suc (length path - 1) = omega arith in
      rw place (walk_end w)

-- a turn logged in iteration t
pub record Turned (j : Job) (t : ℕ) (r : Record) : Type 0 where
  pub iteration-is : r.iteration ≡ t
  pub net-below : r.net < nets j
  pub has_sinks_lem : has_sinks j r.net ≡ true
  pub path-long : 2 ≤ length r.path
  pub path-short : length r.path ≤ nodes j
  pub path_nodes_lem : (k : ℕ) → k < length r.path → get_or r.path k 0 < nodes j
  pub path-end : get_or r.path (length r.path - 1) 0 ≡ r.sink

-- the path starts in the tree, which lacks the sink
net-turned : (j : Job) (s : State) (i t : ℕ) (earlier : List Record) (r : Record) → i < nets j → has_sinks j i ≡ true → s.iteration ≡ t → NetTurn j s i earlier r → Turned j t r
net-turned j s i t earlier r hi sinks at turn =
    record {
      iteration-is = turn.iteration-is ∙ at;
      net-below = omega (arith, turn.net-is);
      has_sinks_lem = rw turn.net-is sinks;
      path-long =
          walk_long j.block turn.cheapest.joins.follows
          (λ e.
          true≢false
          (sym turn.cheapest.joins.starts_in_tree ∙ ap (λ (v : ℕ). has v (tree_from j i earlier)) e ∙ turn.cheapest.joins.sink_open));
      path-short = turn.path-short;
      path_nodes_lem = turn.path_nodes_lem;
      path-end = walk_end j.block turn.cheapest.joins.follows;
    }

-- the records of the iteration after m whole ones
module _ (j : Job) (rests : Routable j) (m : ℕ) (hm : m < j.terms.limit) where
  nets-turned : (i : ℕ) → i ≤ nets j → All (Turned j (m + 1)) (after_nets j (state_after j (first_state j) m) i).records
  unfolding after_nets
  nets-turned zero h = tt
  nets-turned (suc i) h =
      let p : Progress = after_nets j (state_after j (first_state j) m) i in
      let s : State = p.state in
      let before = nets-turned i (omega arith) in
      by_test (due j (state_after j (first_state j) m) i)
      (λ d.
      rw d
      (all_append (Turned j (m + 1)) p.records (net_records j s i) before
      (all_splits (Turned j (m + 1)) (net_records j s i)
      (λ earlier later r e.
      net-turned j s i (m + 1) earlier r h (due-sinks j (state_after j (first_state j) m) i d) (nets-iteration j (state_after j (first_state j) m) i ∙ first_iteration j m)
      (net-turn j rests s (state-ready j rests (grown_first j rests) m i (omega (arith, hm))) i h earlier later r e)))))
      (λ d. rw d before)

  pub iteration-turned : All (Turned j (m + 1)) (iteration_after j (first_state j) m).records
  unfolding iterate
  iteration-turned = nets-turned (nets j) (le_refl (nets j))

-- a turn logged in iterations 1 to m
pub record TurnedUpTo (j : Job) (m : ℕ) (r : Record) : Type 0 where
  pub t : ℕ
  pub t_least : 1 ≤ t
  pub t_most : t ≤ m
  pub turned : Turned j t r

pub run_turned : (j : Job) → Routable j → (m : ℕ) → m ≤ j.terms.limit → All (TurnedUpTo j m) (records_after j (first_state j) m)
unfolding records_after
run_turned j rests zero h = tt
run_turned j rests (suc m) h =
    all_append (TurnedUpTo j (suc m)) (records_after j (first_state j) m) (iteration_after j (first_state j) m).records
    (all_map (TurnedUpTo j m) (TurnedUpTo j (suc m))
    (λ r b. record { t = b.t; t_least = b.t_least; t_most = omega (arith, b.t_most); turned = b.turned })
    (records_after j (first_state j) m) (run_turned j rests m (omega arith)))
    (all_map (Turned j (m + 1)) (TurnedUpTo j (suc m))
    (λ r b. record { t = m + 1; t_least = omega arith; t_most = omega arith; turned = b })
    (iteration_after j (first_state j) m).records (iteration-turned j rests m h))

-- ---- the log of an accepted job

-- the words used hold the records of the iterations up to the one after `whole`
pub record Accepted (j : Job) (r : RouteReply) : Type 0 where
  pub whole : ℕ
  pub below : whole < j.terms.limit
  pub words_are : take r.used r.log ≡ encode (records_after j (first_state j) (suc whole))
  pub reached : Reached j

-- a run without a refusal logs all its records
run_words : (j : Job) (p : Progress) (work log : List ℕ) → (continued j p work log).refusal ≡ [] → take (continued j p work log).used (continued j p work log).log ≡ encode (all_records j p)
unfolding continued log_with
run_words j p work log e =
    by_test (ltb (length (logged_records j p (length log))) (length (all_records j p)))
    (λ q.
    let none : (8 ∷ cut_iteration j p (length log) ∷ length (logged_records j p (length log)) ∷ []) ≡ [] = rw q at e in
    let z : ◌≡◌ {A = ℕ} 0 1 = cc in
    absurd (omega arith))
    (λ q.
    rw q (take-append_seam (encode (all_records j p)) (drop (length (encode (all_records j p))) log)))

-- the run of a job that can be routed
pub run_accepted :
    (j : Job) (work log : List ℕ) → Routable j → nets j ≤ unreachable_net j → (negotiated j work log).refusal ≡ [] → Accepted j (negotiated j work log)
run_accepted j work log rests h e =
    let left = left_first j in
    let one = rests.limit_some in
    let some = made-least j (first_state j) (iterations_left j (first_state j)) 0 (omega arith) (λ k l. absurd (not-suc-le-zero l)) in
    let most = made-most j (first_state j) (iterations_left j (first_state j)) in
    let last : ℕ = made_from j (first_state j) - 1 in
    let made : made_from j (first_state j) ≡ last + 1 = omega arith in
    record {
      whole = last;
      below = omega arith;
      words_are = run_words j (first_progress j) work log e ∙ ap encode (all_made j (first_progress j) last made);
      reached = all-reached j h;
    }

-- a timed job that is accepted exceeds no bound
pub accepted_fits : (j : Job) (work log : List ℕ) → SoundJob j → (route_reply j work log).refusal ≡ [] → exceeds (nodes j) j.terms ≡ false
accepted_fits j work log sound e =
    let fine = faulty_none j sound in
    by_test (exceeds (nodes j) j.terms)
    (λ h.
    let is = route_large j work log (omega arith) h in
    let none : (15 ∷ nodes j ∷ j.terms.limit ∷ []) ≡ [] = rw is at e in
    let z : ◌≡◌ {A = ℕ} 0 1 = cc in
    absurd (omega arith))
    (λ h. h)

-- an accepted job's reply is that of the joined job's run
pub accepted :
    (j : Job) (work log : List ℕ) → SoundJob j → 8 * nodes j ≤ length work → (route_reply j work log).refusal ≡ []
    → Accepted (joined j) (route_reply j work log)
accepted j work log sound enough e =
    let fine = faulty_none j sound in
    let fits = accepted_fits j work log sound e in
    ⊎_elim
    (λ (h : nets j ≤ unreachable_net (joined j)).
    let is = route_run_lem j work log (omega arith) fits enough h in
    rw is (run_accepted (joined j) work log (joined-routable j sound fits) h (rw is at e)))
    (λ (h : unreachable_net (joined j) < nets j).
    let is = route_unreachable j work log (omega arith) fits enough h in
    let none : (7 ∷ unreachable_net (joined j) ∷ unreachable_place (joined j) ∷ []) ≡ [] = rw is at e in
    let z : ◌≡◌ {A = ℕ} 0 1 = cc in
    absurd (omega arith))
    (le_or_lt (nets j) (unreachable_net (joined j)))

-- a job of which a net makes turns
pub record SomeSinks (j : Job) : Type 0 where
  pub net : ℕ
  pub below : net < nets j
  pub some : has_sinks j net ≡ true

pub some_sinks : (j : Job) → SoundJob j → SomeSinks j
some_sinks j sound =
    record { net = 0; below = nets_some j sound; some = all-sinks j sound 0 (nets_some j sound) }

-- of the joined job the first net of its source
pub joined_some : (j : Job) → SoundJob j → SomeSinks (joined j)
unfolding has_sinks
joined_some j sound =
    let one = some_sinks j sound in
    let first : ℕ = first_of j.sources one.net in
    let sinks : List ℕ = net_sinks j one.net in
    let some : 1 ≤ length sinks = leb-true 1 (length sinks) one.some in
    let listed : has (get_or sinks 0 0) (net_sinks (joined j) first) ≡ true =
    (joined-nets j sound).listed one.net (get_or sinks 0 0) one.below (has-at sinks 0 some) in
    let place = has_place (get_or sinks 0 0) (net_sinks (joined j) first) listed in
    record {
      net = first;
      below = first_below_lem j.sources one.net one.below;
      some = le-leb 1 (length (net_sinks (joined j) first)) (omega (arith, place.1));
    }

-- every net of the joined job that makes turns is the first of its source
pub joined_passes : (j : Job) (i : ℕ) → i < nets (joined j) → has_sinks (joined j) i ≡ true → net_writable j.sources i ≡ true
unfolding net_writable
joined_passes j i h some = both_true (lt-ltb i (length j.sources) h) (sinks_lead j i h some)

-- ---- a run has a record

-- a list with a latest iteration isn't empty
some_latest : (k t : ℕ) (rs : List Record) → latest k rs ≡ t + 1 → 1 ≤ length rs
unfolding latest
some_latest k t [] e = absurd (omega arith)
some_latest k t (r ∷ rs) e = suc-le-suc zero-le

-- the first iteration takes every net with sinks, under either rule
pub run_some : (j : Job) → Routable j → SomeSinks j → Reached j → (m : ℕ) → m < j.terms.limit → 1 ≤ length (records_after j (first_state j) (suc m))
unfolding records_after state_after first_state iterate
run_some j rests one reached zero h =
    some_latest one.net 0 (iteration_after j (first_state j) 0).records
    (ran-latest j start (machine_nets j rests reached start h (nets j) (le_refl (nets j))) one.net one.below
    (first_due j (first_state j) one.net rests.until_some refl ∙ one.some))
run_some j rests one reached (suc m) h =
    omega (arith, run_some j rests one reached m (omega arith), length-append (records_after j (first_state j) (suc m)) (iteration_after j (first_state j) (suc m)).records)
