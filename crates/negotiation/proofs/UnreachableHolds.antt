-- What refusal 7 means in paths: it names the first sink without one, and every such job is refused so.
-- Assumes nothing.
use mathlib.Core.Bool.{true, false, not}
use mathlib.Core.List.{List, [], ◌∷◌}
use mathlib.Core.Logic.{⊎_elim}
use mathlib.Core.Path.{◌≡◌, sym, ◌∙◌, ap}
use Prim.Native.Nat.{ℕ, ◌≤◌, ◌<◌}
use native.Mathlib.Omega.{arith}
use lib.ListN.{length, get_or}
use borrow.Author.Tests.{not-true, not-false}
use Rattle.price.specs.Lists.{every, first_below}
use Rattle.price.proofs.TestLaws.{by_test, le_or_lt, true≢false}
use Rattle.price.proofs.ListLaws.{every-at, every-all, every-none, has-at, has_place}
use Rattle.price.proofs.BelowLaws.{first_below-below, first_below_holds, first_below-is}
use Rattle.search.specs.Replies.{work_needed}
use Rattle.job.specs.Job.{Job, nodes, nets, net_sinks}
use Rattle.job.specs.Tables.{faulty_job, exceeds}
use Rattle.negotiation.specs.Outcome.{RouteReply, has_path, unreachable_net, unreachable_place, first_progress}
use Rattle.negotiation.specs.Unreachable.{Reachable, FirstUnreachable, UnreachableRefused}
use Rattle.negotiation.specs.Routable.{Routable}
use Rattle.job.specs.Join.{joined}
use Rattle.job.proofs.JobLaws.{sound-job, faulty_none}
use Rattle.negotiation.proofs.JoinedHolds.{joined-routable}
use Rattle.negotiation.proofs.NetLaws.{path_from, sink-path}
use Rattle.negotiation.proofs.DemandLaws.{walk_path}
use Rattle.negotiation.proofs.RefusalLaws.{route_table, route_large, route_work, route_unreachable, route_run_lem}
use Rattle.negotiation.proofs.DemandHolds.{run_reached}

module _ (j : Job) (sound : Routable j) where
  -- the sink at a place of a net
  abbrev sink_at : ℕ → ℕ → ℕ
  sink_at i p = get_or (net_sinks j i) p 0

  reached : (i p : ℕ) → i < nets j → p < length (net_sinks j i) → has_path j i (sink_at i p) ≡ true → Reachable j i (sink_at i p)
  reached i p h l found = path_from j sound i h (sink_at i p) (sound.sink-node i h p l) found

  not_reached : (i p : ℕ) → i < nets j → has_path j i (sink_at i p) ≡ false → Reachable j i (sink_at i p) → ⊥
  not_reached i p h lost w = true≢false (sym (walk_path j sound i (sink_at i p) w.0 h w.1) ∙ lost)

  -- the first net with a sink without a path, and the first such place in it
  module _ (h : unreachable_net j < nets j) where
    abbrev net : ℕ
    net = unreachable_net j

    net_lacks : every (has_path j net) (net_sinks j net) ≡ false
    unfolding unreachable_net
    net_lacks = not-true _ (first_below_holds (λ i. not (every (has_path j i) (net_sinks j i))) (nets j) h)

    place_below : unreachable_place j < length (net_sinks j net)
    unfolding unreachable_place
    place_below =
        ⊎_elim
        (λ (l : length (net_sinks j net) ≤ first_below (λ p. not (has_path j net (sink_at net p))) (length (net_sinks j net))).
        let all : every (has_path j net) (net_sinks j net) ≡ true =
        every-all (has_path j net) (net_sinks j net)
        (λ k q. not-false _ (first_below-below (λ p. not (has_path j net (sink_at net p))) (length (net_sinks j net)) k (omega arith))) in
        absurd (true≢false (sym all ∙ net_lacks)))
        (λ l. l)
        (le_or_lt (length (net_sinks j net)) (first_below (λ p. not (has_path j net (sink_at net p))) (length (net_sinks j net))))

    place_lacks : has_path j net (sink_at net (unreachable_place j)) ≡ false
    unfolding unreachable_place
    place_lacks =
        let l = place_below in
        not-true _ (first_below_holds (λ p. not (has_path j net (sink_at net p))) (length (net_sinks j net)) l)

    place_before : (p : ℕ) → p < unreachable_place j → has_path j net (sink_at net p) ≡ true
    unfolding unreachable_place
    place_before p l = not-false _ (first_below-below (λ p. not (has_path j net (sink_at net p))) (length (net_sinks j net)) p l)

    net_before : (i : ℕ) → i < net → every (has_path j i) (net_sinks j i) ≡ true
    unfolding unreachable_net
    net_before i l = not-false _ (first_below-below (λ i. not (every (has_path j i) (net_sinks j i))) (nets j) i l)

    first_unreachable : FirstUnreachable j net (unreachable_place j)
    first_unreachable =
        let below = place_below in
        record {
          net-below = h;
          place_below = below;
          no_path = not_reached net (unreachable_place j) h place_lacks;
          sinks_before = λ p l. reached net p h (omega arith) (place_before p l);
          nets_before =
              λ i s l k.
              let at = has_place s (net_sinks j i) k in
              let found : has_path j i s ≡ true = rw at.2 at (every-at (has_path j i) (net_sinks j i) (net_before i l) at.0 at.1) in
              sink-path j sound i (omega arith) s k found;
        }

  -- these two are no other
  module _ (net place : ℕ) (f : FirstUnreachable j net place) where
    lacks : has_path j net (sink_at net place) ≡ false
    lacks =
        by_test (has_path j net (sink_at net place))
        (λ q.
        absurd (f.no_path (reached net place f.net-below f.place_below q)))
        (λ q. q)

    found_before : (p : ℕ) → p < place → has_path j net (sink_at net p) ≡ true
    found_before p l = let w = f.sinks_before p l in walk_path j sound net (sink_at net p) w.0 f.net-below w.1

    all_before : (i : ℕ) → i < net → every (has_path j i) (net_sinks j i) ≡ true
    all_before i l =
        let h : i < nets j = omega (arith, f.net-below) in
        every-all (has_path j i) (net_sinks j i)
        (λ k q. let w = f.nets_before i (sink_at i k) l (has-at (net_sinks j i) k q) in walk_path j sound i (sink_at i k) w.0 h w.1)

    is-net : unreachable_net j ≡ net
    unfolding unreachable_net
    is-net =
        first_below-is (λ i. not (every (has_path j i) (net_sinks j i))) (nets j) net f.net-below
        (rw (every-none (has_path j net) (net_sinks j net) place f.place_below lacks)) (λ i l. rw (all_before i l))

    is_place : unreachable_place j ≡ place
    unfolding unreachable_place
    is_place =
        rw is-net
        (first_below-is (λ p. not (has_path j net (sink_at net p))) (length (net_sinks j net)) place f.place_below
        (rw lacks) (λ p l. rw (found_before p l)))

-- refusals by another number
not_seven : (number net place : ℕ) (numbers : List ℕ) → (number ≡ 7 → ⊥) → number ∷ numbers ≡ 7 ∷ net ∷ place ∷ [] → ⊥
not_seven number net place numbers other e = other (cc)

pub unreachable_refused : (j : Job) (work log : List ℕ) → UnreachableRefused j work log
unreachable_refused j work log =
    record {
      means = λ net place e.
          ⊎_elim
          (λ (h : 1 ≤ faulty_job j).
          absurd (not_seven 5 net place _ (λ z. omega arith) (sym (refusal (route_table j work log h)) ∙ e)))
          (λ (h : faulty_job j < 1).
          by_test (exceeds (nodes j) j.terms)
          (λ x.
          absurd (not_seven 15 net place _ (λ z. omega arith) (sym (refusal (route_large j work log h x)) ∙ e)))
          (λ x.
          ⊎_elim
          (λ (enough : work_needed (nodes j) ≤ length work).
          ⊎_elim
          (λ (all : nets j ≤ unreachable_net (joined j)).
          absurd (run_reached (joined j) (first_progress (joined j)) work log net place (sym (refusal (route_run_lem j work log h x enough all)) ∙ e)))
          (λ (some : unreachable_net (joined j) < nets j).
          let same = sym (refusal (route_unreachable j work log h x enough some)) ∙ e in
          let at : unreachable_net (joined j) ≡ net = cc in
          let in-net : unreachable_place (joined j) ≡ place = cc in
          rw (← at, ← in-net) (first_unreachable (joined j) (joined-routable j (sound-job j (omega arith)) x) some))
          (le_or_lt (nets j) (unreachable_net (joined j))))
          (λ (short : length work < work_needed (nodes j)).
          absurd (not_seven 6 net place _ (λ z. omega arith) (sym (refusal (route_work j work log h x short)) ∙ e)))
          (le_or_lt (work_needed (nodes j)) (length work))))
          (le_or_lt 1 (faulty_job j));
      given = λ sound x enough net place f.
          let none : faulty_job j < 1 = rw (faulty_none j sound) (omega arith) in
          let some : unreachable_net (joined j) < nets j = rw (is-net (joined j) (joined-routable j sound x) net place f) f.net-below in
          refusal (route_unreachable j work log none x enough some)
          ∙ rw (is-net (joined j) (joined-routable j sound x) net place f, is_place (joined j) (joined-routable j sound x) net place f);
    }
  where
    refusal : {a b : RouteReply} → a ≡ b → a.refusal ≡ b.refusal
    refusal e = ap (λ (r : RouteReply). r.refusal) e
