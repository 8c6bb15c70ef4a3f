-- Request 2.2: replies go by base costs; a job of 01's kinds makes its turns at 01's prices, and each turn in its log is such a one. Request 2.7: an iteration under rule 1 takes every net that has sinks.
-- Assumes nothing.
use mathlib.Core.List.{List, [], ◌∷◌}
use mathlib.Core.Logic.{⊎_elim}
use mathlib.Core.Path.{◌≡◌, refl, ◌∙◌, ap, fun_ext}
use Prim.Native.Nat.{ℕ, zero, suc, ◌≤◌, ◌<◌}
use native.Mathlib.Omega.{arith}
use lib.Dec.{ltb}
use lib.ListN.{get_or, get_or-eq_default}
use Rattle.price.specs.Timed.{weighed}
use Rattle.price.proofs.TestLaws.{le_or_lt}
use Rattle.price.proofs.OlderHolds.{older_kept}
use Rattle.search.specs.Distance.{far, distance}
use Rattle.search.specs.Turn.{Congestion, congested_at, price_at, turn}
use Rattle.job.specs.Job.{Job, nodes, nets, source}
use Rattle.job.specs.Tables.{SoundJob}
use Rattle.job.specs.Join.{joined}
use Rattle.job.proofs.JobLaws.{faulty_none}
use Rattle.negotiation.specs.Records.{Record}
use Rattle.negotiation.specs.Order.{turn_sinks, turn_congestion}
use Rattle.negotiation.specs.Machine.{State, marks_of, congestion_for, turn_of, after_nets, iterate, first_state}
use Rattle.negotiation.specs.Outcome.{RouteReply, has_path, negotiated, reached_reply, tested, route_reply}
use Rattle.negotiation.specs.Demand.{own_tree}
use Rattle.negotiation.specs.Resume.{replay, resumed_reply, resume_reply}
use Rattle.negotiation.specs.OlderJobs.{SameCosts, with_kinds, ByCosts, OnlyPricesAsk, every_net, AsBefore, OlderJob, older_price_at, older_turn_of, older_has_path, TurnsKept, congestion_read, OlderTurn, LogKept}
use Rattle.negotiation.proofs.JoiningLaws.{places_same}
use Rattle.negotiation.proofs.DueLaws.{rule_1}
use Rattle.negotiation.proofs.KindLaws.{first_same, due-same, move_same, over-same, reached-same, begun_same, resumed-same}
use Rattle.negotiation.proofs.TurnReadLaws.{TurnRead}
use Rattle.negotiation.proofs.DemandHolds.{logged_read}

-- ---- replies by base costs

-- joining reads no kinds
joined-kinds : (j : Job) (kinds : List ℕ) → joined (with_kinds j kinds) ≡ with_kinds (joined j) kinds
joined-kinds j kinds = simp (places_same (with_kinds j kinds) j refl refl refl)

module _ (j : Job) (kinds : List ℕ) (sound : SoundJob j) (other : SoundJob (with_kinds j kinds)) (same : SameCosts j.block.kinds kinds) where
  tests_same : (work log : List ℕ) (run : RouteReply) → tested (with_kinds j kinds) work log run ≡ tested j work log run
  tests_same work log run =
      let seven : reached_reply (joined (with_kinds j kinds)) work log run ≡ reached_reply (joined j) work log run =
      ap (λ (k : Job). reached_reply k work log run) (joined-kinds j kinds) ∙ reached-same (joined j) kinds same work log run in
      rw (faulty_none j sound, faulty_none (with_kinds j kinds) other, seven, same.as_many)

  routed-same : (work log : List ℕ) → route_reply (with_kinds j kinds) work log ≡ route_reply j work log
  unfolding route_reply
  routed-same work log =
      let run : negotiated (joined (with_kinds j kinds)) work log ≡ negotiated (joined j) work log =
      ap (λ (k : Job). negotiated k work log) (joined-kinds j kinds) ∙ begun_same (joined j) kinds same work log in
      ap (tested (with_kinds j kinds) work log) run ∙ tests_same work log (negotiated (joined j) work log)

  taken-same : (used : ℕ) (work log : List ℕ) → resume_reply (with_kinds j kinds) used work log ≡ resume_reply j used work log
  unfolding resume_reply
  taken-same used work log =
      let k : Job = joined (with_kinds j kinds) in
      let run : resumed_reply k (replay k used log) work log ≡ resumed_reply (joined j) (replay (joined j) used log) work log =
      ap (λ (x : Job). resumed_reply x (replay x used log) work log) (joined-kinds j kinds) ∙ resumed-same (joined j) kinds same used work log in
      ap (tested (with_kinds j kinds) work log) run ∙ tests_same work log (resumed_reply (joined j) (replay (joined j) used log) work log)

pub by_costs : (j : Job) (kinds : List ℕ) → ByCosts j kinds
by_costs j kinds sound other same = record { routed = routed-same j kinds sound other same; resumed = taken-same j kinds sound other same }

pub kinds_unread : (j : Job) (kinds : List ℕ) → OnlyPricesAsk j kinds
kinds_unread j kinds len =
    record { first = first_same j kinds len; nets-due = due-same j kinds len; moved = move_same j kinds len; over = over-same j kinds len }

-- ---- rule 1

module _ (j : Job) (rule : j.terms.rule ≡ 1) (s : State) where
  every_net_lem : (i : ℕ) → after_nets j s i ≡ every_net j s i
  unfolding after_nets every_net
  every_net_lem zero = refl
  every_net_lem (suc i) = rw (every_net_lem i, rule_1 j s i rule)

pub as_before : (j : Job) → AsBefore j
unfolding iterate
as_before j rule s = every_net_lem j rule s (nets j)

-- ---- 01's prices

module _ (j : Job) (older : OlderJob j) where
  -- what is no node counts as kind 0
  kind_older : (v : ℕ) → get_or j.block.kinds v 0 < 16
  kind_older v =
      ⊎_elim
      (λ (h : nodes j ≤ v). rw (get_or-eq_default j.block.kinds 0 h) (omega arith))
      (older v)
      (le_or_lt (nodes j) v)

  prices-kept : (c : Congestion) → price_at j.block c ≡ older_price_at j.block c
  unfolding price_at congested_at older_price_at
  prices-kept c = fun_ext (λ v. ap (weighed c.weighting (get_or c.delays v 0)) (older_kept.prices _ _ _ _ _ (kind_older v)))

  turn-kept : (c : Congestion) (i : ℕ) (tree : List ℕ) → turn_of j c i tree ≡ older_turn_of j c i tree
  unfolding turn_of older_turn_of
  turn-kept c i tree = ap (λ (price : ℕ → ℕ). turn j.block price (marks_of j tree) (turn_sinks j i tree)) (prices-kept (turn_congestion j c i tree))

  path-kept : (i s : ℕ) → has_path j i s ≡ older_has_path j i s
  unfolding has_path older_has_path
  path-kept i s =
      ap (λ (price : ℕ → ℕ). ltb (distance j.block price (marks_of j (source j i ∷ [])) s) far) (prices-kept (congestion_for j (first_state j) i))

  pub turns-kept : TurnsKept j
  turns-kept = record { paths = path-kept; turns = turn-kept }

-- the job of joined nets has the same block
joined_older : (j : Job) → OlderJob j → OlderJob (joined j)
joined_older j older = older

-- a turn that is read off the log
read_kept : (j : Job) → OlderJob j → (earlier : List Record) (t : Record) → TurnRead j earlier t → OlderTurn j earlier t
read_kept j older earlier t read =
    let tree : List ℕ = own_tree j t.net t.iteration earlier in
    rw (turn-kept j older (congestion_read j t.net t.iteration earlier) t.net tree) at read

pub log-kept : (j : Job) → OlderJob j → (work log : List ℕ) → LogKept j (route_reply j work log)
log-kept j older work log =
    record { every-turn = λ earlier later t e. read_kept (joined j) (joined_older j older) earlier t (logged_read j work log earlier later t e) }
