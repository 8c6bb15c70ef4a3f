-- `negotiation::turns::go_on` meets its contract. At the head of each loop the lists and the tariff are the machine's (`KeepLaws`), from any progress whose
-- they were at first; within an iteration that is said from any such place at the iteration's start. What is safe rests on the one progress that is asked for.
-- So is what the tariff counts (`KeepCount`). The measure: iterations up to the limit.
-- Assumes nothing.
use mathlib.Core.List.{List}
use mathlib.Core.Path.{◌≡◌, refl, ◌∙◌, sym, ap, subst}
use Prim.Native.Nat.{ℕ, ◌+◌, ◌-◌, ◌*◌, ◌≤◌, ◌<◌}
use native.Mathlib.Nat.{le_of_eq, le_trans, sub-zero}
use native.Mathlib.Omega.{arith}
use lib.Dec.{ltb}
use lib.ListN.{length, get_or}
use Rattle.price.specs.Lists.{count_below}
use Rattle.search.proofs.BlockLaws.{kinds-few, capacities-long}
use Rattle.job.specs.Job.{Job, nodes}
use Rattle.job.specs.Job.{job_in}
use Rattle.negotiation.specs.Routable.{Routable}
use Rattle.negotiation.specs.Machine.{Progress}
use Rattle.negotiation.specs.Kept.{Ready}
use Rattle.negotiation.specs.Runs.{Ran}
use Rattle.negotiation.proofs.RoutableLaws.{tuning-fits}
use Rattle.negotiation.proofs.DemandLaws.{all-reached}
use Rattle.negotiation.proofs.KeepLaws.{AtNet, AtTurns}
use Rattle.negotiation.proofs.KeepProgress.{due-ready, over_used, users-long}
use Rattle.negotiation.proofs.KeepStart.{keep_start, keep_due, keep_ready, keep_begun}
use Rattle.negotiation.proofs.KeepTurn.{Lent, lent_tables, call_tried, call_turn, after_turn}
use Rattle.negotiation.proofs.turns.KeepNet.{keep_end-ready, keep_ended}
use Rattle.negotiation.proofs.turns.KeepEnd.{Answers, after_full, all-routed, history_long, keep_accepted, keep_limit, keep_growable, keep_below, keep_next}
use Rattle.negotiation.proofs.turns.KeepCount.{Counts, CountsOn, counts_start, counts_same, counts-answer, counts_fit, counts_turn, counts_full}
use Rattle.negotiation.proofs.turns.go_on.Goals.{At-loop, At-loop-net}
use Rattle.negotiation.proofs.turns.go_on.Goals as goal

-- the nodes over capacity, as the code counts them
over-is :
    (j : Job) → Routable j → (users : List ℕ) {over : ℕ}
    → over ≡ count_below (λ (v : ℕ). ltb (get_or j.block.capacities v 0) (get_or users v 0)) (length j.block.capacities) → over ≡ over_used j users
over-is j sound users e =
    e
    ∙ ap (λ (k : ℕ). count_below (λ (v : ℕ). ltb (get_or j.block.capacities v 0) (get_or users v 0)) k)
    (capacities-long _ _ sound.block-sound.capacities_sound_lem)

-- at the head of the loop over nets, from any such place at the iteration's start
module _ (c : At-loop-net) where
  abbrev net_job : Job
  net_job =
      job_in c.args.job.now

  -- a progress whose lists and tariff they are at first
  abbrev NetReady : Progress → Type 0
  NetReady p =
      Ready net_job p c.args.begun c.args.history.now c.args.users.now c.args.in_tree.now c.args.tree_from.now c.args.tree_to.now
      c.args.due.now c.args.log.now

  abbrev NetStart : Progress → List ℕ → List ℕ → ℕ → Type 0
  NetStart p W L m =
      AtNet net_job p W L m 0 c.iterations.tariff c.iterations.history c.iterations.users c.iterations.in_tree c.iterations.tree_from
      c.iterations.tree_to c.mark_due.new.due c.iterations.work c.iterations.log

  abbrev NetHere : Progress → List ℕ → List ℕ → ℕ → Type 0
  NetHere p W L m =
      AtNet net_job p W L m c.loop-net.net c.loop-net.tariff c.iterations.history c.loop-net.users c.loop-net.in_tree c.loop-net.tree_from
      c.loop-net.tree_to c.mark_due.new.due c.loop-net.work c.loop-net.log

  net_from : (p : Progress) (W L : List ℕ) (m : ℕ) → 8 * nodes net_job ≤ length W → NetStart p W L m → NetHere p W L m
  net_from p W L m e o = (c.loop-net.invariant p W L m e o).0

  net_counts :
      (p : Progress) (W L : List ℕ) (m : ℕ) → 8 * nodes net_job ≤ length W → NetStart p W L m
      → CountsOn net_job p c.iterations.tariff c.iterations.log c.loop-net.tariff c.loop-net.log
  net_counts p W L m e o = (c.loop-net.invariant p W L m e o).1

  net_start : (p : Progress) (r : NetReady p) → NetStart p c.args.work.now c.args.log.now (c.iterations.invariant p r).0
  net_start p r = keep_due _ c.requires.ready.0.0 (c.iterations.invariant p r).1 _ c.mark_due.ensures

  net_at : (p : Progress) (r : NetReady p) → NetHere p c.args.work.now c.args.log.now (c.iterations.invariant p r).0
  net_at p r = net_from p _ _ _ c.requires.ready.0.2 (net_start p r)

  -- the nodes that are counted
  net_counted :
      (p : Progress) (k : ℕ) → NetReady p → Ran net_job k p.records p.state
      → Counts c.args.begun.aimed net_job p.records c.loop-net.tariff c.loop-net.log
  net_counted p k r ran =
      let none = counts_start net_job r c.requires.ready.1.none-expanded in
      net_counts p _ _ _ c.requires.ready.0.2 (net_start p r) k _ ran ((c.iterations.invariant p r).2 k _ ran none)

  -- the progress that is asked for
  net_safe :
      NetHere c.requires.ready.1.progress c.args.work.now c.args.log.now
      (c.iterations.invariant c.requires.ready.1.progress c.requires.ready.1.ready).0
  net_safe = net_at c.requires.ready.1.progress c.requires.ready.1.ready

  -- past the last net
  whole :
      length c.args.job.now.source.now ≤ c.loop-net.net → (p : Progress) (r : NetReady p)
      → AtNet net_job p c.args.work.now c.args.log.now (c.iterations.invariant p r).0 (length c.args.job.now.source.now) c.loop-net.tariff
      c.iterations.history c.loop-net.users c.loop-net.in_tree c.loop-net.tree_from c.loop-net.tree_to c.mark_due.new.due
      c.loop-net.work c.loop-net.log
  whole past p r = all-routed _ (net_at p r) past

  whole_safe :
      length c.args.job.now.source.now ≤ c.loop-net.net
      → AtNet net_job c.requires.ready.1.progress c.args.work.now c.args.log.now
      (c.iterations.invariant c.requires.ready.1.progress c.requires.ready.1.ready).0 (length c.args.job.now.source.now) c.loop-net.tariff
      c.iterations.history c.loop-net.users c.loop-net.in_tree c.loop-net.tree_from c.loop-net.tree_to c.mark_due.new.due
      c.loop-net.work c.loop-net.log
  whole_safe past = whole past c.requires.ready.1.progress c.requires.ready.1.ready

-- at the head of the loop over turns
module _ (c : At-loop) where
  abbrev turn_job : Job
  turn_job =
      job_in c.args.job.now

  abbrev TurnReadyAt : Progress → Type 0
  TurnReadyAt p =
      Ready turn_job p c.args.begun c.args.history.now c.args.users.now c.args.in_tree.now c.args.tree_from.now c.args.tree_to.now
      c.args.due.now c.args.log.now

  abbrev TurnStart : Progress → List ℕ → List ℕ → ℕ → Type 0
  TurnStart p W L m =
      AtNet turn_job p W L m 0 c.iterations.tariff c.iterations.history c.iterations.users c.iterations.in_tree c.iterations.tree_from
      c.iterations.tree_to c.mark_due.new.due c.iterations.work c.iterations.log

  -- its old tree is dropped
  abbrev TurnHere : Progress → List ℕ → List ℕ → ℕ → Type 0
  TurnHere p W L m =
      AtTurns turn_job p W L m c.loop-net.net (c.begin_net-most.result - c.loop.counter) c.loop.tariff c.iterations.history c.begin_net-most.new.users
      c.loop.in_tree c.loop-net.tree_from c.loop-net.tree_to c.mark_due.new.due c.loop.work c.loop.log
      c.loop-net.tariff.words

  turn_inv :
      (p : Progress) (W L : List ℕ) (m : ℕ) → 8 * nodes turn_job ≤ length W → TurnStart p W L m
      → TurnHere p W L m × CountsOn turn_job p c.loop-net.tariff c.loop-net.log c.loop.tariff c.loop.log
  turn_inv p W L m e o =
      let begun =
      keep_begun _ c.requires.ready.0.0 (c.loop-net.invariant p W L m e o).0 c.loop-net-test.true c.begin_net-most.ensures.idle
      c.begin_net-most.ensures.begun in
      c.loop.invariant p W L m e begun

  turn_from : (p : Progress) (W L : List ℕ) (m : ℕ) → 8 * nodes turn_job ≤ length W → TurnStart p W L m → TurnHere p W L m
  turn_from p W L m e o = (turn_inv p W L m e o).0

  turn_counts :
      (p : Progress) (W L : List ℕ) (m : ℕ) → 8 * nodes turn_job ≤ length W → TurnStart p W L m
      → CountsOn turn_job p c.iterations.tariff c.iterations.log c.loop.tariff c.loop.log
  turn_counts p W L m e o k aimed ran h =
      (turn_inv p W L m e o).1 k aimed ran ((c.loop-net.invariant p W L m e o).1 k aimed ran h)

  turn_start : (p : Progress) (r : TurnReadyAt p) → TurnStart p c.args.work.now c.args.log.now (c.iterations.invariant p r).0
  turn_start p r = keep_due _ c.requires.ready.0.0 (c.iterations.invariant p r).1 _ c.mark_due.ensures

  turn_at : (p : Progress) (r : TurnReadyAt p) → TurnHere p c.args.work.now c.args.log.now (c.iterations.invariant p r).0
  turn_at p r = turn_from p _ _ _ c.requires.ready.0.2 (turn_start p r)

  -- the nodes that are counted
  turn_counted :
      (p : Progress) (k : ℕ) → TurnReadyAt p → Ran turn_job k p.records p.state
      → Counts c.args.begun.aimed turn_job p.records c.loop.tariff c.loop.log
  turn_counted p k r ran =
      let none = counts_start turn_job r c.requires.ready.1.none-expanded in
      turn_counts p _ _ _ c.requires.ready.0.2 (turn_start p r) k _ ran ((c.iterations.invariant p r).2 k _ ran none)

  -- the progress that is asked for
  turn_safe :
      TurnHere c.requires.ready.1.progress c.args.work.now c.args.log.now
      (c.iterations.invariant c.requires.ready.1.progress c.requires.ready.1.ready).0
  turn_safe = turn_at c.requires.ready.1.progress c.requires.ready.1.ready

  -- tables 9 and 10
  tables : Lent turn_job c.args.job.now.delay.now c.args.job.now.criticality.now
  tables = lent_tables _ _ _ _ _ _ _ _ _ _

pub iterations-init : goal.iterations-init
iterations-init c = λ p r. (0, keep_start _ r _, λ k aimed ran h. h)

pub mark_due-requires : goal.mark_due-requires
mark_due-requires c =
    let inv = (c.iterations.invariant c.requires.ready.1.progress c.requires.ready.1.ready).1 in
    record {
      due_ready = due-ready _ c.requires.ready.0.0 inv.kept inv.tallied;
      due_len = inv.due-long ∙ sym inv.kept.places.from_long;
    }

pub loop-net-init : goal.loop-net-init
loop-net-init c = λ p W L m e at. (at, λ k aimed ran h. h)

pub begin_net-most-requires : goal.begin_net-most-requires
begin_net-most-requires c =
    keep_ready _ c.requires.ready.0.0 (net_safe (goal.at.begin_net-most-requires c).At-loop-net) c.loop-net-test.true

pub loop-init : goal.loop-init
loop-init c = λ p W L m e at. (rw (sub-zero c.begin_net-most.result) at, λ k aimed ran h. h)

pub net_turn-requires : goal.net_turn-requires
net_turn-requires c =
    let at : At-loop = (goal.at.net_turn-requires c).At-loop in
    let sound = c.requires.ready.0.0 in
    let enough = c.requires.ready.0.2 in
    let left : 0 < c.begin_net-most.result - c.loop.counter = omega (arith, c.loop-test.true) in
    let ran = c.requires.ready.1.ran in
    let counts = turn_counted at c.requires.ready.1.progress _ c.requires.ready.1.ready ran in
    let few = counts_fit _ sound (all-reached _ c.requires.ready.0.1) enough (turn_safe at) left (tables at) ran counts in
    record {
      sinks_ready = call_tried _ sound enough (turn_safe at) left (tables at);
      ready = call_turn _ sound enough (turn_safe at) left (tables at) few;
      back_lent = λ aims. c.requires.back_lent (sym counts.aimed_is ∙ aims);
    }

pub loop-preserved : goal.loop-preserved
loop-preserved c =
    let at : At-loop = (goal.at.loop-preserved c).At-loop in
    let sound = c.requires.ready.0.0 in
    let reachable = all-reached _ c.requires.ready.0.1 in
    let left : 0 < c.begin_net-most.result - c.loop.counter = omega (arith, c.loop-test.true) in
    let done = c.net_turn.ensures in
    let one_less : c.begin_net-most.result - (c.loop.counter + 1) ≡ c.begin_net-most.result - c.loop.counter - 1 = omega arith in
    λ p W L m e o.
    let inv = c.loop.invariant p W L m e o in (
      rw one_less (after_turn _ sound e inv.0 left (tables at) _ _ _ done.same_from _ done.answers _ c.in-Ok.is _ c.unwrap_or-tariff.ensures),
      λ k aimed ran h.
          counts_turn _ sound reachable e inv.0 left (tables at) _ _ _ done.same_from _ done.answers _ c.in-Ok.is _ c.unwrap_or-tariff.ensures k aimed ran
          (inv.1 k aimed ran h),
    )

pub end_net-requires : goal.end_net-requires
end_net-requires c =
    let safe = turn_safe (goal.at.end_net-requires c).At-loop in
    let none_left : c.begin_net-most.result - c.loop.counter ≤ 0 = omega (arith, c.loop-test.false) in
    keep_end-ready _ c.requires.ready.0.0 (all-reached _ c.requires.ready.0.1) none_left safe

pub loop-net-preserved : goal.loop-net-preserved
loop-net-preserved c =
    let at : At-loop = (goal.at.loop-net-preserved c).At-loop in
    let reachable = all-reached _ c.requires.ready.0.1 in
    let none_left : c.begin_net-most.result - c.loop.counter ≤ 0 = omega (arith, c.loop-test.false) in
    λ p W L m e o. (
      keep_ended _ c.requires.ready.0.0 reachable none_left (turn_from at p W L m e o) c.end_net.ensures.passed
          c.end_net.ensures.ended,
      turn_counts at p W L m e o,
    )

pub over_count-over-requires : goal.over_count-over-requires
over_count-over-requires c =
    let r = c.requires.ready.0.0 in
    let l = capacities-long _ _ r.block-sound.capacities_sound_lem in
    let users = users-long _ (net_safe (goal.at.over_count-over-requires c).At-loop-net).kept in
    (le_of_eq (l ∙ sym users), le_trans (le_of_eq l) (kinds-few _ r.block-sound.kinds_sound_lem))

pub returns-then-settled : goal.returns-then-settled
returns-then-settled c =
    let at : At-loop-net = (goal.at.returns-then-settled c).At-loop-net in
    let sound = c.requires.ready.0.0 in
    let none = sym (over-is _ sound _ c.over_count-over.ensures) ∙ c.if-settled.true in
    let answer = c.answer.ensures in
    let numbers : Answers c.answer.result c.loop-net.tariff = record { iteration-is = answer.1; turns-is = answer.2; words-is = answer.3 } in
    record {
      answers = λ p r. rw c.clear.ensures (keep_accepted _ sound (whole at c.loop-net-test.false p r) none c.answer.result answer.0 numbers);
      expanded = λ p m r ran. counts-answer (net_counted at p m r ran) c.answer.result answer.4 answer.3;
    }

pub returns-then-tariff-job : goal.returns-then-tariff-job
returns-then-tariff-job c =
    let at : At-loop-net = (goal.at.returns-then-tariff-job c).At-loop-net in
    let sound = c.requires.ready.0.0 in
    let over = over-is _ sound _ c.over_count-over.ensures in
    let result = c.answer-then-tariff-job.result in
    let answer = c.answer-then-tariff-job.ensures in
    let numbers : Answers result c.loop-net.tariff = record { iteration-is = answer.1; turns-is = answer.2; words-is = answer.3 } in
    record {
      answers = λ p r.
          rw c.clear-then-tariff-job.ensures
          (keep_limit _ sound (whole at c.loop-net-test.false p r) _ over c.if-settled.false c.if-tariff-job.true result answer.0 numbers);
      expanded = λ p m r ran. counts-answer (net_counted at p m r ran) result answer.4 answer.3;
    }

pub grow_histories-requires : goal.grow_histories-requires
grow_histories-requires c =
    let at : At-loop-net = (goal.at.grow_histories-requires c).At-loop-net in
    let r = c.requires.ready.0.0 in
    let l = capacities-long _ _ r.block-sound.capacities_sound_lem in
    let safe = whole_safe at c.loop-net-test.false in
    let history = history_long _ r safe in
    record {
      capacity_len = (l ∙ sym (users-long _ safe.kept), l ∙ sym history);
      by_index = (λ v b. keep_growable _ r safe v (subst (λ k. v < k) history b), (tuning-fits _ r).few_step);
    }

pub next_iteration-tariff-requires : goal.next_iteration-tariff-requires
next_iteration-tariff-requires c =
    let safe = whole_safe (goal.at.next_iteration-tariff-requires c).At-loop-net c.loop-net-test.false in
    let b = keep_below _ c.requires.ready.0.0 safe c.if-tariff-job.false in
    let l = c.requires.ready.0.0.limit_few in
    omega arith

pub iterations-smaller : goal.iterations-smaller
iterations-smaller c =
    let safe = whole_safe (goal.at.iterations-smaller c).At-loop-net c.loop-net-test.false in
    let b = keep_below _ c.requires.ready.0.0 safe c.if-tariff-job.false in
    let e = c.next_iteration-tariff.ensures.0 in
    let a = safe.under.iteration-is in
    let h = (c.iterations.invariant c.requires.ready.1.progress c.requires.ready.1.ready).1.under.iteration-is in
    omega arith

pub iterations-preserved : goal.iterations-preserved
iterations-preserved c =
    let at : At-loop-net = (goal.at.iterations-preserved c).At-loop-net in
    let sound = c.requires.ready.0.0 in
    let over = over-is _ sound _ c.over_count-over.ensures in
    let e = c.next_iteration-tariff.ensures in
    λ p r. (
      _,
      keep_next _ sound (whole at c.loop-net-test.false p r) (λ z. c.if-settled.false (over ∙ z)) c.if-tariff-job.false e.0 e.1 e.2 e.3
          c.grow_histories.ensures,
      λ k aimed ran h.
          counts_same aimed _ _ _ _ _ _ e.4 e.5 e.3 refl
          (net_counts at p _ _ _ c.requires.ready.0.2 (net_start at p r) k aimed ran ((c.iterations.invariant p r).2 k aimed ran h)),
    )

pub returns : goal.returns
returns c =
    let at : At-loop = (goal.at.returns c).At-loop in
    let sound = c.requires.ready.0.0 in
    let enough = c.requires.ready.0.2 in
    let left : 0 < c.begin_net-most.result - c.loop.counter = omega (arith, c.loop-test.true) in
    let none = c.in_default.is in
    let done = c.net_turn.ensures in
    let result = c.answer-2.result in
    let answer = c.answer-2.ensures in
    let numbers : Answers result c.loop.tariff = record { iteration-is = answer.1; turns-is = answer.2; words-is = answer.3 } in
    record {
      answers = λ p r.
          after_full _ sound enough (turn_at at p r) left (tables at) _ _ _ done.same_from _ done.answers none _ c.clear-2.ensures
          result answer.0 numbers;
      expanded = λ p k r ran.
          counts-answer
          (counts_full _ sound (all-reached _ c.requires.ready.0.1) enough (turn_at at p r) left (tables at) _ _ _ done.same_from _
          done.answers none k _ ran (turn_counted at p k r ran))
          result answer.4 answer.3;
    }
