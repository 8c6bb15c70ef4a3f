-- `negotiation::take_up::take_up` meets its contract: at the loop's head the iterations passed follow and lead to a progress from which a run can go on in the log
-- (`TakeLogLaws`). The measure: iterations up to the limit.
-- Assumes nothing.
use mathlib.Core.Path.{refl, sym, ◌∙◌, ap}
use native.Mathlib.Nat.{le_of_eq, le_trans}
use native.Mathlib.Omega.{arith}
use Rattle.search.proofs.BlockLaws.{kinds-few}
use Rattle.negotiation.specs.TariffSteps.{started_tariff}
use Rattle.negotiation.specs.declared.tariff.Tariff.{Tariff}
use Rattle.negotiation.proofs.RoutableLaws.{tuning-fits}
use Rattle.negotiation.proofs.KeepProgress.{capacities_long, over_counted}
use Rattle.negotiation.proofs.take_up.TakeNetLaws.{nets-long}
use Rattle.negotiation.proofs.take_up.TakeLogLaws.{take-start, taking-long, take_on, nets-on, nets-err, due_asks, growable, nets_open, take-stopped, same-iteration, take_whole, low, take_next}
use Rattle.negotiation.proofs.take_up.JudgedLaws.{whole_said_so, sent_on}
use Rattle.negotiation.proofs.KeepTurn.{same_twice}
use Rattle.negotiation.proofs.take_up.take_up.Goals as goal

pub loop-t-init : goal.loop-t-init
loop-t-init c = (take-start _ _ c.requires.2, record { long = refl; high = λ k l. refl })

pub mark_due-requires : goal.mark_due-requires
mark_due-requires c =
    let asks = due_asks _ c.requires.0 c.loop-t.invariant.0 in
    record { due_ready = asks.0; due_len = asks.1 }

pub follow_nets-requires : goal.follow_nets-requires
follow_nets-requires c =
    let room = c.requires.1 in
    let same = c.loop-t.invariant.1.long in
    let opened = nets_open _ c.requires.0 c.loop-t.invariant.0 c.mark_due.ensures in
    (record { progress = _; open_so = opened }, omega arith)

pub returns-in_err-t : goal.returns-in_err-t
returns-in_err-t c =
    let opened = nets_open _ c.requires.0 c.loop-t.invariant.0 c.mark_due.ensures in
    let came = c.follow_nets.ensures.nets_answered _ opened in
    record {
      taken =
          rw (sent_on c.from_residual.result c.from_residual.ensures.1)
          (take-stopped _ c.requires.0 c.loop-t.invariant.0 _ _ _ _ _ (nets-err _ _ _ _ _ _ _ _ _ came c.in_err-t.was) _ _ _ _ _ _);
      same_from = same_twice c.loop-t.invariant.1 c.follow_nets.ensures.same_from;
    }

-- all nets follow: the nodes over capacity are counted
pub over_count-over-requires : goal.over_count-over-requires
over_count-over-requires c =
    let opened = nets_open _ c.requires.0 c.loop-t.invariant.0 c.mark_due.ensures in
    let came = c.follow_nets.ensures.nets_answered _ opened in
    let all_on = nets-on _ _ _ _ _ _ _ _ _ came c.in_ok-t.was in
    let long = capacities_long _ c.requires.0 in
    (le_of_eq (long ∙ sym (nets-long _ all_on).0), le_trans (le_of_eq long) (kinds-few _ c.requires.0.block-sound.kinds_sound_lem))

-- an audit ends behind it, it settles, or is the limit's
pub returns-in_err-next : goal.returns-in_err-next
returns-in_err-next c =
    let opened = nets_open _ c.requires.0 c.loop-t.invariant.0 c.mark_due.ensures in
    let came = c.follow_nets.ensures.nets_answered _ opened in
    let all_on = nets-on _ _ _ _ _ _ _ _ _ came c.in_ok-t.was in
    let counts = over_counted _ c.requires.0 _ c.over_count-over.ensures in
    record {
      taken =
          rw (sent_on c.from_residual-in_err-next.result c.from_residual-in_err-next.ensures.1)
          (take_whole _ c.requires.0 c.loop-t.invariant.0 all_on _ counts _ (sym c.in_err-next.was ∙ c.whole_iteration.ensures)
          _ _ _ _ _ _);
      same_from = same_twice c.loop-t.invariant.1 c.follow_nets.ensures.same_from;
    }

pub grow_histories-requires-clause-capacity_len : goal.grow_histories-requires-clause-capacity_len
grow_histories-requires-clause-capacity_len c =
    let opened = nets_open _ c.requires.0 c.loop-t.invariant.0 c.mark_due.ensures in
    let came = c.follow_nets.ensures.nets_answered _ opened in
    let all_on = nets-on _ _ _ _ _ _ _ _ _ came c.in_ok-t.was in
    let long = capacities_long _ c.requires.0 in
    (long ∙ sym (nets-long _ all_on).0, long ∙ sym (taking-long _ c.loop-t.invariant.0).0)

pub grow_histories-requires-clause-by_index : goal.grow_histories-requires-clause-by_index
grow_histories-requires-clause-by_index c =
    (growable _ c.requires.0 c.loop-t.invariant.0, (tuning-fits _ c.requires.0).few_step)

-- the run can go on: the iteration is below the limit
pub iteration_started-tariff-requires : goal.iteration_started-tariff-requires
iteration_started-tariff-requires c =
    let opened = nets_open _ c.requires.0 c.loop-t.invariant.0 c.mark_due.ensures in
    let came = c.follow_nets.ensures.nets_answered _ opened in
    let all_on = nets-on _ _ _ _ _ _ _ _ _ came c.in_ok-t.was in
    let counts = over_counted _ c.requires.0 _ c.over_count-over.ensures in
    let goes = sym c.in_ok-next.was ∙ c.whole_iteration.ensures in
    let below = low _ c.requires.0 c.loop-t.invariant.0 all_on _ counts goes in
    let few = c.requires.0.limit_few in
    let ended = ap (λ (x : Tariff). x.iteration) c.iteration_ended.ensures in
    let same = ap (λ (x : Tariff). x.iteration) (whole_said_so _ _ _ _ _ goes).same in
    omega arith

pub loop-t-smaller : goal.loop-t-smaller
loop-t-smaller c =
    let opened = nets_open _ c.requires.0 c.loop-t.invariant.0 c.mark_due.ensures in
    let came = c.follow_nets.ensures.nets_answered _ opened in
    let all_on = nets-on _ _ _ _ _ _ _ _ _ came c.in_ok-t.was in
    let counts = over_counted _ c.requires.0 _ c.over_count-over.ensures in
    let goes = sym c.in_ok-next.was ∙ c.whole_iteration.ensures in
    let below = low _ c.requires.0 c.loop-t.invariant.0 all_on _ counts goes in
    let kept = same-iteration _ c.requires.0 c.loop-t.invariant.0 all_on in
    let started = ap (λ (x : Tariff). x.iteration) c.iteration_started-tariff.ensures in
    let ended = ap (λ (x : Tariff). x.iteration) c.iteration_ended.ensures in
    let same = ap (λ (x : Tariff). x.iteration) (whole_said_so _ _ _ _ _ goes).same in
    omega arith

pub loop-t-preserved : goal.loop-t-preserved
loop-t-preserved c =
    let opened = nets_open _ c.requires.0 c.loop-t.invariant.0 c.mark_due.ensures in
    let came = c.follow_nets.ensures.nets_answered _ opened in
    let all_on = nets-on _ _ _ _ _ _ _ _ _ came c.in_ok-t.was in
    let counts = over_counted _ c.requires.0 _ c.over_count-over.ensures in
    let goes = sym c.in_ok-next.was ∙ c.whole_iteration.ensures in
    let started = c.iteration_started-tariff.ensures ∙ ap started_tariff c.iteration_ended.ensures in
    let due_long = c.mark_due.auto.due ∙ (taking-long _ c.loop-t.invariant.0).5 in (
      take_next _ c.requires.0 c.loop-t.invariant.0 all_on _ counts goes started due_long c.grow_histories.ensures (omega (arith, c.if-log-tariff.false)),
      same_twice c.loop-t.invariant.1 c.follow_nets.ensures.same_from,
    )

pub returns-then-log-tariff : goal.returns-then-log-tariff
returns-then-log-tariff c =
    let opened = nets_open _ c.requires.0 c.loop-t.invariant.0 c.mark_due.ensures in
    let came = c.follow_nets.ensures.nets_answered _ opened in
    let all_on = nets-on _ _ _ _ _ _ _ _ _ came c.in_ok-t.was in
    let counts = over_counted _ c.requires.0 _ c.over_count-over.ensures in
    let goes = sym c.in_ok-next.was ∙ c.whole_iteration.ensures in
    let started = c.iteration_started-tariff.ensures ∙ ap started_tariff c.iteration_ended.ensures in
    let due_long = c.mark_due.auto.due ∙ (taking-long _ c.loop-t.invariant.0).5 in
    record {
      taken = take_on _ c.requires.0 c.loop-t.invariant.0 all_on _ counts goes started due_long c.grow_histories.ensures c.if-log-tariff.true;
      same_from = same_twice c.loop-t.invariant.1 c.follow_nets.ensures.same_from;
    }
