-- `negotiation::take_up::follow_net` meets its contract: from any net that opens so, the turns made so far follow and so many more may be made, and the place is
-- that of the first sink that the tree lacks (`TakeTurnLaws`). What is safe rests on the one that is asked for. A net without turns leaves all as it is.
-- Assumes nothing.
use mathlib.Core.List.{List}
use mathlib.Core.Path.{◌≡◌, refl, ◌∙◌, ap}
use Prim.Native.Nat.{ℕ, ◌*◌, ◌≤◌, ◌<◌, ◌^◌, zero-le}
use native.Mathlib.Nat.{add-zero}
use native.Mathlib.Omega.{arith}
use lib.ListN.{length, get_or}
use Rattle.job.specs.Job.{job_in}
use Rattle.negotiation.specs.Steps.{SameFrom}
use Rattle.negotiation.specs.TakeSteps.{SomeNet}
use Rattle.negotiation.specs.declared.tariff.Tariff.{Tariff}
use Rattle.negotiation.proofs.take_up.TakeTurnLaws.{some_of, missing-more, follow_start, part-order, part-within, part-below, follow_ready, follow_some, follow_out, follow_stopped, follow_more, follow_room, follow_on}
use Rattle.negotiation.proofs.KeepTurn.{same_twice}
use Rattle.negotiation.proofs.take_up.JudgedLaws.{sent_on}
use Rattle.negotiation.proofs.take_up.follow_net.Goals.{After-follow_tried, Else-turns-eq0}
use Rattle.negotiation.proofs.take_up.follow_net.Goals as goal

module _ (c : Else-turns-eq0) where
  -- the one that is asked for, and its work memory
  asked :
      SomeNet (job_in c.args.job.now) c.args.from c.args.to c.args.net c.args.turns c.args.begun c.args.history.now c.args.users.now c.args.in_tree.now
      c.args.log.now
  asked = (c.requires (some_of c.args.turns c.if-turns-eq0.false)).0

  enough : 8 * length c.args.job.now.block.kind.now ≤ length c.args.work.now
  enough = (c.requires (some_of c.args.turns c.if-turns-eq0.false)).1

  -- a word of the log is below 2^32
  small : (k : ℕ) → get_or c.args.log.now k 0 < 2 ^ 32
  small k = omega (arith, c.type_inv.log k)

module _ (c : After-follow_tried) where
  abbrev marks : List ℕ
  marks = c.follow_tried.new.in_tree

  abbrev work : List ℕ
  work = c.follow_tried.new.work

  marks_long : length marks ≡ length c.args.in_tree.now
  marks_long = c.follow_tried.auto.in_tree ∙ c.loop-place.invariant.2

  work-same : SameFrom (8 * length c.args.job.now.block.kind.now) c.args.work.now work
  work-same = same_twice c.loop-place.invariant.4 c.follow_tried.ensures.same_from

pub returns-then-turns-eq0 : goal.returns-then-turns-eq0
returns-then-turns-eq0 c =
    record {
      value = λ z. (refl, refl);
      net_answered = λ p o. absurd (let some = o.some in let none = c.if-turns-eq0.true in omega arith);
      same_from = record { long = refl; high = λ k l. refl };
    }

pub slice_bounds-missing_sink-count : goal.slice_bounds-missing_sink-count
slice_bounds-missing_sink-count c = part-order _ (asked (goal.at.slice_bounds-missing_sink-count c).Else-turns-eq0).opens

pub slice_bounds-missing_sink-start : goal.slice_bounds-missing_sink-start
slice_bounds-missing_sink-start c = part-order _ (asked (goal.at.slice_bounds-missing_sink-start c).Else-turns-eq0).opens

pub slice_bounds-missing_sink-end : goal.slice_bounds-missing_sink-end
slice_bounds-missing_sink-end c = part-within _ (asked (goal.at.slice_bounds-missing_sink-end c).Else-turns-eq0).opens

pub missing_sink-place-requires : goal.missing_sink-place-requires
missing_sink-place-requires c = record { all_below = part-below _ (asked (goal.at.missing_sink-place-requires c).Else-turns-eq0).opens _ refl; from_in_bounds = zero-le }

pub loop-place-init : goal.loop-place-init
loop-place-init c = ((λ p o. follow_start _ o _), c.missing_sink-place.ensures, refl, refl, record { long = refl; high = λ k l. refl })

pub overflow_sub-to : goal.overflow_sub-to
overflow_sub-to c = part-order _ (asked (goal.at.overflow_sub-to c).Else-turns-eq0).opens

pub returns-then-left-eq0 : goal.returns-then-left-eq0
returns-then-left-eq0 c =
    let inv = c.loop-place.invariant in
    record {
      value = λ z. absurd (c.if-turns-eq0.false z);
      net_answered = λ p o. follow_out c.args.job.now o (inv.0 _ o) inv.1 c.loop-place-test.true c.if-left-eq0.true;
      same_from = inv.4;
    }

pub follow_tried-requires : goal.follow_tried-requires
follow_tried-requires c =
    let o = (asked (goal.at.follow_tried-requires c).Else-turns-eq0).opens in
    let room = enough (goal.at.follow_tried-requires c).Else-turns-eq0 in
    let same = c.loop-place.invariant.4.long in
    record { begun = follow_some c.args.job.now o (c.loop-place.invariant.0 _ o); ready = follow_ready c.args.job.now o (c.loop-place.invariant.0 _ o) (omega arith) }

pub returns-in_err-count : goal.returns-in_err-count
returns-in_err-count c =
    let inv = c.loop-place.invariant in
    let at = goal.at.returns-in_err-count c in
    record {
      value = λ z. absurd (c.if-turns-eq0.false z);
      net_answered = λ p o.
          rw (sent_on c.from_residual.result c.from_residual.ensures.1)
          (follow_stopped c.args.job.now o (inv.0 _ o) inv.1 c.loop-place-test.true c.if-left-eq0.false (small at.Else-turns-eq0) c.args.walk.over c.follow_tried.ensures.value
          c.in_err-count.was (marks at.After-follow_tried));
      same_from = work-same at.After-follow_tried;
    }

pub turn_logged-tariff-requires : goal.turn_logged-tariff-requires
turn_logged-tariff-requires c =
    let inv = c.loop-place.invariant in
    let o = (asked (goal.at.turn_logged-tariff-requires c).Else-turns-eq0).opens in
    let short : length c.args.log.now < 2 ^ 64 = omega (arith, c.well_formed) in
    let room =
    follow_room c.args.job.now o (inv.0 _ o) inv.1 c.loop-place-test.true c.if-left-eq0.false (small (goal.at.turn_logged-tariff-requires c).Else-turns-eq0) c.args.walk.over c.follow_tried.ensures.value c.in_ok-count.was short in
    (room.0, room.1, omega (arith, inv.3, c.well_formed))

pub slice_bounds-missing_sink-count-in-loop-place : goal.slice_bounds-missing_sink-count-in-loop-place
slice_bounds-missing_sink-count-in-loop-place c = part-order _ (asked (goal.at.slice_bounds-missing_sink-count-in-loop-place c).Else-turns-eq0).opens

pub slice_bounds-missing_sink-start-in-loop-place : goal.slice_bounds-missing_sink-start-in-loop-place
slice_bounds-missing_sink-start-in-loop-place c = part-order _ (asked (goal.at.slice_bounds-missing_sink-start-in-loop-place c).Else-turns-eq0).opens

pub slice_bounds-missing_sink-end-in-loop-place : goal.slice_bounds-missing_sink-end-in-loop-place
slice_bounds-missing_sink-end-in-loop-place c = part-within _ (asked (goal.at.slice_bounds-missing_sink-end-in-loop-place c).Else-turns-eq0).opens

pub missing_sink-place-requires-in-loop-place : goal.missing_sink-place-requires-in-loop-place
missing_sink-place-requires-in-loop-place c =
    let at = goal.at.missing_sink-place-requires-in-loop-place c in record {
      all_below = part-below _ (asked at.Else-turns-eq0).opens _ (marks_long at.After-follow_tried);
      from_in_bounds = c.loop-place.invariant.1.within;
    }

pub loop-place-smaller : goal.loop-place-smaller
loop-place-smaller c = let some = some_of _ c.if-left-eq0.false in omega arith

pub loop-place-preserved : goal.loop-place-preserved
loop-place-preserved c =
    let inv = c.loop-place.invariant in (
      (λ p o.
          follow_more c.args.job.now o (inv.0 _ o) inv.1 c.loop-place-test.true c.if-left-eq0.false (small (goal.at.loop-place-preserved c).Else-turns-eq0) c.args.walk.over c.follow_tried.ensures.value
          c.in_ok-count.was (c.follow_tried.ensures.stored _ c.in_ok-count.was) c.turn_logged-tariff.ensures),
      missing-more inv.1 (c.follow_tried.ensures.stored _ c.in_ok-count.was) c.missing_sink-place-in-loop-place.ensures,
      marks_long (goal.at.loop-place-preserved c).After-follow_tried,
      ap (λ (x : Tariff). x.expanded) c.turn_logged-tariff.ensures ∙ add-zero c.loop-place.tariff.expanded ∙ inv.3,
      work-same (goal.at.loop-place-preserved c).After-follow_tried,
    )

pub returns : goal.returns
returns c =
    let inv = c.loop-place.invariant in
    record {
      value = λ z. absurd (c.if-turns-eq0.false z);
      net_answered = λ p o. follow_on c.args.job.now o (inv.0 _ o) inv.1 c.loop-place-test.false;
      same_from = inv.4;
    }
