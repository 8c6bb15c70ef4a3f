-- `search::estimate::give_before` meets its contract. The invariant: the places of v's row below e have been passed.
-- Assumes nothing.
use Prim.Native.Nat.{◌*◌, ◌≤◌, ◌<◌}
use native.Mathlib.Omega.{arith}
use lib.ListN.{length}
use Rattle.price.specs.Bounds.{nodes_most}
use Rattle.search.specs.Block.{graph_of}
use Rattle.search.specs.Distance.{far}
use Rattle.search.specs.Clamped.{clamped_base}
use Rattle.search.specs.Estimates.{SomeGiven}
use Rattle.search.proofs.ClampedLaws.{base_light}
use Rattle.search.proofs.BucketLaws.{count_room}
use Rattle.search.proofs.estimate.GiveLaws.{key_small}
use Rattle.search.proofs.estimate.EstimateSteps.{lacking_is, lacking_some, sized-beside, row_begin, row_skip, row_more, row-end}
use Rattle.search.proofs.estimate.give_before.Goals.{At-loop-e, then-u-n+then-work-n, else-u-n, else-u-n-via-then-u-n+else-work-n, else-u-n-via-else-u-n}
use Rattle.search.proofs.estimate.give_before.Goals as goal

-- what has been given so far, from the nodes that wait at the entry
some : (c : At-loop-e)
    → SomeGiven (graph_of c.args.kind.now c.args.back.now.first_back.now c.args.back.now.back_source.now) (clamped_base c.args.kind.now)
    c.args.scale c.args.v c.args.estimate c.args.work.now c.loop-e.work c.args.head.now c.loop-e.head
    c.args.start.count c.loop-e.f.count c.requires.1.lined
some c = (c.loop-e.invariant.0 c.requires.1.lined).some

room : (c : At-loop-e) → (length c.args.kind.now ≤ nodes_most) × (8 * length c.args.kind.now ≤ length c.loop-e.work)
room c = (c.requires.1.few, rw (some c).same.long c.requires.1.sized.long)

small : (c : At-loop-e) → c.args.scale * c.args.estimate < far
small c = omega (arith, key_small c.requires.1.scale_most_lem c.requires.1.level_most_lem)

pub loop-e-init : goal.loop-e-init
loop-e-init c =
    (λ l. row_begin c.requires.1.queue c.row_place-e.ensures, c.requires.1.lacking_is)

pub give-f-requires : goal.give-f-requires
give-f-requires c =
    let h = c.if-u-n.true in
    let g = c.requires.1 in (
      h,
      g.few,
      (some (goal.at.give-f-requires c).At-loop-e).lined.waiting.heads,
      g.firsts-long,
      g.scale_most_lem,
      g.level_most_lem,
      count_room (some (goal.at.give-f-requires c).At-loop-e).lined _ h c.if-work-n.true,
      sized-beside g.sized (some (goal.at.give-f-requires c).At-loop-e).same,
      (some (goal.at.give-f-requires c).At-loop-e).queue,
      lacking_some _ _ c.loop-e.work h c.if-work-n.true c.loop-e.invariant.1,
    )

pub loop-e-preserved : goal.loop-e-preserved
loop-e-preserved c =
    let inv = c.loop-e.invariant in
    elim c.if-u-n.branch [
      | then-u-n+then-work-n w ↦
          let h = w.if-u-n.true in
          let bare = w.if-work-n.true in
          let made = w.give-f.ensures in
          rw (w.work-is, w.head-is, w.f-is) (
            λ l. row_more (inv.0 l) c.row_place-to.ensures c.loop-e-test.true (small (goal.at.loop-e-preserved c).At-loop-e) h (base_light _ _) bare made.0 made.1,
            lacking_is h bare (small (goal.at.loop-e-preserved c).At-loop-e) made.0 inv.1 made.2,
          )
      | else-u-n w ↦
          elim w.else-u-n.branch [
            | else-u-n-via-then-u-n+else-work-n w' ↦ rw (w.work-is, w.head-is, w.f-is) (λ l. row_skip (inv.0 l) (λ h b. w'.if-work-n.false b), inv.1)
            | else-u-n-via-else-u-n w' ↦ rw (w.work-is, w.head-is, w.f-is) (λ l. row_skip (inv.0 l) (λ h b. omega (arith, w'.if-u-n.false)), inv.1)
          ]
    ]

pub returns : goal.returns
returns c =
    (λ l. row-end (c.loop-e.invariant.0 l) c.row_place-to.ensures c.loop-e-test.false, c.loop-e.invariant.1)
