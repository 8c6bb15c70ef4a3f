-- `search::estimate::give_sinks` meets its contract. The invariant: the unjoined sinks at places below i have estimate 0.
-- Assumes nothing.
use mathlib.Core.List.{[]}
use mathlib.Core.Path.{sym, ◌∙◌}
use Prim.Native.Nat.{◌*◌, ◌≤◌}
use native.Mathlib.Omega.{arith}
use lib.ListN.{length}
use Rattle.price.specs.Bounds.{nodes_most}
use Rattle.price.proofs.TestLaws.{true≢false}
use Rattle.search.proofs.DistanceLaws.{in_the_tree}
use Rattle.search.proofs.ClampedLaws.{base_light}
use Rattle.search.proofs.BucketLaws.{count_room}
use Rattle.search.proofs.estimate.EstimateSteps.{lacking_is, lacking_some, sized-beside}
use Rattle.search.proofs.estimate.EstimateStart.{sinks-none, sinks_passed, stands_zero, sinks-more, sinks-all}
use Rattle.search.proofs.estimate.give_sinks.Goals.{At-loop-sink, then-s-n+then-in_tree-s-ne1+then-work-n, else-s-n, else-s-n-via-then-s-n+then-in_tree-s-ne1+else-work-n, else-s-n-via-then-s-n+else-in_tree-s-ne1, else-s-n-via-else-s-n}
use Rattle.search.proofs.estimate.give_sinks.Goals as goal

room : (c : At-loop-sink) → (length c.args.kind.now ≤ nodes_most) × (8 * length c.args.kind.now ≤ length c.loop-sink.work)
room c = (c.requires.0, rw (c.loop-sink.invariant.0 []).same.long c.requires.4.long)

pub loop-sink-init : goal.loop-sink-init
loop-sink-init c =
    let pre = c.requires in
    (λ sources. rw pre.9 (sinks-none pre.6 pre.5 pre.7 pre.8), pre.10)

pub give-f-requires : goal.give-f-requires
give-f-requires c =
    let h = c.if-s-n.true in
    let pre = c.requires in
    let given = c.loop-sink.invariant.0 [] in (
      h,
      pre.0,
      given.lined.waiting.heads,
      pre.1,
      pre.3,
      omega arith,
      count_room given.lined _ h c.if-work-n.true,
      sized-beside pre.4 given.same,
      given.queue,
      lacking_some _ _ c.loop-sink.work h c.if-work-n.true c.loop-sink.invariant.1,
    )

pub loop-sink-preserved : goal.loop-sink-preserved
loop-sink-preserved c =
    let inv = c.loop-sink.invariant in
    elim c.if-s-n.branch [
      | then-s-n+then-in_tree-s-ne1+then-work-n w ↦
          let h = w.if-s-n.true in
          let out = w.if-in_tree-s-ne1.true in
          let bare = w.if-work-n.true in
          let made = w.give-f.ensures in
          rw (w.work-is, w.head-is, w.f-is) (
            λ sources. sinks-more (inv.0 sources) c.loop-sink-test.true h out bare (base_light _ _) (c.requires.12 _ h out) made.0 made.1,
            lacking_is h bare (omega arith) made.0 inv.1 made.2,
          )
      | else-s-n w ↦
          rw (w.work-is, w.head-is, w.f-is) (
            λ sources.
                sinks_passed (inv.0 sources)
                (elim w.else-s-n.branch [
                  | else-s-n-via-then-s-n+then-in_tree-s-ne1+else-work-n w' ↦ λ h o. stands_zero (inv.0 sources) _ h w'.if-work-n.false
                  | else-s-n-via-then-s-n+else-in_tree-s-ne1 w' ↦ λ h o. absurd (true≢false (sym (in_the_tree _ _ w'.if-in_tree-s-ne1.false) ∙ o))
                  | else-s-n-via-else-s-n w' ↦ λ h o. absurd (omega (arith, w'.if-s-n.false))
                ]),
            inv.1,
          )
    ]

pub returns : goal.returns
returns c = (λ sources. sinks-all (c.loop-sink.invariant.0 sources) c.loop-sink-test.false, c.loop-sink.invariant.1)
