-- `negotiation::reach::unreachable` meets its contract: no net that the loop has passed has a sink without a path.
-- Assumes nothing.
use mathlib.Core.List.{List}
use mathlib.Core.Path.{sym}
use Prim.Native.Nat.{ℕ, ◌≤◌}
use native.Mathlib.Omega.{arith}
use lib.ListN.{length, length-replicate}
use lib.Seq.{length-take-le}
use borrow.Author.Count.{below_none}
use Rattle.search.proofs.BlockLaws.{kinds-few}
use Rattle.job.specs.Job.{Job, nodes}
use Rattle.negotiation.specs.Routable.{Routable}
use Rattle.negotiation.proofs.FloodLaws.{same_from_refl}
use Rattle.negotiation.proofs.reach.TestedLaws.{Tested, flood_asked, sinks-asked, tested-found, tested-same, tested-more, tested-all}
use Rattle.negotiation.proofs.reach.unreachable.Goals as goal

module _ {j : Job} (sound : Routable j) where
  few : nodes j ≤ 4096
  few = kinds-few j.block.kinds sound.block-sound.kinds_sound_lem

  -- there is a mark for each node
  marks-enough : {before work marks : List ℕ} {net : ℕ} → Tested j 4096 before work marks net → nodes j ≤ length marks
  marks-enough t = omega (arith, few, t.marks_long)

pub loop-net-init : goal.loop-net-init
loop-net-init c =
    record {
      within = omega arith;
      same = same_from_refl _ _;
      marks_long = length-replicate {A = ℕ} 4096 0;
      passed = below_none _;
    }

pub slice_bounds-reached-end : goal.slice_bounds-reached-end
slice_bounds-reached-end c = marks-enough c.requires.0 c.loop-net.invariant

pub slice_bounds-flood-end-in-loop-net : goal.slice_bounds-flood-end-in-loop-net
slice_bounds-flood-end-in-loop-net c = sym (length-take-le _ _ (marks-enough c.requires.0 c.loop-net.invariant))

pub flood-requires : goal.flood-requires
flood-requires c =
    flood_asked _ c.requires.0 c.loop-net.net c.loop-net-test.true (few c.requires.0) c.requires.1 c.loop-net.invariant

pub missing_sink-place-requires : goal.missing_sink-place-requires
missing_sink-place-requires c =
    record {
      all_below = sinks-asked _ c.requires.0 c.loop-net.net c.loop-net-test.true (few c.requires.0) c.requires.1 c.loop-net.invariant c.flood.ensures;
      from_in_bounds = omega arith;
    }

pub returns-then-place-to : goal.returns-then-place-to
returns-then-place-to c =
    let call = c.missing_sink-place in
    record {
      first_missing =
          tested-found _ c.requires.0 c.loop-net.net c.loop-net-test.true (few c.requires.0) c.requires.1 c.loop-net.invariant c.flood.ensures call.result
          call.ensures c.if-place-to.true;
      same_from =
          tested-same _ c.requires.0 c.loop-net.net c.loop-net-test.true (few c.requires.0) c.requires.1 c.loop-net.invariant c.flood.ensures;
    }

pub loop-net-preserved : goal.loop-net-preserved
loop-net-preserved c =
    let call = c.missing_sink-place in
    tested-more _ c.requires.0 c.loop-net.net c.loop-net-test.true (few c.requires.0) c.requires.1 c.loop-net.invariant c.flood.ensures call.result
    call.ensures c.if-place-to.false

pub returns : goal.returns
returns c = record { first_missing = tested-all c.loop-net-test.false c.loop-net.invariant; same_from = c.loop-net.invariant.same }
