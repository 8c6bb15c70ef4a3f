-- `join::join_nets` meets its contract. The loop's invariant: the places of the nets passed stand first, and where each net's begin.
-- Assumes nothing.
use mathlib.Core.Path.{◌≡◌, sym, ◌∙◌}
use native.Mathlib.Omega.{arith}
use lib.ListN.{length, length-set}
use Rattle.negotiation.proofs.JoiningLaws.{joining_none, joining_few, joining_room, joining_more, joining_all}
use Rattle.negotiation.proofs.join.join_nets.Goals as goal

pub loop-net-init : goal.loop-net-init
loop-net-init c = joining_none _ _ _ _ _

pub overflow_cast-firsts : goal.overflow_cast-firsts
overflow_cast-firsts c = omega (arith, joining_few c.loop-net.invariant c.requires.joinable)

pub bounds-firsts-net : goal.bounds-firsts-net
bounds-firsts-net c = omega (arith, c.loop-net.invariant.firsts-long)

pub slice_bounds-join_one-end : goal.slice_bounds-join_one-end
slice_bounds-join_one-end c = sym c.loop-net.invariant.seen-long

pub join_one-count-requires : goal.join_one-count-requires
join_one-count-requires c =
    let inv = c.loop-net.invariant in
    record {
      joinable = (c.requires.joinable, joining_room inv c.requires.source_in_bounds.1);
      net_in_bounds = c.loop-net-test.true;
      placed = inv.places_of;
    }

pub loop-net-preserved : goal.loop-net-preserved
loop-net-preserved c =
    let kept = c.join_one-count.auto in
    joining_more c.loop-net.invariant c.loop-net-test.true c.requires.source_in_bounds.0 kept.places kept.seen c.join_one-count.ensures

pub overflow_cast-firsts-2 : goal.overflow_cast-firsts-2
overflow_cast-firsts-2 c = omega (arith, joining_few c.loop-net.invariant c.requires.joinable)

pub offset_bounds-firsts-job : goal.offset_bounds-firsts-job
offset_bounds-firsts-job c = omega (arith, c.loop-net.invariant.firsts-long)

pub bounds-firsts-job : goal.bounds-firsts-job
bounds-firsts-job c = omega (arith, c.loop-net.invariant.firsts-long)

pub shape_of-firsts : goal.shape_of-firsts
shape_of-firsts c = length-set c.loop-net.firsts _ _ ∙ c.loop-net.invariant.firsts-long

pub shape_of-places : goal.shape_of-places
shape_of-places c = c.loop-net.invariant.places-long

pub returns : goal.returns
returns c =
    let end : c.loop-net.net ≡ length c.args.job.now.source.now = omega arith in
    rw end at (joining_all c.loop-net.invariant c.loop-net-test.false c.requires.source_in_bounds.0)
