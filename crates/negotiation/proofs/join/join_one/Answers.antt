-- `join::join_one` meets its contract. The loop's invariant: the places of the source's nets passed are taken.
-- Assumes nothing.
use Rattle.std.proofs.Common.{rules}
use Rattle.negotiation.proofs.JoiningLaws.{is_first, not_first, nets-none, placed_other, room-kept, nets-room, nets-more, nets-all}
use Rattle.negotiation.proofs.join.join_one.Goals as goal

pub returns-then-first_of-net : goal.returns-then-first_of-net
returns-then-first_of-net c = placed_other c.requires.placed (not_first _ _ _ c.first_of.ensures c.if-first_of-net.true)

pub loop-k-init : goal.loop-k-init
loop-k-init c = nets-none c.requires.placed (search rules) (is_first _ _ _ c.first_of.ensures c.if-first_of-net.false)

pub take_net-count-requires : goal.take_net-count-requires
take_net-count-requires c =
    let tables = c.requires.joinable.0 in
    let room = c.requires.joinable.1 in
    let inv = c.loop-k.invariant in
    record {
      joinable = (tables, room-kept inv room);
      net_in_bounds = (c.requires.net_in_bounds, c.loop-k-test.true);
      k_in_bounds = nets-room inv tables room c.loop-k-test.true;
    }

pub loop-k-preserved : goal.loop-k-preserved
loop-k-preserved c =
    let kept = c.take_net-count.auto in
    nets-more c.loop-k.invariant c.loop-k-test.true kept.seen kept.places c.take_net-count.ensures

pub shape_of-seen : goal.shape_of-seen
shape_of-seen c = c.loop-k.invariant.seen-long

pub shape_of-places : goal.shape_of-places
shape_of-places c = c.loop-k.invariant.places-long

pub returns : goal.returns
returns c = nets-all c.loop-k.invariant c.loop-k-test.false
