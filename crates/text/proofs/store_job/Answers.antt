-- `text::store_job` meets its contract: a table that is too short is named, then a timed job that is too large refused, else the job is written
-- over all tables.
-- Assumes nothing.
use native.Mathlib.Omega.{arith}
use Rattle.text.specs.ReadReplies.{Tables, tables_of}
use Rattle.text.proofs.ReadJobLaws.{due-most, store_short, store_large, store_room, store_times, store_done}
use Rattle.text.proofs.store_job.Goals.{Start}
use Rattle.text.proofs.store_job.Goals as goal

abbrev lent : Start → Tables
lent s = let a = s.args in tables_of a.kind.now a.capacity.now a.first_edge.now a.edge_target.now a.source.now a.first_sink.now a.sink.now a.delay.now a.criticality.now

pub returns-in-Some : goal.returns-in-Some
returns-in-Some c =
    let r = c.requires in
    let d = c.if_timed-delays_due in
    let t = c.if_timed-criticalities_due in
    let s = c.lowest_short in
    store_short _ _ _ _ c.args.counts.terms _ _ _ _ _ _ _ _ _ r.room_for_all r.counts_within.0 r.counts_within.1 (lent (goal.at.returns-in-Some c).Start) d.result t.result d.ensures t.ensures
    s.ensures.number s.ensures.named c.in-Some.is

pub returns-then-exceeds : goal.returns-then-exceeds
returns-then-exceeds c =
    let r = c.requires in
    let d = c.if_timed-delays_due in
    let t = c.if_timed-criticalities_due in
    let s = c.lowest_short in
    store_large _ _ _ _ c.args.counts.terms _ _ _ _ _ _ _ _ _ r.room_for_all r.counts_within.0 r.counts_within.1 (lent (goal.at.returns-then-exceeds c).Start) d.result t.result d.ensures t.ensures
    s.ensures.number c.in_default.is c.exceeds.ensures c.if-exceeds.true

pub copy_block-requires : goal.copy_block-requires
copy_block-requires c =
    let r = c.requires in
    let d = c.if_timed-delays_due in
    let t = c.if_timed-criticalities_due in
    let s = c.lowest_short in
    let room = r.room_for_all in
    let within = r.counts_within.0 in
    let long =
    store_room _ _ _ _ c.args.counts.terms _ _ _ _ _ _ _ _ _ r.room_for_all r.counts_within.0 r.counts_within.1 (lent (goal.at.copy_block-requires c).Start) d.result t.result d.ensures t.ensures
    s.ensures.number c.in_default.is in (
      record { there = omega (arith, room.kinds-long, within.nodes_most_lem); room = long.kinds-long },
      record { there = omega (arith, room.capacities-long, within.nodes_most_lem); room = long.capacities-long },
      record { there = omega (arith, room.edge-room.firsts-long, within.nodes_most_lem); room = long.first_edges-long },
      record { there = omega (arith, room.edge-room.targets-long, within.edges_most_lem); room = long.edge_targets-long },
    )

pub copy_nets-requires : goal.copy_nets-requires
copy_nets-requires c =
    let r = c.requires in
    let d = c.if_timed-delays_due in
    let t = c.if_timed-criticalities_due in
    let s = c.lowest_short in
    let room = r.room_for_all in
    let within = r.counts_within.0 in
    let long =
    store_room _ _ _ _ c.args.counts.terms _ _ _ _ _ _ _ _ _ r.room_for_all r.counts_within.0 r.counts_within.1 (lent (goal.at.copy_nets-requires c).Start) d.result t.result d.ensures t.ensures
    s.ensures.number c.in_default.is in (
      record { there = omega (arith, room.net-room.sources-long, within.nets_most_lem); room = long.sources-long },
      record { there = omega (arith, room.net-room.firsts-long, within.nets_most_lem); room = long.first_sinks-long },
      record { there = omega (arith, room.net-room.sinks-long, r.counts_within.1); room = long.sinks-long },
    )

pub copy_times-requires : goal.copy_times-requires
copy_times-requires c =
    let r = c.requires in
    let d = c.if_timed-delays_due in
    let t = c.if_timed-criticalities_due in
    let s = c.lowest_short in
    let room = r.room_for_all in
    let within = r.counts_within.0 in
    let delays = due-most c.args.counts.terms.timed d.ensures in
    let tenths = due-most c.args.counts.terms.timed t.ensures in
    let long =
    store_times _ _ _ _ c.args.counts.terms _ _ _ _ _ _ _ _ _ r.room_for_all r.counts_within.0 r.counts_within.1 (lent (goal.at.copy_times-requires c).Start) d.result t.result d.ensures t.ensures
    s.ensures.number c.in_default.is in (
      record { there = omega (arith, delays, room.delays-long, within.nodes_most_lem); room = long.delays-long },
      record { there = omega (arith, tenths, room.net-room.criticalities-long, r.counts_within.1); room = long.criticalities-long },
    )

pub returns : goal.returns
returns c =
    let r = c.requires in
    let d = c.if_timed-delays_due in
    let t = c.if_timed-criticalities_due in
    let s = c.lowest_short in
    let k = c.copy_block.new in
    let m = c.copy_nets.new in
    let o = c.copy_times.new in
    let b = c.copy_block.ensures in
    let n = c.copy_nets.ensures in
    let w = c.copy_times.ensures in
    store_done _ _ _ _ c.args.counts.terms _ _ _ _ _ _ _ _ _ r.room_for_all r.counts_within.0 r.counts_within.1 (lent (goal.at.returns c).Start) d.result t.result d.ensures t.ensures
    s.ensures.number c.in_default.is
    (tables_of k.kind k.capacity k.first_edge k.edge_target m.source m.first_sink m.sink o.delay o.criticality)
    c.exceeds.ensures c.if-exceeds.false b.0 b.1 b.2 b.3 n.0 n.1 n.2 w.0 w.1
