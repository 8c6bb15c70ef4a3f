-- `search::aimed_turn::start` meets its contract. The invariant: the nodes below v have their distances, and v is in the tree. The measure is how many nodes are left.
-- Assumes nothing.
use Prim.Native.Nat.{◌≤◌}
use native.Mathlib.Omega.{arith}
use lib.ListN.{length}
use Rattle.search.proofs.aimed_turn.StartLaws.{start_first, start-room, start-over, start_in, start-count}
use Rattle.search.proofs.aimed_turn.start.Goals.{At-loop-v}
use Rattle.search.proofs.aimed_turn.start.Goals as goal

pub loop-v-init : goal.loop-v-init
loop-v-init c =
    (start_first c.fill_far.ensures c.fill_far-2.ensures c.next_marked-v.ensures.over, c.next_marked-v.ensures.marked)

-- the work slice has an entry for each node
room : (c : At-loop-v) → c.args.n ≤ length c.loop-v.work
room c =
    let l = start-room c.args.n c.fill_far.ensures.0 c.fill_far-2.ensures.0 c.requires.2 in
    omega (arith, c.loop-v.invariant.0.same.long)

pub overflow_add-count : goal.overflow_add-count
overflow_add-count c =
    let p = c.requires.0 in
    let t = c.loop-v-test.true in
    omega (arith, start-count c.loop-v.invariant.0)

pub loop-v-preserved : goal.loop-v-preserved
loop-v-preserved c =
    let t = c.loop-v-test.true in
    let i = c.loop-v.invariant in
    let l = start-room c.args.n c.fill_far.ensures.0 c.fill_far-2.ensures.0 c.requires.2 in
    (start-over c.next_marked-v-in-loop-v.ensures.over (start_in l t (i.1 t) i.0), c.next_marked-v-in-loop-v.ensures.marked)
