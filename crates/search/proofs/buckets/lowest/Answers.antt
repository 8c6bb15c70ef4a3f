-- `search::buckets::lowest` meets its contract. The invariant: no node waits from `from` to below the level. The measure is how far a round of buckets from `from` is still to go.
-- Assumes nothing.
use native.Mathlib.Omega.{arith}
use Rattle.search.proofs.BucketLaws.{none-room, lowest-here}
use Rattle.search.proofs.buckets.lowest.Goals as goal

pub overflow_add-level : goal.overflow_add-level
overflow_add-level c =
    let room = none-room c.loop-level.invariant c.requires.2 in
    let most = c.requires.1 in
    omega arith

pub loop-level-smaller : goal.loop-level-smaller
loop-level-smaller c =
    let room = none-room c.loop-level.invariant c.requires.2 in
    let from = c.loop-level.invariant.least in
    omega arith

pub returns : goal.returns
returns c = lowest-here c.loop-level.invariant c.requires.2 c.loop-level-test.false
