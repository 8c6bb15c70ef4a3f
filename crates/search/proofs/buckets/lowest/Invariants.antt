-- `search::buckets::lowest` meets its contract. The invariant: no node waits from `from` to below the level. The measure is how far a round of buckets from `from` is still to go.
-- Assumes nothing.
use Prim.Native.Nat.{◌+◌, ◌-◌}
use Rattle.search.specs.Buckets.{buckets}
use Rattle.search.proofs.BucketLaws.{NoneFrom}
use Rattle.search.proofs.buckets.lowest.Given as goal

abbrev pub invariant-loop-level : goal.invariant-loop-level
invariant-loop-level l = NoneFrom l.head l.from l.level

abbrev pub decreases-loop-level : goal.decreases-loop-level
decreases-loop-level l = l.from + buckets - l.level
