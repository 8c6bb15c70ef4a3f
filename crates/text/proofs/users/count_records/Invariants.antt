-- `text::users::count_records` meets its contract. The loop's invariant: the nodes of the net's records passed are counted.
-- Assumes nothing.
use Prim.Native.Nat.{◌-◌}
use lib.ListN.{length}
use Rattle.text.proofs.users.UserLaws.{CountingRecords}
use Rattle.text.proofs.users.count_records.Given as goal

abbrev pub invariant-loop-at : goal.invariant-loop-at
invariant-loop-at l = CountingRecords l.stamp l.net l.log l.initial.users l.initial.stamps l.users l.stamps l.at

abbrev pub decreases-loop-at : goal.decreases-loop-at
decreases-loop-at l = length l.log - l.at
