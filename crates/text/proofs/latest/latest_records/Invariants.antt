-- `text::latest::latest_records` meets its contract. The loop's invariant: each net's latest records among those passed stand between its two places.
-- Assumes nothing.
use Prim.Native.Nat.{◌-◌}
use lib.ListN.{length}
use Rattle.text.proofs.latest.LatestLaws.{Finding}
use Rattle.text.proofs.latest.latest_records.Given as goal

abbrev pub invariant-loop-at : goal.invariant-loop-at
invariant-loop-at l = Finding l.log l.latest.from l.latest.to l.at

abbrev pub decreases-loop-at : goal.decreases-loop-at
decreases-loop-at l = length l.log - l.at
