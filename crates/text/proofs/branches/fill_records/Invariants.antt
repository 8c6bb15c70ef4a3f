-- `text::branches::fill_records` meets its contract. The loop's invariant: the branches of the net's records passed are counted, and written where there is room.
-- Assumes nothing.
use Prim.Native.Nat.{◌-◌}
use lib.ListN.{length}
use Rattle.text.specs.Dot.{style_line}
use Rattle.text.proofs.BranchLaws.{PuttingRecords}
use Rattle.text.proofs.branches.fill_records.Given as goal

abbrev pub invariant-loop-at : goal.invariant-loop-at
invariant-loop-at l = PuttingRecords (style_line l.style) l.net l.log l.start l.initial.buffer l.buffer l.next l.at

abbrev pub decreases-loop-at : goal.decreases-loop-at
decreases-loop-at l = length l.log - l.at
