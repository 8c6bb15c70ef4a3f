-- `table_tests::never_falls` meets its contract. The loop's invariant: `fine` and the test of what is left, from the entry before place v on, make the test of the whole table.
-- Assumes nothing.
use Prim.Native.Nat.{◌-◌}
use lib.Dec.{leb}
use lib.ListN.{drop}
use Rattle.price.specs.Lists.{neighbours}
use Rattle.search.proofs.KeptLaws.{Kept}
use Rattle.search.proofs.table_tests.never_falls.Given as goal

abbrev pub invariant-loop-v : goal.invariant-loop-v
invariant-loop-v l = Kept (neighbours leb l.first_edge) l.fine (neighbours leb (drop (l.v - 1) l.first_edge))
