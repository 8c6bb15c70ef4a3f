-- `table_tests::row_sound` meets its contract. The loop's invariant: `fine` and the test of the targets that are left, from `low` on, make the test of the row.
-- Assumes nothing.
use lib.Seq.{slice}
use Rattle.search.specs.Tables.{row_sound}
use Rattle.search.proofs.KeptLaws.{Kept}
use Rattle.search.proofs.table_tests.RisingRowLaws.{left_sound}
use Rattle.search.proofs.table_tests.row_sound.Given as goal

abbrev pub invariant-loop-e : goal.invariant-loop-e
invariant-loop-e l =
    Kept (row_sound l.n l.u (slice l.from l.to l.edge_target)) l.fine (left_sound l.n l.u l.low (slice l.e l.to l.edge_target))
