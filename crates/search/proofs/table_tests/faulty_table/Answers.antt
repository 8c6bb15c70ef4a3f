-- `table_tests::faulty_table` meets its contract: few nodes follow from the rule of table 1.
-- Assumes nothing.
use mathlib.Core.Bool.{not}
use Rattle.std.proofs.Common.{ap}
use Rattle.search.proofs.BlockLaws.{kinds-few}
use Rattle.search.proofs.KeptLaws.{passed}
use Rattle.search.proofs.table_tests.faulty_table.Goals as goal

pub first_edges_sound-requires : goal.first_edges_sound-requires
first_edges_sound-requires c = kinds-few _ (passed c.kinds_sound.ensures (ap not c.if-not-kinds_sound.false))
