-- `table_tests::kinds_sound` meets its contract: the lengths are tested first, so what is left is the test of each entry.
-- Assumes nothing.
use Rattle.std.proofs.Common.{arith}
use Rattle.std.proofs.lemmas.Grind.{common_steps}
use Rattle.search.proofs.TableLaws.{kinds_each}
use Rattle.search.proofs.table_tests.kinds_sound.Goals as goal

pub returns : goal.returns
returns c = grind (arith, common_steps, kinds_each c.args.kind.now)
