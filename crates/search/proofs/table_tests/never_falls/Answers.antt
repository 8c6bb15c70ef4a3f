-- `table_tests::never_falls` meets its contract. The loop's invariant: `fine` and the test of what is left, from the entry before place v on, make the test of the whole table.
-- Assumes nothing.
use Rattle.std.proofs.Common.{rules}
use Rattle.search.proofs.KeptLaws.{keeps, kept-all}
use Rattle.search.proofs.TableLaws.{falls_next, falls_end}
use Rattle.search.proofs.table_tests.never_falls.Goals as goal

pub loop-v-preserved : goal.loop-v-preserved
loop-v-preserved c = keeps _ c.loop-v.invariant (falls_next c.args.first_edge.now c.loop-v.v (search rules) (search rules))

pub returns : goal.returns
returns c = kept-all c.loop-v.invariant (falls_end _ c.loop-v.v (search rules))
