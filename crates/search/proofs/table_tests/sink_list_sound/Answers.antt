-- `table_tests::sink_list_sound` meets its contract: the length is tested first, so what is left is the test of each sink.
-- Assumes nothing.
use mathlib.Core.Path.{sym, ◌∙◌}
use lib.Dec.{ltb}
use Rattle.std.proofs.Common.{rules, tests}
use Rattle.std.proofs.lemmas.Iterator.{YieldsList-from_slice}
use Rattle.std.proofs.lemmas.Iterator.Search.{all_from_yields_List}
use Rattle.search.proofs.TableLaws.{sinks_each}
use Rattle.search.proofs.table_tests.sink_list_sound.Goals as goal

pub returns-then-sinks-le-SINKS_MOST : goal.returns-then-sinks-le-SINKS_MOST
returns-then-sinks-le-SINKS_MOST c =
    all_from_yields_List (λ s. ltb s c.args.n) _ _ _ c.all.ensures.ran (YieldsList-from_slice c.args.sinks.now cc) (λ x b q k. search (rules, tests))
    ∙ sym (sinks_each c.args.n c.args.sinks.now (search rules))
