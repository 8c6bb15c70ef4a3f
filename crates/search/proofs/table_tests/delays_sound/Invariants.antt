-- `table_tests::delays_sound` meets its contract. The loop's invariant: `fine` tells whether each delay passed keeps its bound.
-- Assumes nothing.
use mathlib.Core.Path.{◌≡◌}
use lib.Dec.{leb}
use lib.ListN.{take}
use Rattle.std.specs.List.{list_all}
use Rattle.price.specs.Bounds.{delay_most}
use Rattle.search.proofs.table_tests.delays_sound.Given as goal

abbrev pub invariant-loop-d : goal.invariant-loop-d
invariant-loop-d l = l.fine ≡ list_all (λ d. leb d delay_most) (take l.d-index l.delay)
