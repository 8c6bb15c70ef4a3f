-- `table_tests::capacities_sound` meets its contract. The loop's invariant: `fine` tells whether no capacity passed is 0.
-- Assumes nothing.
use mathlib.Core.Path.{◌≡◌}
use lib.Dec.{leb}
use lib.ListN.{take}
use Rattle.std.specs.List.{list_all}
use Rattle.search.proofs.table_tests.capacities_sound.Given as goal

abbrev pub invariant-loop-c : goal.invariant-loop-c
invariant-loop-c l = l.fine ≡ list_all (λ c. leb 1 c) (take l.c-index l.capacity)
