-- `table_tests::kinds_sound` meets its contract. The loop's invariant: `fine` tells whether each kind passed keeps its bound.
-- Assumes nothing.
use mathlib.Core.Path.{◌≡◌}
use lib.Dec.{leb}
use lib.ListN.{take}
use Rattle.std.specs.List.{list_all}
use Rattle.price.specs.Bounds.{kind_most}
use Rattle.search.proofs.table_tests.kinds_sound.Given as goal

abbrev pub invariant-loop-k : goal.invariant-loop-k
invariant-loop-k l = l.fine ≡ list_all (λ k. leb k kind_most) (take l.k-index l.kind)
