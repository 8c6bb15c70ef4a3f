-- `table_tests::edge_targets_sound` meets its contract. The loop's invariant: every row passed keeps its rule.
-- That table 3 keeps its rule puts each row within table 4.
-- Assumes nothing.
use mathlib.Core.Bool.{true}
use mathlib.Core.Path.{◌≡◌}
use Prim.Native.Nat.{ℕ, ◌<◌}
use lib.ListN.{length}
use Rattle.search.specs.Block.{row}
use Rattle.search.specs.Block.{block_in}
use Rattle.search.specs.Tables.{row_sound}
use Rattle.search.proofs.table_tests.edge_targets_sound.Given as goal

abbrev pub invariant-loop-u : goal.invariant-loop-u
invariant-loop-u l = (k : ℕ) → k < l.u → row_sound (length l.tables.kind.now) k (row (block_in l.tables) k) ≡ true
