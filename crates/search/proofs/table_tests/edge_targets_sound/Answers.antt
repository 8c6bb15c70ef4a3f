-- `table_tests::edge_targets_sound` meets its contract. The loop's invariant: every row passed keeps its rule.
-- That table 3 keeps its rule puts each row within table 4.
-- Assumes nothing.
use mathlib.Core.Bool.{not}
use Rattle.std.proofs.Common.{ap}
use mathlib.Core.Path.{sym}
use native.Mathlib.Omega.{arith}
use Rattle.std.proofs.Common.{rules}
use borrow.Author.Count.{below_more}
use Rattle.search.specs.Block.{row}
use Rattle.search.proofs.BlockLaws.{firsts-long, firsts-most}
use Rattle.search.proofs.KeptLaws.{refused, passed}
use Rattle.search.proofs.TableLaws.{edges_bad, edges-all}
use Rattle.search.proofs.table_tests.edge_targets_sound.Goals as goal

pub offset_bounds-tables-u : goal.offset_bounds-tables-u
offset_bounds-tables-u c = omega (arith, firsts-long _ _ _ c.requires)

pub bounds-tables-u : goal.bounds-tables-u
bounds-tables-u c = omega (arith, firsts-long _ _ _ c.requires)

pub offset_bounds-tables-u-in-loop-u : goal.offset_bounds-tables-u-in-loop-u
offset_bounds-tables-u-in-loop-u c = omega (arith, firsts-long _ _ _ c.requires)

pub bounds-tables-u-in-loop-u : goal.bounds-tables-u-in-loop-u
bounds-tables-u-in-loop-u c = omega (arith, firsts-long _ _ _ c.requires)

pub row_sound-requires : goal.row_sound-requires
row_sound-requires c = firsts-most _ _ _ c.requires _ (omega arith)

pub returns-then-not-row_sound : goal.returns-then-not-row_sound
unfolding row
returns-then-not-row_sound c = sym (edges_bad _ c.loop-u.u (search rules) (refused c.row_sound.ensures (ap not c.if-not-row_sound.true)))

pub loop-u-preserved : goal.loop-u-preserved
unfolding row
loop-u-preserved c = below_more _ _ c.loop-u.invariant (passed c.row_sound.ensures (ap not c.if-not-row_sound.false))

pub returns : goal.returns
returns c = sym (edges-all _ (search rules) c.loop-u.u (search rules) c.loop-u.invariant)
