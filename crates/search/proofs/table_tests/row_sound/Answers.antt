-- `table_tests::row_sound` meets its contract. The loop's invariant: `fine` and the test of the targets that are left, from `low` on, make the test of the row.
-- Assumes nothing.
use mathlib.Core.Path.{refl, sym, ◌∙◌}
use lib.Seq.{slice}
use Rattle.std.proofs.Common.{rules}
use Rattle.search.proofs.KeptLaws.{keeps, kept_left}
use Rattle.search.proofs.table_tests.RisingRowLaws.{left_whole, left-next, left_end}
use Rattle.search.proofs.table_tests.row_sound.Goals as goal

pub loop-e-init : goal.loop-e-init
loop-e-init c = let a = c.args in record { whole_is = left_whole a.n a.u (slice a.from a.to a.edge_target.now) }

pub loop-e-preserved : goal.loop-e-preserved
loop-e-preserved c =
    let a = c.args in
    let at = c.loop-e in
    keeps _ (keeps _ at.invariant (left-next a.n a.u at.low at.e a.to a.edge_target.now (search rules) (search rules))) refl

pub returns-then-fine : goal.returns-then-fine
returns-then-fine c =
    let a = c.args in
    sym (left_end _ _ _ c.loop-e.e a.to a.edge_target.now (search rules) (search rules)) ∙ kept_left c.loop-e.invariant c.if-fine.true
