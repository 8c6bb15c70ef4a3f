-- `fill::fill` meets its contract: after the turns up to k, the entries from `from` to below k are filled and the others as before.
-- Assumes nothing.
use native.Mathlib.Omega.{arith}
use lib.ListN.{length-set}
use Rattle.search.proofs.FillLaws.{filled_more}
use Rattle.search.proofs.fill.fill.Goals as goal

pub loop-k-preserved : goal.loop-k-preserved
loop-k-preserved c =
    let s = c.loop-k.invariant in
    (omega arith, omega arith, simp length-set s.2, rw s.3 (filled_more _ _ _ _ s.0 (omega arith)))
