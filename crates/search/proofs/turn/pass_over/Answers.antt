-- `search::turn::pass_over` meets its contract. The invariant: no tree node stands before v. The measure is how many nodes are left.
-- Assumes nothing.
use native.Mathlib.Omega.{arith}
use Rattle.search.proofs.turn.TurnMarkLaws.{over-on}
use Rattle.search.proofs.turn.pass_over.Goals as goal

pub loop-v-preserved : goal.loop-v-preserved
loop-v-preserved c =
    let t = c.loop-v-test.true in
    over-on _ (omega arith) t (c.some_marked.ensures c.if-some_marked.false) c.loop-v.invariant
