-- `search::aim::listed` meets its contract. The invariant: u stands at no place of row v before e.
-- Assumes nothing.
use Rattle.search.proofs.aim.ListedLaws.{is-listed, not_listed}
use Rattle.search.proofs.aim.listed.Goals as goal

pub returns-then-back-e : goal.returns-then-back-e
returns-then-back-e c =
    is-listed c.loop-e.invariant _ c.row_place-to.ensures c.loop-e-test.true c.if-back-e.true

pub returns : goal.returns
returns c = not_listed c.loop-e.invariant _ c.row_place-to.ensures c.loop-e-test.false
