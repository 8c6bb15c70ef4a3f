-- `search::labels::settle` meets its contract. The invariant: the row has been looked at up to place e.
-- Assumes nothing.
use Rattle.search.proofs.SpreadRun.{row_begin, row-ready, row_more, row-end}
use Rattle.search.proofs.labels.settle.Goals as goal

pub loop-e-init : goal.loop-e-init
loop-e-init c = row_begin c.requires.1 c.row_place-e.ensures

pub relax-r-requires : goal.relax-r-requires
relax-r-requires c =
    let pre = c.requires in
    row-ready pre.0 pre.1 c.loop-e.invariant c.row_place-to.ensures c.loop-e-test.true

pub loop-e-preserved : goal.loop-e-preserved
loop-e-preserved c =
    let pre = c.requires in
    row_more pre.1 pre.0.few c.loop-e.invariant c.row_place-to.ensures c.loop-e-test.true c.relax-r.ensures

pub returns : goal.returns
returns c =
    let pre = c.requires in
    row-end pre.1 pre.0.few c.loop-e.invariant c.row_place-to.ensures c.loop-e-test.false
