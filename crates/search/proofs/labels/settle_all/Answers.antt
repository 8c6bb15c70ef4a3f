-- `search::labels::settle_all` meets its contract. The invariant: labels have spread so far. The measure counts each bare node twice and each waiting node once:
-- a label makes a bare node wait at most.
-- Assumes nothing.
use native.Mathlib.Omega.{arith}
use Rattle.search.proofs.SpreadRun.{run_node, run_fits, run_early, run_settle, run_more, run_falls, run_end}
use Rattle.search.proofs.labels.settle_all.Goals as goal

pub bounds-work-u : goal.bounds-work-u
bounds-work-u c = let i = c.loop-r.invariant in let n = run_node i c.loop-r-test.true in let h = i.spread.heap.long in omega arith

pub overflow_add-work : goal.overflow_add-work
overflow_add-work c =
    let m = run_fits c.loop-r.invariant c.loop-r-test.true c.requires.1.small in
    omega arith

pub returns-then-r-work : goal.returns-then-r-work
returns-then-r-work c = run_early c.loop-r.invariant c.loop-r-test.true c.if-r-work.true

pub settle-r-requires : goal.settle-r-requires
settle-r-requires c =
    let pre = c.requires in
    (pre.0, run_settle c.loop-r.invariant c.loop-r-test.true c.take.ensures pre.1.firsts-long)

pub loop-r-smaller : goal.loop-r-smaller
loop-r-smaller c =
    run_falls c.loop-r.invariant c.loop-r-test.true c.take.ensures c.settle-r.ensures

pub loop-r-preserved : goal.loop-r-preserved
loop-r-preserved c =
    run_more c.loop-r.invariant c.loop-r-test.true c.take.ensures c.settle-r.ensures

pub returns : goal.returns
returns c = run_end c.loop-r.invariant c.loop-r-test.false
