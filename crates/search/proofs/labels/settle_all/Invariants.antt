-- `search::labels::settle_all` meets its contract. The invariant: labels have spread so far. The measure counts each bare node twice and each waiting node once:
-- a label makes a bare node wait at most.
-- Assumes nothing.
use Prim.Native.Nat.{◌+◌, ◌*◌}
use lib.ListN.{length}
use Rattle.search.specs.Block.{graph_in}
use Rattle.search.specs.Clamped.{price_read}
use Rattle.search.specs.Spread.{bare_count}
use Rattle.search.proofs.SpreadRun.{LabelsRunning}
use Rattle.search.proofs.labels.settle_all.Given as goal

abbrev pub invariant-loop-r : goal.invariant-loop-r
invariant-loop-r l = LabelsRunning (graph_in l.tables) (price_read l.tables l.prices) l.goals l.initial.work l.work l.r.best l.r.count

abbrev pub decreases-loop-r : goal.decreases-loop-r
decreases-loop-r l = 2 * bare_count (length l.tables.kind.now) l.work + l.r.count
