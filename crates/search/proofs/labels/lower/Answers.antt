-- `search::labels::lower` meets its contract.
-- Assumes nothing.
use Rattle.search.specs.Spread.{lowered}
use Rattle.search.proofs.labels.lower.Goals as goal

pub returns-then-u-w : goal.returns-then-u-w
returns-then-u-w c = lowered c.if-u-w.true c.if-work-w.true c.set_from.ensures
