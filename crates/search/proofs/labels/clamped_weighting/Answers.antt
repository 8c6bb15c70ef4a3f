-- `search::labels::clamped_weighting` meets its contract.
-- Assumes nothing.
use Rattle.search.proofs.ClampedLaws.{clamped-min}
use Rattle.search.proofs.labels.clamped_weighting.Goals as goal

pub returns : goal.returns
returns c = rw (clamped-min _ _, c.min.ensures)
