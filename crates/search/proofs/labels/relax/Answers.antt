-- `search::labels::relax` meets its contract: each return is one of the four things that looking at an edge can do.
-- Assumes nothing.
use Rattle.search.proofs.labels.RelaxLaws.{relax_labels}
use Rattle.search.proofs.labels.relax.Goals as goal

pub returns-then-old-ge-GOAL : goal.returns-then-old-ge-GOAL
returns-then-old-ge-GOAL c =
    relax_labels c.clamped_price-p.ensures.0 c.if-n-v.false c.if-old-ge-GOAL.true c.label.ensures.labelled c.label.ensures.goal_met
