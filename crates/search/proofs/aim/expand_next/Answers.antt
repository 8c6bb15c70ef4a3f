-- `search::aim::expand_next` meets its contract: the node of least key leaves the queue, which leaves distances and estimates, and its row is looked at.
-- Assumes nothing.
use Rattle.search.proofs.aim.AimRows.{expanded, best_out, low-out}
use Rattle.search.proofs.aim.expand_next.Goals as goal

pub returns : goal.returns
returns c =
    let u = c.nearest-u.ensures in
    let out = c.wait.ensures in
    let row = c.aim_row.ensures in
    ((_, expanded c.requires.3 u.0 u.1 out row.0), λ s. row.1 (best_out out s), λ s. row.2 (low-out out s))
