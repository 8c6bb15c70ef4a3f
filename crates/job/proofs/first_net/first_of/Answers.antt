-- `first_net::first_of` meets its contract. The loop's invariant: no net passed has the source.
-- Assumes nothing.
use mathlib.Core.Path.{sym}
use Rattle.std.proofs.Common.{rules}
use Rattle.job.proofs.FirstNetLaws.{first_found, first_none}
use Rattle.job.proofs.first_net.first_of.Goals as goal

pub returns-then-from-node : goal.returns-then-from-node
returns-then-from-node c =
    sym (first_found _ _ _ _ c.source_of-node.ensures (search rules) (search rules) c.loop-i.invariant.0)

pub returns : goal.returns
returns c =
    sym (first_none _ _ _ _ c.source_of-node.ensures (search rules) c.loop-i.invariant.0)
