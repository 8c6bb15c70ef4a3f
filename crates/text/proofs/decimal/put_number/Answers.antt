-- `decimal::put_number` meets its contract. The loop's invariant: the digits behind the place stand, and what is left has the others.
-- Assumes nothing.
use Rattle.std.proofs.Common.{rules}
use Rattle.text.proofs.PlacedLaws.{writing_start, writing_next, writing_end}
use Rattle.text.proofs.decimal.put_number.Goals as goal

pub loop-k-init : goal.loop-k-init
loop-k-init c = (search rules, writing_start _ _ _ _ (search rules) (search rules) (search rules))

pub loop-k-preserved : goal.loop-k-preserved
loop-k-preserved c = (search rules, writing_next _ _ _ _ _ _ (search rules) c.loop-k.invariant.1)

pub returns : goal.returns
returns c = record { written = writing_end _ _ _ _ _ _ (search rules) c.loop-k.invariant.1; next-is = search rules }
