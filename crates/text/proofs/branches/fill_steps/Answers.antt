-- `text::branches::fill_steps` meets its contract. The loop's invariant: the lines of the steps passed are counted, and written where there is room.
-- Assumes nothing.
use Rattle.std.proofs.Common.{rules}
use Rattle.text.proofs.StepTextLaws.{putting_none, putting_more, putting_all}
use Rattle.text.proofs.branches.fill_steps.Goals as goal

pub loop-k-init : goal.loop-k-init
loop-k-init c = putting_none _ _ _ _ _ (search rules)

pub loop-k-preserved : goal.loop-k-preserved
loop-k-preserved c = putting_more c.loop-k.invariant (search rules) c.fill_branch-next.ensures

pub returns : goal.returns
returns c = putting_all c.loop-k.invariant (search rules)
