-- `tally::widen` meets its contract: after the turns up to v, v entries are copied.
-- Assumes nothing.
use native.Mathlib.Omega.{arith}
use Rattle.std.proofs.Common.{rules}
use Rattle.uses.proofs.TallyLaws.{copied_none, copied_next, copied_whole}
use Rattle.uses.proofs.tally.widen.Goals as goal

pub loop-v-init : goal.loop-v-init
loop-v-init c = copied_none _ _

pub overflow_cast-wide : goal.overflow_cast-wide
overflow_cast-wide c = omega (arith, c.type_inv.bytes c.loop-v.v)

pub loop-v-preserved : goal.loop-v-preserved
loop-v-preserved c = copied_next c.loop-v.invariant (omega arith) (omega arith)

pub shape_of-wide : goal.shape_of-wide
shape_of-wide c = c.loop-v.invariant.same_length

pub returns : goal.returns
returns c = copied_whole c.loop-v.invariant (search rules)
