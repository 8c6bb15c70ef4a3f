-- `search::turn::path_length` meets its contract. The invariant: v is node number `count` of the path, counted from its end. The measure is v's label.
-- Assumes nothing.
use native.Mathlib.Omega.{arith}
use Rattle.search.proofs.turn.FollowLaws.{follow_none, follow_few, follow_nearer, follow_on, follow_end}
use Rattle.search.proofs.turn.path_length.Goals as goal

pub loop-v-init : goal.loop-v-init
loop-v-init c = follow_none _ _ _ _ c.requires.0

pub overflow_add-count : goal.overflow_add-count
overflow_add-count c = let f = c.requires.1.few in omega (arith, follow_few (follow_on c.requires.1 c.loop-v-test.true c.loop-v.invariant))

pub loop-v-smaller : goal.loop-v-smaller
loop-v-smaller c = follow_nearer c.requires.1 c.loop-v-test.true c.loop-v.invariant

pub loop-v-preserved : goal.loop-v-preserved
loop-v-preserved c = follow_on c.requires.1 c.loop-v-test.true c.loop-v.invariant

pub returns : goal.returns
returns c = follow_end c.requires.1 c.loop-v-test.false c.loop-v.invariant
