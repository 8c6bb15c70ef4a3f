-- `tally::tally` meets its contract: after the turns up to v, the weights of v nodes are added.
-- Assumes nothing.
use Prim.Native.Nat.{◌<◌}
use native.Mathlib.Omega.{arith}
use lib.ListN.{get_or}
use Rattle.std.proofs.Common.{rules}
use Rattle.uses.specs.Uses.{kind_count}
use Rattle.uses.proofs.TallyLaws.{tallying_none, tallying_kind, tallying_fits, tallying_more, tallying_all}
use Rattle.uses.proofs.tally.tally.Goals.{In-loop-v}
use Rattle.uses.proofs.tally.tally.Goals as goal

kind_within : (c : In-loop-v) → get_or c.args.kind.now c.loop-v.v 0 < kind_count
kind_within c = tallying_kind c.loop-v.invariant c.requires.kind_value.0 (search rules)

pub loop-v-init : goal.loop-v-init
loop-v-init c = tallying_none _ _ _ (search rules)

pub overflow_cast-sums : goal.overflow_cast-sums
overflow_cast-sums c = omega (arith, c.type_inv.weight c.loop-v.v)

pub offset_bounds-sums-k : goal.offset_bounds-sums-k
offset_bounds-sums-k c = omega (arith, kind_within (goal.at.offset_bounds-sums-k c).In-loop-v)

pub bounds-sums-k : goal.bounds-sums-k
bounds-sums-k c = omega (arith, kind_within (goal.at.bounds-sums-k c).In-loop-v, c.loop-v.invariant.long, c.requires.sums_len.0)

pub overflow_add-sums : goal.overflow_add-sums
overflow_add-sums c =
    omega (arith, tallying_fits c.loop-v.invariant c.requires.kind_value.0 (kind_within (goal.at.overflow_add-sums c).In-loop-v), c.type_inv.weight c.loop-v.v)

pub bounds-sums-k-in-loop-v : goal.bounds-sums-k-in-loop-v
bounds-sums-k-in-loop-v c = omega (arith, kind_within (goal.at.bounds-sums-k-in-loop-v c).In-loop-v, c.loop-v.invariant.long, c.requires.sums_len.0)

pub loop-v-preserved : goal.loop-v-preserved
loop-v-preserved c =
    tallying_more c.loop-v.invariant c.requires.kind_value.0 (search rules) c.requires.sums_len.0 (omega (arith, c.type_inv.weight c.loop-v.v))

pub shape_of-sums : goal.shape_of-sums
shape_of-sums c = c.loop-v.invariant.long

pub returns : goal.returns
returns c = tallying_all c.loop-v.invariant (search rules) (search rules)
