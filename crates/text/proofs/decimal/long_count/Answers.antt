-- `decimal::long_count` meets its contract. The loop's invariant: what is counted and what is left are all digits.
-- Assumes nothing.
use native.Mathlib.Omega.{arith}
use Rattle.std.proofs.Common.{rules}
use Rattle.text.proofs.DecimalLaws.{decimal-length, digits_left_none, count-start, count_next}
use Rattle.text.proofs.decimal.long_count.Goals as goal

pub loop-left-init : goal.loop-left-init
loop-left-init c = (count-start c.args.n (search rules), search rules)

pub overflow_add-count : goal.overflow_add-count
overflow_add-count c = omega (arith, decimal-length c.args.n)

pub loop-left-preserved : goal.loop-left-preserved
loop-left-preserved c = (omega (arith, count_next c.loop-left.left (search rules) (search rules)), search rules)

pub returns : goal.returns
returns c =
    let e = digits_left_none c.loop-left.left (search rules) in
    let l = decimal-length c.args.n in
    search rules
