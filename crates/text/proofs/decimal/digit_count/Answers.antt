-- `decimal::digit_count` meets its contract: a number below a power of ten has no more digits than that power has zeros.
-- Assumes nothing.
use Rattle.std.proofs.Common.{rules}
use Rattle.text.proofs.DecimalLaws.{count-one, count-two, count-three, count-last}
use Rattle.text.proofs.decimal.digit_count.Goals as goal

pub returns-then-n-lt10 : goal.returns-then-n-lt10
returns-then-n-lt10 c =
    let e = count-one c.args.n (search rules) in
    search rules

pub returns-then-n-lt100 : goal.returns-then-n-lt100
returns-then-n-lt100 c =
    let e = count-two c.args.n (search rules) (search rules) in
    search rules

pub returns-then-n-lt1000 : goal.returns-then-n-lt1000
returns-then-n-lt1000 c =
    let e = count-three c.args.n (search rules) (search rules) in
    search rules

pub returns-then-n-lt10000 : goal.returns-then-n-lt10000
returns-then-n-lt10000 c =
    let e = count-last c.args.n (search rules) (search rules) in
    search rules
