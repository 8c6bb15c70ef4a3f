-- `text::lowest_short` meets its contract: tables 9 and 10 are named where no lower one is.
-- Assumes nothing.
use Rattle.text.proofs.ReadJobLaws.{lowest_or}
use Rattle.text.proofs.lowest_short.Goals as goal

pub returns : goal.returns
returns c =
    let first = c.short_table.ensures in
    let times = c.short_times.ensures in
    let p = lowest_or c.short_table.result c.short_times.result first.number first.named times.number times.named in
    rw c.or.ensures (record { number = p.0; named = p.1 })
