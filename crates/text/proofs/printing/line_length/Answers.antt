-- `printing::line_length` meets its contract. The loop's invariant: the bytes counted and those of the fields left are all bytes of the line.
-- Assumes nothing.
use Rattle.std.proofs.Common.{rules}
use Rattle.text.proofs.LineReplyLaws.{measuring_none, measuring_more, measuring_all}
use Rattle.text.proofs.printing.line_length.Goals as goal

pub loop-field-init : goal.loop-field-init
loop-field-init c = measuring_none _

pub loop-field-preserved : goal.loop-field-preserved
loop-field-preserved c =
    measuring_more c.loop-field.invariant (search rules) c.digit_count.ensures.0 c.saturating_add-bytes.ensures

pub returns : goal.returns
returns c = measuring_all c.loop-field.invariant (search rules) c.saturating_add.ensures
