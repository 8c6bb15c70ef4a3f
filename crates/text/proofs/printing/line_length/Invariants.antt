-- `printing::line_length` meets its contract. The loop's invariant: the bytes counted and those of the fields left are all bytes of the line.
-- Assumes nothing.
use Rattle.text.proofs.LineReplyLaws.{Measuring}
use Rattle.text.proofs.printing.line_length.Given as goal

abbrev pub invariant-loop-field : goal.invariant-loop-field
invariant-loop-field l = Measuring l.fields l.bytes l.field-index
