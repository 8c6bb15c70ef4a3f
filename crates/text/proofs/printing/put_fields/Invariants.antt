-- `printing::put_fields` meets its contract. The loop's invariant: the fields before this one stand, and those left make the line's fields whole.
-- Assumes nothing.
use Rattle.text.proofs.LineReplyLaws.{Filling}
use Rattle.text.proofs.printing.put_fields.Given as goal

abbrev pub invariant-loop-field : goal.invariant-loop-field
invariant-loop-field l = Filling l.fields l.start l.initial.buffer l.buffer l.at l.field-index
