-- `printing::put_fields` meets its contract. The loop's invariant: the fields before this one stand, and those left make the line's fields whole.
-- Assumes nothing.
use Rattle.std.proofs.Common.{rules}
use Rattle.text.proofs.LineReplyLaws.{filling_room, filling_more, filling_all, filling_end}
use Rattle.text.proofs.printing.put_fields.Goals as goal

pub put_field-at-requires : goal.put_field-at-requires
put_field-at-requires c = filling_room c.loop-field.invariant (search rules)

pub loop-field-preserved : goal.loop-field-preserved
loop-field-preserved c = filling_more c.loop-field.invariant (search rules) c.put_field-at.ensures

pub put_byte-requires : goal.put_byte-requires
put_byte-requires c = filling_end c.loop-field.invariant (search rules)

pub returns : goal.returns
returns c = filling_all c.loop-field.invariant (search rules) c.put_byte.ensures
