-- `printing::put_line` meets its contract: the letter, and the fields behind it.
-- Assumes nothing.
use native.Mathlib.Omega.{arith}
use Rattle.std.proofs.Common.{rules}
use Rattle.text.proofs.PlacedLaws.{put-room, put_letter_then}
use Rattle.text.proofs.LineReplyLaws.{line_size}
use Rattle.text.proofs.printing.put_line.Goals as goal

pub put_byte-next-requires : goal.put_byte-next-requires
put_byte-next-requires c =
    let size = line_size c.args.letter c.args.fields.now in
    search rules

pub put_fields-requires : goal.put_fields-requires
put_fields-requires c =
    let size = line_size c.args.letter c.args.fields.now in
    put-room c.put_byte-next.ensures _ (omega (arith, c.requires))

pub returns : goal.returns
returns c = put_letter_then _ c.put_byte-next.ensures c.requires (λ room. c.put_fields.ensures)
