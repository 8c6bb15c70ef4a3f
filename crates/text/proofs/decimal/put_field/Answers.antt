-- `decimal::put_field` meets its contract: a comma, and the number behind it.
-- Assumes nothing.
use Rattle.std.proofs.Common.{rules}
use Rattle.text.proofs.PlacedLaws.{put_then}
use Rattle.text.proofs.decimal.put_field.Goals as goal

pub returns : goal.returns
returns c = put_then c.put_byte-next.ensures c.put_number.ensures (search rules)
