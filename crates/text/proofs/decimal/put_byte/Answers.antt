-- `decimal::put_byte` meets its contract: one store.
-- Assumes nothing.
use Rattle.std.proofs.Common.{rules}
use Rattle.text.proofs.PlacedLaws.{put_byte}
use Rattle.text.proofs.decimal.put_byte.Goals as goal

pub returns : goal.returns
returns c = put_byte _ _ _ (search rules)
