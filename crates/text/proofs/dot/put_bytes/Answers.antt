-- `text::dot::put_bytes` meets its contract: a copy over the part that is lent.
-- Assumes nothing.
use Rattle.text.proofs.PlacedLaws.{put-over}
use Rattle.text.proofs.dot.put_bytes.Goals as goal

pub returns : goal.returns
returns c = put-over _ _ _ c.copy_from_slice.ensures.after
