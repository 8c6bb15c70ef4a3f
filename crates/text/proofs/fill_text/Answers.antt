-- `text::fill_text` meets its contract: the three parts one after the other.
-- Assumes nothing.
use Rattle.text.proofs.RouteTextLaws.{text_filled}
use Rattle.text.proofs.fill_text.Goals as goal

pub returns : goal.returns
returns c = text_filled c.args.style c.requires.log_tested.1 _ c.fill_head-at.ensures c.fill_branches-next.ensures c.fill_tail.ensures
