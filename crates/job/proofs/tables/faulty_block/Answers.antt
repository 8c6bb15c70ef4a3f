-- `tables::faulty_block` meets its contract: where delay is not weighed, tables 1 to 4 alone are refused.
-- Assumes nothing.
use mathlib.Core.Path.{◌∙◌, ap}
use Rattle.search.specs.Replies.{tested}
use Rattle.job.proofs.NetTableLaws.{named_untimed}
use Rattle.job.proofs.tables.faulty_block.Goals as goal

pub returns : goal.returns
returns c = c.faulty_with_delays.ensures ∙ ap tested (named_untimed _ _)
