-- `flow::answer` meets its contract: what it lends is what 01 names.
-- Assumes nothing.
use Rattle.flow.proofs.ResponseLaws.{shown_lent}
use Rattle.flow.proofs.answer.Goals as goal

pub returns : goal.returns
returns c = record { answers = shown_lent _ _ _ _ _ c.respond.ensures.answers }
