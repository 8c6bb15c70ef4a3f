-- `negotiation::turns::run_chosen` meets its contract: the plain search rules no edges by their target.
-- Assumes nothing.
use mathlib.Core.Path.{sym, ◌∙◌}
use Rattle.price.proofs.TestLaws.{true≢false}
use Rattle.negotiation.proofs.turns.run_chosen.Goals as goal

pub run_from-requires : goal.run_from-requires
run_from-requires c = record { ready = c.requires; back_lent = λ aims. absurd (true≢false (sym aims ∙ c.if-begun.false)) }
