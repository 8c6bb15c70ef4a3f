-- `search::refused` meets its contract: what the tests refuse is due.
-- Assumes nothing.
use mathlib.Core.List.{[]}
use mathlib.Core.Path.{sym}
use Rattle.search.proofs.TestedLaws.{refused_table}
use Rattle.search.proofs.PathTestLaws.{path-few}
use Rattle.search.proofs.refused.Goals as goal

pub first_refusal-requires : goal.first_refusal-requires
first_refusal-requires c = path-few _ _ _ _ _ _ (sym (c.in_ok-faulty_with_sinks.ensures 0 [] []))

pub returns-in_err-faulty_with_sinks : goal.returns-in_err-faulty_with_sinks
returns-in_err-faulty_with_sinks c = refused_table _ _ _ _ _ _ (sym (c.in_err-faulty_with_sinks.ensures _ _ _)) c.from_residual.ensures.1
