-- `edges::edge_rises` meets its contract: each return is the order's answer under the tests before it.
-- Assumes nothing.
use mathlib.Core.Logic.{⊎_elim}
use mathlib.Core.Path.{◌∙◌}
use Rattle.text.proofs.edges.EdgeLineLaws.{rises_first, rises_later, rises_lower, rises-same}
use Rattle.text.proofs.edges.edge_rises.Goals.{then-count-eq0, else-count-eq0}
use Rattle.text.proofs.edges.edge_rises.Goals as goal

pub returns-then-last_from-from : goal.returns-then-last_from-from
returns-then-last_from-from c =
    elim c.if-count-eq0.branch [
      | then-count-eq0 w ↦ w.t-7-is ∙ rises_first _ _ _ _ _ w.if-count-eq0.true
      | else-count-eq0 w ↦ w.t-7-is ∙ rises_later _ _ _ _ _ w.if-count-eq0.false (⊎_elim (λ e. absurd (w.if-count-eq0.false e)) (λ p. p.1) c.if-last_from-from.either)
    ]

pub returns-then-last_from-from-2 : goal.returns-then-last_from-from-2
returns-then-last_from-from-2 c = rises-same _ _ _ _ _ c.if-last_from-from.false.0 c.if-last_from-from.false.1 c.if-last_from-from-2.true

pub returns-else-last_from-from-2 : goal.returns-else-last_from-from-2
returns-else-last_from-from-2 c = rises_lower _ _ _ _ _ c.if-last_from-from.false.0 c.if-last_from-from.false.1 c.if-last_from-from-2.false
