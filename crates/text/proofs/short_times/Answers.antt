-- `text::short_times` meets its contract: each return by the law of its table.
-- Assumes nothing.
use mathlib.Core.Path.{sym}
use Rattle.std.proofs.Common.{rules}
use Rattle.text.proofs.ReadJobLaws.{short-delays, short-criticalities, short_no_times}
use Rattle.text.proofs.short_times.Goals as goal

pub returns-then-lent-delays-clause-number : goal.returns-then-lent-delays-clause-number
returns-then-lent-delays-clause-number c = sym (short-delays _ _ _ _ (search rules))

pub returns-then-lent-criticalities-clause-number : goal.returns-then-lent-criticalities-clause-number
returns-then-lent-criticalities-clause-number c = sym (short-criticalities _ _ _ _ (search rules) (search rules))

pub returns-clause-number : goal.returns-clause-number
returns-clause-number c = sym (short_no_times _ _ _ _ (search rules) (search rules))
