-- `text::short_table` meets its contract: each return by the law of its table.
-- Assumes nothing.
use mathlib.Core.Path.{sym}
use Rattle.std.proofs.Common.{rules}
use Rattle.text.proofs.ReadJobLaws.{short-kinds, short-capacities, short-first_edges, short-edges, short-sources, short-first_sinks, short-sinks, short_none}
use Rattle.text.proofs.short_table.Goals as goal

pub returns-then-lent-counts-clause-number : goal.returns-then-lent-counts-clause-number
returns-then-lent-counts-clause-number c = sym (short-kinds _ _ _ _ _ _ _ _ _ _ _ (search rules))

pub returns-then-lent-counts-2-clause-number : goal.returns-then-lent-counts-2-clause-number
returns-then-lent-counts-2-clause-number c = sym (short-capacities _ _ _ _ _ _ _ _ _ _ _ (search rules) (search rules))

pub returns-then-lent-counts-3-clause-number : goal.returns-then-lent-counts-3-clause-number
returns-then-lent-counts-3-clause-number c = sym (short-first_edges _ _ _ _ _ _ _ _ _ _ _ (search rules) (search rules) (search rules))

pub returns-then-lent-counts-4-clause-number : goal.returns-then-lent-counts-4-clause-number
returns-then-lent-counts-4-clause-number c = sym (short-edges _ _ _ _ _ _ _ _ _ _ _ (search rules) (search rules) (search rules) (search rules))

pub returns-then-lent-counts-5-clause-number : goal.returns-then-lent-counts-5-clause-number
returns-then-lent-counts-5-clause-number c = sym (short-sources _ _ _ _ _ _ _ _ _ _ _ (search rules) (search rules) (search rules) (search rules) (search rules))

pub returns-then-lent-counts-6-clause-number : goal.returns-then-lent-counts-6-clause-number
returns-then-lent-counts-6-clause-number c = sym (short-first_sinks _ _ _ _ _ _ _ _ _ _ _ (search rules) (search rules) (search rules) (search rules) (search rules) (search rules))

pub returns-then-lent-counts-7-clause-number : goal.returns-then-lent-counts-7-clause-number
returns-then-lent-counts-7-clause-number c = sym (short-sinks _ _ _ _ _ _ _ _ _ _ _ (search rules) (search rules) (search rules) (search rules) (search rules) (search rules) (search rules))

pub returns-clause-number : goal.returns-clause-number
returns-clause-number c = sym (short_none _ _ _ _ _ _ _ _ _ _ _ (search rules) (search rules) (search rules) (search rules) (search rules) (search rules) (search rules))
