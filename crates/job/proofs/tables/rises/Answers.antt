-- `tables::rises` meets its contract. The loop's invariant: every entry passed is above the one before it.
-- Assumes nothing.
use mathlib.Core.Path.{sym}
use Rattle.std.proofs.Common.{rules}
use Rattle.job.proofs.NetTableLaws.{stays_at, always_rises}
use Rattle.job.proofs.tables.rises.Goals as goal

pub returns-then-first_sink-i : goal.returns-then-first_sink-i
returns-then-first_sink-i c = sym (stays_at _ c.loop-i.i (search rules) (search rules) (search rules))

pub returns : goal.returns
returns c = sym (always_rises _ _ (search rules) c.loop-i.invariant.1)
