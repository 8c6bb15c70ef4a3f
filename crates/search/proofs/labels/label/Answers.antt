-- `search::labels::label` meets its contract: two stores and, where v has something to spread, a place in the heap.
-- Assumes nothing.
use mathlib.Core.Path.{refl}
use Rattle.search.specs.Spread.{waits}
use Rattle.search.proofs.SpreadSteps.{label-heap}
use Rattle.search.proofs.labels.label.Goals as goal

pub add-requires-clause-heaped : goal.add-requires-clause-heaped
add-requires-clause-heaped c = label-heap c.requires c.args.d c.set_from.ensures

pub returns-then-has_to_wait : goal.returns-then-has_to_wait
returns-then-has_to_wait c = record { labelled = waits (rw c.set_from.ensures at c.add.ensures) refl; goal_met = c.met-best.ensures }
