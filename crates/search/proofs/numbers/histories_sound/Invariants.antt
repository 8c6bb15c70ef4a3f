-- `numbers::histories_sound` meets its contract. The loop's invariant: `fine` tells whether each entry passed keeps its bounds.
-- Assumes nothing.
use mathlib.Core.Path.{◌≡◌}
use Rattle.search.specs.AllBelow.{all_below}
use Rattle.search.specs.Replies.{history_bounded}
use Rattle.search.proofs.numbers.histories_sound.Given as goal

abbrev pub invariant-loop-v : goal.invariant-loop-v
invariant-loop-v l = l.fine ≡ all_below l.v (history_bounded l.most l.history)
