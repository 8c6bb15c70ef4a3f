-- `numbers::others_sound` meets its contract. The loop's invariant: `fine` tells whether each entry passed keeps its bounds.
-- Assumes nothing.
use mathlib.Core.Path.{◌≡◌}
use Rattle.price.specs.Bounds.{others_most}
use Rattle.search.specs.AllBelow.{all_below}
use Rattle.search.specs.Replies.{bounded}
use Rattle.search.proofs.numbers.others_sound.Given as goal

abbrev pub invariant-loop-v : goal.invariant-loop-v
invariant-loop-v l = l.fine ≡ all_below l.v (bounded others_most l.others)
