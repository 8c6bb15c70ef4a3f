-- `numbers::bad_node` meets its contract. The loop's invariant: every node passed is sound.
-- Assumes nothing.
use mathlib.Core.Path.{refl, sym}
use Rattle.std.proofs.Common.{rules}
use Rattle.search.proofs.PriceableLaws.{bad_here, bad_nowhere}
use Rattle.search.proofs.numbers.bad_node.Goals as goal

pub returns-then-not-node_sound : goal.returns-then-not-node_sound
returns-then-not-node_sound c = sym (bad_here _ _ _ _ c.loop-v.invariant (search rules) (search rules))

pub returns : goal.returns
returns c = sym (bad_nowhere _ _ _ _ (λ k h. c.loop-v.invariant k (search rules)) refl)
