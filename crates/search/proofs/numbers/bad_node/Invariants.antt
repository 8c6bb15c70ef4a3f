-- `numbers::bad_node` meets its contract. The loop's invariant: every node passed is sound.
-- Assumes nothing.
use mathlib.Core.Bool.{true}
use mathlib.Core.Path.{◌≡◌}
use Prim.Native.Nat.{ℕ, ◌<◌}
use Rattle.search.specs.Turn.{congestion_in}
use Rattle.search.specs.Replies.{node_sound}
use Rattle.search.proofs.numbers.bad_node.Given as goal

abbrev pub invariant-loop-v : goal.invariant-loop-v
invariant-loop-v l = (k : ℕ) → k < l.v → node_sound (congestion_in l.prices) l.in_tree k ≡ true
