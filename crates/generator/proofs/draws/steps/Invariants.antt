-- `draws::steps` meets its contract. The loop's invariant: the state is the one after so many steps.
-- Assumes nothing.
use Rattle.std.proofs.Common.{◌≡◌, ◌-◌, ◌≤◌}
use Rattle.generator.specs.Draws.{state_after}
use Rattle.generator.proofs.draws.steps.Given as goal

abbrev pub invariant-loop-k : goal.invariant-loop-k
invariant-loop-k l = (l.state ≡ state_after l.first l.k) × (l.k ≤ l.count)
