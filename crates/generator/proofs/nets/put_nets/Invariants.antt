-- `nets::put_nets` meets its contract. The loop's invariant: the lines of the nets passed stand in the buffer.
-- Assumes nothing.
use Rattle.std.proofs.Common.{◌≡◌, ◌-◌, ◌*◌}
use Rattle.generator.specs.Draws.{state_after}
use Rattle.generator.specs.Steps.{net_lines}
use Rattle.text.proofs.JoiningLaws.{Joining}
use Rattle.generator.proofs.nets.put_nets.Given as goal

abbrev pub invariant-loop-i : goal.invariant-loop-i
invariant-loop-i l = (l.state ≡ state_after l.first (2 * l.i)) × Joining (net_lines l.first l.nodes) 0 l.nets l.start l.initial.buffer l.buffer l.at l.i
