-- `nodes::put_wires` meets its contract. The loop's invariant: the lines of the nodes passed stand in the buffer.
-- Assumes nothing.
use Rattle.std.proofs.Common.{◌≡◌, ◌-◌}
use Rattle.generator.specs.Draws.{state_after}
use Rattle.generator.specs.Steps.{node_line, wire_kind}
use Rattle.text.proofs.JoiningLaws.{Joining}
use Rattle.generator.proofs.nodes.put_wires.Given as goal

abbrev pub invariant-loop-v : goal.invariant-loop-v
invariant-loop-v l = (l.state ≡ state_after l.first (l.v - l.from)) × Joining (node_line (wire_kind l.first l.from)) l.from l.to l.start l.initial.buffer l.buffer l.at l.v
