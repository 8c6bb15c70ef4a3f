-- `nodes::put_pins` meets its contract. The loop's invariant: the lines of the nodes passed stand in the buffer.
-- Assumes nothing.
use Rattle.std.proofs.Common.{◌-◌}
use Rattle.generator.specs.Steps.{node_line}
use Rattle.text.proofs.JoiningLaws.{Joining}
use Rattle.generator.proofs.nodes.put_pins.Given as goal

abbrev pub invariant-loop-v : goal.invariant-loop-v
invariant-loop-v l = Joining (node_line (λ u. l.kind)) l.from l.to l.start l.initial.buffer l.buffer l.at l.v
