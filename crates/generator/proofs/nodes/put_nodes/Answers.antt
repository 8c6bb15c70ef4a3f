-- `nodes::put_nodes` meets its contract: the lines of three parts, one behind the other.
-- Assumes nothing.
use Rattle.std.proofs.Common.{rules}
use Rattle.generator.proofs.NodeLaws.{sources-room, wires-room, sinks-room, nodes-put}
use Rattle.generator.proofs.nodes.put_nodes.Goals as goal

pub put_pins-wires-requires : goal.put_pins-wires-requires
put_pins-wires-requires c = (search rules, sources-room _ _ _ c.args.buffer.now c.requires)

pub put_wires-sinks-requires : goal.put_wires-sinks-requires
put_wires-sinks-requires c = (search rules, wires-room _ _ _ _ c.requires c.put_pins-wires.ensures)

pub put_pins-requires : goal.put_pins-requires
put_pins-requires c =
    (search rules, sinks-room _ _ _ _ c.requires c.put_pins-wires.ensures c.put_wires-sinks.ensures)

pub returns : goal.returns
returns c =
    nodes-put _ _ _ _ c.requires c.put_pins-wires.ensures c.put_wires-sinks.ensures c.put_pins.ensures
