-- `put_load` meets its contract: the text's four parts, one behind the other.
-- Assumes nothing.
use Rattle.std.proofs.Common.{rules}
use Rattle.generator.proofs.LoadTextLaws.{load_nodes-room, load_rows-room, load_nets-room, load_put}
use Rattle.generator.proofs.put_load.Goals as goal

pub put_nodes-two-requires : goal.put_nodes-two-requires
put_nodes-two-requires c =
    load_nodes-room c.args.load.seed c.args.load.nodes c.args.load.nets c.steps-first_row.ensures c.steps-first_net.ensures
    c.edge_count-edges.ensures c.args.buffer.now c.requires.2 c.print_line-one.ensures.answers

pub put_rows-three-requires : goal.put_rows-three-requires
put_rows-three-requires c = (
  search rules,
  load_rows-room c.args.load.seed c.args.load.nodes c.args.load.nets c.steps-first_row.ensures c.steps-first_net.ensures
      c.edge_count-edges.ensures c.args.buffer.now c.requires.2 c.print_line-one.ensures.answers c.put_nodes-two.ensures,
)

pub put_nets-requires : goal.put_nets-requires
put_nets-requires c = (
  search rules,
  load_nets-room c.args.load.seed c.args.load.nodes c.args.load.nets c.steps-first_row.ensures c.steps-first_net.ensures
      c.edge_count-edges.ensures c.args.buffer.now c.requires.2 c.print_line-one.ensures.answers c.put_nodes-two.ensures c.put_rows-three.ensures,
)

pub returns : goal.returns
returns c =
    load_put c.args.load.seed c.args.load.nodes c.args.load.nets c.steps-first_row.ensures c.steps-first_net.ensures
    c.edge_count-edges.ensures c.args.buffer.now c.requires.2 c.print_line-one.ensures.answers c.put_nodes-two.ensures c.put_rows-three.ensures
    c.put_nets.ensures
