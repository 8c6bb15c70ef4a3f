-- `nodes::put_pins` meets its contract. The loop's invariant: the lines of the nodes passed stand in the buffer.
-- Assumes nothing.
use Rattle.std.proofs.Common.{rules}
use Rattle.text.proofs.LineReplyLaws.{line-put}
use Rattle.text.proofs.JoiningLaws.{joining_none, joining_room, joining_more, joining_all, joining_same}
use Rattle.generator.proofs.nodes.put_pins.Goals as goal

pub loop-v-init : goal.loop-v-init
loop-v-init c = joining_none _ _ _ _ _ (search rules) (search rules)

pub loop-v-preserved : goal.loop-v-preserved
loop-v-preserved c =
    let inv = c.loop-v.invariant in
    joining_more _ _ _ _ _ (search rules) inv (search rules) (line-put 78 _ c.print_line-at.ensures.answers (joining_room _ _ _ _ _ (search rules) inv (search rules)))

pub shape_of-buffer : goal.shape_of-buffer
shape_of-buffer c = joining_same _ _ _ _ _ (search rules) c.loop-v.invariant

pub returns : goal.returns
returns c = joining_all _ _ _ _ _ (search rules) c.loop-v.invariant (search rules)
