-- `nets::put_nets` meets its contract. The loop's invariant: the lines of the nets passed stand in the buffer.
-- Assumes nothing.
use Rattle.std.proofs.Common.{◌+◌, ◌-◌, ◌/◌, refl, rules}
use Rattle.generator.proofs.DrawLaws.{state-none, drawn-small, NetDrawn, net-drawn}
use Rattle.generator.proofs.RowLaws.{net-room, net-put}
use Rattle.text.proofs.JoiningLaws.{joining_none, joining_room, joining_more, joining_all, joining_same, from_first, all-put}
use Rattle.generator.proofs.nets.put_nets.Goals.{After-drawn}
use Rattle.generator.proofs.nets.put_nets.Goals as goal

-- the loop's head, and what the net has drawn there
module _ (c : After-drawn) where
  drew : NetDrawn c.args.first c.args.nodes c.loop-i.i c.step-state.result c.drawn-source.result
      (c.args.nodes - c.args.nodes / 4 + c.drawn.result)
  drew = net-drawn _ _ _ c.loop-i.invariant.0 c.step-one.ensures c.step-state.ensures c.drawn-source.ensures c.drawn.ensures refl

pub loop-i-init : goal.loop-i-init
loop-i-init c = (state-none _, joining_none _ _ _ _ _ (from_first _ _ _ _ (search rules)) (search rules))

pub overflow_add-sink : goal.overflow_add-sink
overflow_add-sink c =
    let small = drawn-small c.step-state.result (c.args.nodes / 4) (search rules) c.drawn.ensures in
    search rules

pub put_net-at-requires : goal.put_net-at-requires
put_net-at-requires c = net-room (drew (goal.at.put_net-at-requires c).After-drawn) _ _ (joining_room _ _ _ _ _ (from_first _ _ _ _ (search rules)) c.loop-i.invariant.1 (search rules))

pub loop-i-preserved : goal.loop-i-preserved
loop-i-preserved c =
    let d = drew (goal.at.loop-i-preserved c).After-drawn in
    (d.on, joining_more _ _ _ _ _ (from_first _ _ _ _ (search rules)) c.loop-i.invariant.1 (search rules) (net-put d c.put_net-at.ensures))

pub shape_of-buffer : goal.shape_of-buffer
shape_of-buffer c = joining_same _ _ _ _ _ (from_first _ _ _ _ (search rules)) c.loop-i.invariant.1

pub returns : goal.returns
returns c = all-put _ _ (joining_all _ _ _ _ _ (from_first _ _ _ _ (search rules)) c.loop-i.invariant.1 (search rules))
