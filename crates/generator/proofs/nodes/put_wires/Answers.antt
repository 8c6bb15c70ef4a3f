-- `nodes::put_wires` meets its contract. The loop's invariant: the lines of the nodes passed stand in the buffer.
-- Assumes nothing.
use Rattle.std.proofs.Common.{ℕ, [], ◌∷◌, ap, rules}
use Rattle.generator.proofs.DrawLaws.{state-start, wire-drawn}
use Rattle.text.proofs.JoiningLaws.{line-put_as, joining_none, joining_room, joining_more, joining_all, joining_same}
use Rattle.generator.proofs.nodes.put_wires.Goals as goal

pub loop-v-init : goal.loop-v-init
loop-v-init c = (state-start _ _, joining_none _ _ _ _ _ (search rules) (search rules))

pub loop-v-preserved : goal.loop-v-preserved
loop-v-preserved c =
    let v = c.loop-v.v in
    let inv = c.loop-v.invariant in
    let d = wire-drawn _ _ _ (search rules) inv.0 c.step-state.ensures c.drawn-kind.ensures in (
      d.on,
      joining_more _ _ _ _ _ (search rules) inv.1 (search rules) (line-put_as 78 (ap (λ (k : ℕ). v ∷ k ∷ 1 ∷ []) d.kind_is) c.print_line-at.ensures.answers
          (joining_room _ _ _ _ _ (search rules) inv.1 (search rules))),
    )

pub shape_of-buffer : goal.shape_of-buffer
shape_of-buffer c = joining_same _ _ _ _ _ (search rules) c.loop-v.invariant.1

pub returns : goal.returns
returns c = joining_all _ _ _ _ _ (search rules) c.loop-v.invariant.1 (search rules)
