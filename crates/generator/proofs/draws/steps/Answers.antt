-- `draws::steps` meets its contract. The loop's invariant: the state is the one after so many steps.
-- Assumes nothing.
use Rattle.std.proofs.Common.{◌≡◌, ap, ◌∙◌, arith, rules}
use Rattle.generator.specs.Draws.{state_after}
use Rattle.generator.proofs.DrawLaws.{state-none, state-next}
use Rattle.generator.proofs.draws.steps.Goals as goal

pub loop-k-init : goal.loop-k-init
loop-k-init c = (state-none _, search rules)

pub loop-k-preserved : goal.loop-k-preserved
loop-k-preserved c = (state-next _ c.loop-k.k c.loop-k.invariant.0 c.step-state.ensures, search rules)

pub returns : goal.returns
returns c =
    let end : c.loop-k.k ≡ c.args.count = omega arith in
    c.loop-k.invariant.0 ∙ ap (state_after c.args.first) end
