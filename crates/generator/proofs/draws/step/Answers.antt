-- `draws::step` meets its contract.
-- Assumes nothing.
use Rattle.generator.specs.Draws.{stepped}
use Rattle.std.proofs.Common.{rules}
use Rattle.generator.proofs.draws.step.Goals as goal

pub returns : goal.returns
unfolding stepped
returns c = search rules
