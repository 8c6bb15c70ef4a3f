-- `price::overuse` meets its contract: natural subtraction, taken apart by the test.
-- Assumes nothing.
use Rattle.price.specs.Prices.{overuse}
use Rattle.std.proofs.Common.{rules}
use Rattle.price.proofs.overuse.Goals as goal

pub returns-then-capacity-others : goal.returns-then-capacity-others
unfolding overuse
returns-then-capacity-others c = search rules

pub returns-else-capacity-others : goal.returns-else-capacity-others
unfolding overuse
returns-else-capacity-others c = search rules
