-- `price::next_history` meets its contract: natural subtraction, taken apart by the test.
-- Assumes nothing.
use mathlib.Core.Path.{sym}
use Rattle.std.proofs.Common.{rules}
use Rattle.price.specs.Prices.{next_history}
use Rattle.price.proofs.PriceLaws.{product_fits, sum_fits, history_stays}
use Rattle.price.proofs.next_history.Goals as goal

pub overflow_mul-result : goal.overflow_mul-result
overflow_mul-result c = record { fits = product_fits (search rules) (search rules) }

pub overflow_add-result : goal.overflow_add-result
overflow_add-result c = record { fits = sum_fits (search rules) (search rules) (search rules) }

pub returns-then-capacity-users : goal.returns-then-capacity-users
unfolding next_history
returns-then-capacity-users c = search rules

pub returns-else-capacity-users : goal.returns-else-capacity-users
returns-else-capacity-users c = sym (history_stays _ _ _ _ (search rules))
