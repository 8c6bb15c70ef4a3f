-- `price::next_factor` meets its contract: each return by the law of its iteration.
-- Assumes nothing.
use mathlib.Core.Path.{sym, ◌∙◌}
use Rattle.price.proofs.PriceLaws.{next_factor_first, next_factor_second, next_factor_later, next_factor-none, product_fits}
use Rattle.std.proofs.Common.{rules}
use Rattle.price.proofs.next_factor.Goals as goal

pub returns-then-iteration-eq0 : goal.returns-then-iteration-eq0
returns-then-iteration-eq0 c = sym (next_factor_first _ _ _ (search rules))

pub returns-then-iteration-eq1 : goal.returns-then-iteration-eq1
returns-then-iteration-eq1 c = sym (next_factor_second _ _ _ (search rules))

pub returns-then-g-eq0 : goal.returns-then-g-eq0
returns-then-g-eq0 c = sym (next_factor-none _ _ _ (search rules) (search rules) (search rules))

pub overflow_mul-grown : goal.overflow_mul-grown
overflow_mul-grown c = record { fits = product_fits (search rules) (search rules) }

pub returns : goal.returns
returns c = c.min.ensures ∙ sym (next_factor_later _ _ _ (search rules) (search rules))
