-- The starred samples about prices and factors: what 01 states is what the definitions give.
-- Assumes nothing.
use mathlib.Core.Path.{refl}
use Rattle.price.specs.Prices.{base_cost, overuse, price_of, next_factor, factor_at}
use Rattle.price.specs.Replies.{price_reply}
use Rattle.price.specs.Samples.{Hold, samples}

pub samples_hold : Hold samples
unfolding samples factor_at next_factor price_reply price_of base_cost overuse
samples_hold = (refl, (refl, tt))
