-- `negotiation::follow::node_price` meets its contract: where every number keeps its bounds, the answer is the price.
-- Assumes nothing.
use Rattle.search.proofs.PriceableLaws.{answered-refused}
use Rattle.negotiation.proofs.follow.PassLoopLaws.{price-found, price-block}
use Rattle.negotiation.proofs.follow.node_price.Goals as goal

pub delay_at-d-requires : goal.delay_at-d-requires
delay_at-d-requires c = c.requires.has_delay

pub returns-in_default : goal.returns-in_default
returns-in_default c =
    absurd (answered-refused c.requires c.delay_at-d.ensures c.in_default.is c.weighed_price.ensures)

pub returns : goal.returns
returns c =
    let found = price-found c.requires c.delay_at-d.ensures c.in-Ok.is c.weighed_price.ensures in
    (price-block _ _ _ _ _ _ found.0, found.1)
