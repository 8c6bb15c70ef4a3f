-- `search::labels::clamped_price` meets its contract: the price takes every number that is clamped within its bounds.
-- Assumes nothing.
use Rattle.search.specs.Turn.{congestion_in}
use Rattle.search.proofs.ClampedLaws.{clamped_answer}
use Rattle.search.proofs.labels.clamped_price.Goals as goal

pub returns : goal.returns
returns c =
    let t = c.args.tables.now in
    clamped_answer t.kind.now t.capacity.now (congestion_in c.args.prices.now) c.args.v c.clamped_weighting.ensures
    c.min.ensures c.min-2.ensures c.min-3.ensures c.clamp.ensures c.history_bound.ensures c.clamp-2.ensures c.delay_at.ensures
    c.min-delay.ensures _ c.weighed_price.ensures c.unwrap_or.ensures
