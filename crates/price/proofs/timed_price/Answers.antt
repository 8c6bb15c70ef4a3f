-- `price::timed_price` meets its contract: what the price refuses is refused; past the five, delay and criticality decide.
-- Assumes nothing.
use Rattle.std.proofs.Common.{rules, tests}
use Rattle.price.proofs.PriceLaws.{price_most_lem}
use Rattle.price.proofs.TimedLaws.{priced-bounds, refused-same, timed_kept}
use Rattle.price.proofs.timed_price.Goals as goal

pub returns-in_err-congestion : goal.returns-in_err-congestion
returns-in_err-congestion c =
    let same = refused-same _ _ _ _ _ c.args.delay c.args.criticality c.in_err-congestion.ensures in
    search rules

pub returns-then-delay-gt-DELAY_MOST : goal.returns-then-delay-gt-DELAY_MOST
returns-then-delay-gt-DELAY_MOST c =
    let bounds = priced-bounds _ _ _ _ _ c.in_ok-congestion.ensures in
    rw (timed_kept _ _ _ _ _ c.args.delay c.args.criticality bounds.0) (search (rules, tests))

pub returns-then-criticality-gt-CRITICALITY_MOST : goal.returns-then-criticality-gt-CRITICALITY_MOST
returns-then-criticality-gt-CRITICALITY_MOST c =
    let bounds = priced-bounds _ _ _ _ _ c.in_ok-congestion.ensures in
    rw (timed_kept _ _ _ _ _ c.args.delay c.args.criticality bounds.0) (search (rules, tests))

pub weigh-requires : goal.weigh-requires
weigh-requires c =
    let bounds = priced-bounds _ _ _ _ _ c.in_ok-congestion.ensures in
    (search rules, search rules, rw bounds.1 (price_most_lem bounds.0))

pub returns : goal.returns
returns c =
    let bounds = priced-bounds _ _ _ _ _ c.in_ok-congestion.ensures in
    rw (timed_kept _ _ _ _ _ c.args.delay c.args.criticality bounds.0, ← bounds.1) (search (rules, tests))
