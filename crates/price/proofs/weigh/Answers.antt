-- `price::weigh` meets its contract: no product wraps, by the laws of their largest values.
-- Assumes nothing.
use mathlib.Core.Path.{refl}
use native.Mathlib.Omega.{arith}
use Rattle.price.specs.Timed.{timed_price}
use Rattle.price.proofs.TimedLaws.{timed_delay_fits, timed_share_fits}
use Rattle.price.proofs.weigh.Goals as goal

pub overflow_mul-result : goal.overflow_mul-result
overflow_mul-result c = let m = timed_delay_fits c.args.criticality c.args.delay c.requires.0 c.requires.1 in omega arith

pub overflow_mul-result-2 : goal.overflow_mul-result-2
overflow_mul-result-2 c = let m = timed_delay_fits c.args.criticality c.args.delay c.requires.0 c.requires.1 in omega arith

pub overflow_mul-result-3 : goal.overflow_mul-result-3
overflow_mul-result-3 c = let m = timed_share_fits c.args.criticality c.args.congestion c.requires.2 in omega arith

pub overflow_add-result : goal.overflow_add-result
overflow_add-result c =
    let m = timed_delay_fits c.args.criticality c.args.delay c.requires.0 c.requires.1 in
    let s = timed_share_fits c.args.criticality c.args.congestion c.requires.2 in
    omega arith

pub returns : goal.returns
unfolding timed_price
returns c = refl
