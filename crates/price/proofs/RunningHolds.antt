-- The running products of the price reach their bounds and never pass them, and the last of them is the price.
-- Assumes nothing.
use mathlib.Core.Path.{◌≡◌, refl, sym, ◌∙◌}
use Prim.Native.Nat.{ℕ, ◌+◌, ◌*◌, ◌≤◌}
use native.Mathlib.Nat.{mul-le-mul, mul_comm, mul_assoc}
use native.Mathlib.Omega.{arith}
use Rattle.price.specs.Bounds.{kind_most, factor_most, others_most}
use Rattle.price.specs.Prices.{base_cost, overuse, price_of}
use Rattle.price.specs.Replies.{InBounds}
use Rattle.price.specs.Running.{congested_cost, historic_cost, RunningProducts}
use Rattle.price.proofs.PriceLaws.{base_most_lem, congestion_most}

-- the longest wire, the largest factor, every other net, capacity 1, the largest history
dearest : InBounds 53 65535 511 1 101179
dearest =
    record {
      kind_most_lem = omega arith;
      factor_most_lem = omega arith;
      others_most_lem = omega arith;
      capacity_least = omega arith;
      capacity_most_lem = omega arith;
      history_least = omega arith;
      history_most_lem = omega arith;
    }

pub congested-most : {k f o c : ℕ} → k ≤ kind_most → f ≤ factor_most → o ≤ others_most → 1 ≤ c → congested_cost k f o c ≤ 33488485000
unfolding congested_cost
congested-most {k} {f} {o} {c} hk hf ho hc =
    let present : 100 + f * overuse o c ≤ 100 + factor_most * others_most = omega (arith, congestion_most f o c hf ho hc) in
    mul-le-mul (base_most_lem k hk) present

bounded-most : {k f o c h : ℕ} → InBounds k f o c h → congested_cost k f o c ≤ 33488485000
bounded-most b = congested-most b.kind_most_lem b.factor_most_lem b.others_most_lem b.capacity_least

pub historic-most : {k f o c h : ℕ} → InBounds k f o c h → historic_cost k f o c h ≤ 3388331423815000
unfolding historic_cost
historic-most b = mul-le-mul (bounded-most b) b.history_most_lem

-- the order of the factors doesn't matter
pub historic-price : (k f o c h : ℕ) → historic_cost k f o c h ≡ price_of k f o c h
unfolding historic_cost congested_cost price_of
historic-price k f o c h =
    mul_comm (base_cost k * (100 + f * overuse o c)) h ∙ sym (mul_assoc h (base_cost k) (100 + f * overuse o c))

pub running_products : RunningProducts
unfolding historic_cost congested_cost base_cost overuse
running_products =
    record {
      base = record { never_passes = λ k f o c h b. base_most_lem k b.kind_most_lem; reaches = (53, 65535, 511, 1, 101179, dearest, refl) };
      congested = record { never_passes = λ k f o c h b. bounded-most b; reaches = (53, 65535, 511, 1, 101179, dearest, refl) };
      historic = record { never_passes = λ k f o c h b. historic-most b; reaches = (53, 65535, 511, 1, 101179, dearest, refl) };
      is-price = historic-price;
    }
