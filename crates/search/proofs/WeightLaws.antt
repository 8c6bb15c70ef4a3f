-- What a node costs in an estimate, kind and criticality clamped within their bounds: it is above 0 and at most the clamped price, and where
-- both keep their bounds it is the weight of request 2.13.
-- Assumes nothing.
use mathlib.Core.Bool.{true}
use mathlib.Core.List.{List, [], ◌∷◌}
use mathlib.Core.Path.{◌≡◌, refl, sym, ◌∙◌}
use Prim.Native.Nat.{ℕ, ◌*◌, ◌≤◌, ◌<◌}
use native.Mathlib.Nat.{mul_comm, mul_assoc}
use native.Mathlib.Omega.{arith}
use lib.ListN.{get_or}
use Rattle.price.specs.Bounds.{kind_most, factor_most, others_most, capacity_most, delay_most, criticality_most, nodes_most, base_most}
use Rattle.price.specs.Prices.{base_cost}
use Rattle.price.specs.Timed.{history_bound}
use Rattle.price.specs.declared.Weighting.{Weighting}
use Rattle.price.proofs.TestLaws.{by_test}
use Rattle.price.proofs.TimedLaws.{bound-least}
use Rattle.search.specs.Block.{Block, block_of, nodes}
use Rattle.search.specs.Paths.{Fair}
use Rattle.search.specs.Turn.{Congestion, congested_at, price_at}
use Rattle.search.specs.Aimed.{scale_of, weight_at}
use Rattle.search.specs.Clamped.{clamped, clamped_weighting, clamped_price, clamped_base, clamped_scale, clamped_weight}
use Rattle.search.proofs.AimedLaws.{scale_timed, scale_untimed, weight_least, weight_most, weight_fair}
use Rattle.search.proofs.ClampedLaws.{clamped_in, clamped-least, clamped-most}

-- the factors in another order
factors : (s k : ℕ) → 100 * s * k ≡ s * (100 * k)
factors s k = rw (mul_comm 100 s) (mul_assoc s 100 k)

module _ (kinds capacities : List ℕ) (c : Congestion) (v : ℕ) where
  -- a block of this node alone, its numbers clamped
  abbrev one : Block
  one = block_of (clamped 0 kind_most (get_or kinds v 0) ∷ []) (clamped 1 capacity_most (get_or capacities v 0) ∷ []) [] []

  abbrev turn_one : Congestion
  turn_one = record {
    factor = clamped 0 factor_most c.factor;
    histories = clamped 1 (history_bound c.weighting) (get_or c.histories v 0) ∷ [];
    others = clamped 0 others_most (get_or c.others v 0) ∷ [];
    weighting = clamped_weighting c.weighting;
    delays = clamped 0 delay_most (get_or c.delays v 0) ∷ [];
  }

  weight_one : clamped_weight kinds c.weighting v ≡ weight_at one (clamped_weighting c.weighting) 0
  unfolding clamped_weight clamped_scale clamped_base weight_at
  weight_one = factors (scale_of (clamped_weighting c.weighting)) (base_cost (clamped 0 kind_most (get_or kinds v 0)))

  price_one : clamped_price kinds capacities c v ≡ price_at one turn_one 0
  unfolding clamped_price price_at congested_at
  price_one = refl

  pub weight_dear : clamped_weight kinds c.weighting v ≤ clamped_price kinds capacities c v
  weight_dear =
      rw (weight_one, price_one)
      (weight_least one turn_one 0 (clamped-least 1 (history_bound c.weighting) (get_or c.histories v 0) (bound-least c.weighting)))

-- a search can work with these weights
module _ (kinds : List ℕ) (w : Weighting) where
  abbrev turn_so : Congestion
  turn_so = record { factor = 0; histories = []; others = []; weighting = w; delays = [] }

  low : (clamped_weighting w).timed ≡ true → (clamped_weighting w).criticality ≤ criticality_most
  low t = clamped-most 0 criticality_most w.criticality (omega arith)

  fair_one : (v : ℕ) → Fair (one kinds [] turn_so v) (weight_at (one kinds [] turn_so v) (clamped_weighting w))
  fair_one v = weight_fair (clamped_weighting w) low (one kinds [] turn_so v) (omega arith) (kinds-low v)
    where
      kinds-low : (v u : ℕ) → u < 1 → get_or (clamped 0 kind_most (get_or kinds v 0) ∷ []) u 0 ≤ kind_most
      kinds-low v u h = let z : u ≡ 0 = omega arith in rw z (clamped-most 0 kind_most (get_or kinds v 0) (omega arith))

  pub weight_pos : (v : ℕ) → 0 < clamped_weight kinds w v
  weight_pos v = rw (weight_one kinds [] turn_so v) ((fair_one v).pos 0 (omega arith))

  weight_low : (v : ℕ) → clamped_weight kinds w v ≤ 10 * (100 * base_most)
  weight_low v =
      rw (weight_one kinds [] turn_so v)
      (weight_most (clamped_weighting w) low (one kinds [] turn_so v) 0 (clamped-most 0 kind_most (get_or kinds v 0) (omega arith)))

  pub fair_weight : (b : Block) → nodes b ≤ nodes_most → Fair b (clamped_weight kinds w)
  fair_weight b few =
      record {
        ceiling = 10 * (100 * base_most);
        low = omega arith;
        fits = omega arith;
        pos = λ v h. weight_pos v;
        most = λ v h. weight_low v;
      }

-- where kind and criticality keep their bounds
scale_in : (w : Weighting) → (w.timed ≡ true → w.criticality ≤ criticality_most) → scale_of (clamped_weighting w) ≡ scale_of w
scale_in w low =
    by_test w.timed
    (λ t. scale_timed (clamped_weighting w) t ∙ rw (clamped_in 0 criticality_most w.criticality (omega arith) (low t)) (sym (scale_timed w t)))
    (λ t. scale_untimed (clamped_weighting w) t ∙ sym (scale_untimed w t))

pub weight_is :
    (b : Block) (w : Weighting) (v : ℕ) → get_or b.kinds v 0 ≤ kind_most → (w.timed ≡ true → w.criticality ≤ criticality_most)
    → clamped_weight b.kinds w v ≡ weight_at b w v
unfolding clamped_weight clamped_scale clamped_base weight_at
weight_is b w v k low =
    rw (scale_in w low, clamped_in 0 kind_most (get_or b.kinds v 0) (omega arith) k) (factors (scale_of w) (base_cost (get_or b.kinds v 0)))
