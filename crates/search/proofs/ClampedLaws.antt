-- Laws of numbers that are clamped within bounds, and of the price over them: it is a fair price for every input, and the price where each number keeps its bounds.
-- Assumes nothing.
use mathlib.Core.Bool.{true}
use mathlib.Core.List.{List}
use mathlib.Core.Path.{◌≡◌, sym, ◌∙◌, ap}
use Prim.Native.Nat.{ℕ, ◌≤◌, ◌<◌, min, max}
use native.Mathlib.Nat.{le_trans}
use native.Mathlib.Omega.{arith}
use Rattle.std.proofs.lemmas.Bool.Decides.{nat_tests}
use lib.ListN.{get_or}
use Rattle.price.specs.Bounds.{base_most, kind_most, factor_most, others_most, capacity_most, delay_most, criticality_most}
use Rattle.price.specs.Prices.{price_of}
use Rattle.std.specs.Prelude.{Result, Ok, Err}
use Rattle.std.specs.Result.{result_unwrap_or}
use Rattle.price.specs.Replies.{PriceReply, priced, price_reply_of}
use Rattle.price.specs.Timed.{weighed, weighed_reply, history_bound, weighed_most, WeighedInBounds}
use Rattle.price.specs.declared.BadNumber.{BadNumber}
use Rattle.price.specs.declared.Weighting.{Weighting}
use Rattle.price.proofs.TestLaws.{by_test}
use Rattle.price.proofs.PriceLaws.{base_most_lem}
use Rattle.price.proofs.TimedLaws.{bound-most, bound-least, weighed_timed, weighed-untimed, weighed-pos, weighed_most_lem, reply_delay, weighed-priced}
use Rattle.search.specs.Block.{Block}
use Rattle.search.specs.Turn.{Congestion, congested_at, price_at}
use Rattle.search.specs.Clamped.{clamped, clamped_weighting, clamped_price, clamped_base}

module _ (low high x : ℕ) where
  -- as the code has it, `x.clamp(low, high)`
  pub clamped_both : low ≤ high → clamped low high x ≡ max low (min x high)
  unfolding clamped
  clamped_both b = grind (arith, nat_tests)

  pub clamped_in : low ≤ x → x ≤ high → clamped low high x ≡ x
  clamped_in l h = omega (arith, clamped_both (omega arith))

  pub clamped-least : low ≤ high → low ≤ clamped low high x
  clamped-least b = omega (arith, clamped_both b)

  pub clamped-most : low ≤ high → clamped low high x ≤ high
  clamped-most b = omega (arith, clamped_both b)

-- `x.min(high)`
pub clamped-min : (high x : ℕ) → clamped 0 high x ≡ min x high
clamped-min high x = omega (arith, clamped_both 0 high x (omega arith))

-- what an answer that is priced holds
answer-value : (a : Result ℕ BadNumber) {p : ℕ} → price_reply_of a ≡ priced p → result_unwrap_or a 0 ≡ p
answer-value (Ok q) e = ap (λ (x : PriceReply). x.price) e
answer-value (Err bad) e = ap (λ (x : PriceReply). x.price) e

-- a base cost is at most the largest
pub base_light : (kinds : List ℕ) (v : ℕ) → clamped_base kinds v ≤ base_most
unfolding clamped_base
base_light kinds v = base_most_lem (clamped 0 kind_most (get_or kinds v 0)) (clamped-most 0 kind_most (get_or kinds v 0) (omega arith))

module _ (kinds capacities : List ℕ) (c : Congestion) (v : ℕ) where
  clamped_history : clamped 1 (history_bound c.weighting) (get_or c.histories v 0) ≤ history_bound c.weighting
  clamped_history = clamped-most 1 (history_bound c.weighting) (get_or c.histories v 0) (bound-least c.weighting)

  clamped-bounds :
      WeighedInBounds (clamped_weighting c.weighting) (clamped 0 kind_most (get_or kinds v 0)) (clamped 0 factor_most c.factor)
      (clamped 0 others_most (get_or c.others v 0)) (clamped 1 capacity_most (get_or capacities v 0)) (clamped 1 (history_bound c.weighting) (get_or c.histories v 0))
      (clamped 0 delay_most (get_or c.delays v 0))
  clamped-bounds = record {
    five = record {
      kind_most_lem = clamped-most 0 kind_most (get_or kinds v 0) (omega arith);
      factor_most_lem = clamped-most 0 factor_most c.factor (omega arith);
      others_most_lem = clamped-most 0 others_most (get_or c.others v 0) (omega arith);
      capacity_least = clamped-least 1 capacity_most (get_or capacities v 0) (omega arith);
      capacity_most_lem = clamped-most 1 capacity_most (get_or capacities v 0) (omega arith);
      history_least = clamped-least 1 (history_bound c.weighting) (get_or c.histories v 0) (bound-least c.weighting);
      history_most_lem = le_trans clamped_history (bound-most c.weighting);
    };
    history_bound_lem = clamped_history;
    delay_most_lem = λ t. clamped-most 0 delay_most (get_or c.delays v 0) (omega arith);
    criticality_most_lem = λ t. clamped-most 0 criticality_most c.weighting.criticality (omega arith);
  }

  -- a fair price: above 0 and at most the largest
  pub clamped-pos : 0 < clamped_price kinds capacities c v
  unfolding clamped_price
  clamped-pos = weighed-pos clamped-bounds

  pub clamped-fair : clamped_price kinds capacities c v ≤ weighed_most c.weighting
  unfolding clamped_price
  clamped-fair = weighed_most_lem clamped-bounds

  -- the price of the numbers as the code clamps them; the delay is read only where it is weighed
  module _ {w : Weighting} {k f o cap most h read d : ℕ} (ew : w ≡ clamped_weighting c.weighting)
      (ek : k ≡ min (get_or kinds v 0) kind_most) (ef : f ≡ min c.factor factor_most) (eo : o ≡ min (get_or c.others v 0) others_most)
      (ec : cap ≡ max 1 (min (get_or capacities v 0) capacity_most)) (em : most ≡ history_bound c.weighting)
      (eh : h ≡ max 1 (min (get_or c.histories v 0) most)) (er : c.weighting.timed ≡ true → read ≡ get_or c.delays v 0) (ed : d ≡ min read delay_most) where
    clamped_reply : weighed_reply w k f o cap h d ≡ priced (clamped_price kinds capacities c v)
    unfolding clamped_price
    clamped_reply =
        rw (
          ew,
          ek,
          ef,
          eo,
          ec,
          eh,
          em,
          ← clamped-min kind_most (get_or kinds v 0),
          ← clamped-min factor_most c.factor,
          ← clamped-min others_most (get_or c.others v 0),
          ← clamped_both 1 capacity_most (get_or capacities v 0) (omega arith),
          ← clamped_both 1 (history_bound c.weighting) (get_or c.histories v 0) (bound-least c.weighting),
        )
        (reply_delay (clamped_weighting c.weighting) _ _ _ _ _ d (λ t. rw (ed, er t, clamped-min delay_most (get_or c.delays v 0)))
        ∙ weighed-priced (clamped_weighting c.weighting) _ _ _ _ _ _ clamped-bounds)

    pub clamped_answer :
        (a : Result ℕ BadNumber) {p : ℕ} → price_reply_of a ≡ weighed_reply w k f o cap h d → p ≡ result_unwrap_or a 0
        → (p ≡ clamped_price kinds capacities c v) × (p ≤ weighed_most c.weighting)
    clamped_answer a e is = let same = is ∙ answer-value a (e ∙ clamped_reply) in (same, rw same clamped-fair)

-- clamped within bounds that it keeps, a weighting weighs the same
weighed-same :
    (w : Weighting) (d p : ℕ) → (w.timed ≡ true → d ≤ delay_most) → (w.timed ≡ true → w.criticality ≤ criticality_most)
    → weighed (clamped_weighting w) (clamped 0 delay_most d) p ≡ weighed w d p
weighed-same w d p low lower =
    by_test w.timed
    (λ t.
    weighed_timed (clamped_weighting w) (clamped 0 delay_most d) p t
    ∙ rw (clamped_in 0 delay_most d (omega arith) (low t), clamped_in 0 criticality_most w.criticality (omega arith) (lower t)) (sym (weighed_timed w d p t)))
    (λ t. weighed-untimed (clamped_weighting w) (clamped 0 delay_most d) p t ∙ sym (weighed-untimed w d p t))

-- where each number keeps its bounds it is the price
pub clamped-is :
    (b : Block) (c : Congestion) (v : ℕ)
    → WeighedInBounds c.weighting (get_or b.kinds v 0) c.factor (get_or c.others v 0) (get_or b.capacities v 0) (get_or c.histories v 0) (get_or c.delays v 0)
    → clamped_price b.kinds b.capacities c v ≡ price_at b c v
unfolding clamped_price price_at congested_at
clamped-is b c v i =
    rw (
      clamped_in 0 kind_most (get_or b.kinds v 0) (omega arith) i.five.kind_most_lem,
      clamped_in 0 factor_most c.factor (omega arith) i.five.factor_most_lem,
      clamped_in 0 others_most (get_or c.others v 0) (omega arith) i.five.others_most_lem,
      clamped_in 1 capacity_most (get_or b.capacities v 0) i.five.capacity_least i.five.capacity_most_lem,
      clamped_in 1 (history_bound c.weighting) (get_or c.histories v 0) i.five.history_least i.history_bound_lem,
    )
    (weighed-same c.weighting (get_or c.delays v 0)
    (price_of (get_or b.kinds v 0) c.factor (get_or c.others v 0) (get_or b.capacities v 0) (get_or c.histories v 0)) i.delay_most_lem i.criticality_most_lem)
