-- Laws of prices, factors and histories over the bounds of row 13. The crates above cite these and not the definitions' text.
--     price-pos, price_most_lem     a price is above 0 and at most `price_most`
--     price-least               and at least 100 × base cost
--     path_most_lem, path-fits      so many prices as a path has nodes add up to less than `path_most`, which fits 64 bits
--     factor-steps, factor_most_lem the factor of the next iteration is the stepped one, and at most `factor_most`
--     history_reach             what history can reach before iteration t
-- Assumes nothing.
use mathlib.Core.Path.{◌≡◌, refl, ◌∙◌}
use mathlib.Core.Logic.{◌⊎◌, ⊎_elim, inl, inr}
use Prim.Native.Nat.{ℕ, zero, suc, ◌+◌, ◌-◌, ◌*◌, ◌/◌, ◌^◌, ◌≤◌, ◌<◌, min}
use native.Mathlib.Nat.{mul-le-mul, mul-pos, min-le_right, div-zero, le_refl}
use native.Mathlib.Numerals.{add-one}
use native.Mathlib.Omega.{arith}
use borrow.Author.Tests.{lt-ltb, le-ltb, eq-eqb, ne_eqb}
use Rattle.price.specs.Bounds.{kind_most, factor_most, others_most, nodes_most, limit_most, first_most, step_most, history_gain, history_most, base_most, price_most, path_most}
use Rattle.price.specs.Prices.{base_cost, overuse, price_of, next_factor, factor_at, next_history}
use Rattle.price.specs.Replies.{InBounds}
use Rattle.price.specs.declared.Tuning.{Tuning}

-- the base cost, case by case

pub base_input : (k : ℕ) → k ≡ 3 → base_cost k ≡ 19
unfolding base_cost
base_input k h = rw (eq-eqb k 3 h)

pub base_pin : (k : ℕ) → k < 3 → base_cost k ≡ 20
unfolding base_cost
base_pin k h = rw (ne_eqb k 3 (λ e. omega arith), lt-ltb k 3 h)

pub base-wire : (k : ℕ) → 3 < k → base_cost k ≡ 20 * (k - 3)
unfolding base_cost
base-wire k h = rw (ne_eqb k 3 (λ e. omega arith), le-ltb k 3 (omega arith))

-- below 3, 3, or above
three_ways : (k : ℕ) → (k < 3) ⊎ ((k ≡ 3) ⊎ (3 < k))
three_ways zero = inl (omega arith)
three_ways (suc zero) = inl (omega arith)
three_ways (suc (suc zero)) = inl (omega arith)
three_ways (suc (suc (suc zero))) = inr (inl refl)
three_ways (suc (suc (suc (suc k)))) = inr (inr (omega arith))

pub base-pos : (k : ℕ) → 0 < base_cost k
base-pos k =
    ⊎_elim (λ l. omega (arith, base_pin k l))
    (⊎_elim (λ e. omega (arith, base_input k e)) (λ g. omega (arith, base-wire k g)))
    (three_ways k)

pub base_most_lem : (k : ℕ) → k ≤ kind_most → base_cost k ≤ base_most
base_most_lem k h =
    ⊎_elim (λ l. omega (arith, base_pin k l))
    (⊎_elim (λ e. omega (arith, base_input k e)) (λ g. omega (arith, base-wire k g)))
    (three_ways k)

-- the products, each with the largest value that it takes

pub overuse-most : (o c : ℕ) → o ≤ others_most → 1 ≤ c → overuse o c ≤ others_most
unfolding overuse
overuse-most o c h l = omega arith

pub congestion_most : (f o c : ℕ) → f ≤ factor_most → o ≤ others_most → 1 ≤ c → f * overuse o c ≤ factor_most * others_most
congestion_most f o c hf ho hc = mul-le-mul hf (overuse-most o c ho hc)

weight_most : (k h : ℕ) → k ≤ kind_most → h ≤ history_most → h * base_cost k ≤ history_most * base_most
weight_most k h hk hh = mul-le-mul hh (base_most_lem k hk)

pub price_most_lem : {k f o c h : ℕ} → InBounds k f o c h → price_of k f o c h ≤ price_most
unfolding price_of
price_most_lem {k} {f} {o} {c} {h} b =
    let present : 100 + f * overuse o c ≤ 100 + factor_most * others_most =
    omega (arith, congestion_most f o c b.factor_most_lem b.others_most_lem b.capacity_least) in
    mul-le-mul (weight_most k h b.kind_most_lem b.history_most_lem) present

pub price-pos : (k f o c h : ℕ) → 1 ≤ h → 0 < price_of k f o c h
unfolding price_of
price-pos k f o c h l = mul-pos (mul-pos l (base-pos k)) (omega arith)

-- never below what base cost alone asks
pub price-least : (k f o c h : ℕ) → 1 ≤ h → 100 * base_cost k ≤ price_of k f o c h
unfolding price_of
price-least k f o c h l =
    let low : 1 * base_cost k ≤ h * base_cost k = mul-le-mul l (le_refl (base_cost k)) in
    let alone : 1 * base_cost k * 100 ≤ h * base_cost k * (100 + f * overuse o c) = mul-le-mul low (omega arith) in
    omega arith

pub path_most_lem : (n : ℕ) → n ≤ nodes_most → n * price_most < path_most
path_most_lem n h = omega arith

-- "still fits 64 bits", with room for one price more
pub path-fits : path_most + price_most < 2 ^ 64
path-fits = omega arith

-- the factor

module _ (g : Tuning) where
  pub factor-steps : (t : ℕ) → factor_at g (t + 1) ≡ next_factor g t (factor_at g t)
  unfolding factor_at
  factor-steps t = rw add-one

  pub next_factor_first : (t f : ℕ) → t ≡ 0 → next_factor g t f ≡ 0
  unfolding next_factor
  next_factor_first t f e = rw e

  pub next_factor_second : (t f : ℕ) → t ≡ 1 → next_factor g t f ≡ g.first
  unfolding next_factor
  next_factor_second t f e = rw e

  pub next_factor_later : (t f : ℕ) → (t ≡ 0 → ⊥) → (t ≡ 1 → ⊥) → next_factor g t f ≡ min (f * g.up / g.down) factor_most
  unfolding next_factor
  next_factor_later zero f h₀ h₁ = absurd (h₀ refl)
  next_factor_later (suc zero) f h₀ h₁ = absurd (h₁ refl)
  next_factor_later (suc (suc t)) f h₀ h₁ = refl

  -- the library's division by 0 gives 0
  pub next_factor-none : (t f : ℕ) → (t ≡ 0 → ⊥) → (t ≡ 1 → ⊥) → g.down ≡ 0 → next_factor g t f ≡ 0
  next_factor-none t f h₀ h₁ e = next_factor_later t f h₀ h₁ ∙ rw (e, div-zero (f * g.up))

  module _ (few : g.first ≤ first_most) where
    pub next_factor-most : (t f : ℕ) → next_factor g t f ≤ factor_most
    unfolding next_factor
    next_factor-most zero f = omega arith
    next_factor-most (suc zero) f = omega arith
    next_factor-most (suc (suc t)) f = min-le_right (f * g.up / g.down) factor_most

    pub factor_most_lem : (t : ℕ) → factor_at g t ≤ factor_most
    unfolding factor_at
    factor_most_lem zero = omega arith
    factor_most_lem (suc t) = next_factor-most t (factor_at g t)

-- a product of two numbers of 32 bits fits 64, also with a third one added
pub sum_fits : {c a b : ℕ} → c < 2 ^ 32 → a < 2 ^ 32 → b < 2 ^ 32 → c + a * b < 2 ^ 64
sum_fits {c} {a} {b} hc ha hb =
    let few : a ≤ 2 ^ 32 - 1 = omega arith in
    let more : b ≤ 2 ^ 32 - 1 = omega arith in
    omega (arith, mul-le-mul few more)

pub product_fits : {a b : ℕ} → a < 2 ^ 32 → b < 2 ^ 32 → a * b < 2 ^ 64
product_fits {a} {b} ha hb = omega (arith, sum_fits {c = 0} {a = a} {b = b} (omega arith) ha hb)

-- the history: before iteration t + 1, t iterations have added at most `history_gain` each

pub history_least : (g : Tuning) (h u c : ℕ) → 1 ≤ h → 1 ≤ next_history g h u c
unfolding next_history
history_least g h u c l = omega arith

-- without overuse it stays
pub history_stays : (g : Tuning) (h u c : ℕ) → u ≤ c → next_history g h u c ≡ h
unfolding next_history
history_stays g h u c l =
    let none : u - c ≡ 0 = omega arith in
    rw none (omega arith)

pub history_grows : (g : Tuning) (t h u c : ℕ) → g.step ≤ step_most → h ≤ 1 + t * history_gain → u ≤ others_most + 1 → 1 ≤ c → next_history g h u c ≤ 1 + (t + 1) * history_gain
unfolding next_history
history_grows g t h u c hs hh hu hc =
    let over : u - c ≤ others_most = omega arith in
    let gain : g.step * (u - c) ≤ step_most * others_most = mul-le-mul hs over in
    omega arith

-- "history up to 101,179" is 1 + 99 × 1,022: no iteration but the last of 100 adds to the history that prices a turn
pub history_reach : (t h : ℕ) → h ≤ 1 + t * history_gain → t < limit_most → h ≤ history_most
history_reach t h hh ht = omega arith
