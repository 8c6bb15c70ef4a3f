-- Request 2.4: the price in document 003's order, "base, then the present factor, then history", and how large each running product gets.
-- 003 writes c_v = b_v · p_v · h_v; the running products are b_v, which is `base_cost`, then b_v · p_v, then b_v · p_v · h_v.
-- Assumes nothing.
use Rattle.std.specs.Prelude.{◌≡◌, ℕ, ◌+◌, ◌*◌, ◌≤◌}
use Rattle.price.specs.Prices.{base_cost, overuse, price_of}
use Rattle.price.specs.Replies.{InBounds}

-- b_v · p_v: the base cost times the present congestion, in hundredths
unfoldable pub congested_cost : ℕ → ℕ → ℕ → ℕ → ℕ
congested_cost kind factor others capacity = base_cost kind * (100 + factor * overuse others capacity)

-- b_v · p_v · h_v: that times the historical congestion
unfoldable pub historic_cost : ℕ → ℕ → ℕ → ℕ → ℕ → ℕ
historic_cost kind factor others capacity history = congested_cost kind factor others capacity * history

-- "under 13's bounds it reaches and never passes" this number
pub record Maximum (product : ℕ → ℕ → ℕ → ℕ → ℕ → ℕ) (most : ℕ) : Type 0 where
  pub never_passes : (k f o c h : ℕ) → InBounds k f o c h → product k f o c h ≤ most
  pub reaches : (k f o c h : ℕ) × InBounds k f o c h × (product k f o c h ≡ most)

-- "1,000, 33,488,485,000 and 3,388,331,423,815,000"; and the last product is the price, within 13's bounds or beyond them
pub record RunningProducts : Type 0 where
  pub base : Maximum (λ k f o c h. base_cost k) 1000
  pub congested : Maximum (λ k f o c h. congested_cost k f o c) 33488485000
  pub historic : Maximum historic_cost 3388331423815000
  pub is-price : (k f o c h : ℕ) → historic_cost k f o c h ≡ price_of k f o c h
