-- How the nodes that wait to spread their estimates stand in buckets by their levels. `head` has for each bucket 1 more than its first
-- node, 0 where it has none. From 3 n on the work slice of n nodes has the same of the node after each waiting one. Only the contracts of
-- private functions cite this file: no caller has to believe it.
-- Assumes nothing.
use Rattle.std.specs.Prelude.{Bool, true, List, [], ◌∷◌, ◌≡◌, ℕ, ◌+◌, ◌*◌, ◌%◌, ◌≤◌, ◌<◌, length, get_or}
use Rattle.price.specs.Bounds.{base_most}
use Rattle.price.specs.Lists.{has, distinct, count_below}
use Rattle.search.specs.Distance.{far}
use Rattle.search.specs.Layout.{link_at, estimate_at}

-- more than the largest base cost
abbrev pub buckets : ℕ
buckets = 1024

-- the nodes from this entry on, one after the other
pub data Chain (n : ℕ) (w : List ℕ) : ℕ → List ℕ → Type 0 where
  ends : {k : ℕ} → k ≡ 0 → Chain n w k []
  goes : {k v : ℕ} {vs : List ℕ} → k ≡ v + 1 → v < n → Chain n w (link_at n w v) vs → Chain n w k (v ∷ vs)

-- `inside b` are the nodes of bucket b, none twice, each at a level that belongs there
pub record Waiting (n : ℕ) (w head : List ℕ) (level : ℕ → ℕ) (inside : ℕ → List ℕ) : Type 0 where
  pub heads : length head ≡ buckets
  pub chains : (b : ℕ) → b < buckets → Chain n w (get_or head b 0) (inside b)
  pub once : (b : ℕ) → b < buckets → distinct (inside b) ≡ true
  pub placed : (b v : ℕ) → b < buckets → has v (inside b) ≡ true → level v % buckets ≡ b

-- a waiting node's level is its estimate and base cost together, at least `least`, and less than a round of buckets above it
pub record AtLevel (n : ℕ) (base : ℕ → ℕ) (scale least : ℕ) (w : List ℕ) (v level : ℕ) : Type 0 where
  pub node : v < n
  pub known : estimate_at n w v < far
  pub sum : estimate_at n w v + scale * base v ≡ scale * level
  pub low : least ≤ level
  pub high : level ≤ least + base_most

-- so many nodes wait, none below level `least`
pub record Lined (n : ℕ) (base : ℕ → ℕ) (scale : ℕ) (w head : List ℕ) (count least : ℕ) : Type 0 where
  pub level : ℕ → ℕ
  pub inside : ℕ → List ℕ
  pub waiting : Waiting n w head level inside
  pub at_level : (v : ℕ) → has v (inside (level v % buckets)) ≡ true → AtLevel n base scale least w v (level v)
  pub counted : count ≡ count_below (λ v. has v (inside (level v % buckets))) n

-- node v waits
abbrev pub waits : {n : ℕ} {base : ℕ → ℕ} {scale : ℕ} {w head : List ℕ} {count least : ℕ} → Lined n base scale w head count least → ℕ → Bool
waits l v = has v (l.inside (l.level v % buckets))

-- the first level from `from` on at which a node waits, by the heads
pub record LowestFrom (head : List ℕ) (from r : ℕ) : Type 0 where
  pub least : from ≤ r
  pub within : r < from + buckets
  pub some : get_or head (r % buckets) 0 ≡ 0 → ⊥
  pub none : (k : ℕ) → from ≤ k → k < r → get_or head (k % buckets) 0 ≡ 0
