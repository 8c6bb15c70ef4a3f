-- How a running search keeps its work slice. Only the contracts of private functions cite this file: no caller has to believe it.
-- Of n nodes: distances from 0, the queue's entries from n, links from 3 n, predecessors from 4 n, estimates from 6 n.
-- The queue is a tournament tree: entry i is the least of entries 2 i and 2 i + 1, and node v's leaf is entry n + v.
-- Assumes nothing.
use Rattle.std.specs.Prelude.{List, ◌≡◌, ℕ, ◌+◌, ◌*◌, ◌≤◌, ◌<◌, min, length, get_or}

abbrev pub dist_at : List ℕ → ℕ → ℕ
dist_at w v = get_or w v 0

abbrev pub entry_at : ℕ → List ℕ → ℕ → ℕ
entry_at n w i = get_or w (n + i) 0

abbrev pub leaf_at : ℕ → List ℕ → ℕ → ℕ
leaf_at n w v = get_or w (2 * n + v) 0

-- the link of a node that waits to spread its estimate
abbrev pub link_at : ℕ → List ℕ → ℕ → ℕ
link_at n w v = get_or w (3 * n + v) 0

abbrev pub pred_at : ℕ → List ℕ → ℕ → ℕ
pred_at n w v = get_or w (4 * n + v) 0

-- the estimate, 2^64 − 1 where there is none
abbrev pub estimate_at : ℕ → List ℕ → ℕ → ℕ
estimate_at n w v = get_or w (6 * n + v) 0

-- entry i is the least of its two children
abbrev pub TournamentAt : ℕ → List ℕ → ℕ → Type 0
TournamentAt n w i = entry_at n w i ≡ min (entry_at n w (2 * i)) (entry_at n w (2 * i + 1))

-- every inner entry but perhaps entry j is the least of its two children; j = 0 is no inner entry
abbrev pub TournamentBut : ℕ → List ℕ → ℕ → Type 0
TournamentBut n w j = (i : ℕ) → 1 ≤ i → i < n → (i ≡ j → ⊥) → TournamentAt n w i

-- inner entry i was the least of its two children before one of them fell to this key
abbrev pub LoweredBelow : ℕ → ℕ → List ℕ → ℕ → Type 0
LoweredBelow n key w i = 1 ≤ i → min (entry_at n w (2 * i)) (entry_at n w (2 * i + 1)) ≡ min (entry_at n w i) key

abbrev pub Tournament : ℕ → List ℕ → Type 0
Tournament n w = (i : ℕ) → 1 ≤ i → i < n → TournamentAt n w i

-- a list is as before but for places from lo to below hi
pub record SameBut (lo hi : ℕ) (old new : List ℕ) : Type 0 where
  pub long : length new ≡ length old
  pub low : (j : ℕ) → j < lo → get_or new j 0 ≡ get_or old j 0
  pub high : (j : ℕ) → hi ≤ j → get_or new j 0 ≡ get_or old j 0

-- w' is w with node v in the queue at this key; at `far` it is out of the queue
pub record Queued (n v key : ℕ) (w w' : List ℕ) : Type 0 where
  pub long : length w' ≡ length w
  pub queue : Tournament n w'
  pub leaf_here : leaf_at n w' v ≡ key
  pub leaf_other : (x : ℕ) → x < n → (x ≡ v → ⊥) → leaf_at n w' x ≡ leaf_at n w x
  pub low : (j : ℕ) → j < n → get_or w' j 0 ≡ get_or w j 0
  pub high : (j : ℕ) → 3 * n ≤ j → get_or w' j 0 ≡ get_or w j 0
