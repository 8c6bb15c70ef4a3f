-- How a turn keeps its work slice while labels spread from the tree. Only the contracts of private functions cite this file: no caller has
-- to believe it.
-- Of n nodes: labels from 0; from n on the nodes from which they came, as lower parts, and the waiting nodes, as upper parts; the waiting
-- nodes' keys from 2 n on.
-- A label is a distance. A node without one has `far` in its place, a goal without one has `goal`.
-- The waiting nodes are a binary heap by their labels: entry i is at most entries 2 i + 1 and 2 i + 2.
-- Assumes nothing.
use Rattle.std.specs.Prelude.{List, ◌⊎◌, ◌≡◌, ℕ, ◌+◌, ◌-◌, ◌*◌, ◌/◌, ◌%◌, ◌^◌, ◌≤◌, ◌<◌, length, get_or, set}
use Rattle.search.specs.Layout.{SameBut}

-- a goal's entry while it has no label: below `far` and above every label
abbrev pub goal : ℕ
goal = 2 ^ 64 - 2

abbrev pub label_at : List ℕ → ℕ → ℕ
label_at w v = get_or w v 0

abbrev pub from_at : ℕ → List ℕ → ℕ → ℕ
from_at n w v = get_or w (n + v) 0 % 65536

abbrev pub wait_at : ℕ → List ℕ → ℕ → ℕ
wait_at n w i = get_or w (n + i) 0 / 65536

-- the label of the node at a place of the heap, and the number that stands beside that node
abbrev pub key_at : ℕ → List ℕ → ℕ → ℕ
key_at n w i = label_at w (wait_at n w i)

abbrev pub beside_at : ℕ → List ℕ → ℕ → ℕ
beside_at n w i = get_or w (2 * n + i) 0

-- the list with u before v
abbrev pub with_from : ℕ → List ℕ → ℕ → ℕ → List ℕ
with_from n w u v = set w (n + v) (wait_at n w v * 65536 + u)

-- the list with node v, and d beside it, at place i of the heap
abbrev pub put : ℕ → List ℕ → ℕ → ℕ → ℕ → List ℕ
put n w i v d = set (set w (n + i) (from_at n w i + 65536 * v)) (2 * n + i) d

-- each of the heap's first `count` entries is at most its children
abbrev pub Ordered : ℕ → ℕ → List ℕ → Type 0
Ordered n count w = (i c : ℕ) → 2 * i + 1 ≤ c → c ≤ 2 * i + 2 → c < count → key_at n w i ≤ key_at n w c

-- v is one of the heap's first `count` entries
abbrev pub Waits : ℕ → ℕ → List ℕ → ℕ → Type 0
Waits n count w v = (i : ℕ) × (i < count) × (wait_at n w i ≡ v)

-- beside each of the heap's first `count` nodes stands its label
abbrev pub Keyed : ℕ → ℕ → List ℕ → Type 0
Keyed n count w = (i : ℕ) → i < count → beside_at n w i ≡ key_at n w i

-- `count` nodes wait, in the heap's order
pub record Heaped (n count : ℕ) (w : List ℕ) : Type 0 where
  pub long : 3 * n ≤ length w
  pub few : count ≤ n
  pub ordered : Ordered n count w
  pub nodes : (i : ℕ) → i < count → wait_at n w i < n
  pub keyed : Keyed n count w

-- w' is w but for the heap
pub record HeapMoved (n : ℕ) (w w' : List ℕ) : Type 0 where
  pub same : SameBut n (3 * n) w w'
  pub from : (x : ℕ) → x < n → from_at n w' x ≡ from_at n w x

-- w' is w with v in the heap
pub record Added (n count v : ℕ) (w w' : List ℕ) : Type 0 where
  pub moved : HeapMoved n w w'
  pub ordered : Ordered n (count + 1) w'
  pub keyed : Keyed n (count + 1) w'
  pub all : (i : ℕ) → i < count + 1 → (wait_at n w' i ≡ v) ⊎ Waits n count w (wait_at n w' i)
  pub kept : (x : ℕ) → Waits n count w x → Waits n (count + 1) w' x
  pub new : Waits n (count + 1) w' v

-- w' is w without the heap's first entry: `rest` are left
pub record Taken (n rest : ℕ) (w w' : List ℕ) : Type 0 where
  pub moved : HeapMoved n w w'
  pub ordered : Ordered n rest w'
  pub keyed : Keyed n rest w'
  pub all : (i : ℕ) → i < rest → Waits n (rest + 1) w (wait_at n w' i)
  pub kept : (x : ℕ) → Waits n (rest + 1) w x → (x ≡ wait_at n w 0) ⊎ Waits n rest w' x

-- r is the one of entries c and c + 1 that has the lesser number beside it
pub record Nearer (n c : ℕ) (w : List ℕ) (r : ℕ) : Type 0 where
  pub least : c ≤ r
  pub most : r ≤ c + 1
  pub left : beside_at n w r ≤ beside_at n w c
  pub right : beside_at n w r ≤ beside_at n w (c + 1)
