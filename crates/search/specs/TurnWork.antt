-- A turn's work slice before its labels spread and once they have stopped: tree and goals are marked, and the path is read off along the
-- predecessors. Only the contracts of private functions cite this file: no caller has to believe it.
-- Assumes nothing.
use Rattle.std.specs.Prelude.{false, List, [], ◌∷◌, ◌⊎◌, ◌≡◌, ℕ, zero, suc, ◌+◌, ◌*◌, ◌≤◌, ◌<◌, length, get_or}
use Rattle.price.specs.Test.{choose}
use Rattle.price.specs.Bounds.{nodes_most}
use Rattle.search.specs.Distance.{far, tree_has}
use Rattle.search.specs.Paths.{any_price_most}
use Rattle.search.specs.Layout.{SameBut}
use Rattle.search.specs.Replies.{sinks_most, read_off}
use Rattle.search.specs.Labels.{goal, label_at, from_at, wait_at, beside_at, Waits}
use Rattle.search.specs.Spread.{bare_count}
use Rattle.search.specs.declared.Joins.{Joins}

-- ---- before the labels spread

-- none of the nodes below `upto` has a label
pub record Blank (n : ℕ) (w w' : List ℕ) (upto : ℕ) : Type 0 where
  pub same : SameBut 0 n w w'
  pub labels : (v : ℕ) → v < upto → label_at w' v ≡ far

-- no node from `from` to below `to` is in the tree
abbrev pub Unmarked : List ℕ → ℕ → ℕ → Type 0
Unmarked marks from to = (v : ℕ) → from ≤ v → v < to → get_or marks v 0 ≡ 1 → ⊥

-- r is a place from `from` on, with no tree node between
pub record PassedOver (marks : List ℕ) (from n r : ℕ) : Type 0 where
  pub least : from ≤ r
  pub most : r ≤ n
  pub none : Unmarked marks from r

-- r is the first tree node from `from` on, n where there is none
pub record NextMarked (marks : List ℕ) (from n r : ℕ) : Type 0 where
  pub over : PassedOver marks from n r
  pub marked : r < n → get_or marks r 0 ≡ 1

-- the tree's nodes have label 0 and wait, the others have none
pub record TreeMarked (n : ℕ) (marks w w' : List ℕ) (count : ℕ) : Type 0 where
  pub long : length w' ≡ length w
  pub high : (j : ℕ) → 3 * n ≤ j → get_or w' j 0 ≡ get_or w j 0
  pub labels : (v : ℕ) → v < n → label_at w' v ≡ choose (tree_has marks v) 0 far
  pub room : count + bare_count n w' ≤ n
  pub nodes : (i : ℕ) → i < count → wait_at n w' i < n
  pub zero : (i : ℕ) → i < count → label_at w' (wait_at n w' i) ≡ 0
  pub beside : (i : ℕ) → i < count → beside_at n w' i ≡ 0
  pub waits : (v : ℕ) → v < n → label_at w' v ≡ 0 → Waits n count w' v

-- the listed nodes without a label are goals
pub record GoalsMarked (n : ℕ) (sinks w w' : List ℕ) (upto : ℕ) : Type 0 where
  pub same : SameBut 0 n w w'
  pub there : (j : ℕ) → j < upto → get_or sinks j 0 < n → label_at w (get_or sinks j 0) ≡ far → label_at w' (get_or sinks j 0) ≡ goal
  pub only :
      (v : ℕ) → v < n
      → (label_at w' v ≡ label_at w v) ⊎ ((label_at w v ≡ far) × (label_at w' v ≡ goal) × ((j : ℕ) × (j < upto) × (get_or sinks j 0 ≡ v)))

-- a number at most the price of each goal at a place of the list below `upto`
pub record LeastGoal (n : ℕ) (price : ℕ → ℕ) (sinks w : List ℕ) (upto step : ℕ) : Type 0 where
  pub most : step ≤ any_price_most
  pub least : (j : ℕ) → j < upto → get_or sinks j 0 < n → label_at w (get_or sinks j 0) ≡ goal → step ≤ price (get_or sinks j 0)

-- ---- once they have stopped

-- the first place of the list at which a node of label d stands
pub record FirstAt (n d : ℕ) (sinks w : List ℕ) (place : ℕ) : Type 0 where
  pub within : place ≤ length sinks
  pub earlier : (j : ℕ) → j < place → get_or sinks j 0 < n → label_at w (get_or sinks j 0) ≡ d → ⊥
  pub node : place < length sinks → get_or sinks place 0 < n
  pub label : place < length sinks → label_at w (get_or sinks place 0) ≡ d

-- from v back along predecessors to a tree node, in front of the part of the path that is there
unfoldable pub trail : ℕ → List ℕ → List ℕ → ℕ → ℕ → List ℕ → List ℕ
trail n marks w zero v path = v ∷ path
trail n marks w (suc k) v path = choose (tree_has marks v) (v ∷ path) (trail n marks w k (from_at n w v) (v ∷ path))

-- the path from the tree to the sink, as the predecessors have it
abbrev pub path_in : ℕ → List ℕ → List ℕ → ℕ → List ℕ
path_in n marks w sink = trail n marks w (label_at w sink) sink []

-- from a node of label at most `level`, predecessors lead to nearer nodes
pub record Leads (n level : ℕ) (marks w : List ℕ) : Type 0 where
  pub few : n ≤ nodes_most
  pub long : 3 * n ≤ length w
  pub marks_long : n ≤ length marks
  pub pred-node : (v : ℕ) → v < n → label_at w v ≤ level → tree_has marks v ≡ false → from_at n w v < n
  pub pred-nearer : (v : ℕ) → v < n → label_at w v ≤ level → tree_has marks v ≡ false → label_at w (from_at n w v) < label_at w v

-- some listed node has label `cost`, and predecessors lead from nodes so far to the tree by at most n nodes
pub record Found (n : ℕ) (marks sinks w : List ℕ) (cost : ℕ) : Type 0 where
  pub sinks-few : length sinks ≤ sinks_most
  pub some_place : ℕ
  pub within : some_place < length sinks
  pub node : get_or sinks some_place 0 < n
  pub label : label_at w (get_or sinks some_place 0) ≡ cost
  pub leads : Leads n cost marks w
  pub short :
      (j : ℕ) → j < length sinks → get_or sinks j 0 < n → label_at w (get_or sinks j 0) ≡ cost
      → length (path_in n marks w (get_or sinks j 0)) ≤ n

-- the first node so far is named, its path stands at the beginning of the work slice, and the rest up to 3 n is 0
pub record Read (n : ℕ) (marks sinks w : List ℕ) (cost : ℕ) (r : Joins) (w' : List ℕ) : Type 0 where
  pub place : ℕ
  pub first : FirstAt n cost sinks w place
  pub within : place < length sinks
  pub answer :
      r ≡ record { place = place; cost = cost; length = length (path_in n marks w (get_or sinks place 0)) }
  pub work : w' ≡ read_off n (path_in n marks w (get_or sinks place 0)) w
