-- A run of whole iterations, whoever made its turns: each net that is due has new turns of its own, the others keep their tree. Only the
-- contracts of private functions cite this file: no caller has to believe it.
-- Assumes nothing.
use Rattle.std.specs.Prelude.{true, false, List, [], ◌∷◌, ◌++◌, ◌≡◌, ℕ, suc, drop}
use Rattle.price.specs.Lists.{has, distinct}
use Rattle.job.specs.Job.{Job, nets, source, net_sinks}
use Rattle.negotiation.specs.Records.{Record, path_nodes}
use Rattle.negotiation.specs.Machine.{State, Progress, with_net, due, move_on, first_state}

-- every record of the list has the property
abbrev pub All : (Record → Type 0) → List Record → Type 0
All P [] = Unit {0}
All P (r ∷ rs) = P r × All P rs

-- a record of net i in iteration t
pub record Of (i t : ℕ) (r : Record) : Type 0 where
  pub net-is : r.net ≡ i
  pub iteration-is : r.iteration ≡ t

-- the nodes in which a record's path steps end
abbrev pub step_ends : Record → List ℕ
step_ends r = drop 1 r.path

-- all of them, record after record
unfoldable pub branch_ends : List Record → List ℕ
branch_ends [] = []
branch_ends (r ∷ rs) = step_ends r ++ branch_ends rs

-- the turns of net i in iteration t: they name both, its source is on a path, they join every sink and reach no node twice
pub record Owns (j : Job) (i t : ℕ) (rs : List Record) : Type 0 where
  pub own : All (Of i t) rs
  pub source-on : has (source j i) (path_nodes rs) ≡ true
  pub joined : (x : ℕ) → has x (net_sinks j i) ≡ true → has x (path_nodes rs) ≡ true
  pub once : distinct (source j i ∷ branch_ends rs) ≡ true

-- the first nets of an iteration from state s: each that is due has new turns, the others keep their tree
pub data NetsRan (j : Job) (s : State) : ℕ → Progress → Type 0 where
  none : NetsRan j s 0 (record { records = []; state = s })
  kept : {i : ℕ} {p : Progress} → NetsRan j s i p → due j s i ≡ false → NetsRan j s (suc i) p
  routed :
      {i : ℕ} {p : Progress} {rs : List Record} → NetsRan j s i p → due j s i ≡ true → Owns j i s.iteration rs
      → NetsRan j s (suc i) (with_net j i p rs)

-- so many whole iterations with these records lead to this state
pub data Ran (j : Job) : ℕ → List Record → State → Type 0 where
  start : Ran j 0 [] (first_state j)
  next :
      {m : ℕ} {rs : List Record} {s : State} {p : Progress} → Ran j m rs s → NetsRan j s (nets j) p
      → Ran j (suc m) (rs ++ p.records) (move_on j p.state)
