-- What the router's lists and tariff hold at the head of each of its three loops, in a run that goes on from a progress.
-- Assumes nothing.
use mathlib.Core.Bool.{true, false}
use mathlib.Core.List.{List, ◌++◌}
use mathlib.Core.Logic.{◌⊎◌}
use mathlib.Core.Path.{◌≡◌}
use Prim.Native.Nat.{ℕ, ◌+◌, ◌*◌, ◌≤◌, ◌<◌}
use lib.ListN.{length}
use Rattle.price.specs.Test.{choose}
use Rattle.price.specs.Lists.{up_to}
use Rattle.job.specs.Job.{Job, nodes, nets}
use Rattle.negotiation.specs.Records.{Record, encode}
use Rattle.negotiation.specs.Machine.{State, Progress, others_of, marks_of, congestion_for, turns_of, net_records, tree_from, due, after_nets, state_after, records_after, settles_at}
use Rattle.negotiation.specs.Outcome.{iterations_left}
use Rattle.negotiation.specs.Steps.{SameFrom}
use Rattle.negotiation.specs.Kept.{Places, Kept, Tallied, CanGoOn}
use Rattle.negotiation.specs.declared.tariff.Tariff.{Tariff}

-- the state at the start of the iteration after m whole ones more
abbrev pub start_of : Job → Progress → ℕ → State
start_of j p m = state_after j p.state m

-- where the run stands after m whole iterations more and i nets of the next
abbrev pub reached : Job → Progress → ℕ → ℕ → Progress
reached j p m i =
    record {
      records = (p.records ++ records_after j p.state m) ++ (after_nets j (start_of j p m) i).records;
      state = (after_nets j (start_of j p m) i).state;
    }

-- m iterations more are made, none settled, and the tariff is the next one's
pub record Under (j : Job) (p : Progress) (m : ℕ) (t : Tariff) : Type 0 where
  pub can : CanGoOn j p
  pub below : m < iterations_left j p.state
  pub unsettled : (k : ℕ) → k < m → settles_at j p.state k ≡ false
  pub iteration-is : t.iteration ≡ p.state.iteration + m
  pub factor-is : t.factor ≡ (start_of j p m).factor

-- net i has dropped its old tree and made these turns: the others are left of the users, and its new tree is marked
pub record Opened (j : Job) (p : Progress) (i : ℕ) (made : List Record) (history users marks from to : List ℕ) : Type 0 where
  pub history_is : history ≡ p.state.histories
  pub users-is : users ≡ up_to (others_of j p.state.trees i) (nodes j)
  pub marks_is : marks ≡ marks_of j (tree_from j i made)
  pub places : Places j p from to

-- the marks of the nets that an iteration takes
abbrev pub due_marks : Job → State → List ℕ
due_marks j s = up_to (λ k. choose (due j s k) 1 0) (nets j)

-- ---- the heads of the loops

-- an iteration begins
pub record AtIteration (j : Job) (p : Progress) (work₀ log₀ : List ℕ) (m : ℕ) (t : Tariff) (history users marks from to dues work log : List ℕ) : Type 0 where
  pub under : Under j p m t
  pub kept : Kept j (reached j p m 0) history users marks from to
  pub due-long : length dues ≡ nets j
  pub tallied : Tallied (reached j p m 0).records log₀ t log
  pub work-same : SameFrom (8 * nodes j) work₀ work

-- the first i nets are routed
pub record AtNet (j : Job) (p : Progress) (work₀ log₀ : List ℕ) (m i : ℕ) (t : Tariff) (history users marks from to dues work log : List ℕ) : Type 0 where
  pub under : Under j p m t
  pub upto : i ≤ nets j
  pub kept : Kept j (reached j p m i) history users marks from to
  pub due-is : dues ≡ due_marks j (start_of j p m)
  pub tallied : Tallied (reached j p m i).records log₀ t log
  pub work-same : SameFrom (8 * nodes j) work₀ work

-- net i is due, has made these turns, and so many are left
pub record AtTurn (j : Job) (p : Progress) (work₀ log₀ : List ℕ) (m i left : ℕ) (t : Tariff) (history users marks from to dues work log : List ℕ) (first : ℕ) : Type 0 where
  pub under : Under j p m t
  pub net : i < nets j
  pub taken : due j (start_of j p m) i ≡ true
  pub made : List Record
  pub rest_is :
      net_records j (reached j p m i).state i
      ≡ made ++ turns_of j (p.state.iteration + m) (congestion_for j (reached j p m i).state i) i left (tree_from j i made)
  pub tallied : Tallied ((reached j p m i).records ++ made) log₀ t log
  pub first_is : first ≡ length (encode (reached j p m i).records)
  pub opened : Opened j (reached j p m i) i made history users marks from to
  pub due-is : dues ≡ due_marks j (start_of j p m)
  pub work-same : SameFrom (8 * nodes j) work₀ work

-- net i is not due, and no turn is left
pub record AtIdle (j : Job) (p : Progress) (work₀ log₀ : List ℕ) (m i left : ℕ) (t : Tariff) (history users marks from to dues work log : List ℕ) : Type 0 where
  pub net : i < nets j
  pub not_taken : due j (start_of j p m) i ≡ false
  pub none_left : left ≡ 0
  pub at : AtNet j p work₀ log₀ m i t history users marks from to dues work log

-- at the head of the loop over turns
abbrev pub AtTurns : (j : Job) (p : Progress) (work₀ log₀ : List ℕ) (m i left : ℕ) (t : Tariff) (history users marks from to dues work log : List ℕ) (first : ℕ) → Type 0
AtTurns j p work₀ log₀ m i left t history users marks from to dues work log first =
    AtIdle j p work₀ log₀ m i left t history users marks from to dues work log
    ⊎ AtTurn j p work₀ log₀ m i left t history users marks from to dues work log first
