-- Laws of the machine's states: routing nets changes trees alone, and each whole iteration is the next and leaves a tree a net.
-- Assumes nothing.
use mathlib.Core.Bool.{Bool, true, false}
use mathlib.Core.Path.{◌≡◌, refl, ◌∙◌}
use Prim.Native.Nat.{ℕ, zero, suc, ◌+◌}
use native.Mathlib.Omega.{arith}
use lib.ListN.{length, length-set}
use Rattle.job.specs.Job.{Job, nets}
use Rattle.negotiation.specs.Machine.{State, Progress, tree_from, net_records, route_net, due, route_if, after_nets, iterate, move_on, first_state, state_after}

-- ---- a net that is due, and one that is not

-- what holds with the net's turns and without them
pub route_if_lem : (P : Progress → Type 0) (d : Bool) (j : Job) (i : ℕ) (p : Progress) → P (route_net j i p) → P p → P (route_if d j i p)
route_if_lem P true j i p with-turns without = with-turns
route_if_lem P false j i p with-turns without = without

-- a net that is due has its turns next
pub routed-next : (j : Job) (s : State) (i : ℕ) → due j s i ≡ true → after_nets j s (suc i) ≡ route_net j i (after_nets j s i)
unfolding after_nets
routed-next j s i d = rw d

-- ---- iteration, factor and histories

-- routing nets changes trees alone
module _ (j : Job) (s : State) where
  pub nets-iteration : (i : ℕ) → (after_nets j s i).state.iteration ≡ s.iteration
  unfolding after_nets
  nets-iteration zero = refl
  nets-iteration (suc i) = route_if_lem (λ p. p.state.iteration ≡ s.iteration) (due j s i) j i (after_nets j s i) (nets-iteration i) (nets-iteration i)

  pub nets-factor : (i : ℕ) → (after_nets j s i).state.factor ≡ s.factor
  unfolding after_nets
  nets-factor zero = refl
  nets-factor (suc i) = route_if_lem (λ p. p.state.factor ≡ s.factor) (due j s i) j i (after_nets j s i) (nets-factor i) (nets-factor i)

  pub nets-histories : (i : ℕ) → (after_nets j s i).state.histories ≡ s.histories
  unfolding after_nets
  nets-histories zero = refl
  nets-histories (suc i) = route_if_lem (λ p. p.state.histories ≡ s.histories) (due j s i) j i (after_nets j s i) (nets-histories i) (nets-histories i)

-- each whole iteration is the next
pub state-iteration : (j : Job) (s : State) (m : ℕ) → (state_after j s m).iteration ≡ s.iteration + m
unfolding state_after move_on iterate
state-iteration j s zero = omega arith
state-iteration j s (suc m) =
    rw (nets-iteration j (state_after j s m) (nets j), state-iteration j s m) (omega arith)

-- a run that begins has made none
pub first_iteration : (j : Job) (m : ℕ) → (state_after j (first_state j) m).iteration ≡ m + 1
unfolding first_state
first_iteration j m = let e : 1 + m ≡ m + 1 = omega arith in state-iteration j (first_state j) m ∙ e

-- ---- trees

-- there is one a net, as before
pub nets-trees : (j : Job) (s : State) (i : ℕ) → length (after_nets j s i).state.trees ≡ length s.trees
unfolding after_nets
nets-trees j s zero = refl
nets-trees j s (suc i) =
    route_if_lem (λ p. length p.state.trees ≡ length s.trees) (due j s i) j i (after_nets j s i)
    (length-set (after_nets j s i).state.trees i (tree_from j i (net_records j (after_nets j s i).state i)) ∙ nets-trees j s i)
    (nets-trees j s i)

pub state-trees : (j : Job) (s : State) (m : ℕ) → length (state_after j s m).trees ≡ length s.trees
unfolding state_after move_on iterate
state-trees j s zero = refl
state-trees j s (suc m) = nets-trees j (state_after j s m) (nets j) ∙ state-trees j s m
