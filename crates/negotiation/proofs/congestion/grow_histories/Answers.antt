-- `negotiation::congestion::grow_histories` meets its contract: after the turns up to v the histories below v have grown, the others stand.
-- Assumes nothing.
use mathlib.Core.List.{List, ◌++◌}
use mathlib.Core.Path.{◌≡◌, refl, ◌∙◌}
use Prim.Native.Nat.{ℕ, ◌-◌, ◌^◌, ◌≤◌, ◌<◌}
use native.Mathlib.Nat.{mul-le-mul}
use native.Mathlib.Omega.{arith}
use lib.ListN.{length, get_or, drop, length-set}
use Rattle.price.specs.Bounds.{step_most}
use Rattle.price.specs.Lists.{up_to}
use Rattle.price.specs.Prices.{next_history}
use Rattle.price.specs.declared.Tuning.{Tuning}
use Rattle.negotiation.proofs.FilledLaws.{filled_none, filled_at, filled_more, filled-all}
use Rattle.negotiation.proofs.congestion.grow_histories.Invariants.{next}
use Rattle.negotiation.proofs.congestion.grow_histories.Goals.{After-next_history, Start}
use Rattle.negotiation.proofs.congestion.grow_histories.Goals as goal

-- the history that is read is the first one
grown_read : (g : Tuning) (cs us hs now : List ℕ) (v r : ℕ) → v < length hs → now ≡ up_to (next g cs us hs) v ++ drop v hs → r ≡ next_history g (get_or now v 0) (get_or us v 0) (get_or cs v 0) → r ≡ next g cs us hs v
grown_read g cs us hs now v r h e n = n ∙ rw (e, filled_at (next g cs us hs) hs v h)

-- a history below 2 ^ 31 does not outgrow 32 bits
history_fits : (g : Tuning) (h u c : ℕ) → g.step ≤ step_most → h < 2 ^ 31 → u < 2 ^ 16 → next_history g h u c < 2 ^ 32
unfolding next_history
history_fits g h u c hs hh hu =
    let few : u - c ≤ 2 ^ 16 = omega arith in
    omega (arith, mul-le-mul hs few)

-- what a node's history becomes, by the lists at the entry
abbrev becomes : Start → ℕ → ℕ
becomes s = next s.args.g s.args.capacity.now s.args.users.now s.args.history.now

pub loop-v-init : goal.loop-v-init
loop-v-init c = (omega arith, refl, filled_none (becomes (goal.at.loop-v-init c).Start) _)

pub overflow_cast-users : goal.overflow_cast-users
overflow_cast-users c = omega (arith, c.type_inv.users c.loop-v.v)

pub overflow_cast-capacity : goal.overflow_cast-capacity
overflow_cast-capacity c = omega (arith, c.type_inv.capacity c.loop-v.v)

-- the history that is read is the first one, and what the call answers is what it becomes
grows : (c : After-next_history) → c.next_history.result ≡ next c.args.g c.args.capacity.now c.args.users.now c.args.history.now c.loop-v.v
grows c =
    let args = c.args in
    grown_read args.g args.capacity.now args.users.now args.history.now _ c.loop-v.v _ (omega arith) c.loop-v.invariant.2 c.next_history.ensures

pub overflow_cast-history : goal.overflow_cast-history
overflow_cast-history c =
    rw (grows c)
    (record {
      fits =
          history_fits _ _ _ _ c.requires.by_index.1 (c.requires.by_index.0 c.loop-v.v (omega arith))
          (c.type_inv.users c.loop-v.v).fits;
    })

pub loop-v-preserved : goal.loop-v-preserved
loop-v-preserved c = (
  omega arith,
  simp length-set c.loop-v.invariant.1,
  rw (c.loop-v.invariant.2, grows c) (filled_more (becomes (goal.at.loop-v-preserved c).Start) c.args.history.now c.loop-v.v (omega arith)),
)

pub returns : goal.returns
returns c =
    c.loop-v.invariant.2
    ∙ filled-all (becomes (goal.at.returns c).Start) c.args.history.now c.loop-v.v (omega arith) (omega arith)
