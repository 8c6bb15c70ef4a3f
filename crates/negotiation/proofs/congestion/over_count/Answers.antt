-- `negotiation::congestion::over_count` meets its contract: after the turns up to v the nodes below v are counted.
-- Assumes nothing.
use mathlib.Core.Bool.{Bool, true, false}
use mathlib.Core.Path.{◌≡◌, refl, sym, ◌∙◌}
use Prim.Native.Nat.{ℕ, ◌+◌}
use native.Mathlib.Numerals.{add-one}
use native.Mathlib.Omega.{arith}
use lib.Dec.{ltb}
use lib.ListN.{length, get_or}
use borrow.Author.Tests.{lt-ltb, le-ltb}
use Rattle.price.specs.Lists.{count_below}
use Rattle.price.proofs.BelowLaws.{count_most_lem}
use Rattle.negotiation.proofs.congestion.over_count.Goals.{else-capacity-v, then-capacity-v}
use Rattle.negotiation.proofs.congestion.over_count.Goals as goal

-- no number is below 0
none : (t : ℕ → Bool) → 0 ≡ count_below t 0
unfolding count_below
none t = refl

-- one number more
count_yes : (t : ℕ → Bool) (n : ℕ) → t n ≡ true → count_below t (n + 1) ≡ count_below t n + 1
unfolding count_below
count_yes t n e = rw (add-one n, e)

count_no : (t : ℕ → Bool) (n : ℕ) → t n ≡ false → count_below t (n + 1) ≡ count_below t n
unfolding count_below
count_no t n e = rw (add-one n, e) (omega arith)

pub loop-v-init : goal.loop-v-init
loop-v-init c = (omega arith, none _)

pub overflow_cast-capacity : goal.overflow_cast-capacity
overflow_cast-capacity c = omega (arith, c.type_inv.capacity c.loop-v.v)

pub overflow_add-over : goal.overflow_add-over
overflow_add-over c =
    let a = c.args in
    omega (arith, count_most_lem (λ (u : ℕ). ltb (get_or a.capacity.now u 0) (get_or a.users.now u 0)) c.loop-v.v)

pub loop-v-preserved : goal.loop-v-preserved
loop-v-preserved c =
    let past = c.loop-v.invariant.1 in (
      omega arith,
      (elim c.if-capacity-v.branch [ then-capacity-v w ↦ w.over-is ∙ rw past (sym (count_yes _ _ (lt-ltb _ _ w.if-capacity-v.true))) | else-capacity-v w ↦ w.over-is ∙ past ∙ sym (count_no _ _ (le-ltb _ _ w.if-capacity-v.false)) ]),
    )

pub returns : goal.returns
returns c =
    let end : c.loop-v.v ≡ length c.args.capacity.now = omega arith in
    c.loop-v.invariant.1 ∙ rw end
