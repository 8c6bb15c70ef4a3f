-- Who uses a node: counts of nets by their trees.
-- Assumes nothing.
use mathlib.Core.Bool.{Bool, true, false, not}
use mathlib.Core.List.{List, []}
use mathlib.Core.Logic.{⊎_elim}
use mathlib.Core.Path.{◌≡◌, refl, sym, ◌∙◌, ap, subst}
use Prim.Native.Nat.{ℕ, zero, suc, ◌+◌, ◌-◌, ◌≤◌, ◌<◌}
use native.Mathlib.Nat.{not-suc-le-zero, le_of_suc-le-suc, eq-or-lt_of_le}
use native.Mathlib.Omega.{arith}
use lib.Dec.{eqb}
use lib.ListN.{length, set, get_or-replicate}
use lib.Seq.{get_or-set_same, get_or-set_other}
use borrow.Author.Tests.{eq-eqb, ne_eqb, eqb-false}
use Rattle.price.specs.Test.{choose, both}
use Rattle.price.specs.Lists.{has, count_below}
use Rattle.price.proofs.TestLaws.{by_test, true≢false}
use Rattle.price.proofs.BelowLaws.{count_less, count_same}
use Rattle.job.specs.Job.{Job, nets}
use Rattle.negotiation.specs.Machine.{tree_at, users_of, others_of, first_state}

-- ---- counts

-- a number that passes is counted
count_some : (p : ℕ → Bool) (n i : ℕ) → i < n → p i ≡ true → 1 ≤ count_below p n
count_some p n i l e =
    let less : count_below (λ k. false) n < count_below p n = count_less p (λ k. false) n i (λ x h q. absurd (true≢false (sym q))) l e refl in
    omega arith

-- all that pass, but for one, and that one
count_with : (t : ℕ → Bool) (n i : ℕ) → i < n → count_below t n ≡ count_below (λ k. both (not (eqb k i)) (t k)) n + choose (t i) 1 0
unfolding count_below
count_with t zero i h = absurd (not-suc-le-zero h)
count_with t (suc n) i h =
    ⊎_elim
    (λ (e : i ≡ n).
    let same : count_below t n ≡ count_below (λ k. both (not (eqb k n)) (t k)) n =
    count_same t (λ k. both (not (eqb k n)) (t k)) n (λ k l. rw (ne_eqb k n (λ q. omega arith))) in
    subst (λ (x : ℕ). count_below t (suc n) ≡ count_below (λ k. both (not (eqb k x)) (t k)) (suc n) + choose (t x) 1 0) (sym e)
    (rw (eq-eqb n n refl) (omega arith)))
    (λ (l : i < n).
    let rest = count_with t n i l in
    rw (ne_eqb n i (λ q. omega arith)) (omega arith))
    (eq-or-lt_of_le (le_of_suc-le-suc h))

-- ---- users

-- a net's new tree is counted beside the others'
pub users_with :
    (j : Job) (trees : List (List ℕ)) (i : ℕ) (tree : List ℕ) (v : ℕ) → i < nets j → i < length trees
    → users_of j (set trees i tree) v ≡ others_of j trees i v + choose (has v tree) 1 0
unfolding users_of others_of
users_with j trees i tree v h l =
    count_with (λ k. has v (tree_at (set trees i tree) k)) (nets j) i h
    ∙ rw (
      get_or-set_same trees i tree [] l,
      count_same (λ k. both (not (eqb k i)) (has v (tree_at (set trees i tree) k))) (λ k. both (not (eqb k i)) (has v (tree_at trees k))) (nets j)
          (λ k b. by_test (eqb k i)
          (λ q. rw q)
          (λ q. rw (q, get_or-set_other trees i k tree [] (eqb-false k i q)))),
    )

-- who has a node in its tree uses it
pub users_some : (j : Job) (trees : List (List ℕ)) (i v : ℕ) → i < nets j → has v (tree_at trees i) ≡ true → 1 ≤ users_of j trees v
unfolding users_of
users_some j trees i v h e = count_some (λ k. has v (tree_at trees k)) (nets j) i h e

-- without it the others are left
pub users_but : (j : Job) (trees : List (List ℕ)) (i v : ℕ) → i < nets j → users_of j trees v - choose (has v (tree_at trees i)) 1 0 ≡ others_of j trees i v
unfolding users_of others_of
users_but j trees i v h =
    let r = count_with (λ k. has v (tree_at trees k)) (nets j) i h in
    omega arith

pub count_zero : (n : ℕ) → count_below (λ k. false) n ≡ 0
unfolding count_below
count_zero zero = refl
count_zero (suc n) = rw (count_zero n)

-- empty trees use nothing
pub users-none : (j : Job) (v : ℕ) → users_of j (first_state j).trees v ≡ 0
unfolding users_of first_state has
users-none j v =
    count_same (λ k. has v (tree_at (first_state j).trees k)) (λ k. false) (nets j)
    (λ k h. ap (has v) (get_or-replicate (nets j) k [] [] h))
    ∙ count_zero (nets j)
