-- An iteration that leaves a node overfull has a turn: some net is due in it. So the words of a run tell how many iterations they hold.
-- Assumes nothing.
use mathlib.Core.Bool.{Bool, true, false, not}
use mathlib.Core.List.{List, [], ◌∷◌, ◌++◌, append-nil}
use mathlib.Core.Logic.{◌⊎◌, ⊎_elim, inl, inr}
use mathlib.Core.Path.{◌≡◌, refl, sym, ◌∙◌, ap, subst}
use Prim.Native.Nat.{ℕ, zero, suc, ◌+◌, ◌≤◌, ◌<◌}
use native.Mathlib.Nat.{le_refl}
use native.Mathlib.Omega.{arith}
use lib.Dec.{eqb}
use lib.ListN.{length, get_or, get_or-replicate}
use lib.Seq.{get_or-set_other}
use borrow.Author.Tests.{eqb-true, eqb-false, ltb-true, not-true}
use Rattle.price.specs.Lists.{every, has, first_below, count_below}
use Rattle.price.proofs.TestLaws.{by_test, true≢false, either_true, le_or_lt}
use Rattle.price.proofs.BelowLaws.{first_below-below, first_below_holds}
use Rattle.job.specs.Job.{Job, nets}
use Rattle.negotiation.specs.Records.{Record}
use Rattle.negotiation.specs.Machine.{State, Progress, tree_at, users_of, tree_from, has_sinks, overfull, all_due, crowded, due, over_count, move_on, first_state}
use Rattle.negotiation.specs.Demand.{latest}
use Rattle.negotiation.specs.Runs.{NetsRan, none, kept, routed, Ran, start, next}
use Rattle.negotiation.proofs.DueLaws.{due-sinks}
use Rattle.negotiation.proofs.MemberLaws.{every-has, no_entry}
use Rattle.negotiation.proofs.FilterLaws.{latest-le}
use Rattle.negotiation.proofs.RanLaws.{ran-all, ran-latest}

-- ---- an overfull node has a user

-- where some number is counted, one passes
count_place : (t : ℕ → Bool) (n : ℕ) → (count_below t n ≡ 0 → ⊥) → (x : ℕ) × (x < n) × (t x ≡ true)
unfolding count_below
count_place t zero some = absurd (some refl)
count_place t (suc n) some =
    by_test (t n)
    (λ q. (n, le_refl (suc n), q))
    (λ q.
    let low = count_place t n (λ (e : count_below t n ≡ 0). some (rw (q, e))) in
    (low.0, omega (arith, low.1), low.2))

user_of : (j : Job) (trees : List (List ℕ)) (v : ℕ) → overfull j trees v ≡ true → (k : ℕ) × (k < nets j) × (has v (tree_at trees k) ≡ true)
unfolding overfull users_of
user_of j trees v over =
    let more : get_or j.block.capacities v 0 < count_below (λ k. has v (tree_at trees k)) (nets j) = ltb-true _ _ over in
    count_place (λ k. has v (tree_at trees k)) (nets j) (λ e. omega (arith, e))

-- a net that has it is crowded
user_crowded : (j : Job) (trees : List (List ℕ)) (k v : ℕ) → overfull j trees v ≡ true → has v (tree_at trees k) ≡ true → crowded j trees k ≡ true
unfolding crowded
user_crowded j trees k v over h =
    by_test (every (λ u. not (overfull j trees u)) (tree_at trees k))
    (λ q.
    absurd (true≢false (sym over ∙ not-true (overfull j trees v) (every-has (λ u. not (overfull j trees u)) (tree_at trees k) q v h))))
    (λ q. rw q)

-- ---- only nets with sinks have trees

abbrev Owned : Job → List (List ℕ) → Type 0
Owned j trees = (k v : ℕ) → k < nets j → has v (tree_at trees k) ≡ true → has_sinks j k ≡ true

nets_owned : (j : Job) {s : State} {i : ℕ} {p : Progress} → NetsRan j s i p → Owned j s.trees → Owned j p.state.trees
nets_owned j none old k v l h = old k v l h
nets_owned j (kept r d) old k v l h = nets_owned j r old k v l h
nets_owned j {s = s} (routed {i = i} {p = p} {rs = rs} r d o) old k v l h =
    by_test (eqb k i)
    (λ q. rw (eqb-true k i q) (due-sinks j s i d))
    (λ q.
    nets_owned j r old k v l (rw (get_or-set_other p.state.trees i k (tree_from j i rs) [] (eqb-false k i q)) at h))

ran_owned : (j : Job) {m : ℕ} {rs : List Record} {s : State} → Ran j m rs s → Owned j s.trees
unfolding first_state move_on
ran_owned j start k v l h = absurd (no_entry v (rw (get_or-replicate {A = List ℕ} (nets j) k [] [] l) at h))
ran_owned j (next r n) k v l h = nets_owned j n (λ k v l h. ran_owned j r k v l h) k v l h

-- ---- an iteration without a turn

-- where no net is due all trees stay
none-due : (j : Job) {s : State} {i : ℕ} {p : Progress} → NetsRan j s i p → ((k : ℕ) → k < i → due j s k ≡ false) → p.state.trees ≡ s.trees
none-due j none idle = refl
none-due j (kept r d) idle = none-due j r (λ k l. idle k (omega arith))
none-due j (routed {i = i} r d o) idle = absurd (true≢false (sym d ∙ idle i (le_refl (suc i))))

-- a net that has an overfull node is due
user_due :
    (j : Job) {m : ℕ} {rs : List Record} {s : State} → Ran j m rs s → (v : ℕ) → overfull j s.trees v ≡ true
    → (k : ℕ) × (k < nets j) × (due j s k ≡ true)
unfolding due
user_due j {s = s} r v over =
    let user = user_of j s.trees v over in
    let k : ℕ = user.0 in (
      k,
      user.1,
      rw (ran_owned j r k v user.1 user.2, user_crowded j s.trees k v over user.2) (either_true (all_due j.terms s.iteration)),
    )

-- the nets due, where the iteration leaves a node overfull
some_due :
    (j : Job) {m : ℕ} {rs : List Record} {s : State} {p : Progress} → Ran j m rs s → NetsRan j s (nets j) p → (over_count j p.state.trees ≡ 0 → ⊥)
    → (k : ℕ) × (k < nets j) × (due j s k ≡ true)
unfolding over_count
some_due j {s = s} r n some =
    let first : ℕ = first_below (due j s) (nets j) in
    ⊎_elim
    (λ (l : nets j ≤ first).
    let same = none-due j n (λ k h. first_below-below (due j s) (nets j) k (omega arith)) in
    let over = count_place (overfull j s.trees) _ (rw same at some) in
    user_due j r over.0 over.2)
    (λ (l : first < nets j). (first, l, first_below_holds (due j s) (nets j) l))
    (le_or_lt (nets j) first)

none_or_some : (rs : List Record) → (rs ≡ []) ⊎ (1 ≤ length rs)
none_or_some [] = inl refl
none_or_some (r ∷ rs) = inr (omega arith)

pub some_turn :
    (j : Job) {m : ℕ} {rs : List Record} {s : State} {p : Progress} → Ran j m rs s → NetsRan j s (nets j) p → (over_count j p.state.trees ≡ 0 → ⊥)
    → 1 ≤ length p.records
some_turn j {m = m} {rs = rs} {p = p} r n some =
    let net = some_due j r n some in
    let k : ℕ = net.0 in
    ⊎_elim
    (λ (e : p.records ≡ []).
    let now : latest k (rs ++ p.records) ≡ m + 1 = ran-latest j r n k net.1 net.2 in
    let old : latest k rs ≡ m + 1 = subst (λ (l : List Record). latest k l ≡ m + 1) (ap (λ (l : List Record). rs ++ l) e ∙ append-nil rs) now in
    let most = latest-le k m rs (ran-all j r) in
    absurd (omega arith))
    (λ h. h)
    (none_or_some p.records)
