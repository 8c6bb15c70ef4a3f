-- More laws of membership: appended lists, tests of every entry by membership, lists with no entry twice, and how many entries a tree lacks.
-- Assumes nothing.
use mathlib.Core.Bool.{Bool, true, false, not}
use mathlib.Core.List.{List, [], ◌∷◌, ◌++◌}
use mathlib.Core.Logic.{◌⊎◌, ⊎_elim, inl, inr}
use mathlib.Core.Path.{◌≡◌, refl, sym, ◌∙◌, ap}
use Prim.Native.Nat.{ℕ, ◌+◌, ◌*◌, ◌≤◌, ◌<◌}
use native.Mathlib.Nat.{le_refl, add-le-add}
use native.Mathlib.Omega.{arith}
use lib.ListN.{length, get_or}
use borrow.Author.Tests.{not-true}
use Rattle.price.specs.Test.{choose, both}
use Rattle.price.specs.Lists.{every, has, distinct, total}
use Rattle.price.proofs.TestLaws.{by_test, true≢false}
use Rattle.price.proofs.ListLaws.{has-at, has_place, every-at, every-all, total-most, has_append_left, has_append_right}
use Rattle.search.proofs.DistinctLaws.{has_cons, has_first, has_rest, lacks, distinct_cons, distinct_first, distinct_rest}

-- an entry of two lists is an entry of one of them
pub has-append_split : (x : ℕ) (xs ys : List ℕ) → has x (xs ++ ys) ≡ true → (has x xs ≡ true) ⊎ (has x ys ≡ true)
has-append_split x [] ys h = inr h
has-append_split x (z ∷ zs) ys h =
    ⊎_elim
    (λ (e : x ≡ z). inl (rw e (has_first z zs)))
    (λ q. ⊎_elim (λ (l : has x zs ≡ true). inl (has_rest x z zs l)) (λ r. inr r) (has-append_split x zs ys q))
    (has_cons x z (zs ++ ys) h)

-- a test of every entry of two lists after each other
pub every_append : (t : ℕ → Bool) (xs ys : List ℕ) → every t (xs ++ ys) ≡ both (every t xs) (every t ys)
unfolding every
every_append t [] ys = refl
every_append t (x ∷ xs) ys = by_test (t x)
    (λ q. rw q (every_append t xs ys))
    (λ q. rw q)

-- a test of every entry, by membership
pub every-has : (t : ℕ → Bool) (xs : List ℕ) → every t xs ≡ true → (v : ℕ) → has v xs ≡ true → t v ≡ true
every-has t xs e v h = let at = has_place v xs h in sym (ap t at.2) ∙ every-at t xs e at.0 at.1

pub every_members : (t : ℕ → Bool) (xs : List ℕ) → ((v : ℕ) → has v xs ≡ true → t v ≡ true) → every t xs ≡ true
every_members t xs h = every-all t xs (λ i l. h (get_or xs i 0) (has-at xs i l))

-- two tests that agree on the entries of a list, over two lists with the same entries
pub every_alike :
    (t u : ℕ → Bool) (xs ys : List ℕ) → ((v : ℕ) → has v xs ≡ has v ys) → ((v : ℕ) → has v xs ≡ true → t v ≡ u v) → every t xs ≡ every u ys
every_alike t u xs ys same agree =
    by_test (every t xs)
    (λ p.
    p ∙ sym (every_members u ys (λ v h. let on = same v ∙ h in sym (agree v on) ∙ every-has t xs p v on)))
    (λ p.
    by_test (every u ys)
    (λ q.
    absurd (true≢false (sym (every_members t xs (λ v h. agree v h ∙ every-has u ys q v (sym (same v) ∙ h))) ∙ p)))
    (λ q. p ∙ sym q))

-- none of the entries is in a list
pub none_has : (ys xs : List ℕ) → every (λ v. not (has v ys)) xs ≡ true → (v : ℕ) → has v xs ≡ true → has v ys ≡ false
none_has ys xs e v h = not-true (has v ys) (every-has (λ u. not (has u ys)) xs e v h)

-- what is in neither list
pub lacks_append : (x : ℕ) (xs ys : List ℕ) → has x xs ≡ false → has x ys ≡ false → has x (xs ++ ys) ≡ false
lacks_append x xs ys p q =
    lacks x (xs ++ ys)
    (λ h. ⊎_elim (λ (l : has x xs ≡ true). true≢false (sym l ∙ p)) (λ (r : has x ys ≡ true). true≢false (sym r ∙ q)) (has-append_split x xs ys h))

pub lacks_left : (x : ℕ) (xs ys : List ℕ) → has x (xs ++ ys) ≡ false → has x xs ≡ false
lacks_left x xs ys p = lacks x xs (λ h. true≢false (sym (has_append_left x xs ys h) ∙ p))

pub lacks_right : (x : ℕ) (xs ys : List ℕ) → has x (xs ++ ys) ≡ false → has x ys ≡ false
lacks_right x xs ys p = lacks x ys (λ h. true≢false (sym (has_append_right x xs ys h) ∙ p))

-- no entry twice in two lists: none in each, and none in both
pub distinct_append : (xs ys : List ℕ) → distinct xs ≡ true → distinct ys ≡ true → ((v : ℕ) → has v ys ≡ true → has v xs ≡ false) → distinct (xs ++ ys) ≡ true
distinct_append [] ys p q none = q
distinct_append (x ∷ xs) ys p q none =
    distinct_cons x (xs ++ ys)
    (lacks_append x xs ys (distinct_first x xs p) (lacks x ys (λ h. true≢false (sym (has_first x xs) ∙ none x h))))
    (distinct_append xs ys (distinct_rest x xs p) q
    (λ v h. lacks v xs (λ m. true≢false (sym (has_rest v x xs m) ∙ none v h))))

-- ---- how many entries a tree lacks

-- 1 for an entry that the tree lacks
abbrev pub lacking : List ℕ → ℕ → ℕ
lacking tree x = choose (has x tree) 0 1

-- how many of the entries the tree lacks
abbrev pub missing : List ℕ → List ℕ → ℕ
missing tree xs = total (lacking tree) xs

lacking_most : (tree : List ℕ) (x : ℕ) → lacking tree x ≤ 1
lacking_most tree x =
    by_test (has x tree) (λ q. rw q (omega arith)) (λ q. rw q (omega arith))

pub missing-most : (tree xs : List ℕ) → missing tree xs ≤ length xs
missing-most tree xs =
    let h : missing tree xs ≤ length xs * 1 = total-most (lacking tree) 1 xs (λ i l. lacking_most tree (get_or xs i 0)) in
    omega arith

-- no entry of no list
pub no_entry : (x : ℕ) → has x [] ≡ true → ⊥
unfolding has
no_entry x h = true≢false (sym h)

-- where none is missing, the tree has each
pub missing-none : (tree xs : List ℕ) → missing tree xs ≡ 0 → (x : ℕ) → has x xs ≡ true → has x tree ≡ true
unfolding total
missing-none tree [] e x h = absurd (no_entry x h)
missing-none tree (y ∷ ys) e x h =
    ⊎_elim
    (λ (p : x ≡ y).
    rw p
    (by_test (has y tree)
    (λ q. q)
    (λ q. let z : 1 + missing tree ys ≡ 0 = rw q at e in absurd (omega arith))))
    (λ (m : has x ys ≡ true). missing-none tree ys (let z : lacking tree y + missing tree ys ≡ 0 = e in omega arith) x m)
    (has_cons x y ys h)

-- a tree that has grown lacks no more
lacking_le : (tree grown : List ℕ) → ((v : ℕ) → has v tree ≡ true → has v grown ≡ true) → (x : ℕ) → lacking grown x ≤ lacking tree x
lacking_le tree grown more x =
    by_test (has x tree)
    (λ q. rw (q, more x q) (le_refl 0))
    (λ q. rw q (lacking_most grown x))

missing-le : (tree grown xs : List ℕ) → ((v : ℕ) → has v tree ≡ true → has v grown ≡ true) → missing grown xs ≤ missing tree xs
unfolding total
missing-le tree grown [] more = le_refl 0
missing-le tree grown (x ∷ xs) more = add-le-add (lacking_le tree grown more x) (missing-le tree grown xs more)

-- and fewer, where one of them is new in it
pub missing-less : (tree grown xs : List ℕ) (x : ℕ) → ((v : ℕ) → has v tree ≡ true → has v grown ≡ true) → has x xs ≡ true → has x tree ≡ false → has x grown ≡ true → missing grown xs < missing tree xs
unfolding total
missing-less tree grown [] x more m o n = absurd (no_entry x m)
missing-less tree grown (y ∷ ys) x more m o n =
    let here : lacking grown y ≤ lacking tree y = lacking_le tree grown more y in
    ⊎_elim
    (λ (p : x ≡ y).
    let old : lacking tree y ≡ 1 = rw (← p) (rw o) in
    let new : lacking grown y ≡ 0 = rw (← p) (rw n) in
    let rest : missing grown ys ≤ missing tree ys = missing-le tree grown ys more in
    omega arith)
    (λ (q : has x ys ≡ true).
    let rest : missing grown ys < missing tree ys = missing-less tree grown ys x more q o n in
    omega arith)
    (has_cons x y ys m)
