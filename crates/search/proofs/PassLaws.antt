-- A test of every number below n: one number more, two tests at once, a list that is too short. Three such tests tell whether a node is bad.
-- Assumes nothing.
use mathlib.Core.Bool.{Bool, true, false, not, ◌&&◌}
use mathlib.Core.List.{List}
use mathlib.Core.Logic.{⊎_elim}
use mathlib.Core.Path.{◌≡◌, refl, sym, ◌∙◌, ap}
use Prim.Native.Nat.{ℕ, ◌+◌, ◌≤◌, ◌<◌}
use native.Mathlib.Omega.{arith}
use lib.Dec.{leb, ltb}
use lib.ListN.{length, get_or}
use borrow.Author.Tests.{leb-true, le-leb, lt-leb, lt-ltb, le-ltb, not-false}
use borrow.Author.Count.{below_more}
use Rattle.price.specs.Test.{both}
use Rattle.price.specs.Bounds.{others_most}
use Rattle.price.specs.Timed.{history_bound}
use Rattle.price.specs.Lists.{first_below}
use Rattle.price.proofs.TestLaws.{true≢false, test_same, both_true, both_left, both_right, le_or_lt}
use Rattle.price.proofs.BelowLaws.{first_below-below, first_below-all}
use Rattle.search.specs.Turn.{Congestion}
use Rattle.search.specs.Replies.{bounded, history_bounded, node_sound, bad_node}
use Rattle.search.specs.AllBelow.{all_below}

-- ---- a test of every number below n

and_true : {a b : Bool} → a ≡ true → b ≡ true → (a && b) ≡ true
and_true p q = rw (p, q)

and_left : (a b : Bool) → (a && b) ≡ true → a ≡ true
and_left true b e = refl
and_left false b e = e

and_right : (a b : Bool) → (a && b) ≡ true → b ≡ true
and_right true b e = e
and_right false b e = absurd (true≢false (sym e))

and_both : (a b c : Bool) → (a && both b c) ≡ (a && b && c)
and_both true true c = refl
and_both true false c = refl
and_both false b c = refl

-- the lowest number that fails
abbrev fails_at : (ℕ → Bool) → ℕ → ℕ
fails_at t n = first_below (λ v. not (t v)) n

module _ (t : ℕ → Bool) (n : ℕ) where
  none_fails : n ≤ fails_at t n → (v : ℕ) → v < n → t v ≡ true
  none_fails l v h = not-false (t v) (first_below-below (λ v. not (t v)) n v (omega arith))

  one_fails : (v : ℕ) → v < n → t v ≡ false → fails_at t n < n
  one_fails v h bad =
      ⊎_elim
      (λ (l : n ≤ fails_at t n). absurd (true≢false (sym (none_fails l v h) ∙ bad)))
      (λ l. l)
      (le_or_lt n (fails_at t n))

  all_pass : ((v : ℕ) → v < n → t v ≡ true) → n ≤ fails_at t n
  all_pass all =
      let e : fails_at t n ≡ n = first_below-all (λ v. not (t v)) n (λ v h. rw (all v h)) in
      omega arith

-- one number more
pub below_next : (t : ℕ → Bool) (v : ℕ) → all_below (v + 1) t ≡ (all_below v t && t v)
below_next t v =
    test_same (all_below (v + 1) t) (all_below v t && t v)
    (λ e.
    let all = none_fails t (v + 1) (leb-true _ _ e) in
    and_true (le-leb v (fails_at t v) (all_pass t v (λ k h. all k (omega arith)))) (all v (omega arith)))
    (λ e.
    let before = none_fails t v (leb-true v _ (and_left (all_below v t) (t v) e)) in
    le-leb (v + 1) (fails_at t (v + 1)) (all_pass t (v + 1) (below_more _ _ before (and_right (all_below v t) (t v) e))))

-- two tests at once
all_both : (s t : ℕ → Bool) (n : ℕ) → both (all_below n s) (all_below n t) ≡ all_below n (λ v. both (s v) (t v))
all_both s t n =
    test_same (both (all_below n s) (all_below n t)) (all_below n (λ v. both (s v) (t v)))
    (λ e.
    le-leb n _
    (all_pass (λ v. both (s v) (t v)) n
    (λ v h.
    both_true
    (none_fails s n (leb-true _ _ (both_left (all_below n s) (all_below n t) e)) v h)
    (none_fails t n (leb-true _ _ (both_right (all_below n s) (all_below n t) e)) v h))))
    (λ e.
    let all = none_fails (λ v. both (s v) (t v)) n (leb-true _ _ e) in
    both_true
    (le-leb n (fails_at s n) (all_pass s n (λ v h. both_left (s v) (t v) (all v h))))
    (le-leb n (fails_at t n) (all_pass t n (λ v h. both_right (s v) (t v) (all v h)))))

-- ---- a pass over a list that never leaves early

-- a list that is too short
short_fails : (n : ℕ) (xs : List ℕ) (s : ℕ → Bool) → length xs < n → all_below n (λ v. both (ltb v (length xs)) (s v)) ≡ false
short_fails n xs s h =
    lt-leb n (fails_at (λ v. both (ltb v (length xs)) (s v)) n)
    (one_fails (λ v. both (ltb v (length xs)) (s v)) n (length xs) h (rw (le-ltb (length xs) (length xs) (omega arith))))

pub bounded_short : (n most : ℕ) (xs : List ℕ) → length xs < n → all_below n (bounded most xs) ≡ false
bounded_short n most xs = short_fails n xs (λ v. leb (get_or xs v 0) most)

pub history_short : (n most : ℕ) (xs : List ℕ) → length xs < n → all_below n (history_bounded most xs) ≡ false
history_short n most xs = short_fails n xs (λ v. both (leb 1 (get_or xs v 0)) (leb (get_or xs v 0) most))

-- entry v, where the list has it
pub bounded_next : (most : ℕ) (xs : List ℕ) (v : ℕ) → v < length xs → all_below (v + 1) (bounded most xs) ≡ (all_below v (bounded most xs) && leb (get_or xs v 0) most)
bounded_next most xs v h = below_next (bounded most xs) v ∙ rw (lt-ltb v (length xs) h)

pub history_next :
    (most : ℕ) (xs : List ℕ) (v : ℕ) → v < length xs
    → all_below (v + 1) (history_bounded most xs) ≡ (all_below v (history_bounded most xs) && leb 1 (get_or xs v 0) && leb (get_or xs v 0) most)
history_next most xs v h = below_next (history_bounded most xs) v ∙ rw (lt-ltb v (length xs) h) (and_both (all_below v (history_bounded most xs)) (leb 1 (get_or xs v 0)) (leb (get_or xs v 0) most))

-- ---- whether a node is bad

-- no node below the lowest bad one is bad
pub sound-below : (n : ℕ) (c : Congestion) (marks : List ℕ) → n ≤ bad_node n c marks → (v : ℕ) → v < n → node_sound c marks v ≡ true
unfolding bad_node
sound-below n c marks l = none_fails (node_sound c marks) n l

-- by the three lists
pub lists_all :
    (n : ℕ) (c : Congestion) (marks : List ℕ)
    → leb n (bad_node n c marks) ≡ both (all_below n (history_bounded (history_bound c.weighting) c.histories)) (both (all_below n (bounded others_most c.others)) (all_below n (bounded 1 marks)))
unfolding bad_node node_sound
lists_all n c marks =
    let history : ℕ → Bool = history_bounded (history_bound c.weighting) c.histories in
    sym
    (ap (both (all_below n history)) (all_both (bounded others_most c.others) (bounded 1 marks) n)
    ∙ all_both history (λ v. both (bounded others_most c.others v) (bounded 1 marks v)) n)
