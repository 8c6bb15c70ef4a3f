-- Users of nodes that are passed one after the other, who go and come: what one node does, and two lists after each other do what their join does.
--     dropped_none, -one, -kept, -append        users that go
--     added_none, -one, -kept, -append          users that come
--     can-drop_rest, -left, can-add_rest        what was asked for all holds for the rest
--     node-can-drop                             the node that a loop reaches
-- Assumes nothing.
use mathlib.Core.Bool.{Bool, true, false}
use mathlib.Core.List.{List, [], ◌∷◌, ◌++◌}
use mathlib.Core.Path.{◌≡◌, refl, sym, ◌∙◌}
use Prim.Native.Nat.{ℕ, ◌+◌, ◌-◌, ◌≤◌, ◌<◌}
use native.Mathlib.Omega.{arith}
use lib.Dec.{eqb}
use lib.ListN.{length, get_or, set, length-set}
use lib.Seq.{get_or-set_same, get_or-set_other, slice, slice-cons}
use borrow.Author.Tests.{eq-eqb, ne_eqb, eqb-true, eqb-false}
use Rattle.price.specs.Test.{choose, both, either}
use Rattle.price.specs.Lists.{has}
use Rattle.price.proofs.TestLaws.{by_test}
use Rattle.price.proofs.ListLaws.{has-append, has_append_left, has_append_right}
use Rattle.job.specs.Steps.{AllBelow}
use Rattle.negotiation.specs.Steps.{Dropped, UsersAdded, CanDrop, CanAddMarked}
use Rattle.job.proofs.MarkLaws.{Between, node-below, slice_parts, stored_append, stored_none, stored_one}

-- ---- users that go

sub-none : (u : ℕ) → u ≡ u - 0
sub-none u = omega arith

pub dropped_none : (n : ℕ) (users marks : List ℕ) → Dropped n [] users marks users marks
unfolding has
dropped_none n users marks = record { users-long = refl; marks_set = stored_none 1 marks; users-at = λ v b. sub-none (get_or users v 0) }

module _ (n y : ℕ) (users marks : List ℕ) (l : y < length marks) where
  -- a node that was not marked
  pub dropped_one : y < length users → get_or marks y 0 ≡ 0 → Dropped n (y ∷ []) users marks (set users y (get_or users y 0 - 1)) (set marks y 1)
  unfolding has
  dropped_one h z = record {
    users-long = length-set users y (get_or users y 0 - 1);
    marks_set = stored_one 1 y marks l;
    users-at = λ v b.
        by_test (eqb v y)
        (λ q.
        let e : v ≡ y = eqb-true v y q in
        let m : eqb (get_or marks y 0) 0 ≡ true = eq-eqb (get_or marks y 0) 0 z in
        rw (q, e, m) (get_or-set_same users y (get_or users y 0 - 1) 0 h))
        (λ q.
        rw q (get_or-set_other users y v (get_or users y 0 - 1) 0 (eqb-false v y q) ∙ sub-none (get_or users v 0)));
  }

  -- a node that was marked
  pub dropped_kept : (get_or marks y 0 ≡ 0 → ⊥) → Dropped n (y ∷ []) users marks users (set marks y 1)
  unfolding has
  dropped_kept z = record {
    users-long = refl;
    marks_set = stored_one 1 y marks l;
    users-at = λ v b.
        by_test (eqb v y)
        (λ q.
        let e : v ≡ y = eqb-true v y q in
        let m : eqb (get_or marks y 0) 0 ≡ false = ne_eqb (get_or marks y 0) 0 z in
        rw (q, e, m) (sub-none (get_or users y 0)))
        (λ q. rw q (sub-none (get_or users v 0)));
  }

drop_again : (s t : Bool) (m u : ℕ) → u - choose (both s (eqb m 0)) 1 0 - choose (both t (eqb (choose s 1 m) 0)) 1 0 ≡ u - choose (both (either s t) (eqb m 0)) 1 0
drop_again true true m u = sym (sub-none _)
drop_again true false m u = sym (sub-none _)
drop_again false t m u = rw (← sub-none u)

-- what a node loses in a second list it has not lost in the first: there it got its mark
pub dropped_append : {n : ℕ} {xs ys users marks users_now marks_now users_later marks_later : List ℕ} → Dropped n xs users marks users_now marks_now → Dropped n ys users_now marks_now users_later marks_later → Dropped n (xs ++ ys) users marks users_later marks_later
dropped_append {n} {xs} {ys} {users} {marks} s t = record {
  users-long = t.users-long ∙ s.users-long;
  marks_set = stored_append s.marks_set t.marks_set;
  users-at = λ v b.
      t.users-at v b
      ∙ rw (s.users-at v b, s.marks_set.at v, has-append v xs ys)
      (drop_again (has v xs) (has v ys) (get_or marks v 0) (get_or users v 0));
}

-- ---- users that come

add_none : (u : ℕ) → u ≡ u + 0
add_none u = omega arith

pub added_none : (n : ℕ) (users marks : List ℕ) → UsersAdded n [] users marks users marks
unfolding has
added_none n users marks = record { users-long = refl; marks_cleared = stored_none 0 marks; users-at = λ v b. add_none (get_or users v 0) }

module _ (n y : ℕ) (users marks : List ℕ) (l : y < length marks) where
  -- a node that was marked
  pub added_one : y < length users → get_or marks y 0 ≡ 1 → UsersAdded n (y ∷ []) users marks (set users y (get_or users y 0 + 1)) (set marks y 0)
  unfolding has
  added_one h z = record {
    users-long = length-set users y (get_or users y 0 + 1);
    marks_cleared = stored_one 0 y marks l;
    users-at = λ v b.
        by_test (eqb v y)
        (λ q.
        let e : v ≡ y = eqb-true v y q in
        let m : eqb (get_or marks y 0) 1 ≡ true = eq-eqb (get_or marks y 0) 1 z in
        rw (q, e, m) (get_or-set_same users y (get_or users y 0 + 1) 0 h))
        (λ q.
        rw q (get_or-set_other users y v (get_or users y 0 + 1) 0 (eqb-false v y q) ∙ add_none (get_or users v 0)));
  }

  -- a node that was not marked
  pub added_kept : (get_or marks y 0 ≡ 1 → ⊥) → UsersAdded n (y ∷ []) users marks users (set marks y 0)
  unfolding has
  added_kept z = record {
    users-long = refl;
    marks_cleared = stored_one 0 y marks l;
    users-at = λ v b.
        by_test (eqb v y)
        (λ q.
        let e : v ≡ y = eqb-true v y q in
        let m : eqb (get_or marks y 0) 1 ≡ false = ne_eqb (get_or marks y 0) 1 z in
        rw (q, e, m) (add_none (get_or users y 0)))
        (λ q. rw q (add_none (get_or users v 0)));
  }

add_again : (s t : Bool) (m u : ℕ) → u + choose (both s (eqb m 1)) 1 0 + choose (both t (eqb (choose s 0 m) 1)) 1 0 ≡ u + choose (both (either s t) (eqb m 1)) 1 0
add_again true true m u = sym (add_none _)
add_again true false m u = sym (add_none _)
add_again false t m u = rw (← add_none u)

-- what a node gains in a second list it has not gained in the first: there it lost its mark
pub added_append : {n : ℕ} {xs ys users marks users_now marks_now users_later marks_later : List ℕ} → UsersAdded n xs users marks users_now marks_now → UsersAdded n ys users_now marks_now users_later marks_later → UsersAdded n (xs ++ ys) users marks users_later marks_later
added_append {n} {xs} {ys} {users} {marks} s t = record {
  users-long = t.users-long ∙ s.users-long;
  marks_cleared = stored_append s.marks_cleared t.marks_cleared;
  users-at = λ v b.
      t.users-at v b
      ∙ rw (s.users-at v b, s.marks_cleared.at v, has-append v xs ys)
      (add_again (has v xs) (has v ys) (get_or marks v 0) (get_or users v 0));
}

-- ---- what was asked for all holds for the rest

-- a node that is not marked now was not passed
pub can-drop_rest : {n : ℕ} {xs users marks users_now marks_now : List ℕ} (ys : List ℕ) → CanDrop n (xs ++ ys) users marks → Dropped n xs users marks users_now marks_now → CanDrop n ys users_now marks_now
can-drop_rest {n} {xs} {users} {marks} {users_now} {marks_now} ys can s v b among z =
    by_test (has v xs)
    (λ q.
    let one : get_or marks_now v 0 ≡ 1 = rw q at (s.marks_set.at v) in
    absurd (omega arith))
    (λ q.
    let same : get_or marks_now v 0 ≡ get_or marks v 0 = rw q at (s.marks_set.at v) in
    let kept : get_or users_now v 0 ≡ get_or users v 0 - 0 = rw q at (s.users-at v b) in
    omega (arith, can v b (has_append_right v xs ys among) (sym same ∙ z)))

pub can-drop-left : {n : ℕ} (users marks xs ys : List ℕ) → CanDrop n (xs ++ ys) users marks → CanDrop n xs users marks
can-drop-left users marks xs ys can v b among z = can v b (has_append_left v xs ys among) z

-- a node that is marked now was not passed
pub can-add_rest : {n : ℕ} {xs users marks users_now marks_now : List ℕ} → CanAddMarked n users marks → UsersAdded n xs users marks users_now marks_now → CanAddMarked n users_now marks_now
can-add_rest {n} {xs} {users} {marks} {users_now} {marks_now} can s v b o =
    by_test (has v xs)
    (λ q.
    let gone : get_or marks_now v 0 ≡ 0 = rw q at (s.marks_cleared.at v) in
    absurd (omega arith))
    (λ q.
    let same : get_or marks_now v 0 ≡ get_or marks v 0 = rw q at (s.marks_cleared.at v) in
    let kept : get_or users_now v 0 ≡ get_or users v 0 + 0 = rw q at (s.users-at v b) in
    omega (arith, can v b (sym same ∙ o)))

-- a node that is not marked when it is reached has a user
pub node-can-drop :
    {from to k n : ℕ} {log users marks users_now marks_now : List ℕ} → k < to → CanDrop n (slice from to log) users marks → AllBelow n (slice from to log)
    → Between from to k log → Dropped n (slice from k log) users marks users_now marks_now → get_or marks_now (get_or log k 0) 0 ≡ 0
    → 1 ≤ get_or users_now (get_or log k 0) 0
unfolding has
node-can-drop {from} {to} {k} {n} {log} {users} {marks} {users_now} {marks_now} b can all w s z =
    let parts : slice from to log ≡ slice from k log ++ slice k to log = slice_parts from to k log w.least w.short w.most in
    let rest : CanDrop n (slice k to log) users_now marks_now = can-drop_rest (slice k to log) (rw parts at can) s in
    let here : eqb (get_or log k 0) (get_or log k 0) ≡ true = eq-eqb (get_or log k 0) (get_or log k 0) refl in
    rest (get_or log k 0) (node-below b all w) (rw (slice-cons k to log 0 b w.short, here)) z
