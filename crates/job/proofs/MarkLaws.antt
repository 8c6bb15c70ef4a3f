-- Nodes that are passed one after the other, and marked: what one node does, and two lists after each other do what their join does.
--     below_left, below_right, below_at         nodes of a part
--     slice-more, slice_parts                   the part of a list that was passed
--     stored_none, -one, -append                entries that are set to a number
--     Between, between_none, -more, -all        the loops that go from node to node
--     node-below, passed_more                   the node that such a loop reaches
-- Assumes nothing.
use mathlib.Core.Bool.{Bool, true, false}
use mathlib.Core.List.{List, [], ◌∷◌, ◌++◌}
use mathlib.Core.Path.{◌≡◌, refl, ◌∙◌, subst}
use Prim.Native.Nat.{ℕ, ◌+◌, ◌-◌, ◌≤◌, ◌<◌}
use native.Mathlib.Numerals.{add-one}
use native.Mathlib.Omega.{arith}
use lib.Dec.{eqb}
use lib.ListN.{length, get_or, set, take, drop, length-append, length-set, take-append-drop, get_or-append}
use lib.Seq.{length-take-le, take-suc, drop-append-le, take-take, get_or-append-add, get_or-set_same, get_or-set_other, get_or-take, get_or-drop, slice, length-slice}
use borrow.Author.Tests.{eqb-true, eqb-false}
use Rattle.price.specs.Test.{choose, either}
use Rattle.price.specs.Lists.{has}
use Rattle.price.proofs.TestLaws.{by_test}
use Rattle.price.proofs.ListLaws.{has-append}
use Rattle.job.specs.Steps.{AllBelow, Stored}

-- ---- nodes of a part

pub below_left : {n : ℕ} (xs ys : List ℕ) → AllBelow n (xs ++ ys) → AllBelow n xs
below_left {n} xs ys all i l =
    subst (λ (m : ℕ). m < n) (get_or-append xs ys 0 i l) (all i (rw length-append (omega arith)))

pub below_right : {n : ℕ} (xs ys : List ℕ) → AllBelow n (xs ++ ys) → AllBelow n ys
below_right {n} xs ys all i l =
    subst (λ (m : ℕ). m < n) (get_or-append-add xs ys i 0) (all (length xs + i) (rw length-append (omega arith)))

module _ (from to k : ℕ) (log : List ℕ) (l : from ≤ k) (h : to ≤ length log) where
  pub below_at : {n : ℕ} → AllBelow n (slice from to log) → k < to → get_or log k 0 < n
  below_at {n} all b =
      let inside : k - from < length (slice from to log) = rw (length-slice from to log h) (omega arith) in
      let place : from + (k - from) ≡ k = omega arith in
      let e : get_or (slice from to log) (k - from) 0 ≡ get_or log k 0 = get_or-drop from (take to log) (k - from) 0 ∙ rw place (get_or-take to log k 0 b) in
      subst (λ (m : ℕ). m < n) e (all (k - from) inside)

  -- one node more is passed
  pub slice-more : k < to → slice from (k + 1) log ≡ slice from k log ++ (get_or log k 0 ∷ [])
  slice-more b =
      let long : length (take k log) ≡ k = length-take-le k log (omega arith) in
      rw (add-one, take-suc log k 0 (omega arith)) (drop-append-le from (take k log) (get_or log k 0 ∷ []) (omega arith))

  -- and the part that is left
  pub slice_parts : k ≤ to → slice from to log ≡ slice from k log ++ slice k to log
  slice_parts b =
      let short : take k (take to log) ≡ take k log = take-take k to log b in
      let long : length (take k log) ≡ k = length-take-le k log (omega arith) in
      subst (λ (xs : List ℕ). drop from xs ≡ slice from k log ++ slice k to log) (take-append-drop k (take to log))
      (rw short (drop-append-le from (take k log) (drop k (take to log)) (omega arith)))

-- ---- entries that are set to a number

choose_again : (s t : Bool) (a m : ℕ) → choose t a (choose s a m) ≡ choose (either s t) a m
choose_again true true a m = refl
choose_again true false a m = refl
choose_again false t a m = refl

pub stored_none : (a : ℕ) (old : List ℕ) → Stored a [] old old
unfolding has
stored_none a old = record { long = refl; at = λ v. refl }

pub stored_one : (a y : ℕ) (old : List ℕ) → y < length old → Stored a (y ∷ []) old (set old y a)
unfolding has
stored_one a y old l = record {
  long = length-set old y a;
  at = λ v.
      by_test (eqb v y)
      (λ q. let e : v ≡ y = eqb-true v y q in rw (q, e) (get_or-set_same old y a 0 l))
      (λ q. rw q (get_or-set_other old y v a 0 (eqb-false v y q)));
}

pub stored_append : {a : ℕ} {xs ys old now later : List ℕ} → Stored a xs old now → Stored a ys now later → Stored a (xs ++ ys) old later
stored_append {a} {xs} {ys} {old} s t = record {
  long = t.long ∙ s.long;
  at = λ v. t.at v ∙ rw (s.at v, has-append v xs ys) (choose_again (has v xs) (has v ys) a (get_or old v 0));
}

-- ---- the loops over the nodes from `from` to below `to`, of which those below k are passed

-- where the loop is
pub record Between (from to k : ℕ) (log : List ℕ) : Type 0 where
  pub least : from ≤ k
  pub most : k ≤ to
  pub short : to ≤ length log

pub between_none : (from to : ℕ) (log : List ℕ) → from ≤ to → to ≤ length log → Between from to from log
between_none from to log l h = record { least = omega arith; most = l; short = h }

pub between_more : {from to k : ℕ} {log : List ℕ} → k < to → Between from to k log → Between from to (k + 1) log
between_more b w = record { least = omega (arith, w.least); most = omega arith; short = w.short }

pub node-below : {from to k n : ℕ} {log : List ℕ} → k < to → AllBelow n (slice from to log) → Between from to k log → get_or log k 0 < n
node-below {from} {to} {k} {n} {log} b all w = below_at from to k log w.least w.short all b

-- at the end all are passed
pub between-all : {from to k : ℕ} {log : List ℕ} → to ≤ k → Between from to k log → k ≡ to
between-all l w = omega (arith, w.most)

-- one node more is passed
pub passed_more : {from to k : ℕ} {log : List ℕ} → k < to → Between from to k log → slice from (k + 1) log ≡ slice from k log ++ (get_or log k 0 ∷ [])
passed_more {from} {to} {k} {log} b w = slice-more from to k log w.least w.short b
