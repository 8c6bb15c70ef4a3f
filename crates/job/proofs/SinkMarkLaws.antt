-- How a pass that marks the sinks of a net decides their rule, and leaves no mark.
--     stored-, Marking, marking-                    marks of a net's sinks
--     free-, unmarked-                              the sinks of a net
-- Assumes nothing.
use mathlib.Core.Bool.{true, false, not}
use mathlib.Core.List.{List, [], ◌∷◌, ◌++◌}
use mathlib.Core.Path.{◌≡◌, refl, sym, ◌∙◌}
use Prim.Native.Nat.{ℕ, zero, suc, ◌+◌, ◌≤◌, ◌<◌}
use native.Mathlib.Nat.{not-suc-le-zero, le_of_suc-le-suc}
use native.Mathlib.Numerals.{add-one}
use native.Mathlib.Omega.{arith}
use lib.Dec.{ltb, eqb}
use lib.ListN.{length, get_or, set, take, length-set, replicate}
use lib.Seq.{take_all, take-suc, get_or-set_same, get_or-set_other}
use borrow.Author.Count.{below_none, below_more}
use borrow.Author.Tests.{lt-ltb, le-ltb, eq-eqb, ne_eqb, eqb-true, eqb-false, ltb-true}
use Rattle.price.specs.Test.{choose, either}
use Rattle.price.specs.Lists.{every, has, distinct}
use Rattle.price.proofs.TestLaws.{by_test, true≢false, both_true, both_left, both_false_left, both_false_right, either_false}
use Rattle.price.proofs.ListLaws.{every-all, every-none, every-at, has-at}
use Rattle.search.proofs.DistinctLaws.{has_first, has_rest, lacks, distinct_cons, distinct_first, distinct_rest}
use Rattle.job.specs.Tables.{net_sound}
use Rattle.job.specs.Steps.{Stored, sinks_free}
use Rattle.job.proofs.MarkLaws.{stored_none, stored_one, stored_append}

-- ---- the first entries of a list

has_last : (v : ℕ) (xs : List ℕ) (x : ℕ) → has v (xs ++ (x ∷ [])) ≡ either (has v xs) (eqb v x)
unfolding has
has_last v [] x = either_false (eqb v x)
has_last v (y ∷ ys) x =
    by_test (eqb v y) (λ q. rw q) (λ q. rw q (has_last v ys x))

distinct-last : (xs : List ℕ) (x : ℕ) → distinct xs ≡ true → has x xs ≡ false → distinct (xs ++ (x ∷ [])) ≡ true
unfolding distinct has
distinct-last [] x d h = refl
distinct-last (y ∷ ys) x d h =
    let other : y ≡ x → ⊥ = λ (e : y ≡ x). true≢false (sym (has_first x ys) ∙ (rw e at h)) in
    distinct_cons y (ys ++ (x ∷ []))
    (has_last y ys x ∙ rw (distinct_first y ys d, ne_eqb y x other))
    (distinct-last ys x (distinct_rest y ys d) (lacks x ys (λ m. true≢false (sym (has_rest x y ys m) ∙ h))))

distinct-next : (xs : List ℕ) (i : ℕ) → i < length xs → distinct (take i xs) ≡ true → has (get_or xs i 0) (take i xs) ≡ false → distinct (take (i + 1) xs) ≡ true
distinct-next xs i h d new = rw (add-one, take-suc xs i 0 h) (distinct-last (take i xs) (get_or xs i 0) d new)

-- an entry that stood before stands twice
distinct_none : (xs : List ℕ) (i : ℕ) → i < length xs → has (get_or xs i 0) (take i xs) ≡ true → distinct xs ≡ false
unfolding distinct has
distinct_none [] i h e = absurd (not-suc-le-zero h)
distinct_none (x ∷ xs) zero h e = absurd (true≢false (sym e))
distinct_none (x ∷ xs) (suc i) h e =
    by_test (eqb (get_or xs i 0) x)
    (λ q.
    let same : get_or xs i 0 ≡ x = eqb-true (get_or xs i 0) x q in
    let again : has x xs ≡ true = rw same at (has-at xs i (le_of_suc-le-suc h)) in
    rw again)
    (λ q.
    both_false_right (not (has x xs)) (distinct xs) (distinct_none xs i (le_of_suc-le-suc h) (rw q at e)))

-- ---- marks stored at places

pub stored_more :
    {a : ℕ} {old new : List ℕ} (xs : List ℕ) (i : ℕ) → i < length xs → get_or xs i 0 < length old → Stored a (take i xs) old new
    → Stored a (take (i + 1) xs) old (set new (get_or xs i 0) a)
stored_more {a} {old} {new} xs i h l s =
    let long : length new ≡ length old = s.long in
    rw (add-one, take-suc xs i 0 h) (stored_append s (stored_one a (get_or xs i 0) new (omega arith)))

pub stored_all : {a : ℕ} {xs old new : List ℕ} (i : ℕ) → length xs ≤ i → Stored a (take i xs) old new → Stored a xs old new
stored_all {xs = xs} i end s = rw (take_all i xs end) at s

-- ---- the pass that marks the sinks of a net

-- the sinks below place i are nodes, differ, were not marked, and now are
pub record Marking (n : ℕ) (sinks old new : List ℕ) (i : ℕ) : Type 0 where
  pub stored : Stored 1 (take i sinks) old new
  pub node : (k : ℕ) → k < i → get_or sinks k 0 < n
  pub free : (k : ℕ) → k < i → get_or old (get_or sinks k 0) 0 ≡ 0
  pub apart : distinct (take i sinks) ≡ true

pub marking_none : (n : ℕ) (sinks old : List ℕ) → Marking n sinks old old 0
unfolding distinct
marking_none n sinks old =
    record { stored = stored_none 1 old; node = below_none _; free = below_none _; apart = refl }

-- at the next sink
module _ {n : ℕ} {sinks old new : List ℕ} {i : ℕ} (m : Marking n sinks old new i) where
  -- its mark says whether it was passed, or marked before
  here : get_or new (get_or sinks i 0) 0 ≡ choose (has (get_or sinks i 0) (take i sinks)) 1 (get_or old (get_or sinks i 0) 0)
  here = m.stored.at (get_or sinks i 0)

  pub marking_more : i < length sinks → n ≤ length old → get_or sinks i 0 < n → get_or new (get_or sinks i 0) 0 ≡ 0 → Marking n sinks old (set new (get_or sinks i 0) 1) (i + 1)
  marking_more h few node none =
      let new-one : has (get_or sinks i 0) (take i sinks) ≡ false =
      by_test (has (get_or sinks i 0) (take i sinks))
      (λ q.
      let one : get_or new (get_or sinks i 0) 0 ≡ 1 = rw q at here in
      absurd (omega arith))
      (λ q. q) in
      let free : get_or old (get_or sinks i 0) 0 ≡ 0 = sym (rw new-one at here) ∙ none in
      record {
        stored = stored_more sinks i h (omega arith) m.stored;
        node = below_more _ i m.node node;
        free = below_more _ i m.free free;
        apart = distinct-next sinks i h m.apart new-one;
      }

  pub marking_bad : i < length sinks → n ≤ get_or sinks i 0 → sinks_free n sinks old ≡ false
  unfolding sinks_free
  marking_bad h bad =
      both_false_left (every (λ s. ltb s n) sinks) _ (every-none (λ s. ltb s n) sinks i h (le-ltb (get_or sinks i 0) n bad))

  pub marking_twice : i < length sinks → (get_or new (get_or sinks i 0) 0 ≡ 0 → ⊥) → sinks_free n sinks old ≡ false
  unfolding sinks_free
  marking_twice h some =
      both_false_right (every (λ s. ltb s n) sinks) _
      (by_test (has (get_or sinks i 0) (take i sinks))
      (λ q.
      both_false_left (distinct sinks) _ (distinct_none sinks i h q))
      (λ q.
      let marked : get_or old (get_or sinks i 0) 0 ≡ 0 → ⊥ = λ e. some (here ∙ rw q e) in
      both_false_right (distinct sinks) _
      (every-none (λ s. eqb (get_or old s 0) 0) sinks i h (ne_eqb (get_or old (get_or sinks i 0) 0) 0 marked))))

  pub marking_free : length sinks ≤ i → sinks_free n sinks old ≡ true
  unfolding sinks_free
  marking_free end =
      both_true
      (every-all (λ s. ltb s n) sinks (λ k l. lt-ltb (get_or sinks k 0) n (m.node k (omega arith))))
      (both_true (rw (take_all i sinks end) at m.apart)
      (every-all (λ s. eqb (get_or old s 0) 0) sinks (λ k l. eq-eqb (get_or old (get_or sinks k 0) 0) 0 (m.free k (omega arith)))))

-- ---- the sinks of a net

-- no place is marked
abbrev pub Unmarked : List ℕ → Type 0
Unmarked marks = (v : ℕ) → get_or marks v 0 ≡ 0

unmarked_sinks : (marks : List ℕ) (from : ℕ) (sinks : List ℕ) → Unmarked marks → from < length marks → every (λ s. eqb (get_or (set marks from 1) s 0) 0) sinks ≡ not (has from sinks)
unfolding every has
unmarked_sinks marks from [] none h = refl
unmarked_sinks marks from (x ∷ xs) none h =
    by_test (eqb from x)
    (λ q.
    rw (q, ← eqb-true from x q, get_or-set_same marks from 1 0 h))
    (λ q.
    let other : x ≡ from → ⊥ = λ e. eqb-false from x q (sym e) in
    rw (q, get_or-set_other marks from x 1 0 other, none x) (unmarked_sinks marks from xs none h))

-- where only the source was marked, the sinks are sound if they are free
pub free_source : (n from : ℕ) (sinks marks : List ℕ) → Unmarked marks → from < length marks → sinks_free n sinks (set marks from 1) ≡ net_sound n from sinks
unfolding sinks_free net_sound
free_source n from sinks marks none h = rw (unmarked_sinks marks from sinks none h)

pub free-below : (n : ℕ) (sinks marks : List ℕ) → sinks_free n sinks marks ≡ true → (k : ℕ) → k < length sinks → get_or sinks k 0 < n
unfolding sinks_free
free-below n sinks marks e k l = ltb-true _ _ (every-at (λ s. ltb s n) sinks (both_left _ _ e) k l)

-- marks of the source and of the sinks that are set and then cleared leave none
module _ {sinks marked : List ℕ} (marks : List ℕ) (from : ℕ) (none : Unmarked marks) (h : from < length marks) where
  -- a place that is neither the source nor a sink was never marked
  never_marked : Stored 1 sinks (set marks from 1) marked → (v : ℕ) → (v ≡ from → ⊥) → has v sinks ≡ false → get_or marked v 0 ≡ 0
  never_marked s v other q = s.at v ∙ rw (q, get_or-set_other marks from v 1 0 other) (none v)

  pub unmarked_again : {clear : List ℕ} → Stored 1 sinks (set marks from 1) marked → Stored 0 sinks marked clear → Unmarked (set clear from 0)
  unmarked_again {clear} s u v =
      let long : length clear ≡ length marks = u.long ∙ s.long ∙ length-set marks from 1 in
      by_test (eqb v from)
      (λ q. rw (eqb-true v from q) (get_or-set_same clear from 0 0 (omega arith)))
      (λ q.
      let other : v ≡ from → ⊥ = eqb-false v from q in
      get_or-set_other clear from v 0 0 other ∙ u.at v
      ∙ by_test (has v sinks)
      (λ p. rw p)
      (λ p. rw p (never_marked s v other p)))

pub unmarked_new : (n : ℕ) → Unmarked (replicate n 0)
unmarked_new zero v = refl
unmarked_new (suc n) zero = refl
unmarked_new (suc n) (suc v) = unmarked_new n v
