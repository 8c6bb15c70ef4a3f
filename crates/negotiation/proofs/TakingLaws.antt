-- Laws of places that are taken in turn, those left out whose sink stands at one that is taken already.
-- Assumes nothing.
use mathlib.Core.Bool.{Bool, true, false}
use mathlib.Core.List.{List, [], ◌∷◌, ◌++◌, map-append}
use mathlib.Core.Logic.{◌⊎◌, ⊎_elim, inl, inr}
use mathlib.Core.Path.{◌≡◌, refl, sym, ◌∙◌, ap, subst}
use Prim.Native.Nat.{ℕ, zero, suc, ◌+◌, ◌≤◌, ◌<◌}
use native.Mathlib.Nat.{eq-or-lt_of_le}
use native.Mathlib.Omega.{arith}
use lib.Dec.{eqb, ltb}
use lib.ListN.{length, get_or}
use borrow.Author.Tests.{eq-eqb, lt-ltb}
use Rattle.price.specs.Test.{choose, either}
use Rattle.price.specs.Lists.{neighbours, has, distinct}
use Rattle.price.proofs.TestLaws.{by_test, either_true, either_false, true≢false}
use Rattle.price.proofs.ListLaws.{rises-last, has-append}
use Rattle.search.proofs.DistinctLaws.{has_cons, has_first, has_rest, lacks, distinct_cons, distinct_first, distinct_rest}
use Rattle.job.specs.Join.{places_from, entries_at, taking}
use Rattle.negotiation.proofs.MemberLaws.{has-append_split, no_entry, every_members, distinct_append}

-- ---- places from one on

pub from_within : (p a n : ℕ) → has p (places_from a n) ≡ true → (a ≤ p) × (p < a + n)
unfolding places_from
from_within p a zero h = absurd (no_entry p h)
from_within p a (suc n) h =
    ⊎_elim
    (λ (e : p ≡ a). (omega arith, omega arith))
    (λ q. let r = from_within p (suc a) n q in let low = r.0 in let high = r.1 in (omega arith, omega arith))
    (has_cons p a (places_from (suc a) n) h)

pub from_has : (p a n : ℕ) → a ≤ p → p < a + n → has p (places_from a n) ≡ true
unfolding places_from
from_has p a zero low high = absurd (let h = high in omega arith)
from_has p a (suc n) low high =
    ⊎_elim
    (λ (e : a ≡ p). rw e (has_first p (places_from (suc p) n)))
    (λ (l : a < p). has_rest p a (places_from (suc a) n) (from_has p (suc a) n l (omega arith)))
    (eq-or-lt_of_le low)

pub from_distinct : (a n : ℕ) → distinct (places_from a n) ≡ true
unfolding places_from distinct
from_distinct a zero = refl
from_distinct a (suc n) =
    distinct_cons a (places_from (suc a) n)
    (lacks a (places_from (suc a) n) (λ h. let low = (from_within a (suc a) n h).0 in omega arith))
    (from_distinct (suc a) n)

pub length_from : (a n : ℕ) → length (places_from a n) ≡ n
unfolding places_from
length_from a zero = refl
length_from a (suc n) = ap suc (length_from (suc a) n)

-- ---- which places are taken

-- a place that is taken was so before, or is one of the new ones
pub taking_split : (sinks taken ps : List ℕ) (p : ℕ) → has p (taking sinks taken ps) ≡ true → (has p taken ≡ true) ⊎ (has p ps ≡ true)
unfolding taking
taking_split sinks taken [] p h = inl h
taking_split sinks taken (q ∷ qs) p h =
    by_test (has (get_or sinks q 0) (entries_at sinks taken))
    (λ t.
    ⊎_elim (λ l. inl l) (λ r. inr (has_rest p q qs r)) (taking_split sinks taken qs p (rw t at h)))
    (λ t.
    ⊎_elim
    (λ (l : has p (taken ++ (q ∷ [])) ≡ true).
    ⊎_elim
    (λ a. inl a)
    (λ (b : has p (q ∷ []) ≡ true). ⊎_elim (λ (e : p ≡ q). inr (rw e (has_first q qs))) (λ z. absurd (no_entry p z)) (has_cons p q [] b))
    (has-append_split p taken (q ∷ []) l))
    (λ r. inr (has_rest p q qs r))
    (taking_split sinks (taken ++ (q ∷ [])) qs p (rw t at h)))

pub entry_has : (sinks ps : List ℕ) (p : ℕ) → has p ps ≡ true → has (get_or sinks p 0) (entries_at sinks ps) ≡ true
entry_has sinks [] p h = absurd (no_entry p h)
entry_has sinks (q ∷ qs) p h =
    ⊎_elim
    (λ (e : p ≡ q). rw e (has_first (get_or sinks q 0) (entries_at sinks qs)))
    (λ r. has_rest (get_or sinks p 0) (get_or sinks q 0) (entries_at sinks qs) (entry_has sinks qs p r))
    (has_cons p q qs h)

-- a sink more among the entries
pub entries-more : (sinks taken : List ℕ) (p v : ℕ) → has v (entries_at sinks (taken ++ (p ∷ []))) ≡ either (has v (entries_at sinks taken)) (eqb v (get_or sinks p 0))
unfolding has
entries-more sinks taken p v =
    ap (has v) (map-append (λ q. get_or sinks q 0) taken (p ∷ [])) ∙ has-append v (entries_at sinks taken) (get_or sinks p 0 ∷ [])
    ∙ ap (either (has v (entries_at sinks taken))) (either_false (eqb v (get_or sinks p 0)))

-- no sink twice among those taken
pub taking-once : (sinks taken ps : List ℕ) → distinct (entries_at sinks taken) ≡ true → distinct (entries_at sinks (taking sinks taken ps)) ≡ true
unfolding taking distinct has
taking-once sinks taken [] d = d
taking-once sinks taken (q ∷ qs) d =
    by_test (has (get_or sinks q 0) (entries_at sinks taken))
    (λ t. rw t (taking-once sinks taken qs d))
    (λ t. rw t (taking-once sinks (taken ++ (q ∷ [])) qs (more t)))
  where
    more : has (get_or sinks q 0) (entries_at sinks taken) ≡ false → distinct (entries_at sinks (taken ++ (q ∷ []))) ≡ true
    more t =
        rw (map-append (λ p. get_or sinks p 0) taken (q ∷ []))
        (distinct_append (entries_at sinks taken) (get_or sinks q 0 ∷ []) d refl
        (λ v h. ⊎_elim (λ (e : v ≡ get_or sinks q 0). rw e t) (λ z. absurd (no_entry v z)) (has_cons v (get_or sinks q 0) [] h)))

-- so no place twice
pub entries-distinct : (sinks ps : List ℕ) → distinct (entries_at sinks ps) ≡ true → distinct ps ≡ true
unfolding distinct
entries-distinct sinks [] d = refl
entries-distinct sinks (q ∷ qs) d =
    distinct_cons q qs
    (lacks q qs (λ h. true≢false (sym (entry_has sinks qs q h) ∙ distinct_first (get_or sinks q 0) (entries_at sinks qs) d)))
    (entries-distinct sinks qs (distinct_rest (get_or sinks q 0) (entries_at sinks qs) d))

-- every sink of the places is one of those taken, and none is lost
pub taking_covers : (sinks taken ps : List ℕ) (s : ℕ) → (has s (entries_at sinks taken) ≡ true) ⊎ (has s (entries_at sinks ps) ≡ true) → has s (entries_at sinks (taking sinks taken ps)) ≡ true
unfolding taking
taking_covers sinks taken [] s h = ⊎_elim (λ l. l) (λ z. absurd (no_entry s z)) h
taking_covers sinks taken (q ∷ qs) s h =
    by_test (has (get_or sinks q 0) (entries_at sinks taken))
    (λ t.
    rw t
    (taking_covers sinks taken qs s
    (⊎_elim
    (λ l. inl l)
    (λ r. ⊎_elim (λ (e : s ≡ get_or sinks q 0). inl (rw e t)) (λ z. inr z) (has_cons s (get_or sinks q 0) (entries_at sinks qs) r))
    h)))
    (λ t.
    rw t
    (taking_covers sinks (taken ++ (q ∷ [])) qs s
    (⊎_elim
    (λ (l : has s (entries_at sinks taken) ≡ true). inl (rw (entries-more sinks taken q s, l)))
    (λ r.
    ⊎_elim
    (λ (e : s ≡ get_or sinks q 0). inl (rw (entries-more sinks taken q s, eq-eqb s (get_or sinks q 0) e) (either_true (has s (entries_at sinks taken)))))
    (λ z. inr z)
    (has_cons s (get_or sinks q 0) (entries_at sinks qs) r))
    h)))

-- places taken in turn rise
pub taking-rises : (sinks taken : List ℕ) (a n : ℕ) → neighbours ltb taken ≡ true → ((p : ℕ) → has p taken ≡ true → p < a) → neighbours ltb (taking sinks taken (places_from a n)) ≡ true
unfolding taking places_from
taking-rises sinks taken a zero r below = r
taking-rises sinks taken a (suc n) r below =
    by_test (has (get_or sinks a 0) (entries_at sinks taken))
    (λ t.
    subst goes (sym t) (taking-rises sinks taken (suc a) n r (λ p h. let l = below p h in omega arith)))
    (λ t.
    subst goes (sym t)
    (taking-rises sinks (taken ++ (a ∷ [])) (suc a) n
    (rises-last taken a r (every_members (λ x. ltb x a) taken (λ p h. lt-ltb p a (below p h))))
    (λ p h.
    ⊎_elim
    (λ (l : has p taken ≡ true). let low = below p l in omega arith)
    (λ (m : has p (a ∷ []) ≡ true). ⊎_elim (λ (e : p ≡ a). omega arith) (λ z. absurd (no_entry p z)) (has_cons p a [] m))
    (has-append_split p taken (a ∷ []) h))))
  where
    goes : Bool → Type 0
    goes seen = neighbours ltb (taking sinks (choose seen taken (taken ++ (a ∷ []))) (places_from (suc a) n)) ≡ true
