-- A joined net has each sink from the place that lists it first, and a timed job's criticalities from the same places.
-- Assumes nothing.
use mathlib.Core.Bool.{Bool, true, false}
use mathlib.Core.List.{List, [], ◌∷◌, ◌++◌, map-append}
use mathlib.Core.Logic.{◌⊎◌, ⊎_elim, inl, inr}
use mathlib.Core.Path.{◌≡◌, refl, sym, ◌∙◌, ap, subst}
use Prim.Native.Nat.{ℕ, zero, suc, ◌+◌, ◌-◌, ◌≤◌, ◌<◌}
use native.Mathlib.Nat.{le_refl, eq-or-lt_of_le, le_of_suc-le-suc}
use native.Mathlib.Numerals.{add-one}
use native.Mathlib.Omega.{arith}
use lib.Dec.{eqb}
use lib.ListN.{length, get_or, length-append, length-map}
use lib.Seq.{take-append_seam, drop-append_seam}
use borrow.Author.Tests.{eq-eqb}
use Rattle.price.specs.Test.{choose}
use Rattle.price.specs.Lists.{has, up_to}
use Rattle.price.proofs.TestLaws.{by_test, either_true, true≢false}
use Rattle.price.proofs.ListLaws.{get_or_up_to}
use Rattle.search.proofs.DistinctLaws.{has_cons}
use Rattle.job.specs.Job.{Job, nets, source, sinks_between, net_criticalities}
use Rattle.job.specs.Join.{leads, places_from, listed_places, entries_at, taking, places_of_first, joined_places, places_before, joined}
use Rattle.negotiation.specs.JoinSteps.{Joinable, listed_count}
use Rattle.negotiation.proofs.MemberLaws.{has-append_split, no_entry}
use Rattle.negotiation.proofs.TakingLaws.{from_within, taking_split, entries-more}
use Rattle.negotiation.proofs.JoinLaws.{before_more}

-- ---- places taken in turn

-- of the places seen so far, those taken have every sink, each from the place that is first
record Firsts (sinks : List ℕ) (seen : ℕ → Type 0) (taken : List ℕ) : Type 0 where
  covered : (p : ℕ) → seen p → has (get_or sinks p 0) (entries_at sinks taken) ≡ true
  first : (p q : ℕ) → seen p → has q taken ≡ true → get_or sinks p 0 ≡ get_or sinks q 0 → q ≤ p

-- fewer places seen
firsts_of_lem : {sinks : List ℕ} {some all : ℕ → Type 0} {taken : List ℕ} → ((p : ℕ) → some p → all p) → Firsts sinks all taken → Firsts sinks some taken
firsts_of_lem within f = record { covered = λ p h. f.covered p (within p h); first = λ p q h. f.first p q (within p h) }

-- the place that comes next
module _ (sinks : List ℕ) (seen : ℕ → Type 0) (taken : List ℕ) (a : ℕ) (below : (q : ℕ) → has q taken ≡ true → q < a) (f : Firsts sinks seen taken) where
  abbrev Seen : ℕ → Type 0
  Seen p = seen p ⊎ (p ≡ a)

  -- its sink stands at one that is taken
  left_out : has (get_or sinks a 0) (entries_at sinks taken) ≡ true → Firsts sinks Seen taken
  left_out t =
      record {
        covered = λ p h. ⊎_elim (f.covered p) (λ (e : p ≡ a). rw e t) h;
        first = λ p q h m s. ⊎_elim (λ old. f.first p q old m s) (λ (e : p ≡ a). let low = below q m in omega arith) h;
      }

  -- or it is taken
  taken-last : (q : ℕ) → has q (taken ++ (a ∷ [])) ≡ true → (has q taken ≡ true) ⊎ (q ≡ a)
  taken-last q m =
      ⊎_elim inl (λ (r : has q (a ∷ []) ≡ true). ⊎_elim inr (λ z. absurd (no_entry q z)) (has_cons q a [] r)) (has-append_split q taken (a ∷ []) m)

  taken_too : has (get_or sinks a 0) (entries_at sinks taken) ≡ false → Firsts sinks Seen (taken ++ (a ∷ []))
  taken_too t =
      record {
        covered = λ p h.
            ⊎_elim
            (λ old. rw (entries-more sinks taken a (get_or sinks p 0), f.covered p old))
            (λ (e : p ≡ a).
            rw (e, entries-more sinks taken a (get_or sinks a 0), eq-eqb (get_or sinks a 0) (get_or sinks a 0) refl)
            (either_true (has (get_or sinks a 0) (entries_at sinks taken))))
            h;
        first = λ p q h m s.
            ⊎_elim
            (λ (old : has q taken ≡ true).
            ⊎_elim (λ here. f.first p q here old s) (λ (e : p ≡ a). let low = below q old in omega arith) h)
            (λ (e : q ≡ a).
            ⊎_elim
            (λ here. absurd (true≢false (sym (f.covered p here) ∙ rw (s, e) t)))
            (λ (g : p ≡ a). omega arith)
            h)
            (taken-last q m);
      }

  below_next : (q : ℕ) → has q (taken ++ (a ∷ [])) ≡ true → q < suc a
  below_next q m = ⊎_elim (λ old. let low = below q old in omega arith) (λ (e : q ≡ a). omega arith) (taken-last q m)

-- so many from a place on
taking-firsts :
    (sinks : List ℕ) (seen : ℕ → Type 0) (taken : List ℕ) (a n : ℕ) → ((q : ℕ) → has q taken ≡ true → q < a) → Firsts sinks seen taken
    → Firsts sinks (λ p. seen p ⊎ (has p (places_from a n) ≡ true)) (taking sinks taken (places_from a n))
unfolding taking places_from
taking-firsts sinks seen taken a zero below f = firsts_of_lem (λ p h. ⊎_elim (λ old. old) (λ m. absurd (no_entry p m)) h) f
taking-firsts sinks seen taken a (suc n) below f =
    by_test (has (get_or sinks a 0) (entries_at sinks taken))
    (λ t.
    subst goes (sym t) (firsts_of_lem later (taking-firsts sinks (Seen sinks seen taken a below f) taken (suc a) n (λ q m. let low = below q m in omega arith) (left_out sinks seen taken a below f t))))
    (λ t.
    subst goes (sym t)
    (firsts_of_lem later (taking-firsts sinks (Seen sinks seen taken a below f) (taken ++ (a ∷ [])) (suc a) n (below_next sinks seen taken a below f) (taken_too sinks seen taken a below f t))))
  where
    goes : Bool → Type 0
    goes known = Firsts sinks (λ p. seen p ⊎ (has p (a ∷ places_from (suc a) n) ≡ true)) (taking sinks (choose known taken (taken ++ (a ∷ []))) (places_from (suc a) n))

    later : (p : ℕ) → seen p ⊎ (has p (a ∷ places_from (suc a) n) ≡ true) → (seen p ⊎ (p ≡ a)) ⊎ (has p (places_from (suc a) n) ≡ true)
    later p h = ⊎_elim (λ old. inl (inl old)) (λ m. ⊎_elim (λ e. inl (inr e)) (λ r. inr r) (has_cons p a (places_from (suc a) n) m)) h

-- ---- a joined net

module _ (j : Job) (tables : Joinable j.sources j.first_sinks j.sinks) (i : ℕ) where
  -- one of the first k nets that has net i's source lists the place
  abbrev Listed : ℕ → ℕ → Type 0
  Listed k p = (m : ℕ) × (m < k) × (source j m ≡ source j i) × (has p (listed_places j m) ≡ true)

  -- the places of the first k nets stand before those of the next
  places-below : (k : ℕ) → k ≤ nets j → (q : ℕ) → has q (places_of_first j i k) ≡ true → q < get_or j.first_sinks k 0
  unfolding places_of_first listed_places
  places-below zero h q m = absurd (no_entry q m)
  places-below (suc k) h q m =
      let order : get_or j.first_sinks k 0 ≤ get_or j.first_sinks (suc k) 0 = rw add-one at (tables.order k h) in
      by_test (eqb (source j k) (source j i))
      (λ e.
      ⊎_elim
      (λ (old : has q (places_of_first j i k) ≡ true). let low = places-below k (omega arith) q old in omega arith)
      (λ (new : has q (listed_places j k) ≡ true).
      let high : q < get_or j.first_sinks k 0 + (get_or j.first_sinks (suc k) 0 - get_or j.first_sinks k 0) =
      rw add-one at (from_within q (get_or j.first_sinks k 0) (listed_count j.first_sinks k) new).1 in
      omega arith)
      (taking_split j.sinks (places_of_first j i k) (listed_places j k) q (rw e at m)))
      (λ e. let low = places-below k (omega arith) q (rw e at m) in omega arith)

  places-firsts : (k : ℕ) → k ≤ nets j → Firsts j.sinks (Listed k) (places_of_first j i k)
  unfolding places_of_first listed_places
  places-firsts zero h = record { covered = λ p l. let low = l.1 in absurd (omega arith); first = λ p q l. let low = l.1 in absurd (omega arith) }
  places-firsts (suc k) h =
      let old : Firsts j.sinks (Listed k) (places_of_first j i k) = places-firsts k (omega arith) in
      by_test (eqb (source j k) (source j i))
      (λ e.
      rw e
      (firsts_of_lem
      (λ p l.
      ⊎_elim
      (λ (last : l.0 ≡ k). inr (subst (λ (m : ℕ). has p (listed_places j m) ≡ true) last l.3))
      (λ (earlier : l.0 < k). inl (l.0, earlier, l.2, l.3))
      (eq-or-lt_of_le (le_of_suc-le-suc l.1)))
      (taking-firsts j.sinks (Listed k) (places_of_first j i k) (get_or j.first_sinks k 0) (listed_count j.first_sinks k) (places-below k (omega arith)) old)))
      (λ e.
      rw e
      (firsts_of_lem
      (λ p l.
      ⊎_elim
      (λ (last : l.0 ≡ k). absurd (true≢false (sym (eq-eqb (source j k) (source j i) (subst (λ (m : ℕ). source j m ≡ source j i) last l.2)) ∙ e)))
      (λ (earlier : l.0 < k). (l.0, earlier, l.2, l.3))
      (eq-or-lt_of_le (le_of_suc-le-suc l.1)))
      old))

  -- no net of the source lists the sink at an earlier place
  pub first_listed :
      (k p q : ℕ) → k < nets j → source j k ≡ source j i → has p (listed_places j k) ≡ true → has q (joined_places j i) ≡ true
      → get_or j.sinks p 0 ≡ get_or j.sinks q 0 → q ≤ p
  unfolding joined_places
  first_listed k p q h e listed m same =
      by_test (leads j.sources i)
      (λ l. (places-firsts (nets j) (le_refl (nets j))).first p q (k, h, e, listed) (rw l at m) same)
      (λ l. absurd (no_entry q (rw l at m)))

-- ---- a table by the places of the joined nets

module _ (j : Job) (table : List ℕ) (i : ℕ) (h : i < nets j) where
  abbrev at : List ℕ → List ℕ
  at = entries_at table

  abbrev count : ℕ → ℕ
  count k = length (places_before j k)

  -- net i's part of it
  joined-part : sinks_between (joined j).first_sinks (at (places_before j (nets j))) i ≡ at (joined_places j i)
  unfolding places_before
  joined-part =
      let m = before_more j (suc i) (nets j) h in
      let here : get_or (up_to count (nets j + 1)) i 0 ≡ count i = get_or_up_to count (nets j + 1) i 0 (omega arith) in
      let next : get_or (up_to count (nets j + 1)) (i + 1) 0 ≡ count (i + 1) = get_or_up_to count (nets j + 1) (i + 1) 0 (omega arith) in
      let all : at (places_before j (nets j)) ≡ (at (places_before j i) ++ at (joined_places j i)) ++ at m.0 =
      ap at m.1 ∙ rw (map-append (λ p. get_or table p 0) (places_before j i ++ joined_places j i) m.0, map-append (λ p. get_or table p 0) (places_before j i) (joined_places j i)) in
      let low : count i ≡ length (at (places_before j i)) = sym (length-map (places_before j i) (λ p. get_or table p 0)) in
      let more : count (i + 1) ≡ count i + length (joined_places j i) = rw add-one (length-append (places_before j i) (joined_places j i)) in
      let both_long : length (at (places_before j i) ++ at (joined_places j i)) ≡ length (at (places_before j i)) + length (at (joined_places j i)) =
      length-append (at (places_before j i)) (at (joined_places j i)) in
      let own : length (at (joined_places j i)) ≡ length (joined_places j i) = length-map (joined_places j i) (λ p. get_or table p 0) in
      let high : count (i + 1) ≡ length (at (places_before j i) ++ at (joined_places j i)) = omega (arith, more, both_long, own, low) in
      rw (here, next, all, low, high, take-append_seam (at (places_before j i) ++ at (joined_places j i)) (at m.0))
      (drop-append_seam (at (places_before j i)) (at (joined_places j i)))

pub joined-criticalities : (j : Job) (i : ℕ) → i < nets j → j.terms.timed ≡ true → net_criticalities (joined j) i ≡ entries_at j.criticalities (joined_places j i)
unfolding net_criticalities
joined-criticalities j i h timed =
    let here : (joined j).criticalities ≡ entries_at j.criticalities (places_before j (nets j)) = rw timed in
    ap (λ (l : List ℕ). sinks_between (joined j).first_sinks l i) here ∙ joined-part j j.criticalities i h
