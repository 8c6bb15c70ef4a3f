-- Laws of joined nets: the first net of a source, which sinks each net has, and that no place of table 7 is taken twice.
-- Assumes nothing.
use mathlib.Core.Bool.{true, false}
use mathlib.Core.List.{List, [], ◌++◌, map-append, append-nil, append_assoc}
use mathlib.Core.Logic.{⊎_elim, inl, inr}
use mathlib.Core.Path.{◌≡◌, refl, sym, ◌∙◌, ap}
use Prim.Native.Nat.{ℕ, zero, suc, ◌+◌, ◌-◌, ◌≤◌, ◌<◌}
use native.Mathlib.Nat.{le_refl, le_trans, le_of_suc-le-suc, not-suc-le-zero, eq-or-lt_of_le}
use native.Mathlib.Numerals.{add-one}
use native.Mathlib.Omega.{arith}
use lib.Dec.{eqb, ltb}
use lib.ListN.{length, get_or, length-append, length-map}
use lib.Seq.{take-append_seam, drop-append_seam}
use borrow.Author.Tests.{eq-eqb, ne_eqb, eqb-true}
use Rattle.price.specs.Lists.{neighbours, has, distinct, up_to, place_of}
use Rattle.price.proofs.TestLaws.{by_test, true≢false, le_or_lt}
use Rattle.price.proofs.ListLaws.{has-at, get_or_up_to}
use Rattle.price.proofs.EntryLaws.{place_of-most}
use Rattle.search.proofs.DistinctLaws.{lacks, distinct-short}
use Rattle.job.specs.Job.{Job, nets, source, net_sinks}
use Rattle.job.specs.Join.{first_of, leads, listed_places, entries_at, places_of_first, joined_places, places_before, joined}
use Rattle.negotiation.specs.JoinSteps.{Joinable, listed_count}
use Rattle.negotiation.proofs.MemberLaws.{has-append_split, no_entry, distinct_append}
use Rattle.negotiation.proofs.TakingLaws.{from_within, from_distinct, length_from, taking_split, taking-once, entries-distinct, taking_covers, taking-rises}

-- ---- the first net of a source

-- no net before a first net has its source
pub none_before : (j : Job) (i : ℕ) → i < nets j → leads j.sources i ≡ true → (k : ℕ) → k ≤ i → places_of_first j i k ≡ []
unfolding places_of_first leads first_of
none_before j i h q zero l = refl
none_before j i h q (suc k) l =
    let other : source j k ≡ source j i → ⊥ =
    λ e.
    let first : place_of (source j i) j.sources ≡ i = eqb-true (place_of (source j i) j.sources) i q in
    let most = place_of-most (source j i) j.sources k (omega arith) e in
    omega arith in
    rw (ne_eqb (source j k) (source j i) other) (none_before j i h q k (omega arith))

-- ---- the sinks of a joined net

-- the places of the first nets are a beginning of all
pub before_more : (j : Job) (k n : ℕ) → k ≤ n → (later : List ℕ) × (places_before j n ≡ places_before j k ++ later)
unfolding places_before
before_more j k zero h = let e : k ≡ 0 = omega arith in ([], rw e)
before_more j k (suc n) h =
    ⊎_elim
    (λ (e : k ≡ suc n). ([], rw e (sym (append-nil (places_before j (suc n))))))
    (λ (l : k < suc n).
    let m = before_more j k n (le_of_suc-le-suc l) in
    (m.0 ++ joined_places j n, rw m.1 (append_assoc (places_before j k) m.0 (joined_places j n))))
    (eq-or-lt_of_le h)

pub joined-sinks : (j : Job) (i : ℕ) → i < nets j → net_sinks (joined j) i ≡ entries_at j.sinks (joined_places j i)
unfolding net_sinks places_before
joined-sinks j i h =
    let count : (ℕ → ℕ) = λ k. length (places_before j k) in
    let m = before_more j (suc i) (nets j) h in
    let here : get_or (up_to count (nets j + 1)) i 0 ≡ count i = get_or_up_to count (nets j + 1) i 0 (omega arith) in
    let next : get_or (up_to count (nets j + 1)) (i + 1) 0 ≡ count (i + 1) = get_or_up_to count (nets j + 1) (i + 1) 0 (omega arith) in
    let at : (List ℕ → List ℕ) = entries_at j.sinks in
    let all : at (places_before j (nets j)) ≡ (at (places_before j i) ++ at (joined_places j i)) ++ at m.0 =
    ap at m.1 ∙ rw (map-append (λ p. get_or j.sinks p 0) (places_before j i ++ joined_places j i) m.0, map-append (λ p. get_or j.sinks p 0) (places_before j i) (joined_places j i)) in
    let low : count i ≡ length (at (places_before j i)) = sym (length-map (places_before j i) (λ p. get_or j.sinks p 0)) in
    let more : count (i + 1) ≡ count i + length (joined_places j i) = rw add-one (length-append (places_before j i) (joined_places j i)) in
    let both_long : length (at (places_before j i) ++ at (joined_places j i)) ≡ length (at (places_before j i)) + length (at (joined_places j i)) =
    length-append (at (places_before j i)) (at (joined_places j i)) in
    let own : length (at (joined_places j i)) ≡ length (joined_places j i) = length-map (joined_places j i) (λ p. get_or j.sinks p 0) in
    let high : count (i + 1) ≡ length (at (places_before j i) ++ at (joined_places j i)) = omega (arith, more, both_long, own, low) in
    rw (here, next, all, low, high, take-append_seam (at (places_before j i) ++ at (joined_places j i)) (at m.0))
    (drop-append_seam (at (places_before j i)) (at (joined_places j i)))

-- ---- all places

-- a net whose source is net i's lists the place
pub record ListedFor (j : Job) (i k p : ℕ) : Type 0 where
  pub net : ℕ
  pub below : net < k
  pub same : source j net ≡ source j i
  pub low : get_or j.first_sinks net 0 ≤ p
  pub high : p < get_or j.first_sinks (net + 1) 0

abbrev listed_more : {j : Job} {i k m p : ℕ} → k ≤ m → ListedFor j i k p → ListedFor j i m p
listed_more h l = record { net = l.net; below = le_trans l.below h; same = l.same; low = l.low; high = l.high }

module _ (j : Job) (tables : Joinable j.sources j.first_sinks j.sinks) where
  -- the places of net k, one whose source is net i's
  listed-own : (i k p : ℕ) → k < nets j → source j k ≡ source j i → has p (listed_places j k) ≡ true → ListedFor j i (suc k) p
  unfolding listed_places
  listed-own i k p h e t =
      let w = from_within p (get_or j.first_sinks k 0) (listed_count j.first_sinks k) t in
      let low = w.0 in
      let high = w.1 in
      record { net = k; below = le_refl (suc k); same = e; low = low; high = omega (arith, tables.order k h) }

  pub listed_for : (i k p : ℕ) → k ≤ nets j → has p (places_of_first j i k) ≡ true → ListedFor j i k p
  unfolding places_of_first
  listed_for i zero p h t = absurd (no_entry p t)
  listed_for i (suc k) p h t =
      by_test (eqb (source j k) (source j i))
      (λ q.
      ⊎_elim
      (λ (l : has p (places_of_first j i k) ≡ true). listed_more (omega arith) (listed_for i k p (omega arith) l))
      (λ (r : has p (listed_places j k) ≡ true). listed-own i k p h (eqb-true (source j k) (source j i) q) r)
      (taking_split j.sinks (places_of_first j i k) (listed_places j k) p (rw q at t)))
      (λ q. listed_more (omega arith) (listed_for i k p (omega arith) (rw q at t)))

  -- table 6 never falls
  rises : (a d : ℕ) → a + d ≤ nets j → get_or j.first_sinks a 0 ≤ get_or j.first_sinks (a + d) 0
  rises a zero h = let e : a + 0 ≡ a = omega arith in rw e (le_refl (get_or j.first_sinks a 0))
  rises a (suc d) h = le_trans (rises a d (omega arith)) (rw same (tables.order (a + d) (omega arith)))
    where
      same : a + suc d ≡ a + d + 1
      same = omega arith

  -- a later net does not list a place
  not_later : (a b p : ℕ) → a < b → b < nets j → p < get_or j.first_sinks (a + 1) 0 → get_or j.first_sinks b 0 ≤ p → ⊥
  not_later a b p l h low high =
      let e : a + 1 + (b - (a + 1)) ≡ b = omega arith in
      let r : get_or j.first_sinks (a + 1) 0 ≤ get_or j.first_sinks b 0 = rw e at (rises (a + 1) (b - (a + 1)) (omega arith)) in
      omega arith

  -- so one net alone does
  one_net : {a b p : ℕ} (l : ListedFor j a (nets j) p) (m : ListedFor j b (nets j) p) → l.net ≡ m.net
  one_net {a} {b} {p} l m =
      ⊎_elim
      (λ (x : l.net ≤ m.net).
      ⊎_elim (λ y. y) (λ y. absurd (not_later l.net m.net p y m.below l.high m.low)) (eq-or-lt_of_le x))
      (λ (x : m.net < l.net). absurd (not_later m.net l.net p x l.below m.high l.low))
      (le_or_lt l.net m.net)

  listed_below : {i p : ℕ} → ListedFor j i (nets j) p → p < length j.sinks
  listed_below {i} {p} l =
      let high = l.high in
      let most = tables.end (l.net + 1) (omega (arith, l.below)) in
      omega arith

  -- the places of a source's nets rise
  pub first_rises : (i k : ℕ) → k ≤ nets j → neighbours ltb (places_of_first j i k) ≡ true
  unfolding places_of_first listed_places neighbours
  first_rises i zero h = refl
  first_rises i (suc k) h =
      by_test (eqb (source j k) (source j i))
      (λ q.
      rw q
      (taking-rises j.sinks (places_of_first j i k) (get_or j.first_sinks k 0) (listed_count j.first_sinks k) (first_rises i k (omega arith))
      (λ p t.
      let l = listed_for i k p (omega arith) t in
      let e : l.net + 1 + (k - (l.net + 1)) ≡ k = omega (arith, l.below) in
      let r : get_or j.first_sinks (l.net + 1) 0 ≤ get_or j.first_sinks k 0 = rw e at (rises (l.net + 1) (k - (l.net + 1)) (omega (arith, l.below))) in
      le_trans l.high r)))
      (λ q. rw q (first_rises i k (omega arith)))

  -- and their sinks are all there
  pub first_covers : (i k m s : ℕ) → m < k → source j m ≡ source j i → has s (entries_at j.sinks (listed_places j m)) ≡ true → has s (entries_at j.sinks (places_of_first j i k)) ≡ true
  unfolding places_of_first
  first_covers i zero m s l e h = absurd (not-suc-le-zero l)
  first_covers i (suc k) m s l e h =
      ⊎_elim
      (λ (o : m ≡ k).
      rw (eq-eqb (source j k) (source j i) (sym (ap (source j) o) ∙ e))
      (taking_covers j.sinks (places_of_first j i k) (listed_places j k) s (inr (rw o at h))))
      (λ (o : m < k).
      let old : has s (entries_at j.sinks (places_of_first j i k)) ≡ true = first_covers i k m s o e h in
      by_test (eqb (source j k) (source j i))
      (λ q. rw q (taking_covers j.sinks (places_of_first j i k) (listed_places j k) s (inl old)))
      (λ q. rw q old))
      (eq-or-lt_of_le (le_of_suc-le-suc l))

  -- ---- no place twice

  pub first_once : (i k : ℕ) → distinct (entries_at j.sinks (places_of_first j i k)) ≡ true
  unfolding places_of_first distinct
  first_once i zero = refl
  first_once i (suc k) =
      by_test (eqb (source j k) (source j i))
      (λ q. rw q (taking-once j.sinks (places_of_first j i k) (listed_places j k) (first_once i k)))
      (λ q. rw q (first_once i k))

  first_distinct : (i k : ℕ) → distinct (places_of_first j i k) ≡ true
  first_distinct i k = entries-distinct j.sinks (places_of_first j i k) (first_once i k)

  -- a joined net's place is listed for it, and it leads
  pub joined_for : (i p : ℕ) → has p (joined_places j i) ≡ true → (leads j.sources i ≡ true) × ListedFor j i (nets j) p
  unfolding joined_places
  joined_for i p h =
      by_test (leads j.sources i)
      (λ q. (q, listed_for i (nets j) p (le_refl (nets j)) (rw q at h)))
      (λ q. absurd (no_entry p (rw q at h)))

  -- two nets of one source that lead are one
  one_leads : (a b : ℕ) → leads j.sources a ≡ true → leads j.sources b ≡ true → source j a ≡ source j b → a ≡ b
  unfolding leads first_of
  one_leads a b p q e = sym (eqb-true (place_of (source j a) j.sources) a p) ∙ ap (λ (x : ℕ). place_of x j.sources) e ∙ eqb-true (place_of (source j b) j.sources) b q

  record BeforeFor (k p : ℕ) : Type 0 where
    net : ℕ
    below : net < k
    has_it : has p (joined_places j net) ≡ true

  before_for : (k p : ℕ) → has p (places_before j k) ≡ true → BeforeFor k p
  unfolding places_before
  before_for zero p h = absurd (no_entry p h)
  before_for (suc k) p h =
      ⊎_elim
      (λ (l : has p (places_before j k) ≡ true). let b = before_for k p l in record { net = b.net; below = omega (arith, b.below); has_it = b.has_it })
      (λ (r : has p (joined_places j k) ≡ true). record { net = k; below = le_refl (suc k); has_it = r })
      (has-append_split p (places_before j k) (joined_places j k) h)

  joined-distinct : (i : ℕ) → distinct (joined_places j i) ≡ true
  unfolding joined_places distinct
  joined-distinct i =
      by_test (leads j.sources i)
      (λ q. rw q (first_distinct i (nets j)))
      (λ q. rw q)

  -- no earlier net has a place that is listed for a net that leads
  apart : (i p : ℕ) → leads j.sources i ≡ true → ListedFor j i (nets j) p → has p (places_before j i) ≡ false
  apart i p q l =
      lacks p (places_before j i)
      (λ b.
      let e = before_for i p b in
      let m = joined_for e.net p e.has_it in
      let z : i ≡ e.net = one_leads i e.net q m.0 (sym l.same ∙ ap (source j) (one_net l m.1) ∙ m.1.same) in
      omega (arith, e.below))

  before_distinct : (k : ℕ) → distinct (places_before j k) ≡ true
  unfolding places_before distinct
  before_distinct zero = refl
  before_distinct (suc k) =
      distinct_append (places_before j k) (joined_places j k) (before_distinct k) (joined-distinct k)
      (λ v h. let l = joined_for k v h in apart k v l.0 l.1)

  pub before_below : (k p : ℕ) → has p (places_before j k) ≡ true → p < length j.sinks
  before_below k p h = let b = before_for k p h in listed_below (joined_for b.net p b.has_it).1

  -- so many places there are at most
  short : (ps : List ℕ) → distinct ps ≡ true → ((p : ℕ) → has p ps ≡ true → p < length j.sinks) → length ps ≤ length j.sinks
  short ps d all = distinct-short (length j.sinks) ps d (λ i h. all (get_or ps i 0) (has-at ps i h))

  -- no more than table 7 has entries
  pub places-few : (k : ℕ) → length (places_before j k) ≤ length j.sinks
  places-few k = short (places_before j k) (before_distinct k) (before_below k)

  -- even with those that a net is about to take
  module _ (i k : ℕ) (lead : leads j.sources i ≡ true) (h : k < nets j) (e : source j k ≡ source j i) where
    taken-distinct : distinct (places_before j i ++ places_of_first j i k) ≡ true
    taken-distinct =
        distinct_append (places_before j i) (places_of_first j i k) (before_distinct i) (first_distinct i k)
        (λ v t. apart i v lead (listed_more (omega arith) (listed_for i k v (omega arith) t)))

    next-distinct : distinct ((places_before j i ++ places_of_first j i k) ++ listed_places j k) ≡ true
    unfolding listed_places listed-own
    next-distinct =
        distinct_append (places_before j i ++ places_of_first j i k) (listed_places j k) taken-distinct
        (from_distinct (get_or j.first_sinks k 0) (listed_count j.first_sinks k))
        (λ v t.
        let own : ListedFor j i (nets j) v = listed_more h (listed-own i k v h e t) in
        lacks v (places_before j i ++ places_of_first j i k)
        (λ m.
        ⊎_elim
        (λ (l : has v (places_before j i) ≡ true). true≢false (sym l ∙ apart i v lead own))
        (λ (r : has v (places_of_first j i k) ≡ true).
        let old = listed_for i k v (omega arith) r in
        let z : k ≡ old.net = one_net own (listed_more (omega arith) old) in
        omega (arith, old.below))
        (has-append_split v (places_before j i) (places_of_first j i k) m)))

    pub taking-room : length (places_before j i) + length (places_of_first j i k) + listed_count j.first_sinks k ≤ length j.sinks
    unfolding listed_places
    taking-room =
        let all = short ((places_before j i ++ places_of_first j i k) ++ listed_places j k) next-distinct
        (λ p m.
        ⊎_elim
        (λ (a : has p (places_before j i ++ places_of_first j i k) ≡ true).
        ⊎_elim
        (before_below i p)
        (λ (r : has p (places_of_first j i k) ≡ true). listed_below (listed_more (omega arith) (listed_for i k p (omega arith) r)))
        (has-append_split p (places_before j i) (places_of_first j i k) a))
        (λ (b : has p (listed_places j k) ≡ true). listed_below (listed_more h (listed-own i k p h e b)))
        (has-append_split p (places_before j i ++ places_of_first j i k) (listed_places j k) m)) in
        rw (length-append, length-append, length_from) at all
