-- Keys that never fall and the first places of their rows: each gives the other.
-- Assumes nothing.
use mathlib.Core.Bool.{true, false}
use mathlib.Core.List.{List, [], ◌∷◌, ◌++◌}
use mathlib.Core.Logic.{⊎_elim}
use mathlib.Core.Path.{◌≡◌, refl, sym, ◌∙◌}
use Prim.Native.Nat.{ℕ, zero, suc, ◌+◌, ◌-◌, ◌≤◌, ◌<◌, zero-le, suc-le-suc}
use native.Mathlib.Nat.{not-suc-le-zero, le_of_suc-le-suc, le_trans, le_refl, eq-or-lt_of_le}
use native.Mathlib.Numerals.{add-one}
use native.Mathlib.Omega.{arith}
use lib.Dec.{leb, ltb, eqb}
use lib.ListN.{length, get_or, replicate, length-append, length-replicate, get_or-replicate, get_or-append}
use lib.Seq.{ext_get_or, get_or-append-add}
use borrow.Author.Tests.{ltb-true, ltb-false, leb-true, eqb-true, lt-ltb, le-ltb, le-leb, eq-eqb}
use Rattle.price.specs.Test.{choose}
use Rattle.price.specs.Lists.{neighbours, total}
use Rattle.price.proofs.TestLaws.{by_test, both_left, both_right, le_or_lt}
use Rattle.price.proofs.ListLaws.{neighbours-all, length_up_to, get_or_up_to}
use Rattle.search.specs.Tables.{first_edges_sound}
use Rattle.search.proofs.BlockLaws.{firsts-long, firsts-end, firsts-order, firsts-most}
use Rattle.text.specs.JobText.{first_places}

-- so many of the keys are below u
abbrev pub under : ℕ → List ℕ → ℕ
under u keys = total (λ from. choose (ltb from u) 1 0) keys

-- the keys of the rows below n: u as often as its row has places
unfoldable pub keys_of : List ℕ → ℕ → List ℕ
keys_of first zero = []
keys_of first (suc n) = keys_of first n ++ replicate (get_or first (suc n) 0 - get_or first n 0) n

-- keys that never fall, each below n
pub record Keys (n : ℕ) (keys : List ℕ) : Type 0 where
  pub order : neighbours leb keys ≡ true
  pub below : (p : ℕ) → p < length keys → get_or keys p 0 < n

-- first places, and at the places of each row its key
pub record Filed (n : ℕ) (first keys : List ℕ) : Type 0 where
  pub sound : first_edges_sound n (length keys) first ≡ true
  pub key_is : (u p : ℕ) → u < n → get_or first u 0 ≤ p → p < get_or first (u + 1) 0 → get_or keys p 0 ≡ u

-- place p is one of row u
pub record InRow (n : ℕ) (first : List ℕ) (p u : ℕ) : Type 0 where
  pub node : u < n
  pub from : get_or first u 0 ≤ p
  pub to : p < get_or first (u + 1) 0

-- ---- how many keys are below a number

module _ (u : ℕ) where
  under_none : (keys : List ℕ) → ((p : ℕ) → p < length keys → u ≤ get_or keys p 0) → under u keys ≡ 0
  unfolding total
  under_none [] h = refl
  under_none (x ∷ xs) h =
      let rest : under u xs ≡ 0 = under_none xs (λ p l. h (suc p) (suc-le-suc l)) in
      rw (le-ltb x u (h 0 (suc-le-suc zero-le))) (omega arith)

  under_all : (keys : List ℕ) → ((p : ℕ) → p < length keys → get_or keys p 0 < u) → under u keys ≡ length keys
  unfolding total
  under_all [] h = refl
  under_all (x ∷ xs) h =
      let rest : under u xs ≡ length xs = under_all xs (λ p l. h (suc p) (suc-le-suc l)) in
      rw (lt-ltb x u (h 0 (suc-le-suc zero-le))) (omega arith)

  under-most : (keys : List ℕ) → under u keys ≤ length keys
  unfolding total
  under-most [] = zero-le
  under-most (x ∷ xs) =
      let rest : under u xs ≤ length xs = under-most xs in
      by_test (ltb x u) (λ q. rw q (omega arith)) (λ q. rw q (omega arith))

under_more : (u v : ℕ) → u ≤ v → (keys : List ℕ) → under u keys ≤ under v keys
unfolding total
under_more u v h [] = zero-le
under_more u v h (x ∷ xs) =
    let rest : under u xs ≤ under v xs = under_more u v h xs in
    by_test (ltb x u)
    (λ q.
    let low : x < u = ltb-true x u q in
    rw (q, lt-ltb x v (omega arith)) (omega arith))
    (λ q. rw q (omega arith))

-- ---- keys that never fall

order_rest : (x : ℕ) (xs : List ℕ) → neighbours leb (x ∷ xs) ≡ true → neighbours leb xs ≡ true
unfolding neighbours
order_rest x [] s = refl
order_rest x (y ∷ ys) s = both_right (leb x y) (neighbours leb (y ∷ ys)) s

-- none is below the first
order_least : (x : ℕ) (xs : List ℕ) → neighbours leb (x ∷ xs) ≡ true → (p : ℕ) → p < length (x ∷ xs) → x ≤ get_or (x ∷ xs) p 0
unfolding neighbours
order_least x xs s zero l = le_refl x
order_least x [] s (suc p) l = absurd (not-suc-le-zero (le_of_suc-le-suc l))
order_least x (y ∷ ys) s (suc p) l =
    le_trans (leb-true x y (both_left (leb x y) (neighbours leb (y ∷ ys)) s))
    (order_least y ys (order_rest x (y ∷ ys) s) p (le_of_suc-le-suc l))

module _ (u : ℕ) where
  -- where the first is not below u, none is
  least-none : (x : ℕ) (xs : List ℕ) → neighbours leb (x ∷ xs) ≡ true → ltb x u ≡ false → under u (x ∷ xs) ≡ 0
  least-none x xs s q =
      under_none u (x ∷ xs) (λ p l. le_trans (ltb-false x u q) (order_least x xs s p l))

  -- a place is among the first so many exactly where its key is below u
  pub under_low : (keys : List ℕ) → neighbours leb keys ≡ true → (p : ℕ) → p < under u keys → get_or keys p 0 < u
  unfolding total
  under_low [] s p h = absurd (not-suc-le-zero h)
  under_low (x ∷ xs) s zero h =
      by_test (ltb x u)
      (λ q. ltb-true x u q)
      (λ q. absurd (omega (arith, least-none x xs s q)))
  under_low (x ∷ xs) s (suc p) h =
      by_test (ltb x u)
      (λ q.
      let here : suc p < 1 + under u xs = rw q at h in
      under_low xs (order_rest x xs s) p (omega arith))
      (λ q. absurd (omega (arith, least-none x xs s q)))

  pub low-under : (keys : List ℕ) → neighbours leb keys ≡ true → (p : ℕ) → p < length keys → get_or keys p 0 < u → p < under u keys
  unfolding total
  low-under [] s p l h = absurd (not-suc-le-zero l)
  low-under (x ∷ xs) s zero l h = rw (lt-ltb x u h) (omega arith)
  low-under (x ∷ xs) s (suc p) l h =
      let least : x ≤ get_or xs p 0 = order_least x xs s (suc p) l in
      let rest : p < under u xs = low-under xs (order_rest x xs s) p (le_of_suc-le-suc l) h in
      rw (lt-ltb x u (omega arith)) (omega arith)

-- ---- their first places

module _ (n : ℕ) (keys : List ℕ) where
  pub places-long : length (first_places n keys) ≡ n + 1
  unfolding first_places
  places-long = length_up_to (λ u. under u keys) (n + 1)

  pub place_is : (u : ℕ) → u ≤ n → get_or (first_places n keys) u 0 ≡ under u keys
  unfolding first_places
  place_is u h = get_or_up_to (λ u. under u keys) (n + 1) u 0 (omega arith)

  pub places-sound : ((p : ℕ) → p < length keys → get_or keys p 0 < n) → first_edges_sound n (length keys) (first_places n keys) ≡ true
  unfolding first_edges_sound
  places-sound below =
      let order : neighbours leb (first_places n keys) ≡ true =
      neighbours-all leb (first_places n keys)
      (λ i l.
      let long = places-long in
      rw (place_is i (omega arith), place_is (suc i) (omega arith))
      (le-leb (under i keys) (under (suc i) keys) (under_more i (suc i) (omega arith) keys))) in
      rw (
        eq-eqb (length (first_places n keys)) (n + 1) places-long,
        eq-eqb (get_or (first_places n keys) 0 0) 0 (place_is 0 zero-le ∙ under_none 0 keys (λ p l. zero-le)),
        order,
      )
      (eq-eqb (get_or (first_places n keys) n 0) (length keys) (place_is n (le_refl n) ∙ under_all n keys below))

  pub places_filed : Keys n keys → Filed n (first_places n keys) keys
  places_filed k =
      record {
        sound = places-sound k.below;
        key_is = λ u p h from to.
            let first : get_or (first_places n keys) u 0 ≡ under u keys = place_is u (omega arith) in
            let next : get_or (first_places n keys) (u + 1) 0 ≡ under (u + 1) keys = place_is (u + 1) (omega arith) in
            let most : under (u + 1) keys ≤ length keys = under-most (u + 1) keys in
            let low : get_or keys p 0 < u + 1 = under_low (u + 1) keys k.order p (omega arith) in
            ⊎_elim
            (λ (l : u ≤ get_or keys p 0). omega arith)
            (λ (l : get_or keys p 0 < u). absurd (omega (arith, low-under u keys k.order p (omega arith) l)))
            (le_or_lt u (get_or keys p 0));
      }

-- ---- sound first places

module _ (n m : ℕ) (first : List ℕ) (s : first_edges_sound n m first ≡ true) where
  pub firsts_zero : get_or first 0 0 ≡ 0
  unfolding first_edges_sound
  firsts_zero = eqb-true (get_or first 0 0) 0 (both_left _ _ (both_right (eqb (length first) (n + 1)) _ s))

  firsts_apart : (d u : ℕ) → u + d ≤ n → get_or first u 0 ≤ get_or first (u + d) 0
  firsts_apart zero u h =
      let same : u + zero ≡ u = omega arith in
      rw same (le_refl (get_or first u 0))
  firsts_apart (suc d) u h =
      let same : u + suc d ≡ u + d + 1 = omega arith in
      rw same (le_trans (firsts_apart d u (omega arith)) (firsts-order n m first s (u + d) (omega arith)))

  firsts_rise : (u v : ℕ) → u ≤ v → v ≤ n → get_or first u 0 ≤ get_or first v 0
  firsts_rise u v h l =
      let same : u + (v - u) ≡ v = omega arith in
      rw same at (firsts_apart (v - u) u (omega arith))

  -- a place below the first of row k is in a row before it
  row_below : (p k : ℕ) → k ≤ n → p < get_or first k 0 → (u : ℕ) × InRow n first p u
  row_below p zero h l = absurd (omega (arith, firsts_zero))
  row_below p (suc k) h l =
      ⊎_elim
      (λ (g : get_or first k 0 ≤ p). (k, record { node = omega arith; from = g; to = rw add-one l }))
      (λ (g : p < get_or first k 0). row_below p k (omega arith) g)
      (le_or_lt (get_or first k 0) p)

  keys_long : (k : ℕ) → k ≤ n → length (keys_of first k) ≡ get_or first k 0
  unfolding keys_of
  keys_long zero h = sym firsts_zero
  keys_long (suc k) h =
      let rest : length (keys_of first k) ≡ get_or first k 0 = keys_long k (omega arith) in
      let rise : get_or first k 0 ≤ get_or first (suc k) 0 = firsts_rise k (suc k) (omega arith) h in
      length-append (keys_of first k) (replicate (get_or first (suc k) 0 - get_or first k 0) k)
      ∙ rw (length-replicate (get_or first (suc k) 0 - get_or first k 0) k) (omega arith)

  keys_at : (k u p : ℕ) → k ≤ n → u < k → get_or first u 0 ≤ p → p < get_or first (u + 1) 0 → get_or (keys_of first k) p 0 ≡ u
  unfolding keys_of
  keys_at zero u p h l from to = absurd (not-suc-le-zero l)
  keys_at (suc k) u p h l from to =
      let long : length (keys_of first k) ≡ get_or first k 0 = keys_long k (omega arith) in
      ⊎_elim
      (λ (e : u ≡ k).
      let here : get_or first k 0 ≤ p = rw e at from in
      let end : p < get_or first (suc k) 0 = rw (e, add-one) at to in
      let same : length (keys_of first k) + (p - get_or first k 0) ≡ p = omega arith in
      rw (← same)
      (get_or-append-add (keys_of first k) (replicate (get_or first (suc k) 0 - get_or first k 0) k) (p - get_or first k 0) 0
      ∙ get_or-replicate (get_or first (suc k) 0 - get_or first k 0) (p - get_or first k 0) k 0 (omega arith) ∙ sym e))
      (λ (g : u < k).
      let rise : get_or first (u + 1) 0 ≤ get_or first k 0 = firsts_rise (u + 1) k (omega arith) (omega arith) in
      get_or-append (keys_of first k) (replicate (get_or first (suc k) 0 - get_or first k 0) k) 0 p (omega arith)
      ∙ keys_at k u p (omega arith) g from to)
      (eq-or-lt_of_le (le_of_suc-le-suc l))

  pub keys_of_long : length (keys_of first n) ≡ m
  keys_of_long = keys_long n (le_refl n) ∙ firsts-end n m first s

  pub keys_of_filed : Filed n first (keys_of first n)
  keys_of_filed =
      record {
        sound = rw keys_of_long s;
        key_is = λ u p h from to. keys_at n u p (le_refl n) h from to;
      }

-- ---- keys at their rows' places

module _ (n : ℕ) (first keys : List ℕ) (f : Filed n first keys) where
  -- each key names its row
  pub key_row : (p : ℕ) → p < length keys → InRow n first p (get_or keys p 0)
  key_row p h =
      let end : get_or first n 0 ≡ length keys = firsts-end n (length keys) first f.sound in
      let r = row_below n (length keys) first f.sound p n (le_refl n) (omega arith) in
      let here : get_or keys p 0 ≡ r.0 = f.key_is r.0 p r.1.node r.1.from r.1.to in
      rw here r.1

  pub filed_keys : Keys n keys
  filed_keys =
      record {
        order = neighbours-all leb keys
            (λ i l.
            let here = key_row i (omega arith) in
            let next = key_row (suc i) l in
            le-leb (get_or keys i 0) (get_or keys (suc i) 0)
            (⊎_elim
            (λ (h : get_or keys i 0 ≤ get_or keys (suc i) 0). h)
            (λ (h : get_or keys (suc i) 0 < get_or keys i 0).
            absurd (omega (arith, next.to, here.from, firsts_rise n (length keys) first f.sound (get_or keys (suc i) 0 + 1) (get_or keys i 0) (omega arith) (omega (arith, here.node)))))
            (le_or_lt (get_or keys i 0) (get_or keys (suc i) 0))));
        below = λ p h. (key_row p h).node;
      }

  place_first : (u : ℕ) → u ≤ n → under u keys ≡ get_or first u 0
  place_first u h =
      let most : get_or first u 0 ≤ length keys = firsts-most n (length keys) first f.sound u h in
      let fit : under u keys ≤ length keys = under-most u keys in
      let order = filed_keys.order in
      ⊎_elim
      (λ (l : under u keys ≤ get_or first u 0).
      ⊎_elim
      (λ (g : get_or first u 0 ≤ under u keys). omega arith)
      (λ (g : under u keys < get_or first u 0).
      let here = key_row (under u keys) (omega arith) in
      ⊎_elim
      (λ (a : u ≤ get_or keys (under u keys) 0).
      absurd (omega (arith, here.from, firsts_rise n (length keys) first f.sound u (get_or keys (under u keys) 0) a (omega (arith, here.node)))))
      (λ (a : get_or keys (under u keys) 0 < u).
      absurd (omega (arith, low-under u keys order (under u keys) (omega arith) a)))
      (le_or_lt u (get_or keys (under u keys) 0)))
      (le_or_lt (get_or first u 0) (under u keys)))
      (λ (l : get_or first u 0 < under u keys).
      let here = key_row (get_or first u 0) (omega arith) in
      let low : get_or keys (get_or first u 0) 0 < u = under_low u keys order (get_or first u 0) l in
      absurd (omega (arith, here.to, firsts_rise n (length keys) first f.sound (get_or keys (get_or first u 0) 0 + 1) u (omega arith) h)))
      (le_or_lt (under u keys) (get_or first u 0))

  pub filed_places : first_places n keys ≡ first
  filed_places =
      let long : length first ≡ n + 1 = firsts-long n (length keys) first f.sound in
      let same : length (first_places n keys) ≡ n + 1 = places-long n keys in
      ext_get_or 0 (first_places n keys) first (same ∙ sym long)
      (λ i l.
      let h : i ≤ n = omega arith in
      place_is n keys i h ∙ place_first i h)
