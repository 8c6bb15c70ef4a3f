-- Laws of what is read off a log, over lists of records: appended lists, lists of one net and iteration, and lists without a net or an iteration.
-- Assumes nothing.
use mathlib.Core.Bool.{Bool, true, false}
use mathlib.Core.List.{List, [], ◌∷◌, ◌++◌, append_assoc}
use mathlib.Core.Path.{◌≡◌, refl, sym, ap}
use Prim.Native.Nat.{ℕ, ◌≤◌, ◌<◌, max, zero-le}
use native.Mathlib.Nat.{max-le}
use native.Mathlib.Omega.{arith}
use lib.Dec.{eqb, leb}
use lib.ListN.{drop}
use borrow.Author.Tests.{eq-eqb, ne_eqb, eqb-true, le-leb, lt-leb}
use Rattle.price.specs.Test.{choose, both}
use Rattle.price.specs.Lists.{has}
use Rattle.price.proofs.TestLaws.{by_test, true≢false, both_false_right}
use Rattle.negotiation.specs.Records.{Record, path_nodes}
use Rattle.negotiation.specs.Demand.{nodes_in, latest, up_to_iteration, ends_in}
use Rattle.negotiation.specs.Runs.{All, Of, branch_ends}

-- ---- every record

module _ (P : Record → Type 0) where
  pub all_append : (rs ss : List Record) → All P rs → All P ss → All P (rs ++ ss)
  all_append [] ss h k = k
  all_append (r ∷ rs) ss h k = (h.0, all_append rs ss h.1 k)

  pub all_left : (rs ss : List Record) → All P (rs ++ ss) → All P rs
  all_left [] ss h = tt
  all_left (r ∷ rs) ss h = (h.0, all_left rs ss h.1)

  pub all_map : (Q : Record → Type 0) → ((r : Record) → P r → Q r) → (rs : List Record) → All P rs → All Q rs
  all_map Q f [] h = tt
  all_map Q f (r ∷ rs) h = (f r h.0, all_map Q f rs h.1)

  -- what holds of the record at each split holds of all
  pub all_splits : (rs : List Record) → ((earlier later : List Record) (r : Record) → rs ≡ earlier ++ (r ∷ later) → P r) → All P rs
  all_splits [] h = tt
  all_splits (r ∷ rs) h =
      (h [] rs r refl, all_splits rs (λ earlier later x e. h (r ∷ earlier) later x (ap (λ (l : List Record). r ∷ l) e)))

-- ---- appended lists

-- what a test takes or leaves is put before the rest
put_before : (t : Bool) (p xs ys : List ℕ) → choose t (p ++ (xs ++ ys)) (xs ++ ys) ≡ choose t (p ++ xs) xs ++ ys
put_before true p xs ys = sym (append_assoc p xs ys)
put_before false p xs ys = refl

pub nodes-append : (i t : ℕ) (rs ss : List Record) → nodes_in i t (rs ++ ss) ≡ nodes_in i t rs ++ nodes_in i t ss
unfolding nodes_in
nodes-append i t [] ss = refl
nodes-append i t (r ∷ rs) ss =
    rw (nodes-append i t rs ss)
    (put_before (both (eqb r.net i) (eqb r.iteration t)) r.path (nodes_in i t rs) (nodes_in i t ss))

pub ends-append : (i t : ℕ) (rs ss : List Record) → ends_in i t (rs ++ ss) ≡ ends_in i t rs ++ ends_in i t ss
unfolding ends_in
ends-append i t [] ss = refl
ends-append i t (r ∷ rs) ss =
    rw (ends-append i t rs ss)
    (put_before (both (eqb r.net i) (eqb r.iteration t)) (drop 1 r.path) (ends_in i t rs) (ends_in i t ss))

put_record : (t : Bool) (r : Record) (xs ys : List Record) → choose t (r ∷ (xs ++ ys)) (xs ++ ys) ≡ choose t (r ∷ xs) xs ++ ys
put_record true r xs ys = refl
put_record false r xs ys = refl

pub up_to_append : (t : ℕ) (rs ss : List Record) → up_to_iteration t (rs ++ ss) ≡ up_to_iteration t rs ++ up_to_iteration t ss
unfolding up_to_iteration
up_to_append t [] ss = refl
up_to_append t (r ∷ rs) ss =
    rw (up_to_append t rs ss) (put_record (leb r.iteration t) r (up_to_iteration t rs) (up_to_iteration t ss))

max_before : (t : Bool) (a b c : ℕ) → choose t (max a (max b c)) (max b c) ≡ max (choose t (max a b) b) c
max_before true a b c = omega arith
max_before false a b c = refl

pub latest-append : (i : ℕ) (rs ss : List Record) → latest i (rs ++ ss) ≡ max (latest i rs) (latest i ss)
unfolding latest
latest-append i [] ss = omega arith
latest-append i (r ∷ rs) ss =
    rw (latest-append i rs ss) (max_before (eqb r.net i) r.iteration (latest i rs) (latest i ss))

-- ---- lists of one net and iteration

module _ (i t : ℕ) where
  of_both : (r : Record) → Of i t r → both (eqb r.net i) (eqb r.iteration t) ≡ true
  of_both r h = rw (eq-eqb r.net i h.net-is, eq-eqb r.iteration t h.iteration-is)

  pub nodes_of_lem : (rs : List Record) → All (Of i t) rs → nodes_in i t rs ≡ path_nodes rs
  unfolding nodes_in path_nodes
  nodes_of_lem [] h = refl
  nodes_of_lem (r ∷ rs) h = rw (of_both r h.0, nodes_of_lem rs h.1)

  pub ends_of : (rs : List Record) → All (Of i t) rs → ends_in i t rs ≡ branch_ends rs
  unfolding ends_in branch_ends
  ends_of [] h = refl
  ends_of (r ∷ rs) h = rw (of_both r h.0, ends_of rs h.1)

-- no iteration of the list is later
pub latest-le : (i t : ℕ) (rs : List Record) → All (λ r. r.iteration ≤ t) rs → latest i rs ≤ t
unfolding latest
latest-le i t [] h = zero-le
latest-le i t (r ∷ rs) h =
    let later = latest-le i t rs h.1 in
    by_test (eqb r.net i)
    (λ q. rw q (max-le h.0 later))
    (λ q. rw q later)

-- a list of one net with a node on a path has records
pub latest_of_lem : (i t x : ℕ) (rs : List Record) → All (Of i t) rs → has x (path_nodes rs) ≡ true → latest i rs ≡ t
unfolding latest has path_nodes
latest_of_lem i t x [] h e = absurd (true≢false (sym e))
latest_of_lem i t x (r ∷ rs) h e =
    let later = latest-le i t rs (all_map (Of i t) (λ a. a.iteration ≤ t) (λ a o. omega (arith, o.iteration-is)) rs h.1) in
    rw (eq-eqb r.net i h.0.net-is, h.0.iteration-is) (omega arith)

-- ---- lists without a net or an iteration

-- not of net i in iteration t
abbrev pub Elsewhere : ℕ → ℕ → Record → Type 0
Elsewhere i t r = r.net ≡ i → r.iteration ≡ t → ⊥

module _ (i t : ℕ) where
  elsewhere_both : (r : Record) → Elsewhere i t r → both (eqb r.net i) (eqb r.iteration t) ≡ false
  elsewhere_both r h =
      by_test (eqb r.net i)
      (λ q.
      both_false_right (eqb r.net i) (eqb r.iteration t) (ne_eqb r.iteration t (h (eqb-true r.net i q))))
      (λ q. rw q)

  pub nodes-none : (rs : List Record) → All (Elsewhere i t) rs → nodes_in i t rs ≡ []
  unfolding nodes_in
  nodes-none [] h = refl
  nodes-none (r ∷ rs) h = rw (elsewhere_both r h.0) (nodes-none rs h.1)

  pub ends-none : (rs : List Record) → All (Elsewhere i t) rs → ends_in i t rs ≡ []
  unfolding ends_in
  ends-none [] h = refl
  ends-none (r ∷ rs) h = rw (elsewhere_both r h.0) (ends-none rs h.1)

pub latest-none : (i : ℕ) (rs : List Record) → All (λ r. r.net ≡ i → ⊥) rs → latest i rs ≡ 0
unfolding latest
latest-none i [] h = refl
latest-none i (r ∷ rs) h = rw (ne_eqb r.net i h.0) (latest-none i rs h.1)

-- ---- iterations up to t

pub up_to_all : (t : ℕ) (rs : List Record) → All (λ r. r.iteration ≤ t) rs → up_to_iteration t rs ≡ rs
unfolding up_to_iteration
up_to_all t [] h = refl
up_to_all t (r ∷ rs) h = rw (le-leb r.iteration t h.0, up_to_all t rs h.1)

pub up_to_none : (t : ℕ) (rs : List Record) → All (λ r. t < r.iteration) rs → up_to_iteration t rs ≡ []
unfolding up_to_iteration
up_to_none t [] h = refl
up_to_none t (r ∷ rs) h = rw (lt-leb r.iteration t h.0) (up_to_none t rs h.1)
