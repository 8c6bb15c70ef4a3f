-- Sums by kind, as the loop adds a node's weight to the sum of its kind.
-- Assumes nothing.
use mathlib.Core.Bool.{true}
use mathlib.Core.List.{List, ◌++◌}
use mathlib.Core.Logic.{⊎_elim}
use mathlib.Core.Path.{◌≡◌, refl, sym, ◌∙◌, ap}
use Prim.Native.Nat.{ℕ, ◌+◌, ◌*◌, ◌≤◌, ◌<◌}
use native.Mathlib.Nat.{zero-add}
use native.Mathlib.Numerals.{add-one}
use native.Mathlib.Omega.{arith}
use lib.Dec.{eqb}
use lib.ListN.{length, get_or, set, take, drop, length-set}
use lib.Seq.{get_or-set_same, get_or-set_other, ext_get_or, take_all, paste-suc}
use borrow.Author.Tests.{eq-eqb, ne_eqb}
use Rattle.price.specs.Test.{choose}
use Rattle.price.specs.Lists.{up_to}
use Rattle.price.proofs.ListLaws.{get_or_up_to, length_up_to}
use Rattle.price.proofs.TestLaws.{same_or_not}
use Rattle.search.specs.Tables.{kinds_sound}
use Rattle.search.proofs.BlockLaws.{kind_most_lem, kinds-few}
use Rattle.uses.specs.Uses.{kind_count, sum_below, over_kind}
use Rattle.uses.specs.Steps.{tallied, count_most, AtMost}
use Rattle.uses.proofs.SumLaws.{sum_same}

-- what node u adds to the sum of kind k
abbrev share : List ℕ → List ℕ → ℕ → ℕ → ℕ
share kinds weights k u = choose (eqb (get_or kinds u 0) k) (get_or weights u 0) 0

-- the weights of the first v nodes are added
pub record Tallying (kinds weights before now : List ℕ) (v : ℕ) : Type 0 where
  pub within : v ≤ length kinds
  pub long : length now ≡ length before
  pub each : (k : ℕ) → get_or now k 0 ≡ get_or before k 0 + sum_below (share kinds weights k) v
  pub low : (k : ℕ) → k < kind_count → get_or now k 0 ≤ count_most + v * 65535

pub tallying_none : (kinds weights before : List ℕ) → AtMost count_most before → Tallying kinds weights before before 0
unfolding sum_below
tallying_none kinds weights before low = record { within = omega arith; long = refl; each = λ k. omega arith; low = λ k l. omega (arith, low k l) }

-- no sum passes 64 bits
pub tallying_fits : {kinds weights before now : List ℕ} {v : ℕ} → Tallying kinds weights before now v → kinds_sound kinds ≡ true → {k : ℕ} → k < kind_count → get_or now k 0 ≤ 2000000000000
tallying_fits {kinds} t sound {k} l = omega (arith, t.low k l, t.within, kinds-few kinds sound)

module _ {kinds weights before now : List ℕ} {v : ℕ} (t : Tallying kinds weights before now v) (sound : kinds_sound kinds ≡ true) (l : v < length kinds) where
  abbrev here : ℕ
  here = get_or kinds v 0

  pub tallying_kind : here < kind_count
  tallying_kind = omega (arith, kind_most_lem kinds sound v l)

  pub tallying_more : length before ≡ kind_count → get_or weights v 0 ≤ 65535 → Tallying kinds weights before (set now here (get_or now here 0 + get_or weights v 0)) (v + 1)
  unfolding sum_below
  tallying_more size small =
      let inside = tallying_kind in
      let long = t.long in
      let room : here < length now = omega arith in
      record {
        within = omega arith;
        long = length-set now here (get_or now here 0 + get_or weights v 0) ∙ t.long;
        each = λ k.
            ⊎_elim
            (λ (e : here ≡ k).
            let more : ℕ = get_or now here 0 + get_or weights v 0 in
            let put : get_or (set now here more) k 0 ≡ more = rw (← e) (get_or-set_same now here more 0 room) in
            let had : get_or now here 0 ≡ get_or now k 0 = ap (λ (x : ℕ). get_or now x 0) e in
            rw (add-one, eq-eqb here k e) (omega (arith, put, had, t.each k)))
            (λ (e : here ≡ k → ⊥). rw (add-one, ne_eqb here k e) (omega (arith, get_or-set_other now here k (get_or now here 0 + get_or weights v 0) 0 (λ q. e (sym q)), t.each k)))
            (same_or_not here k);
        low = λ k h.
            ⊎_elim
            (λ (e : here ≡ k). rw (← e) (omega (arith, get_or-set_same now here (get_or now here 0 + get_or weights v 0) 0 room, t.low here inside)))
            (λ (e : here ≡ k → ⊥). omega (arith, get_or-set_other now here k (get_or now here 0 + get_or weights v 0) 0 (λ q. e (sym q)), t.low k h))
            (same_or_not here k);
      }

-- after the last node
pub tallying_all : {kinds weights before now : List ℕ} {v : ℕ} → Tallying kinds weights before now v → length before ≡ kind_count → length kinds ≤ v → now ≡ tallied kinds weights before
unfolding tallied over_kind
tallying_all {kinds} {weights} {before} {now} {v} t size l =
    let within = t.within in
    let end : v ≡ length kinds = omega arith in
    let sum : ℕ → ℕ = λ k. get_or before k 0 + sum_below (share kinds weights k) (length kinds) in
    ext_get_or 0 now (up_to sum kind_count) (t.long ∙ size ∙ sym (length_up_to sum kind_count))
    (λ k h.
    let low : k < kind_count = omega (arith, t.long) in
    t.each k ∙ rw end (sym (get_or_up_to sum kind_count k 0 low)))

-- the sums that were 0 before, where the weights are a function's values
pub tallied-at :
    (kinds weights before : List ℕ) (f : ℕ → ℕ) → ((k : ℕ) → k < kind_count → get_or before k 0 ≡ 0) → ((v : ℕ) → v < length kinds → get_or weights v 0 ≡ f v)
    → (k : ℕ) → k < kind_count → get_or (tallied kinds weights before) k 0 ≡ over_kind kinds f k
unfolding tallied over_kind
tallied-at kinds weights before f zeros same k l =
    get_or_up_to (λ k. get_or before k 0 + over_kind kinds (λ v. get_or weights v 0) k) kind_count k 0 l
    ∙ rw (zeros k l) (omega (arith, sum_same (share kinds weights k) (λ v. choose (eqb (get_or kinds v 0) k) (f v) 0) (length kinds) (λ v h. rw (same v h))))

pub tallied-long : (kinds weights before : List ℕ) → length (tallied kinds weights before) ≡ kind_count
unfolding tallied
tallied-long kinds weights before = length_up_to (λ k. get_or before k 0 + over_kind kinds (λ v. get_or weights v 0) k) kind_count

-- ---- all entries of a list over the first of another

-- k entries are copied
pub record Copied (from before now : List ℕ) (k : ℕ) : Type 0 where
  pub within : k ≤ length from
  pub same_length : length now ≡ length before
  pub so_far : now ≡ take k from ++ drop k before

pub copied_none : (from before : List ℕ) → Copied from before before 0
copied_none from before = record { within = omega arith; same_length = refl; so_far = refl }

pub copied_next : {from before now : List ℕ} {k : ℕ} → Copied from before now k → k < length from → k < length before → Copied from before (set now k (get_or from k 0)) (k + 1)
copied_next {from} {before} {now} {k} h l m =
    record {
      within = omega arith;
      same_length = simp length-set h.same_length;
      so_far = rw (h.so_far, add-one) (simp zero-add at (paste-suc before 0 from k 0 (omega arith) l));
    }

pub copied_whole : {from before now : List ℕ} {k : ℕ} → Copied from before now k → length from ≤ k → now ≡ from ++ drop (length from) before
copied_whole {from} {before} {now} {k} h m =
    let within = h.within in
    let e : k ≡ length from = omega arith in
    h.so_far ∙ rw (e, take_all (length from) from (omega arith))
