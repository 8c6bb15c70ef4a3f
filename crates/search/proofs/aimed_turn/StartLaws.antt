-- The loop before a turn that aims: tree nodes get distance 0.
-- Assumes nothing.
use mathlib.Core.Bool.{Bool, true, false}
use mathlib.Core.List.{List}
use mathlib.Core.Logic.{⊎_elim}
use mathlib.Core.Path.{◌≡◌, refl, sym, ◌∙◌}
use Prim.Native.Nat.{ℕ, zero, suc, ◌+◌, ◌-◌, ◌*◌, ◌≤◌, ◌<◌}
use native.Mathlib.Numerals.{add-one}
use native.Mathlib.Omega.{arith}
use lib.ListN.{length, get_or, set}
use Rattle.price.specs.Test.{choose}
use Rattle.price.specs.Lists.{count_below}
use Rattle.price.proofs.TestLaws.{le_or_lt, same_or_not}
use Rattle.price.proofs.BelowLaws.{count_most_lem}
use Rattle.search.specs.Distance.{far, tree_has}
use Rattle.search.specs.Layout.{dist_at, SameBut}
use Rattle.search.specs.TurnWork.{PassedOver}
use Rattle.search.specs.AimedTurn.{Started}
use Rattle.search.proofs.StoreLaws.{store_here, store_other, same_none, same_store}
use Rattle.search.proofs.FillLaws.{first_tree, first_other}
use Rattle.search.proofs.DistanceLaws.{out_of_tree, in_the_tree}

-- no more are counted where none passes
count-over : (t : ℕ → Bool) (i k : ℕ) → ((v : ℕ) → i ≤ v → v < i + k → t v ≡ false) → count_below t (i + k) ≡ count_below t i
unfolding count_below
count-over t i zero none = let e : i + 0 ≡ i = omega arith in rw e
count-over t i (suc k) none =
    let e : i + suc k ≡ suc (i + k) = omega arith in
    let low : count_below t (i + k) ≡ count_below t i = count-over t i k (λ v a b. none v a (omega arith)) in
    rw (e, low, none (i + k) (omega arith) (omega arith)) (omega arith)

count_in : (t : ℕ → Bool) (i : ℕ) → t i ≡ true → count_below t (i + 1) ≡ count_below t i + 1
unfolding count_below
count_in t i e = rw (add-one i, e)

-- the nodes below i have their distances, the others none
pub record Starting (n : ℕ) (marks w w' : List ℕ) (count i : ℕ) : Type 0 where
  pub upto : i ≤ n
  pub same : SameBut 0 n w w'
  pub dist : (v : ℕ) → v < i → dist_at w' v ≡ choose (tree_has marks v) 0 far
  pub blank : (v : ℕ) → i ≤ v → v < n → dist_at w' v ≡ far
  pub counted : count ≡ count_below (tree_has marks) i

start_none : {n : ℕ} (marks w : List ℕ) → ((v : ℕ) → v < n → dist_at w v ≡ far) → Starting n marks w w 0 0
unfolding count_below
start_none {n} marks w none =
    record {
      upto = omega arith;
      same = same_none 0 n w;
      dist = λ v h. absurd (omega arith);
      blank = λ v l h. none v h;
      counted = refl;
    }

-- nodes up to the next tree node have no distance
pub start-over : {n : ℕ} {marks w w' : List ℕ} {count i r : ℕ} → PassedOver marks i n r → Starting n marks w w' count i → Starting n marks w w' count r
start-over {n} {marks} {w} {w'} {count} {i} {r} o s =
    let l = o.least in
    let m = o.most in
    let e : i + (r - i) ≡ r = omega arith in
    let none : count_below (tree_has marks) (i + (r - i)) ≡ count_below (tree_has marks) i =
    count-over (tree_has marks) i (r - i) (λ v a b. out_of_tree marks v (o.none v a (omega arith))) in
    record {
      upto = o.most;
      same = s.same;
      dist = λ v h.
          ⊎_elim
          (λ (q : i ≤ v). first_other marks v (o.none v q h) (s.blank v q (omega arith)))
          (λ (q : v < i). s.dist v q)
          (le_or_lt i v);
      blank = λ v a h. s.blank v (omega arith) h;
      counted = s.counted ∙ sym (rw e at none);
    }

-- both parts are filled, and no node has a distance
pub start_first :
    {n : ℕ} {marks w₀ w₁ w₂ : List ℕ} {r : ℕ} → SameBut 0 (3 * n) w₀ w₁ × ((j : ℕ) → 0 ≤ j → j < 3 * n → get_or w₁ j 0 ≡ far)
    → SameBut (6 * n) (7 * n) w₁ w₂ × ((j : ℕ) → 6 * n ≤ j → j < 7 * n → get_or w₂ j 0 ≡ far) → PassedOver marks 0 n r → Starting n marks w₂ w₂ 0 r
start_first {n} {marks} {w₀} {w₁} {w₂} first second o =
    start-over o (start_none marks w₂ (λ v h. second.0.low v (omega arith) ∙ first.1 v (omega arith) (omega arith)))

pub start-room :
    (n : ℕ) {w₀ w₁ w₂ : List ℕ} → SameBut 0 (3 * n) w₀ w₁ → SameBut (6 * n) (7 * n) w₁ w₂ → 8 * n ≤ length w₀ → n ≤ length w₂
start-room n first second long = let a = first.long in let b = second.long in omega arith

pub start_in :
    {n : ℕ} {marks w w' : List ℕ} {count i : ℕ} → n ≤ length w → i < n → get_or marks i 0 ≡ 1 → Starting n marks w w' count i
    → Starting n marks w (set w' i 0) (count + 1) (i + 1)
start_in {n} {marks} {w} {w'} {count} {i} long h mark s =
    record {
      upto = omega arith;
      same = same_store 0 n w w' i 0 (omega arith) h s.same;
      dist = λ v b.
          ⊎_elim
          (λ (e : v ≡ i). rw e (first_tree marks i mark (store_here w' i 0 (omega (arith, s.same.long)))))
          (λ (d : v ≡ i → ⊥). store_other w' i 0 v d ∙ s.dist v (omega arith))
          (same_or_not v i);
      blank = λ v a b. store_other w' i 0 v (λ e. omega arith) ∙ s.blank v (omega arith) b;
      counted = let c = s.counted in sym (count_in (tree_has marks) i (in_the_tree marks i mark) ∙ rw (sym c));
    }

pub start-count : {n : ℕ} {marks w w' : List ℕ} {count i : ℕ} → Starting n marks w w' count i → count ≤ i
start-count {marks = marks} {i = i} s = omega (arith, s.counted, count_most_lem (tree_has marks) i)

-- both parts are filled, and all tree nodes have distance 0
pub start-all :
    {n : ℕ} {marks w₀ w₁ w₂ w' : List ℕ} {count i : ℕ} → SameBut 0 (3 * n) w₀ w₁ × ((j : ℕ) → 0 ≤ j → j < 3 * n → get_or w₁ j 0 ≡ far)
    → SameBut (6 * n) (7 * n) w₁ w₂ × ((j : ℕ) → 6 * n ≤ j → j < 7 * n → get_or w₂ j 0 ≡ far) → n ≤ i → Starting n marks w₂ w' count i
    → Started n marks w₀ w' count
start-all {n} {marks} {w₀} {w₁} {w₂} {w'} {count} {i} first second past s =
    let e : i ≡ n = omega (arith, s.upto) in
    let kept : (j : ℕ) → n ≤ j → j < 3 * n → get_or w' j 0 ≡ far =
    λ j a b. s.same.high j a ∙ second.0.low j (omega arith) ∙ first.1 j (omega arith) b in
    record {
      long = s.same.long ∙ second.0.long ∙ first.0.long;
      dist = λ v h. s.dist v (omega arith);
      entries = λ j h. kept (n + j) (omega arith) (omega arith);
      none =
          record {
            estimates = λ v h. s.same.high (6 * n + v) (omega arith) ∙ second.1 (6 * n + v) (omega arith) (omega arith);
            leaves = λ v h. kept (2 * n + v) (omega arith) (omega arith);
          };
      beyond = λ j h. s.same.high j (omega arith) ∙ second.0.high j h ∙ first.0.high j (omega arith);
      trees_are = rw e at s.counted;
    }
