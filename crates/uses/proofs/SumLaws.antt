-- Sums below a number, and over the nodes of a kind.
-- Assumes nothing.
use mathlib.Core.Bool.{Bool, true, false}
use mathlib.Core.List.{List}
use mathlib.Core.Logic.{⊎_elim}
use mathlib.Core.Path.{◌≡◌, refl, sym}
use Prim.Native.Nat.{ℕ, zero, suc, ◌+◌, ◌*◌, ◌≤◌, ◌<◌}
use native.Mathlib.Nat.{not-suc-le-zero, le_of_suc-le-suc, eq-or-lt_of_le}
use native.Mathlib.Omega.{arith}
use lib.Dec.{eqb}
use lib.ListN.{length, get_or, replicate}
use borrow.Author.Tests.{eq-eqb, ne_eqb}
use Rattle.price.specs.Test.{choose}
use Rattle.price.specs.Lists.{up_to, count_below}
use Rattle.price.proofs.BelowLaws.{count_most_lem}
use Rattle.uses.specs.Uses.{sum_below, over_kind}

-- ---- lists

pub zeros_at : (n k : ℕ) → ◌≡◌ {A = ℕ} (get_or (replicate n 0) k 0) 0
zeros_at zero k = refl
zeros_at (suc n) zero = refl
zeros_at (suc n) (suc k) = zeros_at n k

pub up_to_same_lem : (f g : ℕ → ℕ) (n : ℕ) → ((k : ℕ) → k < n → f k ≡ g k) → up_to f n ≡ up_to g n
unfolding up_to
up_to_same_lem f g zero e = refl
up_to_same_lem f g (suc n) e = rw (up_to_same_lem f g n (λ k l. e k (omega arith)), e n (omega arith))

-- ---- sums below a number

pub sum_same : (f g : ℕ → ℕ) (n : ℕ) → ((v : ℕ) → v < n → f v ≡ g v) → sum_below f n ≡ sum_below g n
unfolding sum_below
sum_same f g zero e = refl
sum_same f g (suc n) e = rw (sum_same f g n (λ v l. e v (omega arith)), e n (omega arith))

sum_zero : (n : ℕ) → sum_below (λ v. 0) n ≡ 0
unfolding sum_below
sum_zero zero = refl
sum_zero (suc n) = omega (arith, sum_zero n)

pub sum_plus : (f g : ℕ → ℕ) (n : ℕ) → sum_below (λ v. f v + g v) n ≡ sum_below f n + sum_below g n
unfolding sum_below
sum_plus f g zero = refl
sum_plus f g (suc n) = omega (arith, sum_plus f g n)

-- two sums change places
pub sum-turned : (f : ℕ → ℕ → ℕ) (m n : ℕ) → sum_below (λ k. sum_below (λ v. f k v) n) m ≡ sum_below (λ v. sum_below (λ k. f k v) m) n
unfolding sum_below
sum-turned f zero n = sym (sum_zero n)
sum-turned f (suc m) n =
    rw (sum-turned f m n) (sym (sum_plus (λ v. sum_below (λ k. f k v) m) (λ v. f m v) n))

-- a count is a sum
pub count-sum : (t : ℕ → Bool) (n : ℕ) → count_below t n ≡ sum_below (λ v. choose (t v) 1 0) n
unfolding count_below sum_below
count-sum t zero = refl
count-sum t (suc n) = rw (count-sum t n)

-- a number stands at one place alone
sum-none : (x a n : ℕ) → n ≤ x → sum_below (λ k. choose (eqb x k) a 0) n ≡ 0
unfolding sum_below
sum-none x a zero l = refl
sum-none x a (suc n) l = rw (sum-none x a n (omega arith), ne_eqb x n (λ e. omega arith))

pub sum_one : (x a n : ℕ) → x < n → sum_below (λ k. choose (eqb x k) a 0) n ≡ a
unfolding sum_below
sum_one x a zero l = absurd (not-suc-le-zero l)
sum_one x a (suc n) l =
    ⊎_elim
    (λ (e : x ≡ n). rw (sum-none x a n (omega arith), eq-eqb x n e) (omega arith))
    (λ (h : x < n). rw (ne_eqb x n (λ e. omega arith)) (omega (arith, sum_one x a n h)))
    (eq-or-lt_of_le (le_of_suc-le-suc l))

-- ---- over the nodes of a kind

choose_most : (t : Bool) (a b c : ℕ) → a ≤ c * b → choose t a 0 ≤ c * choose t b 0
choose_most true a b c l = l
choose_most false a b c l = omega arith

sum_times : (f g : ℕ → ℕ) (c n : ℕ) → ((v : ℕ) → v < n → f v ≤ c * g v) → sum_below f n ≤ c * sum_below g n
unfolding sum_below
sum_times f g c zero e = omega arith
sum_times f g c (suc n) e =
    let before : sum_below f n ≤ c * sum_below g n = sum_times f g c n (λ v l. e v (omega arith)) in
    let here : f n ≤ c * g n = e n (omega arith) in
    omega arith

-- where each node has at most c, the nodes of a kind have at most c each
pub kind_sum-most : (kinds : List ℕ) (f : ℕ → ℕ) (c k : ℕ) → ((v : ℕ) → v < length kinds → f v ≤ c) → over_kind kinds f k ≤ c * over_kind kinds (λ v. 1) k
unfolding over_kind
kind_sum-most kinds f c k most =
    sum_times (λ v. choose (eqb (get_or kinds v 0) k) (f v) 0) (λ v. choose (eqb (get_or kinds v 0) k) 1 0) c (length kinds)
    (λ v l. choose_most (eqb (get_or kinds v 0) k) (f v) 1 c (let h = most v l in omega arith))

-- and there are no more of them than nodes
pub kind_nodes_most : (kinds : List ℕ) (k : ℕ) → over_kind kinds (λ v. 1) k ≤ length kinds
unfolding over_kind
kind_nodes_most kinds k =
    let counted = count-sum (λ v. eqb (get_or kinds v 0) k) (length kinds) in
    omega (arith, count_most_lem (λ v. eqb (get_or kinds v 0) k) (length kinds))
