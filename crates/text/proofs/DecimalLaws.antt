-- A number's digits: enough places give the same digits, the last digit apart, and what `long_count` and `put_number` keep while they go.
-- Assumes nothing.
use mathlib.Core.List.{List, [], ◌∷◌, ◌++◌, append-nil}
use mathlib.Core.Logic.{⊎_elim}
use mathlib.Core.Path.{◌≡◌, refl, sym, ◌∙◌, ap}
use Prim.Native.Nat.{ℕ, zero, suc, ◌+◌, ◌*◌, ◌-◌, ◌/◌, ◌%◌, ◌^◌, ◌≤◌, ◌<◌}
use native.Mathlib.Nat.{not-suc-le-zero, pow-suc}
use native.Mathlib.Omega.{arith}
use lib.ListN.{length, length-append}
use lib.Seq.{append_snoc}
use borrow.Author.Tests.{lt-ltb, le-ltb}
use Rattle.price.proofs.TestLaws.{le_or_lt}
use Rattle.text.specs.Decimal.{digits, decimal}
use Rattle.text.specs.Lines.{print_fields, print_line}

-- ---- digits

-- a number below ten is one digit
digits_one : (k n : ℕ) → n < 10 → digits (suc k) n ≡ (48 + n) ∷ []
unfolding digits
digits_one k n h = rw (lt-ltb n 10 h)

-- any other has its last digit behind the others
digits_more : (k n : ℕ) → 10 ≤ n → digits (suc k) n ≡ digits k (n / 10) ++ ((48 + n % 10) ∷ [])
unfolding digits
digits_more k n h = rw (le-ltb n 10 h)

-- a number with one digit less is below a power less
tenth : (k n : ℕ) → n < 10 ^ suc k → n / 10 < 10 ^ k
tenth k n h = let g : n < 10 ^ k * 10 = rw pow-suc at h in omega arith

-- a number from ten on is not below ten to the first
one_place : (k n : ℕ) → 10 ≤ n → n < 10 ^ suc k → 1 ≤ k
one_place zero n h l = absurd (let g : n < 10 = l in omega arith)
one_place (suc k) n h l = omega arith

pub digits-enough : (k m n : ℕ) → n < 10 ^ k → n < 10 ^ m → 1 ≤ k → 1 ≤ m → digits k n ≡ digits m n
digits-enough zero m n hk hm pk pm = absurd (not-suc-le-zero pk)
digits-enough (suc k) zero n hk hm pk pm = absurd (not-suc-le-zero pm)
digits-enough (suc k) (suc m) n hk hm pk pm =
    ⊎_elim
    (λ (l : 10 ≤ n).
    let e : digits k (n / 10) ≡ digits m (n / 10) =
    digits-enough k m (n / 10) (tenth k n hk) (tenth m n hm) (one_place k n l hk) (one_place m n l hm) in
    digits_more k n l ∙ rw e (sym (digits_more m n l)))
    (λ (l : n < 10). digits_one k n l ∙ sym (digits_one m n l))
    (le_or_lt 10 n)

pub decimal-small : (n : ℕ) → n < 10 → decimal n ≡ (48 + n) ∷ []
unfolding decimal
decimal-small n h = digits_one 19 n h

pub decimal-next : (n : ℕ) → 10 ≤ n → n < 10 ^ 20 → decimal n ≡ decimal (n / 10) ++ ((48 + n % 10) ∷ [])
unfolding decimal
decimal-next n h l =
    let e : digits 19 (n / 10) ≡ digits 20 (n / 10) =
    digits-enough 19 20 (n / 10) (omega arith) (omega arith) (omega arith) (omega arith) in
    digits_more 19 n h ∙ rw e

pub digits-few : (k n : ℕ) → length (digits k n) ≤ k
unfolding digits
digits-few zero n = omega arith
digits-few (suc k) n =
    ⊎_elim
    (λ (l : 10 ≤ n).
    rw (digits_more k n l, length-append (digits k (n / 10)) ((48 + n % 10) ∷ []))
    (omega (arith, digits-few k (n / 10))))
    (λ (l : n < 10). rw (digits_one k n l) (omega arith))
    (le_or_lt 10 n)

digits_some : (k n : ℕ) → 1 ≤ length (digits (suc k) n)
digits_some k n =
    ⊎_elim
    (λ (l : 10 ≤ n).
    rw (digits_more k n l, length-append (digits k (n / 10)) ((48 + n % 10) ∷ [])) (omega arith))
    (λ (l : n < 10). rw (digits_one k n l) (omega arith))
    (le_or_lt 10 n)

pub decimal-length : (n : ℕ) → (1 ≤ length (decimal n)) × (length (decimal n) ≤ 20)
unfolding decimal
decimal-length n = (digits_some 19 n, digits-few 20 n)

-- ---- counting digits

-- how many digits are left to count, none where the number has come to 0
unfoldable pub digits_left : ℕ → ℕ
digits_left zero = 0
digits_left (suc n) = length (decimal (suc n))

digits_left_some : (n : ℕ) → 0 < n → digits_left n ≡ length (decimal n)
unfolding digits_left
digits_left_some zero h = absurd (not-suc-le-zero h)
digits_left_some (suc n) h = refl

pub digits_left_none : (n : ℕ) → n ≤ 0 → digits_left n ≡ 0
unfolding digits_left
digits_left_none zero h = refl
digits_left_none (suc n) h = absurd (not-suc-le-zero h)

-- the last digit and those of the tenth
pub count-start : (n : ℕ) → n < 10 ^ 20 → length (decimal n) ≡ 1 + digits_left (n / 10)
count-start n l =
    ⊎_elim
    (λ (h : 10 ≤ n).
    rw (
      decimal-next n h l,
      length-append (decimal (n / 10)) ((48 + n % 10) ∷ []),
      digits_left_some (n / 10) (omega arith),
    )
    (omega arith))
    (λ (h : n < 10). rw (decimal-small n h, digits_left_none (n / 10) (omega arith)) (omega arith))
    (le_or_lt 10 n)

pub count_next : (n : ℕ) → 0 < n → n < 10 ^ 20 → digits_left n ≡ 1 + digits_left (n / 10)
count_next n h l = digits_left_some n h ∙ count-start n l

-- four digits at most
pub count-one : (n : ℕ) → n < 10 → length (decimal n) ≡ 1
count-one n h = omega (arith, count-start n (omega arith), digits_left_none (n / 10) (omega arith))

pub count-two : (n : ℕ) → 10 ≤ n → n < 100 → length (decimal n) ≡ 2
count-two n h l =
    omega (arith, count-start n (omega arith), count_next (n / 10) (omega arith) (omega arith), digits_left_none (n / 10 / 10) (omega arith))

pub count-three : (n : ℕ) → 100 ≤ n → n < 1000 → length (decimal n) ≡ 3
count-three n h l =
    let two = count_next (n / 10) (omega arith) (omega arith) in
    let one = count_next (n / 10 / 10) (omega arith) (omega arith) in
    omega (arith, count-start n (omega arith), digits_left_none (n / 10 / 10 / 10) (omega arith))

pub count-last : (n : ℕ) → 1000 ≤ n → n < 10000 → length (decimal n) ≡ 4
count-last n h l =
    let three = count_next (n / 10) (omega arith) (omega arith) in
    let two = count_next (n / 10 / 10) (omega arith) (omega arith) in
    let one = count_next (n / 10 / 10 / 10) (omega arith) (omega arith) in
    omega (arith, count-start n (omega arith), digits_left_none (n / 10 / 10 / 10 / 10) (omega arith))

-- ---- writing digits, the last one first

-- the digits that are yet to be written before so many places
unfoldable pub front : ℕ → ℕ → List ℕ
front zero left = []
front (suc k) left = decimal left

-- the digits of a number in two parts: those of what is left of it take the first k places, the others are known
pub record Parted (n left k : ℕ) (others : List ℕ) : Type 0 where
  pub parts : decimal n ≡ front k left ++ others
  pub places : length (front k left) ≡ k
  pub small : left < 10 ^ 20

front_some : (k left : ℕ) → 1 ≤ k → front k left ≡ decimal left
unfolding front
front_some zero left h = absurd (not-suc-le-zero h)
front_some (suc k) left h = refl

front_none : (k left : ℕ) → k ≤ 0 → front k left ≡ []
unfolding front
front_none zero left h = refl
front_none (suc k) left h = absurd (not-suc-le-zero h)

pub parted_start : (n k : ℕ) → n < 10 ^ 20 → k ≡ length (decimal n) → Parted n n k []
parted_start n k l e =
    let f : front k n ≡ decimal n = front_some k n (omega (arith, decimal-length n)) in
    record { parts = rw f (sym (append-nil (decimal n))); places = rw f (sym e); small = l }

-- the next digit, the last one of what is left
pub parted_next : (n left k : ℕ) (others : List ℕ) → 1 ≤ k → Parted n left k others → Parted n (left / 10) (k - 1) ((48 + left % 10) ∷ others)
parted_next n left k others some p =
    let f : front k left ≡ decimal left = front_some k left some in
    let whole : decimal n ≡ decimal left ++ others = p.parts ∙ rw f in
    let long : length (decimal left) ≡ k = ap length (sym f) ∙ p.places in
    let l = p.small in
    let less : left / 10 < 10 ^ 20 = omega arith in
    ⊎_elim
    (λ (h : 10 ≤ left).
    let e : decimal left ≡ decimal (left / 10) ++ ((48 + left % 10) ∷ []) = decimal-next left h l in
    let m : length (decimal left) ≡ length (decimal (left / 10)) + 1 = ap length e ∙ length-append (decimal (left / 10)) ((48 + left % 10) ∷ []) in
    let g : front (k - 1) (left / 10) ≡ decimal (left / 10) = front_some (k - 1) (left / 10) (omega (arith, decimal-length (left / 10))) in
    record {
      parts = rw g (whole ∙ rw e (append_snoc (decimal (left / 10)) (48 + left % 10) others));
      places = rw g (omega arith);
      small = less;
    })
    (λ (h : left < 10).
    let e : decimal left ≡ (48 + left) ∷ [] = decimal-small left h in
    let m : length (decimal left) ≡ 1 = ap length e in
    let g : front (k - 1) (left / 10) ≡ [] = front_none (k - 1) (left / 10) (omega arith) in
    let d : left % 10 ≡ left = omega arith in
    record { parts = rw (g, d) (whole ∙ rw e); places = rw g (omega arith); small = less })
    (le_or_lt 10 left)

pub parted_end : (n left k : ℕ) (others : List ℕ) → k ≤ 0 → Parted n left k others → decimal n ≡ others
parted_end n left k others h p = p.parts ∙ rw (front_none k left h)

-- the places and the known digits are all digits
pub parted_long : (n left k : ℕ) (others : List ℕ) → Parted n left k others → k + length others ≡ length (decimal n)
parted_long n left k others p =
    rw (p.parts, length-append (front k left) others, p.places)

-- ---- lines

-- a line of two fields is its digits, two commas, the letter and LF
pub two_size : (letter a b : ℕ) → length (print_line letter (a ∷ b ∷ [])) ≡ length (decimal a) + length (decimal b) + 4
unfolding print_line print_fields
two_size letter a b = simp length-append (omega arith)

pub three_size : (letter a b c : ℕ) → length (print_line letter (a ∷ b ∷ c ∷ [])) ≡ length (decimal a) + length (decimal b) + length (decimal c) + 5
unfolding print_line print_fields
three_size letter a b c = simp length-append (omega arith)

-- and is short, as a number has 20 digits at most
pub two_most : (letter a b : ℕ) → length (print_line letter (a ∷ b ∷ [])) ≤ 44
two_most letter a b = omega (arith, two_size letter a b, decimal-length a, decimal-length b)

pub three_most : (letter a b c : ℕ) → length (print_line letter (a ∷ b ∷ c ∷ [])) ≤ 65
three_most letter a b c = omega (arith, three_size letter a b c, decimal-length a, decimal-length b, decimal-length c)
