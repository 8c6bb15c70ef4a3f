-- Reading a field or a line, and printing it, undo each other.
--     field-printed, printed-field        a field
--     line-printed, printed-line          a line; line_longer, one that has too many fields
--     line-judged, judged-line            a line whose values are tested
--     none_of, one_of_lem, .., four_of_lem        the values of a line by its count of fields
--     last_of_four, last_of_three         those of a line whose last field timed jobs alone have; last-is, that field
--     onward-part, then_part              what comes after a line, and after a part
-- Assumes nothing.
use mathlib.Core.Bool.{Bool, true, false}
use mathlib.Core.List.{List, [], ◌∷◌, ◌++◌, append_assoc}
use mathlib.Core.Logic.{⊎_elim}
use mathlib.Core.Path.{◌≡◌, refl, sym, ◌∙◌, ap}
use Prim.Native.Nat.{ℕ, zero, suc, ◌+◌, ◌*◌, ◌-◌, ◌/◌, ◌%◌, ◌^◌, ◌≤◌, ◌<◌}
use native.Mathlib.Nat.{pow-le-pow_right, pow-succ', le_trans}
use native.Mathlib.Omega.{arith}
use lib.Dec.{ltb, eqb}
use lib.ListN.{length, get_or}
use borrow.Author.Tests.{le-leb, ltb-true, eq-eqb, ne_eqb, eqb-true, eqb-false}
use Rattle.price.specs.Test.{choose}
use Rattle.price.specs.Lists.{every}
use Rattle.price.proofs.TestLaws.{by_test, both_true, both_left, both_right, le_or_lt}
use Rattle.text.specs.Decimal.{zero_byte, is_digit, decimal}
use Rattle.text.specs.Lines.{Field, number, fault, digits_after, field, lf, comma, Fields, taken, malformed, with_value, after_field, fields, line, print_fields, print_line}
use Rattle.text.specs.JobText.{Reading, values, refused, judged, Part, part, stopped, onward, and_then}
use Rattle.text.specs.Printed.{further}
use Rattle.text.proofs.DecimalLaws.{decimal-small, decimal-next}
use Rattle.text.proofs.FieldLaws.{digit_least, digit_most, after_other, after_digit}
use Rattle.text.proofs.JudgedLaws.{judged-values}

-- ---- digits

-- a byte that is a digit
true_digit : (b : ℕ) → 48 ≤ b → b ≤ 57 → is_digit b ≡ true
unfolding is_digit
true_digit b h l = both_true (le-leb 48 b h) (le-leb b 57 l)

-- at most six digits
six : (j v : ℕ) → v < 10 ^ j → j ≤ 6 → v < 10 ^ 6
six j v l h = le_trans l (pow-le-pow_right {n = 10} (omega arith) h)

-- one digit more
decimal-more : (v d : ℕ) → 1 ≤ v → v < 10 ^ 6 → d < 10 → decimal (v * 10 + d) ≡ decimal v ++ ((48 + d) ∷ [])
decimal-more v d h l e =
    let front : (v * 10 + d) / 10 ≡ v = omega arith in
    let last : (v * 10 + d) % 10 ≡ d = omega arith in
    decimal-next (v * 10 + d) (omega arith) (omega arith) ∙ rw (front, last)

-- ---- a field from its bytes

number-both : (v w : ℕ) (bs rest : List ℕ) → v < 10 ^ 6 → number v bs ≡ number w rest → (w < 10 ^ 6) × (decimal v ++ bs ≡ decimal w ++ rest)
number-both v w bs rest l e =
    let same : v ≡ w = cc in
    let follow : bs ≡ rest = cc in
    (omega arith, rw (same, follow))

-- what further digits add
digits_read : (k j v : ℕ) (bs : List ℕ) (w : ℕ) (rest : List ℕ) → 1 ≤ v → v < 10 ^ j → j + k ≤ 6 → digits_after k v bs ≡ number w rest → (w < 10 ^ 6) × (decimal v ++ bs ≡ decimal w ++ rest)
unfolding digits_after
digits_read zero j v bs w rest some l few e = number-both v w bs rest (six j v l (omega arith)) e
digits_read (suc k) j v [] w rest some l few e = number-both v w [] rest (six j v l (omega arith)) e
digits_read (suc k) j v (b ∷ bs) w rest some l few e =
    by_test (is_digit b)
    (λ q.
    let low : 48 ≤ b = digit_least b q in
    let high : b ≤ 57 = digit_most b q in
    let next : v * 10 + (b - 48) < 10 ^ suc j = rw pow-succ' (omega arith) in
    let r = digits_read k (suc j) (v * 10 + (b - 48)) bs w rest (omega arith) next (omega arith) (rw q at e) in
    let byte : 48 + (b - 48) ≡ b = omega arith in
    let more : decimal (v * 10 + (b - 48)) ≡ decimal v ++ (b ∷ []) =
    decimal-more v (b - 48) some (six j v l (omega arith)) (omega arith) ∙ rw byte in
    (r.0, sym (append_assoc (decimal v) (b ∷ []) bs) ∙ ap (λ (ds : List ℕ). ds ++ bs) (sym more) ∙ r.1))
    (λ q. number-both v w (b ∷ bs) rest (six j v l (omega arith)) (rw q at e))

pub printed-field : (bs : List ℕ) (v : ℕ) (rest : List ℕ) → field bs ≡ number v rest → (v < 10 ^ 6) × (bs ≡ decimal v ++ rest)
unfolding field
printed-field [] v rest e = let z : ◌≡◌ {A = ℕ} 0 1 = cc in absurd (omega arith)
printed-field (b ∷ bs) v rest e =
    by_test (eqb b zero_byte)
    (λ q.
    let zeroed : number 0 bs ≡ number v rest = rw q at e in
    let r = number-both 0 v bs rest (omega arith) zeroed in
    let byte : b ≡ 48 = eqb-true b 48 q in
    (r.0, rw byte (ap (λ (ds : List ℕ). ds ++ bs) (sym (decimal-small 0 (omega arith))) ∙ r.1)))
    (λ q.
    by_test (is_digit b)
    (λ p.
    let low : 48 ≤ b = digit_least b p in
    let high : b ≤ 57 = digit_most b p in
    let other : b ≡ 48 → ⊥ = eqb-false b 48 q in
    let r = digits_read 5 1 (b - 48) bs v rest (omega arith) (omega arith) (omega arith) (rw (q, p) at e) in
    let byte : 48 + (b - 48) ≡ b = omega arith in
    let first : decimal (b - 48) ≡ b ∷ [] = decimal-small (b - 48) (omega arith) ∙ rw byte in
    (r.0, ap (λ (ds : List ℕ). ds ++ bs) (sym first) ∙ r.1))
    (λ p.
    let none : fault ≡ number v rest = rw (q, p) at e in
    let z : ◌≡◌ {A = ℕ} 0 1 = cc in absurd (omega arith)))

-- ---- a field's bytes

-- the digits of a number are read, with room for those that it has not
digits-printed : (j v : ℕ) → 1 ≤ v → v < 10 ^ j → j ≤ 6 → (m : ℕ) × (6 ≤ m + j) × ((rest : List ℕ) → field (decimal v ++ rest) ≡ digits_after m v rest)
unfolding field
digits-printed zero v some l few = absurd (omega arith)
digits-printed (suc j) v some l few =
    ⊎_elim
    (λ (h : 10 ≤ v).
    let front : v / 10 < 10 ^ j = (let p : v < 10 * 10 ^ j = rw pow-succ' at l in omega arith) in
    let r = digits-printed j (v / 10) (omega arith) front (omega arith) in
    let whole : v / 10 * 10 + (48 + v % 10 - 48) ≡ v = omega arith in (
      r.0 - 1,
      omega arith,
      λ rest.
          ap (λ (ds : List ℕ). field (ds ++ rest)) (decimal-next v h (omega (arith, six (suc j) v l few)))
          ∙ ap field (append_assoc (decimal (v / 10)) ((48 + v % 10) ∷ []) rest)
          ∙ r.2 ((48 + v % 10) ∷ rest)
          ∙ after_digit r.0 (v / 10) (48 + v % 10) rest (omega arith) (true_digit (48 + v % 10) (omega arith) (omega arith))
          ∙ rw whole,
    ))
    (λ (h : v < 10).
    let byte : 48 + v - 48 ≡ v = omega arith in (
      5,
      omega arith,
      λ rest.
          rw (decimal-small v h, ne_eqb (48 + v) 48 (λ e. omega arith), true_digit (48 + v) (omega arith) (omega arith), byte),
    ))
    (le_or_lt 10 v)

pub field-printed : (v : ℕ) (b : ℕ) (rest : List ℕ) → v < 10 ^ 6 → is_digit b ≡ false → field (decimal v ++ (b ∷ rest)) ≡ number v (b ∷ rest)
unfolding field
field-printed v b rest l q =
    ⊎_elim
    (λ (h : 1 ≤ v).
    let r = digits-printed 6 v h l (omega arith) in
    r.2 (b ∷ rest) ∙ after_other r.0 v b rest q)
    (λ (h : v < 1).
    let none : v ≡ 0 = omega arith in
    rw (none, decimal-small 0 (omega arith)))
    (le_or_lt 1 v)

-- ---- a line

-- a value below its bound, in front of what a line prints next
field_then : (v : ℕ) (vs rest : List ℕ) → v < 10 ^ 6 → field (decimal v ++ (print_fields vs ++ rest)) ≡ number v (print_fields vs ++ rest)
unfolding print_fields is_digit
field_then v [] rest l = field-printed v lf rest l refl
field_then v (w ∷ ws) rest l = field-printed v comma ((decimal w ++ print_fields ws) ++ rest) l refl

fields-printed : (vs rest : List ℕ) → every (λ v. ltb v (10 ^ 6)) vs ≡ true → fields (length vs) (print_fields vs ++ rest) ≡ taken vs rest
unfolding fields print_fields every
fields-printed [] rest e = refl
fields-printed (v ∷ vs) rest e =
    let small : v < 10 ^ 6 = ltb-true v (10 ^ 6) (both_left (ltb v (10 ^ 6)) (every (λ v. ltb v (10 ^ 6)) vs) e) in
    let others = fields-printed vs rest (both_right (ltb v (10 ^ 6)) (every (λ v. ltb v (10 ^ 6)) vs) e) in
    rw (append_assoc, field_then v vs rest small, others)

pub line-printed : (letter : ℕ) (vs rest : List ℕ) → every (λ v. ltb v (10 ^ 6)) vs ≡ true → line letter (length vs) (print_line letter vs ++ rest) ≡ taken vs rest
unfolding line print_line
line-printed letter vs rest e = rw (eq-eqb letter letter refl) (fields-printed vs rest e)

-- a line of more fields is none of one
pub line_longer : (letter v w : ℕ) (ws rest : List ℕ) → v < 10 ^ 6 → line letter 1 (print_line letter (v ∷ w ∷ ws) ++ rest) ≡ malformed
unfolding line print_line fields print_fields
line_longer letter v w ws rest small =
    rw (eq-eqb letter letter refl, append_assoc (decimal v) (print_fields (w ∷ ws)) rest, field_then v (w ∷ ws) rest small)

with_taken : (v : ℕ) (f : Fields) (vs rest : List ℕ) → with_value v f ≡ taken vs rest → (ws : List ℕ) × (f ≡ taken ws rest) × (vs ≡ v ∷ ws)
with_taken v (taken ws mid) vs rest e = (ws, (cc), (cc))
with_taken v malformed vs rest e = let z : ◌≡◌ {A = ℕ} 0 1 = cc in absurd (omega arith)

-- what a line's field gave, and what came after it
after-taken : (f : Field) (others : List ℕ → Fields) (vs rest : List ℕ) → after_field f others ≡ taken vs rest → (v : ℕ) × (mid ws : List ℕ) × (f ≡ number v mid) × (others mid ≡ taken ws rest) × (vs ≡ v ∷ ws)
after-taken (number v mid) others vs rest e =
    let r = with_taken v (others mid) vs rest e in
    (v, mid, r.0, refl, r.1, r.2)
after-taken fault others vs rest e = let z : ◌≡◌ {A = ℕ} 0 1 = cc in absurd (omega arith)

-- a comma and a field, with those that follow
first_field : (b v : ℕ) (bs mid ws vs rest : List ℕ) → b ≡ comma → bs ≡ decimal v ++ mid → mid ≡ print_fields ws ++ rest → vs ≡ v ∷ ws → b ∷ bs ≡ print_fields vs ++ rest
unfolding print_fields
first_field b v bs mid ws vs rest byte here others all = rw (all, byte, here, others, append_assoc)

printed-fields : (k : ℕ) (bs vs rest : List ℕ) → fields k bs ≡ taken vs rest → (length vs ≡ k) × (bs ≡ print_fields vs ++ rest)
unfolding fields print_fields
printed-fields zero [] vs rest e = let z : ◌≡◌ {A = ℕ} 0 1 = cc in absurd (omega arith)
printed-fields zero (b ∷ bs) vs rest e =
    by_test (eqb b lf)
    (λ q.
    let end : taken [] bs ≡ taken vs rest = rw q at e in
    let none : [] ≡ vs = cc in
    let follow : bs ≡ rest = cc in
    let byte : b ≡ lf = eqb-true b lf q in
    (rw (← none), rw (← none, byte, follow)))
    (λ q.
    let bad : malformed ≡ taken vs rest = rw q at e in
    let z : ◌≡◌ {A = ℕ} 0 1 = cc in absurd (omega arith))
printed-fields (suc k) [] vs rest e = let z : ◌≡◌ {A = ℕ} 0 1 = cc in absurd (omega arith)
printed-fields (suc k) (b ∷ bs) vs rest e =
    by_test (eqb b comma)
    (λ q.
    let r = after-taken (field bs) (λ rest. fields k rest) vs rest (rw q at e) in
    let here = printed-field bs r.0 r.1 r.3 in
    let others = printed-fields k r.1 r.2 rest r.4 in
    (rw (r.5, others.0), first_field b r.0 bs r.1 r.2 vs rest (eqb-true b comma q) here.1 others.1 r.5))
    (λ q.
    let bad : malformed ≡ taken vs rest = rw q at e in
    let z : ◌≡◌ {A = ℕ} 0 1 = cc in absurd (omega arith))

pub printed-line : (letter k : ℕ) (bs vs rest : List ℕ) → line letter k bs ≡ taken vs rest → (length vs ≡ k) × (bs ≡ print_line letter vs ++ rest)
unfolding line print_line
printed-line letter k [] vs rest e = let z : ◌≡◌ {A = ℕ} 0 1 = cc in absurd (omega arith)
printed-line letter k (b ∷ bs) vs rest e =
    by_test (eqb b letter)
    (λ q.
    let r = printed-fields k bs vs rest (rw q at e) in
    let byte : b ≡ letter = eqb-true b letter q in
    (r.0, rw (byte, r.1)))
    (λ q.
    let bad : malformed ≡ taken vs rest = rw q at e in
    let z : ◌≡◌ {A = ℕ} 0 1 = cc in absurd (omega arith))

-- ---- a line whose values are tested

-- what a line tells that is read: its length, its bytes and its tests
pub record LineRead (letter k : ℕ) (within ordered : List ℕ → Bool) (bs vs rest : List ℕ) : Type 0 where
  pub long : length vs ≡ k
  pub text : bs ≡ print_line letter vs ++ rest
  pub bounds : within vs ≡ true
  pub order : ordered vs ≡ true

module _ (within ordered : List ℕ → Bool) where
  pub judged-line : (letter k : ℕ) (bs vs rest : List ℕ) → judged within ordered (line letter k bs) ≡ values vs rest → LineRead letter k within ordered bs vs rest
  judged-line letter k bs vs rest e =
      let r = judged-values within ordered (line letter k bs) vs rest e in
      let t = printed-line letter k bs vs rest r.is in
      record { long = t.0; text = t.1; bounds = r.bounds; order = r.order }

  pub line-judged :
      (letter : ℕ) (vs rest : List ℕ) → every (λ v. ltb v (10 ^ 6)) vs ≡ true → within vs ≡ true → ordered vs ≡ true
      → judged within ordered (line letter (length vs) (print_line letter vs ++ rest)) ≡ values vs rest
  line-judged letter vs rest small p q = rw (line-printed letter vs rest small, p, q)

-- the values by their count
pub none_of : (vs : List ℕ) → length vs ≡ 0 → vs ≡ []
none_of [] e = refl
none_of (x ∷ xs) e = absurd (omega arith)

pub one_of_lem : (vs : List ℕ) → length vs ≡ 1 → vs ≡ get_or vs 0 0 ∷ []
one_of_lem [] e = absurd (omega arith)
one_of_lem (x ∷ []) e = refl
one_of_lem (x ∷ y ∷ zs) e = absurd (omega arith)

pub two_of : (vs : List ℕ) → length vs ≡ 2 → vs ≡ get_or vs 0 0 ∷ get_or vs 1 0 ∷ []
two_of [] e = absurd (omega arith)
two_of (x ∷ []) e = absurd (omega arith)
two_of (x ∷ y ∷ []) e = refl
two_of (x ∷ y ∷ z ∷ zs) e = absurd (omega arith)

pub three_of_lem : (vs : List ℕ) → length vs ≡ 3 → vs ≡ get_or vs 0 0 ∷ get_or vs 1 0 ∷ get_or vs 2 0 ∷ []
three_of_lem [] e = absurd (omega arith)
three_of_lem (a ∷ []) e = absurd (omega arith)
three_of_lem (a ∷ b ∷ []) e = absurd (omega arith)
three_of_lem (a ∷ b ∷ c ∷ []) e = refl
three_of_lem (a ∷ b ∷ c ∷ d ∷ ds) e = absurd (omega arith)

pub four_of_lem : (vs : List ℕ) → length vs ≡ 4 → vs ≡ get_or vs 0 0 ∷ get_or vs 1 0 ∷ get_or vs 2 0 ∷ get_or vs 3 0 ∷ []
four_of_lem [] e = absurd (omega arith)
four_of_lem (a ∷ []) e = absurd (omega arith)
four_of_lem (a ∷ b ∷ []) e = absurd (omega arith)
four_of_lem (a ∷ b ∷ c ∷ []) e = absurd (omega arith)
four_of_lem (a ∷ b ∷ c ∷ d ∷ []) e = refl
four_of_lem (a ∷ b ∷ c ∷ d ∷ x ∷ xs) e = absurd (omega arith)

-- whose last field timed jobs alone have
pub last_of_four : (timed : Bool) (vs : List ℕ) → length vs ≡ choose timed 4 3 → vs ≡ get_or vs 0 0 ∷ get_or vs 1 0 ∷ get_or vs 2 0 ∷ further timed (get_or vs 3 0)
last_of_four true vs e = four_of_lem vs e
last_of_four false vs e = three_of_lem vs e

pub last_of_three : (timed : Bool) (vs : List ℕ) → length vs ≡ choose timed 3 2 → vs ≡ get_or vs 0 0 ∷ get_or vs 1 0 ∷ further timed (get_or vs 2 0)
last_of_three true vs e = three_of_lem vs e
last_of_three false vs e = two_of vs e

-- that field, which in an untimed job counts as 0
pub last-is : (timed : Bool) (x : ℕ) → (timed ≡ false → x ≡ 0) → get_or (further timed x) 0 0 ≡ x
last-is true x none = refl
last-is false x none = sym (none refl)

-- ---- what comes after

-- a part that begins with a line: what the line gave, and what came after it
pub onward-part :
    {A B : Type 0} (r : Reading A) (l : ℕ) (next : A → List ℕ → Part B) (x : B) (at : ℕ) (rest : List ℕ) → onward r l next ≡ part x at rest
    → (given : A) × (mid : List ℕ) × (r ≡ values given mid) × (next given mid ≡ part x at rest)
onward-part (values given mid) l next x at rest e = (given, mid, refl, e)
onward-part (refused k) l next x at rest e = let z : ◌≡◌ {A = ℕ} 0 1 = cc in absurd (omega arith)

-- two parts one after the other: what the first gave, and what came after it
pub then_part :
    {A B : Type 0} (p : Part A) (next : A → ℕ → List ℕ → Part B) (x : B) (at : ℕ) (rest : List ℕ) → and_then p next ≡ part x at rest
    → (given : A) × (l : ℕ) × (mid : List ℕ) × (p ≡ part given l mid) × (next given l mid ≡ part x at rest)
then_part (part given l mid) next x at rest e = (given, l, mid, refl, e)
then_part (stopped k l) next x at rest e = let z : ◌≡◌ {A = ℕ} 0 1 = cc in absurd (omega arith)
