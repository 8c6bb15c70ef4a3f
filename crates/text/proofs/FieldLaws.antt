-- The fields of a line at places of the text: what each function of `fields` meets, byte by byte.
--     begins-               the byte at a place
--     digit-                a byte that is a digit or none
--     Digits, digits-       the loop over the further digits of a number
--     field-, comma-        one field
--     SoFar                 the first fields of a line as they are read: none_yet, field-more, fields-end
-- Assumes nothing.
use mathlib.Core.Bool.{Bool, true, false}
use mathlib.Core.List.{List, [], ◌∷◌, ◌++◌, append-nil, append_assoc}
use mathlib.Core.Logic.{⊎_elim}
use mathlib.Core.Path.{◌≡◌, refl, sym, ◌∙◌, ap}
use Prim.Native.Nat.{ℕ, zero, suc, ◌+◌, ◌*◌, ◌-◌, ◌^◌, ◌≤◌, ◌<◌}
use native.Mathlib.Nat.{pow-succ', pow-le-pow_right, mul_assoc, mul-le-mul_left, mul-le-mul_right, le_trans}
use native.Mathlib.Numerals.{add-one, sub-one}
use native.Mathlib.Omega.{arith}
use lib.Dec.{leb, eqb}
use lib.ListN.{length, get_or, take, drop, set, length-set, drop_of_length-le}
use lib.Seq.{drop-cons, drop-drop, take-suc-set}
use borrow.Author.Tests.{le-leb, lt-leb, eq-eqb, ne_eqb, leb-true}
use Rattle.price.specs.Test.{choose}
use Rattle.price.proofs.TestLaws.{both_left, both_right, le_or_lt, true≢false}
use Rattle.text.specs.Decimal.{is_digit}
use Rattle.text.specs.Lines.{lf, comma, Field, number, fault, digits_after, field, Fields, taken, malformed, with_value, after_field, fields, begins}
use Rattle.text.specs.Steps.{comma_field, After, field_at, FieldPlace}
use Rattle.std.specs.Prelude.{Option}
use Rattle.std.specs.Prelude.{Some, None}
use Rattle.text.specs.declared.fields.Field as field_type

-- ---- the byte at a place

module _ (byte at : ℕ) (text : List ℕ) where
  pub begins_past : length text ≤ at → begins byte (drop at text) ≡ false
  unfolding begins
  begins_past end = rw (drop_of_length-le text end)

  pub begins-at : at < length text → begins byte (drop at text) ≡ eqb (get_or text at 0) byte
  unfolding begins
  begins-at inside = rw (drop-cons text at 0 inside)

  pub begins-within : begins byte (drop at text) ≡ true → at < length text
  begins-within e =
      ⊎_elim (λ (end : length text ≤ at). absurd (true≢false (sym e ∙ begins_past end))) (λ inside. inside) (le_or_lt (length text) at)

-- the bytes at a place, where there are some
bytes-at : (at : ℕ) (text : List ℕ) → at < length text → drop at text ≡ get_or text at 0 ∷ drop (at + 1) text
bytes-at at text inside = rw add-one (drop-cons text at 0 inside)

-- ---- digits

module _ (b : ℕ) where
  pub digit_below : b < 48 → is_digit b ≡ false
  unfolding is_digit
  digit_below l = rw (lt-leb 48 b l)

  pub digit_from : 48 ≤ b → is_digit b ≡ leb b 57
  unfolding is_digit
  digit_from l = rw (le-leb 48 b l)

  pub digit_least : is_digit b ≡ true → 48 ≤ b
  unfolding is_digit
  digit_least e = leb-true 48 b (both_left (leb 48 b) (leb b 57) e)

  pub digit_most : is_digit b ≡ true → b ≤ 57
  unfolding is_digit
  digit_most e = leb-true b 57 (both_right (leb 48 b) (leb b 57) e)

-- ---- the loop over the further digits

-- so many digits may still come, and the number so far leaves room for them
pub record Digits (text : List ℕ) (at first value next left : ℕ) : Type 0 where
  pub same : digits_after left value (drop next text) ≡ digits_after 5 first (drop at text)
  pub on : at ≤ next
  pub within : next ≤ length text
  pub small : (value + 1) * 10 ^ left ≤ 10 ^ 6

pub digits-start : (text : List ℕ) (at first : ℕ) → at ≤ length text → first < 10 → Digits text at first first at 5
digits-start text at first inside l =
    record { same = refl; on = omega arith; within = inside; small = omega arith }

-- one more digit leaves room for one less
small_step : (value d left : ℕ) → d ≤ 9 → 0 < left → (value + 1) * 10 ^ left ≤ 10 ^ 6 → (value * 10 + d + 1) * 10 ^ (left - 1) ≤ 10 ^ 6
small_step value d zero l more s = absurd (omega arith)
small_step value d (suc k) l more s =
    let grown : (value * 10 + d + 1) * 10 ^ k ≤ (value + 1) * 10 * 10 ^ k = mul-le-mul_right (10 ^ k) (omega arith) in
    let before : (value + 1) * 10 * 10 ^ k ≤ 10 ^ 6 = rw (mul_assoc (value + 1) 10 (10 ^ k), ← pow-succ' 10 k) s in
    rw sub-one (le_trans grown before)

-- how the digits go on
pub after_none : (left value : ℕ) → digits_after left value [] ≡ number value []
unfolding digits_after
after_none zero value = refl
after_none (suc k) value = refl

pub after_other : (left value b : ℕ) (bs : List ℕ) → is_digit b ≡ false → digits_after left value (b ∷ bs) ≡ number value (b ∷ bs)
unfolding digits_after
after_other zero value b bs e = refl
after_other (suc k) value b bs e = rw e

pub after_digit : (left value b : ℕ) (bs : List ℕ) → 0 < left → is_digit b ≡ true → digits_after left value (b ∷ bs) ≡ digits_after (left - 1) (value * 10 + (b - 48)) bs
unfolding digits_after
after_digit zero value b bs more e = absurd (omega arith)
after_digit (suc k) value b bs more e = rw (e, sub-one)

-- the number ends here
abbrev pub Ended : (text : List ℕ) (at first value next : ℕ) → Type 0
Ended text at first value next = (number value (drop next text) ≡ digits_after 5 first (drop at text)) × After at text next

module _ {text : List ℕ} {at first value next left : ℕ} (so_far : Digits text at first value next left) where
  -- the number has room for one more digit
  pub digits-room : 0 < left → (value + 1) * 10 ≤ 10 ^ 6
  digits-room more = le_trans (mul-le-mul_left (value + 1) (pow-le-pow_right (omega arith) more)) so_far.small

  pub digits_step : 0 < left → next < length text → is_digit (get_or text next 0) ≡ true → Digits text at first (value * 10 + (get_or text next 0 - 48)) (next + 1) (left - 1)
  digits_step more inside e =
      let low : get_or text next 0 ≤ 57 = digit_most (get_or text next 0) e in
      let here : digits_after left value (drop next text) ≡ digits_after (left - 1) (value * 10 + (get_or text next 0 - 48)) (drop (next + 1) text) =
      rw (bytes-at next text inside) (after_digit left value (get_or text next 0) (drop (next + 1) text) more e) in
      record {
        same = sym here ∙ so_far.same;
        on = omega arith;
        within = omega arith;
        small = small_step value (get_or text next 0 - 48) left (omega arith) more so_far.small;
      }

  ended : number value (drop next text) ≡ digits_after left value (drop next text) → Ended text at first value next
  ended e = (e ∙ so_far.same, (so_far.on, so_far.within))

  pub digits_past : length text ≤ next → Ended text at first value next
  digits_past end = ended (rw (drop_of_length-le text end) (sym (after_none left value)))

  pub digits_other : next < length text → is_digit (get_or text next 0) ≡ false → Ended text at first value next
  digits_other inside e = ended (rw (bytes-at next text inside) (sym (after_other left value (get_or text next 0) (drop (next + 1) text) e)))

  pub digits_full : left ≡ 0 → Ended text at first value next
  unfolding digits_after
  digits_full none = ended (rw none)

-- ---- one field

comma_field_lem : (bs : List ℕ) → begins comma bs ≡ true → comma_field bs ≡ field (drop 1 bs)
unfolding begins comma_field
comma_field_lem [] e = absurd (true≢false (sym e))
comma_field_lem (b ∷ bs) e = rw e

module _ (at : ℕ) (text : List ℕ) where
  pub field_past : length text ≤ at → field (drop at text) ≡ fault
  unfolding field
  field_past end = rw (drop_of_length-le text end)

  module _ (inside : at < length text) where
    pub field_zero : get_or text at 0 ≡ 48 → field (drop at text) ≡ number 0 (drop (at + 1) text)
    unfolding field
    field_zero e = rw (bytes-at at text inside, eq-eqb (get_or text at 0) 48 e)

    pub field_other : (get_or text at 0 ≡ 48 → ⊥) → is_digit (get_or text at 0) ≡ false → field (drop at text) ≡ fault
    unfolding field
    field_other n e = rw (bytes-at at text inside, ne_eqb (get_or text at 0) 48 n, e)

    pub field-digits : (get_or text at 0 ≡ 48 → ⊥) → is_digit (get_or text at 0) ≡ true → field (drop at text) ≡ digits_after 5 (get_or text at 0 - 48) (drop (at + 1) text)
    unfolding field
    field-digits n e = rw (bytes-at at text inside, ne_eqb (get_or text at 0) 48 n, e)

  pub comma-begins : begins comma (drop at text) ≡ true → comma_field (drop at text) ≡ field (drop (at + 1) text)
  comma-begins e = comma_field_lem (drop at text) e ∙ ap field (drop-drop 1 at text)

pub comma_other : (bs : List ℕ) → begins comma bs ≡ false → comma_field bs ≡ fault
unfolding begins comma_field
comma_other [] e = refl
comma_other (b ∷ bs) e = rw e

place_earlier : (at : ℕ) (text : List ℕ) (r : Option field_type.Field) → FieldPlace (at + 1) text r → FieldPlace at text r
place_earlier at text (Some f) p = (omega arith, p.1)
place_earlier at text None p = tt

-- what is read from the next place on
pub field-onward :
    (at : ℕ) (text : List ℕ) (r : Option field_type.Field) {here onward : Field} → (field_at text r ≡ onward) × FieldPlace (at + 1) text r → here ≡ onward
    → (field_at text r ≡ here) × FieldPlace at text r
field-onward at text r p e = (p.0 ∙ sym e, place_earlier at text r p.1)

-- ---- the fields of a line

-- the fault of a byte that is no comma, before or after the choice
comma_or_fault : (t : Bool) (g : Field) (next : List ℕ → Fields) → choose t (after_field g next) malformed ≡ after_field (choose t g fault) next
comma_or_fault true g next = refl
comma_or_fault false g next = refl

-- the first field, then the others
fields_suc : (k : ℕ) (bs : List ℕ) → fields (suc k) bs ≡ after_field (comma_field bs) (λ rest. fields k rest)
unfolding fields comma_field
fields_suc k [] = refl
fields_suc k (b ∷ bs) = comma_or_fault (eqb b comma) (field bs) (λ rest. fields k rest)

pub fields_no_end : (bs : List ℕ) → begins lf bs ≡ false → fields 0 bs ≡ malformed
unfolding begins fields
fields_no_end [] e = refl
fields_no_end (b ∷ bs) e = rw e

fields_nil : (bs : List ℕ) → begins lf bs ≡ true → fields 0 bs ≡ taken [] (drop 1 bs)
unfolding begins fields
fields_nil [] e = absurd (true≢false (sym e))
fields_nil (b ∷ bs) e = rw e

-- the fields read before these
abbrev pub with_values : List ℕ → Fields → Fields
with_values vs (taken ws rest) = taken (vs ++ ws) rest
with_values vs malformed = malformed

none_before : (x : Fields) → with_values [] x ≡ x
none_before (taken ws rest) = refl
none_before malformed = refl

-- one value more: field k takes its place behind those before it
one_more : (k v : ℕ) (vs : List ℕ) (x : Fields) → k < length vs → with_values (take k vs) (with_value v x) ≡ with_values (take (k + 1) (set vs k v)) x
one_more k v vs malformed few = refl
one_more k v vs (taken ws rest) few = rw (add-one k, take-suc-set vs k v few) (ap (λ (us : List ℕ). taken us rest) (sym (append_assoc (take k vs) (v ∷ []) ws)))

-- the first k of a line's fields have been read, from one place to another
pub record SoFar (count k from at : ℕ) (text vs : List ℕ) : Type 0 where
  pub on : from ≤ at
  pub room : length vs ≡ 4
  pub same : fields count (drop from text) ≡ with_values (take k vs) (fields (count - k) (drop at text))

pub none_yet : (count at : ℕ) (text vs : List ℕ) → length vs ≡ 4 → SoFar count 0 at at text vs
none_yet count at text vs four =
    let all : count - 0 ≡ count = omega arith in
    record { on = omega arith; room = four; same = rw all (sym (none_before (fields count (drop at text)))) }

module _ {count k from at : ℕ} {text vs : List ℕ} (so_far : SoFar count k from at text vs) where
  module _ (few : count ≤ 4) (due : k < count) where
    -- what is left begins with a field
    rest_is : fields (count - k) (drop at text) ≡ after_field (comma_field (drop at text)) (λ rest. fields (count - (k + 1)) rest)
    rest_is =
        let left : count - k ≡ suc (count - (k + 1)) = omega arith in
        rw left (fields_suc (count - (k + 1)) (drop at text))

    -- a fault is the line's
    pub field-fault : {read : Option field_type.Field} → read ≡ None → field_at text read ≡ comma_field (drop at text) → malformed ≡ fields count (drop from text)
    field-fault is e = sym (so_far.same ∙ rw (rest_is, ← e, is))

    -- field k is read
    pub field-more :
        {f : field_type.Field} {read : Option field_type.Field} → read ≡ Some f → field_at text read ≡ comma_field (drop at text) → FieldPlace at text read
        → SoFar count (k + 1) from f.next text (set vs k f.value)
    field-more {f} is e p =
        let place : After at text f.next = rw is at p in
        let here : k < length vs = omega (arith, so_far.room) in
        let more : fields count (drop from text) ≡ with_values (take (k + 1) (set vs k f.value)) (fields (count - (k + 1)) (drop f.next text)) =
        so_far.same ∙ rw (rest_is, ← e, is) (one_more k f.value vs (fields (count - (k + 1)) (drop f.next text)) here) in
        record { on = omega (arith, so_far.on, place.0); room = length-set vs k f.value ∙ so_far.room; same = more }

four_are : (vs : List ℕ) → length vs ≡ 4 → get_or vs 0 0 ∷ get_or vs 1 0 ∷ get_or vs 2 0 ∷ get_or vs 3 0 ∷ [] ≡ vs
four_are (a ∷ b ∷ c ∷ d ∷ []) e = refl
four_are [] e = absurd (omega arith)
four_are (a ∷ []) e = absurd (omega arith)
four_are (a ∷ b ∷ []) e = absurd (omega arith)
four_are (a ∷ b ∷ c ∷ []) e = absurd (omega arith)
four_are (a ∷ b ∷ c ∷ d ∷ x ∷ xs) e = absurd (omega arith)

-- all fields have been read, and the LF stands after them or doesn't
module _ {count from at : ℕ} {text vs : List ℕ} (so_far : SoFar count count from at text vs) where
  none : count - count ≡ 0
  none = omega arith

  pub end-there :
      begins lf (drop at text) ≡ true
      → taken (take count (get_or vs 0 0 ∷ get_or vs 1 0 ∷ get_or vs 2 0 ∷ get_or vs 3 0 ∷ [])) (drop (at + 1) text) ≡ fields count (drop from text)
  end-there e =
      let end : fields (count - count) (drop at text) ≡ taken [] (drop (at + 1) text) =
      rw none (fields_nil (drop at text) e ∙ ap (taken []) (drop-drop 1 at text)) in
      ap (λ (us : List ℕ). taken (take count us) (drop (at + 1) text)) (four_are vs so_far.room)
      ∙ sym (so_far.same ∙ ap (with_values (take count vs)) end ∙ ap (λ (ws : List ℕ). taken ws (drop (at + 1) text)) (append-nil (take count vs)))

  pub end-missing : begins lf (drop at text) ≡ false → malformed ≡ fields count (drop from text)
  end-missing e =
      let end : fields (count - count) (drop at text) ≡ malformed = rw none (fields_no_end (drop at text) e) in
      sym (so_far.same ∙ ap (with_values (take count vs)) end)
