-- Document 01, "Job text" and "Routes text": a line is a letter, fields parted by commas, and LF.
-- Assumes nothing.
use Rattle.std.specs.Prelude.{Bool, false, List, [], ◌∷◌, ◌++◌, ℕ, zero, suc, ◌+◌, ◌*◌, ◌-◌, eqb}
use Rattle.price.specs.Test.{choose}
use Rattle.text.specs.Decimal.{zero_byte, is_digit, decimal}

abbrev pub lf : ℕ
lf = 10

abbrev pub comma : ℕ
comma = 44

-- ASCII codes of the line letters: F, P, V, W, N, E, S and T of a job text, R, B and J of a routes text, X of a refusal
abbrev pub letter_f : ℕ
letter_f = 70

abbrev pub letter_p : ℕ
letter_p = 80

abbrev pub letter_v : ℕ
letter_v = 86

abbrev pub letter_w : ℕ
letter_w = 87

abbrev pub letter_n : ℕ
letter_n = 78

abbrev pub letter_e : ℕ
letter_e = 69

abbrev pub letter_s : ℕ
letter_s = 83

abbrev pub letter_t : ℕ
letter_t = 84

abbrev pub letter_r : ℕ
letter_r = 82

abbrev pub letter_b : ℕ
letter_b = 66

abbrev pub letter_j : ℕ
letter_j = 74

abbrev pub letter_x : ℕ
letter_x = 88

-- ---- reading

-- "Each field reading gives a number with the next place, or a fault": here with the bytes that follow
pub data Field : Type 0 where
  number : (value : ℕ) (rest : List ℕ) → Field
  fault : Field

-- a number continues with at most this many further digits
unfoldable pub digits_after : ℕ → ℕ → List ℕ → Field
digits_after zero value bs = number value bs
digits_after (suc k) value [] = number value []
digits_after (suc k) value (b ∷ bs) =
    choose (is_digit b) (digits_after k (value * 10 + (b - zero_byte)) bs) (number value (b ∷ bs))

-- "1 to 6 digits, no leading zero but 0 itself". A digit that comes after these stands where a comma or LF should
unfoldable pub field : List ℕ → Field
field [] = fault
field (b ∷ bs) = choose (eqb b zero_byte) (number 0 bs) (choose (is_digit b) (digits_after 5 (b - zero_byte) bs) fault)

-- the bytes begin with this one
unfoldable pub begins : ℕ → List ℕ → Bool
begins byte [] = false
begins byte (b ∷ bs) = eqb b byte

-- the values of a line's fields with the bytes that follow the line, or a line of wrong shape
pub data Fields : Type 0 where
  taken : (values rest : List ℕ) → Fields
  malformed : Fields

abbrev pub with_value : ℕ → Fields → Fields
with_value v (taken vs rest) = taken (v ∷ vs) rest
with_value v malformed = malformed

abbrev pub after_field : Field → (List ℕ → Fields) → Fields
after_field (number v rest) others = with_value v (others rest)
after_field fault others = malformed

-- this many fields, each after a comma, then LF: "any other byte out of place, CR included, is a fault"
unfoldable pub fields : ℕ → List ℕ → Fields
fields zero [] = malformed
fields zero (b ∷ bs) = choose (eqb b lf) (taken [] bs) malformed
fields (suc k) [] = malformed
fields (suc k) (b ∷ bs) = choose (eqb b comma) (after_field (field bs) (λ rest. fields k rest)) malformed

-- the line's letter, then its fields
unfoldable pub line : ℕ → ℕ → List ℕ → Fields
line letter k [] = malformed
line letter k (b ∷ bs) = choose (eqb b letter) (fields k bs) malformed

-- ---- printing

unfoldable pub print_fields : List ℕ → List ℕ
print_fields [] = lf ∷ []
print_fields (v ∷ vs) = comma ∷ (decimal v ++ print_fields vs)

unfoldable pub print_line : ℕ → List ℕ → List ℕ
print_line letter vs = letter ∷ print_fields vs
