-- The program reads 32 bytes of its input: what follows them can't change what is asked.
-- Assumes nothing.
use Rattle.std.proofs.Common.{◌≡◌, ℕ, zero, suc, ◌+◌, ◌-◌, ◌*◌, ◌<◌, ◌≤◌, Bool, true, false, eqb, List, [], ◌∷◌, ◌++◌, length, take, drop, sym, refl, ap, ◌∙◌, ⊎_elim, arith, length-append, take-append-drop, length-take-le, take_all, ne_eqb}
use Rattle.price.specs.Test.{choose, both, either}
use Rattle.price.proofs.TestLaws.{le_or_lt}
use Rattle.text.specs.Decimal.{zero_byte, is_digit}
use Rattle.text.specs.Lines.{lf, comma, Field, number, fault, digits_after, begins}
use Rattle.text.specs.JobText.{between}
use Rattle.generator.specs.Ask.{number_up_to, field_ends, kept_field, whole_field, next_field, Asked, asked, or_away, ended, asked_in, shown_reply}

-- the same field where more bytes come behind it
abbrev longer : List ℕ → Field → Field
longer xs fault = fault
longer xs (number v rest) = number v (rest ++ xs)

-- so many bytes are left after the field
abbrev Left : ℕ → Field → Type 0
Left n fault = 0 ≤ 0
Left n (number v rest) = n ≤ length rest

record Same (n : ℕ) (xs : List ℕ) (f g : Field) : Type 0 where
  same : g ≡ longer xs f
  left : Left n f

module _ (n : ℕ) (xs : List ℕ) where
  chosen : (c : Bool) {f f' g g' : Field} → Same n xs f f' → Same n xs g g' → Same n xs (choose c f g) (choose c f' g')
  chosen true a b = a
  chosen false a b = b

  no_field : Same n xs fault fault
  no_field = record { same = refl; left = omega arith }

  digits_same : (k value : ℕ) (bs : List ℕ) → k + n ≤ length bs → Same n xs (digits_after k value bs) (digits_after k value (bs ++ xs))
  unfolding digits_after
  digits_same zero value bs long = record { same = refl; left = omega arith }
  digits_same (suc k) value [] long = absurd (omega arith)
  digits_same (suc k) value (b ∷ bs) long = chosen (is_digit b) (digits_same k (value * 10 + (b - zero_byte)) bs (omega arith)) record { same = refl; left = omega arith }

  number_same : (more : ℕ) (bs : List ℕ) → more + 1 + n ≤ length bs → Same n xs (number_up_to more bs) (number_up_to more (bs ++ xs))
  unfolding number_up_to
  number_same more [] long = absurd (omega arith)
  number_same more (b ∷ bs) long =
      chosen (eqb b zero_byte) record { same = refl; left = omega arith } (chosen (is_digit b) (digits_same more (b - zero_byte) bs (omega arith)) no_field)

  -- a field's end is seen where a byte is left
  kept_same : (low high : ℕ) (f : Field) → 0 < n → Left n f → Same n xs (kept_field low high f) (kept_field low high (longer xs f))
  unfolding field_ends
  kept_same low high fault some left = no_field
  kept_same low high (number v []) some left = absurd (omega arith)
  kept_same low high (number v (b ∷ bs)) some left = chosen (both (either (eqb b comma) (eqb b lf)) (between low high v)) record { same = refl; left = left } no_field

  whole_same : (more low high : ℕ) (bs : List ℕ) → 0 < n → more + 1 + n ≤ length bs → Same n xs (whole_field more low high bs) (whole_field more low high (bs ++ xs))
  unfolding whole_field
  whole_same more low high bs some long =
      let first = number_same more bs long in
      rw first.same (kept_same low high (number_up_to more bs) some first.left)

  next-same : (more low high : ℕ) (bs : List ℕ) → 0 < n → more + 2 + n ≤ length bs → Same n xs (next_field more low high bs) (next_field more low high (bs ++ xs))
  unfolding next_field begins
  next-same more low high [] some long = absurd (omega arith)
  next-same more low high (b ∷ bs) some long = chosen (eqb b comma) (whole_same more low high bs some (omega arith)) no_field

  away_same : (place : ℕ) (f g : Field) (next : ℕ → List ℕ → Asked) → Same n xs f g
      → ((v : ℕ) (rest : List ℕ) → n ≤ length rest → next v (rest ++ xs) ≡ next v rest) → or_away place g next ≡ or_away place f next
  away_same place fault g next read onward = rw read.same
  away_same place (number v rest) g next read onward = rw read.same (onward v rest read.left)

-- two bytes show whether the line ends with nothing behind it
ended_same : (xs bs : List ℕ) (whole : Asked) → 2 ≤ length bs → ended (bs ++ xs) whole ≡ ended bs whole
unfolding ended begins
ended_same xs [] whole long = absurd (omega arith)
ended_same xs (b ∷ bs) whole long =
    let total : length (b ∷ bs ++ xs) ≡ length (b ∷ bs) + length xs = length-append (b ∷ bs) xs in
    rw (ne_eqb (length (b ∷ bs)) 1 (λ e. omega arith), ne_eqb (length (b ∷ bs ++ xs)) 1 (λ e. omega arith))

asked-same : (xs bs : List ℕ) → 26 ≤ length bs → asked_in (bs ++ xs) ≡ asked_in bs
unfolding asked_in
asked-same xs bs long =
    away_same 16 xs 0 _ _ _ (whole_same 16 xs 9 0 _ bs (omega arith) (omega arith)) (λ seed rest left.
    away_same 9 xs 1 _ _ _ (next-same 9 xs 5 8 256 rest (omega arith) (omega arith)) (λ nodes rest1 left1.
    away_same 2 xs 2 _ _ _ (next-same 2 xs 5 1 64 rest1 (omega arith) (omega arith)) (λ nets rest2 left2.
    ended_same xs rest2 (asked seed nodes nets) left2)))

long-enough : (input : List ℕ) → 32 < length input → asked_in (take 32 input) ≡ asked_in input
long-enough input long =
    let enough : length (take 32 input) ≡ 32 = length-take-le 32 input (omega arith) in
    sym (asked-same (drop 32 input) (take 32 input) (omega arith)) ∙ ap asked_in (take-append-drop 32 input)

-- so the call's answer for the first 32 bytes is the one for the whole input
pub first_bytes : (input buffer : List ℕ) → shown_reply (take 32 input) buffer ≡ shown_reply input buffer
unfolding shown_reply
first_bytes input buffer =
    let same : asked_in (take 32 input) ≡ asked_in input =
    ⊎_elim (λ (short : length input ≤ 32). ap asked_in (take_all 32 input short)) (long-enough input) (le_or_lt (length input) 32) in
    rw same
