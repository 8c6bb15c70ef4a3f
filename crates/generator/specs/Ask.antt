-- Request 2.12: what the program's input asks for, and what is printed.
-- Assumes nothing.
use Rattle.std.specs.Prelude.{ℕ, ◌-◌, ◌^◌, Bool, true, List, [], ◌∷◌, length, drop, ◌==◌}
use Rattle.price.specs.Test.{choose, both, either}
use Rattle.text.specs.Decimal.{zero_byte, is_digit}
use Rattle.text.specs.Lines.{lf, comma, letter_x, Field, number, fault, digits_after, begins, print_line}
use Rattle.text.specs.JobText.{between}
use Rattle.text.specs.ReadReplies.{written_over}
use Rattle.generator.specs.Load.{load_text}

-- a number without a leading zero, of at most this many digits after its first; a field of a job text has 5
unfoldable pub number_up_to : ℕ → List ℕ → Field
number_up_to more [] = fault
number_up_to more (b ∷ bs) = choose (b == zero_byte) (number 0 bs) (choose (is_digit b) (digits_after more (b - zero_byte) bs) fault)

-- "A field runs to a comma, LF or the end"
unfoldable pub field_ends : List ℕ → Bool
field_ends [] = true
field_ends (b ∷ bs) = either (b == comma) (b == lf)

-- a field that is "missing, malformed or beyond its bounds" is a fault
abbrev pub kept_field : ℕ → ℕ → Field → Field
kept_field low high fault = fault
kept_field low high (number v rest) = choose (both (field_ends rest) (between low high v)) (number v rest) fault

unfoldable pub whole_field : ℕ → ℕ → ℕ → List ℕ → Field
whole_field more low high bs = kept_field low high (number_up_to more bs)

-- another field comes after a comma, else it is missing
unfoldable pub next_field : ℕ → ℕ → ℕ → List ℕ → Field
next_field more low high bs = choose (begins comma bs) (whole_field more low high (drop 1 bs)) fault

-- what the input asks for, or the place of the field for which it is refused
pub data Asked : Type 0 where
  asked : (seed nodes nets : ℕ) → Asked
  turned_away : (place : ℕ) → Asked

-- "the field place (from 0) of the first field that is missing, malformed or beyond its bounds"
abbrev pub or_away : ℕ → Field → (ℕ → List ℕ → Asked) → Asked
or_away place fault next = turned_away place
or_away place (number v rest) next = next v rest

-- "3 for a missing LF or anything after it"
unfoldable pub ended : List ℕ → Asked → Asked
ended bs whole = choose (both (begins lf bs) (length bs == 1)) whole (turned_away 3)

-- "one line `seed,nodes,nets`, ended by LF": "seed, the first state, below 2^32, nodes 8 to 256, nets 1 to 64";
-- "the seed's has 1 to 10 digits"
unfoldable pub asked_in : List ℕ → Asked
asked_in input =
    or_away 0 (whole_field 9 0 (2 ^ 32 - 1) input) (λ seed rest.
    or_away 1 (next_field 5 8 256 rest) (λ nodes rest1.
    or_away 2 (next_field 5 1 64 rest1) (λ nets rest2. ended rest2 (asked seed nodes nets))))

-- what is printed: the job's text, or "number 17 with the field place"; "only the X line is printed"
abbrev pub shown_for : Asked → List ℕ
shown_for (asked seed nodes nets) = load_text seed nodes nets
shown_for (turned_away place) = print_line letter_x (17 ∷ place ∷ [])

-- ---- the call's answer

-- the bytes printed, and the buffer afterwards: the text at its beginning, the rest as it was
pub record ShownReply : Type 0 where
  pub bytes : ℕ
  pub buffer : List ℕ

abbrev pub shown_reply_of : ℕ → List ℕ → ShownReply
shown_reply_of bytes buffer = record { bytes = bytes; buffer = buffer }

unfoldable pub shown_reply : List ℕ → List ℕ → ShownReply
shown_reply input buffer = shown_reply_of (length (shown_for (asked_in input))) (written_over (shown_for (asked_in input)) buffer)
