-- Document 01, "Text fields are in base ten": a number's digits as bytes.
-- Assumes nothing.
use Rattle.std.specs.Prelude.{Bool, List, [], ◌∷◌, ◌++◌, ℕ, zero, suc, ◌+◌, ◌/◌, ◌%◌, leb, ltb}
use Rattle.price.specs.Test.{choose, both}

-- ASCII codes of the digits 0 and 9; those between follow each other
abbrev pub zero_byte : ℕ
zero_byte = 48

abbrev pub nine_byte : ℕ
nine_byte = 57

unfoldable pub is_digit : ℕ → Bool
is_digit b = both (leb zero_byte b) (leb b nine_byte)

-- the digits of a number that has at most this many
unfoldable pub digits : ℕ → ℕ → List ℕ
digits zero n = []
digits (suc k) n = choose (ltb n 10) ((zero_byte + n) ∷ []) (digits k (n / 10) ++ ((zero_byte + n % 10) ∷ []))

-- a number below 2^64 has at most 20 digits
unfoldable pub decimal : ℕ → List ℕ
decimal n = digits 20 n
