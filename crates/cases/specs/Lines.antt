-- The lines of a case: where each begins, which are empty, and the word that names the call.
-- Assumes nothing.
use Rattle.std.specs.Prelude.{ℕ, zero, suc, ◌+◌, Bool, true, false, List, [], ◌∷◌, drop, ◌==◌, slice_index}

-- the bytes after this one, of which an LF has none
abbrev pub after_byte : Bool → ℕ → ℕ
after_byte true n = 0
after_byte false n = n

-- the bytes of the line that these begin with, its LF among them
unfoldable pub line_length : List ℕ → ℕ
line_length [] = 0
line_length (b ∷ bs) = after_byte (b == 10) (line_length bs) + 1

-- the place after the line at a place; the end has no line
abbrev pub next_line : List ℕ → ℕ → ℕ
next_line text at = at + line_length (drop at text)

-- the place of a line, counted from a place on
unfoldable pub line_from : List ℕ → ℕ → ℕ → ℕ
line_from text at zero = at
line_from text at (suc n) = line_from text (next_line text at) n

-- no bytes, or an LF first
abbrev pub empty_line : List ℕ → Bool
empty_line [] = true
empty_line (b ∷ bs) = b == 10

-- a letter of the word with which line 1 begins, 0 past the end
abbrev pub call_letter : List ℕ → ℕ → ℕ
call_letter text letter = slice_index text (line_from text 0 1 + letter)
