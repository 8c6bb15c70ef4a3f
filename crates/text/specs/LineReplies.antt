-- Printing one line from a place of a buffer on: the next place, and the buffer afterwards.
-- Assumes nothing.
use Rattle.std.specs.Prelude.{List, ◌++◌, ℕ, ◌+◌, leb, length, take, drop}
use Rattle.price.specs.Test.{choose}
use Rattle.text.specs.Lines.{print_line}

-- the buffer with these bytes from a place on
unfoldable pub placed : ℕ → List ℕ → List ℕ → List ℕ
placed at bytes buffer = take at buffer ++ (bytes ++ drop (at + length bytes) buffer)

pub record PlaceReply : Type 0 where
  pub next : ℕ
  pub buffer : List ℕ

abbrev pub place_reply_of : ℕ → List ℕ → PlaceReply
place_reply_of next buffer = record { next = next; buffer = buffer }

-- the line stands there where it fits, and nothing is written where it does not
unfoldable pub line_reply : ℕ → List ℕ → ℕ → List ℕ → PlaceReply
line_reply letter values at buffer =
    choose (leb (at + length (print_line letter values)) (length buffer))
    (place_reply_of (at + length (print_line letter values)) (placed at (print_line letter values) buffer))
    (place_reply_of at buffer)
