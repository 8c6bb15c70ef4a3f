-- What the contract of a private function says.
-- Assumes nothing.
use Rattle.std.specs.Prelude.{List, ℕ, Result, Ok, Err}
use Rattle.text.specs.Lines.{letter_x}
use Rattle.text.specs.LineReplies.{PlaceReply, place_reply_of, line_reply}
use Rattle.job.specs.Tables.{refused_numbers}
use Rattle.job.specs.declared.refused.Refused.{Refused}

-- what an answer leaves in the routes buffer: the text that is there already, or the line of the refusal
abbrev pub answer_line : Result ℕ Refused → List ℕ → PlaceReply
answer_line (Ok bytes) buffer = place_reply_of bytes buffer
answer_line (Err refused) buffer = line_reply letter_x (refused_numbers refused) 0 buffer
