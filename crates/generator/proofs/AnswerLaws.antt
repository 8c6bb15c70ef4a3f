-- What is printed for an input, from what it asks for.
-- Assumes nothing.
use Rattle.std.proofs.Common.{◌≡◌, ℕ, ◌≤◌, List, [], ◌∷◌, ◌++◌, length, drop, sym, ap, ◌∙◌, arith, length-append}
use Rattle.text.specs.Lines.{letter_x, print_line}
use Rattle.text.specs.WriteSteps.{Put}
use Rattle.text.specs.ReadReplies.{written_over}
use Rattle.text.proofs.DecimalLaws.{decimal-length, two_size}
use Rattle.text.proofs.PlacedLaws.{placed-start}
use Rattle.generator.specs.Load.{load_text}
use Rattle.generator.specs.Ask.{Asked, asked, turned_away, asked_in, shown_for, ShownReply, shown_reply_of, shown_reply}

-- what stands from the buffer's beginning on
shown_is : (input buffer : List ℕ) (what : Asked) {bytes : ℕ} {after : List ℕ} → asked_in input ≡ what → Put 0 (shown_for what) buffer after bytes → shown_reply_of bytes after ≡ shown_reply input buffer
unfolding shown_reply
shown_is input buffer what {bytes} {after} e p =
    let long : bytes ≡ length (shown_for what) = p.next-is ∙ omega arith in
    rw (e, long, p.written, placed-start (shown_for what) buffer)

module _ (input : List ℕ) {bytes : ℕ} {buffer after : List ℕ} where
  pub shown_load : {seed nodes nets : ℕ} → asked seed nodes nets ≡ asked_in input → Put 0 (load_text seed nodes nets) buffer after bytes → shown_reply_of bytes after ≡ shown_reply input buffer
  shown_load {seed} {nodes} {nets} e p = shown_is input buffer (asked seed nodes nets) (sym e) p

  pub shown_away : {place : ℕ} → turned_away place ≡ asked_in input → Put 0 (print_line letter_x (17 ∷ place ∷ [])) buffer after bytes → shown_reply_of bytes after ≡ shown_reply input buffer
  shown_away {place} e p = shown_is input buffer (turned_away place) (sym e) p

-- the line of a refusal is short
pub line_size : (place : ℕ) → length (print_line letter_x (17 ∷ place ∷ [])) ≤ 44
line_size place = omega (arith, two_size letter_x 17 place, decimal-length 17, decimal-length place)

-- what is printed lies within the buffer
pub bytes_fit : {bytes : ℕ} {after : List ℕ} (input buffer : List ℕ) → shown_reply_of bytes after ≡ shown_reply input buffer → bytes ≤ length after
unfolding shown_reply written_over
bytes_fit {bytes} {after} input buffer e =
    let text : List ℕ = shown_for (asked_in input) in
    let count : bytes ≡ length text = ap (λ (r : ShownReply). r.bytes) e in
    let rest : after ≡ text ++ drop (length text) buffer = ap (λ (r : ShownReply). r.buffer) e in
    omega (arith, ap length rest, length-append text (drop (length text) buffer))
