-- Printing one line: the loops over its fields, where it fits, and what a caller knows of a line that does.
-- Assumes nothing.
use mathlib.Core.List.{List, [], ◌∷◌}
use mathlib.Core.Path.{◌≡◌, refl, sym, ◌∙◌, ap, subst}
use Prim.Native.Nat.{ℕ, ◌+◌, ◌≤◌, ◌<◌}
use native.Mathlib.Numerals.{add-one}
use native.Mathlib.Omega.{arith}
use lib.ListN.{length, get_or, drop, length-append, drop_of_length-le}
use lib.Seq.{drop-cons}
use borrow.Author.Tests.{le-leb, lt-leb}
use Rattle.text.specs.Decimal.{decimal}
use Rattle.text.specs.Lines.{lf, comma, print_fields, print_line}
use Rattle.text.specs.Routes.{capped}
use Rattle.text.specs.WriteSteps.{Put}
use Rattle.text.specs.LineReplies.{placed, PlaceReply, place_reply_of, line_reply}
use Rattle.text.proofs.PlacedLaws.{put-room, put-length, put-field_then}

-- what is left of the line from a field on
abbrev pub tail : List ℕ → ℕ → List ℕ
tail vs k = print_fields (drop k vs)

tail_none : (vs : List ℕ) (k : ℕ) → length vs ≤ k → tail vs k ≡ lf ∷ []
unfolding print_fields
tail_none vs k l = rw (drop_of_length-le vs l)

tail_some : (vs : List ℕ) (k : ℕ) → k < length vs → drop k vs ≡ get_or vs k 0 ∷ drop (k + 1) vs
tail_some vs k l = rw add-one (drop-cons vs k 0 l)

tail_length : (vs : List ℕ) (k : ℕ) → k < length vs → length (tail vs k) ≡ 1 + length (decimal (get_or vs k 0)) + length (tail vs (k + 1))
unfolding print_fields
tail_length vs k l = rw (tail_some vs k l, length-append (decimal (get_or vs k 0)) (print_fields (drop (k + 1) vs))) (omega arith)

-- ---- counting

-- the bytes counted and those left are all of them, as far as 64 bits hold them
pub record Measuring (vs : List ℕ) (bytes k : ℕ) : Type 0 where
  pub all : capped (bytes + length (tail vs k)) ≡ capped (length (print_line 0 vs))

pub measuring_none : (vs : List ℕ) → Measuring vs 1 0
unfolding print_line
measuring_none vs = record { all = ap capped (omega arith) }

pub measuring_more : {vs : List ℕ} {bytes k sum digits : ℕ} → Measuring vs bytes k → k < length vs → digits ≡ length (decimal (get_or vs k 0)) → sum ≡ capped (bytes + (1 + digits)) → Measuring vs sum (k + 1)
measuring_more {vs} {bytes} {k} m l d s = record { all = omega (arith, m.all, tail_length vs k l) }

pub measuring_all : {vs : List ℕ} {bytes k sum : ℕ} → Measuring vs bytes k → length vs ≤ k → sum ≡ capped (bytes + 1) → sum ≡ capped (length (print_line 0 vs))
measuring_all {vs} {bytes} {k} m l s = omega (arith, m.all, ap length (tail_none vs k l))

-- ---- writing

-- the fields before this one stand, so that the others behind them make the line's fields whole
pub record Filling (vs : List ℕ) (start : ℕ) (before now : List ℕ) (at k : ℕ) : Type 0 where
  pub room : at + length (tail vs k) ≤ length now
  pub kept : length now ≡ length before
  pub whole : (after : List ℕ) (next : ℕ) → Put at (tail vs k) now after next → Put start (print_fields vs) before after next

pub filling_none : (vs : List ℕ) (start : ℕ) (buffer : List ℕ) → start + length (print_fields vs) ≤ length buffer → Filling vs start buffer buffer start 0
filling_none vs start buffer fits = record { room = fits; kept = refl; whole = λ after next p. p }

-- the next field's room
pub filling_room : {vs : List ℕ} {start : ℕ} {before now : List ℕ} {at k : ℕ} → Filling vs start before now at k → k < length vs → at + (1 + length (decimal (get_or vs k 0))) ≤ length now
filling_room {vs} {k = k} f l = omega (arith, f.room, tail_length vs k l)

pub filling_more :
    {vs : List ℕ} {start : ℕ} {before now now' : List ℕ} {at at' k : ℕ} → Filling vs start before now at k → k < length vs
    → Put at (comma ∷ decimal (get_or vs k 0)) now now' at' → Filling vs start before now' at' (k + 1)
unfolding print_fields
filling_more {vs} {start} {before} {now} {now'} {at} {at'} {k} f l p =
    let here : drop k vs ≡ get_or vs k 0 ∷ drop (k + 1) vs = tail_some vs k l in
    let size = tail_length vs k l in
    let room = f.room in
    let fits : at + length (print_fields (get_or vs k 0 ∷ drop (k + 1) vs)) ≤ length now = subst (λ (xs : List ℕ). at + length (print_fields xs) ≤ length now) here room in
    record {
      room = put-room p (length (tail vs (k + 1))) (omega arith);
      kept = put-length p (omega arith) ∙ f.kept;
      whole = λ after next q.
          f.whole after next
          (subst (λ (xs : List ℕ). Put at (print_fields xs) now after next) (sym here)
          (put-field_then (get_or vs k 0) (drop (k + 1) vs) p fits (λ _. q)));
    }

pub filling_all :
    {vs : List ℕ} {start : ℕ} {before now : List ℕ} {at k : ℕ} → Filling vs start before now at k → length vs ≤ k
    → {after : List ℕ} {next : ℕ} → Put at (lf ∷ []) now after next → Put start (print_fields vs) before after next
filling_all {vs} {start} {before} {now} {at} {k} f l {after} {next} p =
    f.whole after next (subst (λ (xs : List ℕ). Put at xs now after next) (sym (tail_none vs k l)) p)

-- the last byte's room
pub filling_end : {vs : List ℕ} {start : ℕ} {before now : List ℕ} {at k : ℕ} → Filling vs start before now at k → length vs ≤ k → at + 1 ≤ length now
filling_end {vs} {k = k} f l = omega (arith, f.room, ap length (tail_none vs k l))

-- ---- the whole line

module _ (letter : ℕ) (vs : List ℕ) (at : ℕ) (buffer : List ℕ) where
  -- nothing is written
  pub line-short : length buffer < at + length (print_line letter vs) → place_reply_of at buffer ≡ line_reply letter vs at buffer
  unfolding line_reply
  line-short l = rw (lt-leb (at + length (print_line letter vs)) (length buffer) l)

  -- the line stands
  pub line-written : {next : ℕ} {after : List ℕ} → at + length (print_line letter vs) ≤ length buffer → Put at (print_line letter vs) buffer after next → place_reply_of next after ≡ line_reply letter vs at buffer
  unfolding line_reply
  line-written fits p = rw (le-leb (at + length (print_line letter vs)) (length buffer) fits, p.next-is, p.written)

-- the length of a line says nothing of its letter
pub line_size : (letter : ℕ) (vs : List ℕ) → length (print_line letter vs) ≡ 1 + length (print_fields vs)
unfolding print_line
line_size letter vs = omega arith

-- what a caller knows whose buffer has room for the line
pub line-put :
    (letter : ℕ) (vs : List ℕ) {at next : ℕ} {buffer after : List ℕ} → place_reply_of next after ≡ line_reply letter vs at buffer → at + length (print_line letter vs) ≤ length buffer
    → Put at (print_line letter vs) buffer after next
unfolding line_reply
line-put letter vs {at} {next} {buffer} {after} e fits =
    let answered : place_reply_of next after ≡ place_reply_of (at + length (print_line letter vs)) (placed at (print_line letter vs) buffer) =
    e ∙ rw (le-leb (at + length (print_line letter vs)) (length buffer) fits) in
    record { written = ap (λ (p : PlaceReply). p.buffer) answered; next-is = ap (λ (p : PlaceReply). p.next) answered }
