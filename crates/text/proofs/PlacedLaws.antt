-- Bytes placed in a buffer: one piece behind the other, and a byte in front of others.
-- Assumes nothing.
use mathlib.Core.List.{List, [], ◌∷◌, ◌++◌, append_assoc}
use mathlib.Core.Path.{◌≡◌, refl, sym, ◌∙◌, ap}
use Prim.Native.Nat.{ℕ, suc, ◌+◌, ◌-◌, ◌/◌, ◌%◌, ◌^◌, ◌≤◌, ◌<◌}
use native.Mathlib.Nat.{zero-add, add_assoc, add-zero}
use native.Mathlib.Numerals.{add-one}
use native.Mathlib.Omega.{arith}
use lib.ListN.{length, take, drop, set, get_or, length-append, length-take, length-drop, length-set, take-append-drop}
use lib.Seq.{length-take-le, take_at, drop-append-add, drop-drop, take-suc, append_snoc, set_at, set_split}
use Rattle.text.specs.Decimal.{decimal}
use Rattle.text.specs.Lines.{comma, print_fields, print_line}
use Rattle.text.specs.ReadReplies.{written_over}
use Rattle.text.specs.WriteSteps.{Put}
use Rattle.text.specs.LineReplies.{placed}
use Rattle.text.proofs.DecimalLaws.{Parted, parted_start, parted_next, parted_end, parted_long}

-- one piece behind the other is both pieces
module _ (at : ℕ) (xs ys buffer : List ℕ) (fits : at + (length xs + length ys) ≤ length buffer) where
  head_long : length (take at buffer ++ xs) ≡ at + length xs
  head_long = length-append (take at buffer) xs ∙ rw (length-take-le at buffer (omega arith))

  head_is : take (at + length xs) (placed at xs buffer) ≡ take at buffer ++ xs
  unfolding placed
  head_is =
      rw (← append_assoc (take at buffer) xs (drop (at + length xs) buffer))
      (take_at (take at buffer ++ xs) (drop (at + length xs) buffer) (at + length xs) head_long)

  tail_is : drop (at + length xs + length ys) (placed at xs buffer) ≡ drop (at + (length xs + length ys)) buffer
  unfolding placed
  tail_is =
      rw (← append_assoc (take at buffer) xs (drop (at + length xs) buffer))
      (ap (λ (k : ℕ). drop (k + length ys) (take at buffer ++ xs ++ drop (at + length xs) buffer)) (sym head_long)
      ∙ drop-append-add (take at buffer ++ xs) (drop (at + length xs) buffer) (length ys)
      ∙ drop-drop (length ys) (at + length xs) buffer
      ∙ rw add_assoc)

  pub placed-append : placed (at + length xs) ys (placed at xs buffer) ≡ placed at (xs ++ ys) buffer
  unfolding placed
  placed-append =
      ap (λ (h : List ℕ). h ++ (ys ++ drop (at + length xs + length ys) (placed at xs buffer))) head_is
      ∙ ap (λ (t : List ℕ). take at buffer ++ xs ++ (ys ++ t)) tail_is
      ∙ rw (length-append xs ys, append_assoc xs ys, append_assoc (take at buffer) xs)

pub placed-length : (at : ℕ) (xs buffer : List ℕ) → at + length xs ≤ length buffer → length (placed at xs buffer) ≡ length buffer
unfolding placed
placed-length at xs buffer fits =
    simp (length-append, length-take, length-drop) (omega arith)

pub placed-start : (xs buffer : List ℕ) → placed 0 xs buffer ≡ written_over xs buffer
unfolding placed written_over
placed-start xs buffer = rw zero-add

-- no bytes change nothing
pub placed-none : (at : ℕ) (buffer : List ℕ) → placed at [] buffer ≡ buffer
unfolding placed
placed-none at buffer = rw add-zero (take-append-drop at buffer)

-- a byte stored before the others
pub placed_before : (at byte : ℕ) (xs buffer : List ℕ) → at + 1 + length xs ≤ length buffer → set (placed (at + 1) xs buffer) at byte ≡ placed at (byte ∷ xs) buffer
unfolding placed
placed_before at byte xs buffer fits =
    let e : at + 1 + length xs ≡ at + suc (length xs) = omega arith in
    rw (e, add-one, take-suc buffer at 0 (omega arith), append_snoc (take at buffer))
    (set_at (take at buffer) (get_or buffer at 0) (xs ++ drop (at + suc (length xs)) buffer) byte at
    (length-take-le at buffer (omega arith)))

-- ---- a number's digits, the last one first

-- the digits from the k-th on stand behind the place, and the others are those of what is left
pub record Writing (at n : ℕ) (before now : List ℕ) (left k : ℕ) : Type 0 where
  pub others : List ℕ
  pub parted : Parted n left k others
  pub written : now ≡ placed (at + k) others before
  pub fits : at + length (decimal n) ≤ length before
  pub long : k + length others ≡ length (decimal n)
  pub kept : length now ≡ length before

pub writing_start : (at n : ℕ) (buffer : List ℕ) (k : ℕ) → at + length (decimal n) ≤ length buffer → n < 10 ^ 20 → k ≡ length (decimal n) → Writing at n buffer buffer n k
writing_start at n buffer k fits small all =
    let p = parted_start n k small all in
    record {
      others = [];
      parted = p;
      written = sym (placed-none (at + k) buffer);
      fits = fits;
      long = parted_long n n k [] p;
      kept = refl;
    }

pub writing_next : (at n : ℕ) (before now : List ℕ) (left k : ℕ) → 0 < k → Writing at n before now left k → Writing at n before (set now (at + (k - 1)) (48 + left % 10)) (left / 10) (k - 1)
writing_next at n before now left k some w =
    let p = parted_next n left k w.others some w.parted in
    let e : at + k ≡ at + (k - 1) + 1 = omega arith in
    let room : at + (k - 1) + 1 + length w.others ≤ length before = omega (arith, w.long, w.fits) in
    record {
      others = (48 + left % 10) ∷ w.others;
      parted = p;
      written =
          rw (w.written, e) (placed_before (at + (k - 1)) (48 + left % 10) w.others before room);
      fits = w.fits;
      long = parted_long n (left / 10) (k - 1) ((48 + left % 10) ∷ w.others) p;
      kept = length-set now (at + (k - 1)) (48 + left % 10) ∙ w.kept;
    }

pub writing_end : (at n : ℕ) (before now : List ℕ) (left k : ℕ) → k ≤ 0 → Writing at n before now left k → now ≡ placed at (decimal n) before
writing_end at n before now left k none w =
    let e : at + k ≡ at = omega arith in
    w.written ∙ rw (e, parted_end n left k w.others none w.parted)

-- ---- what a call has put

pub put_byte : (at byte : ℕ) (buffer : List ℕ) → at + 1 ≤ length buffer → Put at (byte ∷ []) buffer (set buffer at byte) (at + 1)
unfolding placed
put_byte at byte buffer fits = record { written = set_split buffer at byte (omega arith) ∙ rw add-one; next-is = refl }

pub put_then : {at p q : ℕ} {xs ys b₀ b₁ b₂ : List ℕ} → Put at xs b₀ b₁ p → Put p ys b₁ b₂ q → at + (length xs + length ys) ≤ length b₀ → Put at (xs ++ ys) b₀ b₂ q
put_then {at} {p} {q} {xs} {ys} {b₀} {b₁} {b₂} f g fits =
    record {
      written = g.written ∙ rw (f.next-is, f.written) (placed-append at xs ys b₀ fits);
      next-is = g.next-is ∙ rw (f.next-is, length-append xs ys, add_assoc);
    }

-- the buffer keeps its length
pub put-length : {at p : ℕ} {xs b₀ b₁ : List ℕ} → Put at xs b₀ b₁ p → at + length xs ≤ length b₀ → length b₁ ≡ length b₀
put-length {at} {p} {xs} {b₀} f fits = ap length f.written ∙ placed-length at xs b₀ fits

-- the room that is left behind
pub put-room : {at p : ℕ} {xs b₀ b₁ : List ℕ} → Put at xs b₀ b₁ p → (k : ℕ) → at + (length xs + k) ≤ length b₀ → p + k ≤ length b₁
put-room {at} {p} {xs} {b₀} {b₁} f k fits =
    rw (f.next-is, put-length f (omega arith)) (omega arith)

-- bytes copied over the part of the buffer that begins at a place
pub put-over :
    (at : ℕ) (bytes buffer : List ℕ) {part : List ℕ} → part ≡ bytes
    → Put at bytes buffer (take at buffer ++ (part ++ drop (at + length bytes - at) (drop at buffer))) (at + length bytes)
unfolding placed
put-over at bytes buffer {part} e =
    let long : at + length bytes - at ≡ length bytes = omega arith in
    record { written = rw (e, long, drop-drop (length bytes) at buffer); next-is = refl }

-- a piece before the rest
pub put-onward :
    {p q r : ℕ} {b₁ b₂ b₃ : List ℕ} (xs rest : List ℕ) → Put p xs b₁ b₂ q → p + length (xs ++ rest) ≤ length b₁
    → (q + length rest ≤ length b₂ → Put q rest b₂ b₃ r) → Put p (xs ++ rest) b₁ b₃ r
put-onward xs rest f fits more =
    let l = length-append xs rest in
    put_then f (more (put-room f (length rest) (omega arith))) (omega arith)

-- a field before the rest of its line
pub put-field_then :
    {p q r : ℕ} {b₁ b₂ b₃ : List ℕ} (v : ℕ) (vs : List ℕ)
    → Put p (comma ∷ decimal v) b₁ b₂ q → p + length (print_fields (v ∷ vs)) ≤ length b₁
    → (q + length (print_fields vs) ≤ length b₂ → Put q (print_fields vs) b₂ b₃ r) → Put p (print_fields (v ∷ vs)) b₁ b₃ r
unfolding print_fields
put-field_then v vs = put-onward (comma ∷ decimal v) (print_fields vs)

-- the letter before the fields
pub put_letter_then :
    {at p q letter : ℕ} {b₀ b₁ b₂ : List ℕ} (vs : List ℕ)
    → Put at (letter ∷ []) b₀ b₁ p → at + length (print_line letter vs) ≤ length b₀
    → (p + length (print_fields vs) ≤ length b₁ → Put p (print_fields vs) b₁ b₂ q) → Put at (print_line letter vs) b₀ b₂ q
unfolding print_line
put_letter_then {letter = letter} vs = put-onward (letter ∷ []) (print_fields vs)
