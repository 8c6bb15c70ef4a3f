-- The lines of a case: what a byte says of the line that it stands in, and how the places of lines go on.
-- Assumes nothing.
use Rattle.std.proofs.Common.{◌≡◌, ℕ, zero, suc, ◌+◌, ◌-◌, ◌<◌, ◌≤◌, true, eqb, List, ◌∷◌, length, get_or, drop, sym, refl, add-one, sub-one, arith, drop_of_length-le, drop-cons, eq-eqb, ne_eqb}
use lib.ListN.{get_or-eq_default}
use Rattle.cases.specs.Lines.{line_length, next_line, line_from, empty_line, call_letter}

module _ (text : List ℕ) (at : ℕ) where
  bytes-at : at < length text → drop at text ≡ get_or text at 0 ∷ drop (at + 1) text
  bytes-at inside = rw add-one (drop-cons text at 0 inside)

  line_past : length text ≤ at → line_length (drop at text) ≡ 0
  unfolding line_length
  line_past end = rw (drop_of_length-le text end)

  line-lf : at < length text → get_or text at 0 ≡ 10 → line_length (drop at text) ≡ 1
  unfolding line_length
  line-lf inside e = rw (bytes-at inside, eq-eqb (get_or text at 0) 10 e)

  line_on : at < length text → (get_or text at 0 ≡ 10 → ⊥) → line_length (drop at text) ≡ line_length (drop (at + 1) text) + 1
  unfolding line_length
  line_on inside n = rw (bytes-at inside, ne_eqb (get_or text at 0) 10 n)

  pub empty_past : length text ≤ at → true ≡ empty_line (drop at text)
  empty_past end = rw (drop_of_length-le text end)

  pub empty_at : at < length text → eqb (get_or text at 0) 10 ≡ empty_line (drop at text)
  empty_at inside = rw (bytes-at inside)

-- ---- the search for a line's end

-- no byte between the two places is an LF, so the line's end is the same from both
pub record InLine (text : List ℕ) (at k : ℕ) : Type 0 where
  pub within : k ≤ length text
  pub on : at ≤ k
  pub same : next_line text k ≡ next_line text at

module _ {text : List ℕ} {at : ℕ} where
  pub in_line : at < length text → InLine text at at
  in_line inside = record { within = omega arith; on = omega arith; same = refl }

  module _ {k : ℕ} (i : InLine text at k) where
    pub lf-found : k < length text → get_or text k 0 ≡ 10 → (k + 1 ≡ next_line text at) × (at < k + 1)
    lf-found inside e =
        let last = line-lf text k inside e in
        let same = i.same in
        let on = i.on in
        (omega (arith, last, same), omega (arith, on))

    pub in_line-on : k < length text → (get_or text k 0 ≡ 10 → ⊥) → InLine text at (k + 1)
    in_line-on inside n =
        let more = line_on text k inside n in
        let same = i.same in
        let on = i.on in
        record { within = omega arith; on = omega (arith, on); same = omega (arith, more, same) }

    pub text_ends : length text ≤ k → length text ≡ next_line text at
    text_ends end =
        let none = line_past text k end in
        let within = i.within in
        let same = i.same in
        omega (arith, none, within, same)

-- ---- the places of lines

-- the end of the text has no line after it
pub from_past : (text : List ℕ) (at n : ℕ) → length text ≤ at → line_from text at n ≡ at
unfolding line_from
from_past text at zero end = refl
from_past text at (suc n) end =
    let same : next_line text at ≡ at = rw (line_past text at end) (omega arith) in
    rw same (from_past text at n end)

pub from_next : (text : List ℕ) (at n : ℕ) → 0 < n → line_from text at n ≡ line_from text (next_line text at) (n - 1)
unfolding line_from
from_next text at zero more = absurd (omega arith)
from_next text at (suc n) more = rw sub-one

pub from_here : (text : List ℕ) (at n : ℕ) → n ≡ 0 → at ≡ line_from text at n
unfolding line_from
from_here text at n e = rw e

-- ---- the word that names the call

module _ (text : List ℕ) {at : ℕ} (letter : ℕ) (is : at ≡ line_from text 0 1) where
  pub letter_past : length text ≤ at + letter → 0 ≡ call_letter text letter
  letter_past end = rw (← is) (sym (get_or-eq_default text 0 end))

  pub letter_there : get_or text (at + letter) 0 ≡ call_letter text letter
  letter_there = rw is
