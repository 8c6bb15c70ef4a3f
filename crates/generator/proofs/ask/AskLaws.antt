-- The input's line, byte by byte: what each function of `ask` meets.
-- Assumes nothing.
use Rattle.std.proofs.Common.{◌≡◌, ℕ, zero, suc, ◌+◌, ◌-◌, ◌*◌, ◌^◌, ◌<◌, ◌≤◌, true, false, eqb, leb, List, ◌∷◌, length, get_or, drop, sym, refl, ap, ◌∙◌, subst, ◌⊎◌, inl, inr}
use Rattle.std.proofs.Common.{le_trans, mul-le-mul_right, mul_assoc, mul-le-mul, mul-le-mul_left, add-one, sub-one, arith, drop_of_length-le, drop-cons, drop-drop, eq-eqb, ne_eqb, le-leb}
use native.Mathlib.Nat.{pow-succ', pow-le-pow_right}
use borrow.Author.Tests.{lt-leb}
use Rattle.price.specs.Test.{either}
use Rattle.price.proofs.TestLaws.{both_false_right}
use Rattle.text.specs.Decimal.{is_digit}
use Rattle.text.specs.Lines.{lf, comma, Field, number, fault, digits_after, begins}
use Rattle.text.proofs.FieldLaws.{digit_most, after_none, after_other, after_digit}
use Rattle.generator.specs.Ask.{number_up_to, field_ends, whole_field, next_field, asked, turned_away, ended, asked_in}

-- the bytes at a place, where there are some
bytes-at : (at : ℕ) (input : List ℕ) → at < length input → drop at input ≡ get_or input at 0 ∷ drop (at + 1) input
bytes-at at input inside = rw add-one (drop-cons input at 0 inside)

-- ---- a field's end

module _ (at : ℕ) (input : List ℕ) where
  pub ends_past : length input ≤ at → field_ends (drop at input) ≡ true
  unfolding field_ends
  ends_past end = rw (drop_of_length-le input end)

  ends_at : at < length input → field_ends (drop at input) ≡ either (eqb (get_or input at 0) comma) (eqb (get_or input at 0) lf)
  unfolding field_ends
  ends_at inside = rw (bytes-at at input inside)

  pub ends_mark : at < length input → (get_or input at 0 ≡ lf) ⊎ (get_or input at 0 ≡ comma) → field_ends (drop at input) ≡ true
  ends_mark inside (inl e) = ends_at inside ∙ rw e
  ends_mark inside (inr e) = ends_at inside ∙ rw e

  pub ends_other : at < length input → (get_or input at 0 ≡ comma → ⊥) → (get_or input at 0 ≡ lf → ⊥) → field_ends (drop at input) ≡ false
  ends_other inside n m = ends_at inside ∙ rw (ne_eqb (get_or input at 0) comma n, ne_eqb (get_or input at 0) lf m)

-- ---- the further digits of a number

-- so many digits may still come, and the number so far leaves room for them
pub record Digits (input : List ℕ) (at first more value next left : ℕ) : Type 0 where
  pub same : digits_after left value (drop next input) ≡ digits_after more first (drop at input)
  pub within : next ≤ length input
  pub small : (value + 1) * 10 ^ left ≤ 10 ^ 10

pub digits-start : (input : List ℕ) (at first more : ℕ) → at ≤ length input → first < 10 → more ≤ 9 → Digits input at first more first at more
digits-start input at first more inside l few =
    let one : first + 1 ≤ 10 = omega arith in
    let others : 10 ^ more ≤ 10 ^ 9 = pow-le-pow_right (omega arith) few in
    let most : (first + 1) * 10 ^ more ≤ 10 * 10 ^ 9 = mul-le-mul one others in
    record { same = refl; within = inside; small = omega arith }

-- one more digit leaves room for one less
small_step : (value d left : ℕ) → d ≤ 9 → 0 < left → (value + 1) * 10 ^ left ≤ 10 ^ 10 → (value * 10 + d + 1) * 10 ^ (left - 1) ≤ 10 ^ 10
small_step value d zero l more s = absurd (omega arith)
small_step value d (suc k) l more s =
    let grown : (value * 10 + d + 1) * 10 ^ k ≤ (value + 1) * 10 * 10 ^ k = mul-le-mul_right (10 ^ k) (omega arith) in
    let before : (value + 1) * 10 * 10 ^ k ≤ 10 ^ 10 = rw (mul_assoc (value + 1) 10 (10 ^ k), ← pow-succ' 10 k) s in
    rw sub-one (le_trans grown before)

-- the number ends here
abbrev pub Ended : (input : List ℕ) (at first more value next : ℕ) → Type 0
Ended input at first more value next = (number value (drop next input) ≡ digits_after more first (drop at input)) × (next ≤ length input)

module _ {input : List ℕ} {at first more value next left : ℕ} (so_far : Digits input at first more value next left) where
  -- the number has room for one more digit
  pub digits-room : 0 < left → (value + 1) * 10 ≤ 10 ^ 10
  digits-room some = le_trans (mul-le-mul_left (value + 1) (pow-le-pow_right (omega arith) some)) so_far.small

  pub digits_step : 0 < left → next < length input → is_digit (get_or input next 0) ≡ true → Digits input at first more (value * 10 + (get_or input next 0 - 48)) (next + 1) (left - 1)
  digits_step some inside e =
      let low : get_or input next 0 ≤ 57 = digit_most (get_or input next 0) e in
      let here : digits_after left value (drop next input) ≡ digits_after (left - 1) (value * 10 + (get_or input next 0 - 48)) (drop (next + 1) input) =
      rw (bytes-at next input inside) (after_digit left value (get_or input next 0) (drop (next + 1) input) some e) in
      record {
        same = sym here ∙ so_far.same;
        within = omega arith;
        small = small_step value (get_or input next 0 - 48) left (omega arith) some so_far.small;
      }

  ended_here : number value (drop next input) ≡ digits_after left value (drop next input) → Ended input at first more value next
  ended_here e = (e ∙ so_far.same, so_far.within)

  pub digits_past : length input ≤ next → Ended input at first more value next
  digits_past end = ended_here (rw (drop_of_length-le input end) (sym (after_none left value)))

  pub digits_other : next < length input → is_digit (get_or input next 0) ≡ false → Ended input at first more value next
  digits_other inside e = ended_here (rw (bytes-at next input inside) (sym (after_other left value (get_or input next 0) (drop (next + 1) input) e)))

  pub digits_full : left ≡ 0 → Ended input at first more value next
  unfolding digits_after
  digits_full none = ended_here (rw none)

-- ---- a number

module _ (more at : ℕ) (input : List ℕ) where
  pub number_past : length input ≤ at → number_up_to more (drop at input) ≡ fault
  unfolding number_up_to
  number_past end = rw (drop_of_length-le input end)

  module _ (inside : at < length input) where
    pub number_zero : get_or input at 0 ≡ 48 → number_up_to more (drop at input) ≡ number 0 (drop (at + 1) input)
    unfolding number_up_to
    number_zero e = rw (bytes-at at input inside, eq-eqb (get_or input at 0) 48 e)

    pub number_other : (get_or input at 0 ≡ 48 → ⊥) → is_digit (get_or input at 0) ≡ false → number_up_to more (drop at input) ≡ fault
    unfolding number_up_to
    number_other n e = rw (bytes-at at input inside, ne_eqb (get_or input at 0) 48 n, e)

    pub number_digits : (get_or input at 0 ≡ 48 → ⊥) → is_digit (get_or input at 0) ≡ true → number_up_to more (drop at input) ≡ digits_after more (get_or input at 0 - 48) (drop (at + 1) input)
    unfolding number_up_to
    number_digits n e = rw (bytes-at at input inside, ne_eqb (get_or input at 0) 48 n, e)

-- ---- a whole field

module _ (more low high : ℕ) (bs : List ℕ) where
  pub whole_fault : number_up_to more bs ≡ fault → whole_field more low high bs ≡ fault
  unfolding whole_field
  whole_fault e = rw e

  module _ {v : ℕ} {rest : List ℕ} (e : number_up_to more bs ≡ number v rest) where
    pub whole_open : field_ends rest ≡ false → whole_field more low high bs ≡ fault
    unfolding whole_field
    whole_open p = rw (e, p)

    pub whole_low : v < low → whole_field more low high bs ≡ fault
    unfolding whole_field
    whole_low l = rw (e, lt-leb low v l, both_false_right (field_ends rest) false refl)

    pub whole_high : high < v → whole_field more low high bs ≡ fault
    unfolding whole_field
    whole_high l = rw (e, lt-leb v high l, both_false_right (leb low v) false refl, both_false_right (field_ends rest) false refl)

    pub whole_is : field_ends rest ≡ true → low ≤ v → v ≤ high → whole_field more low high bs ≡ number v rest
    unfolding whole_field
    whole_is p l h = rw (e, p, le-leb low v l, le-leb v high h)

  pub next_other : begins comma bs ≡ false → next_field more low high bs ≡ fault
  unfolding next_field
  next_other e = rw e

pub next-comma : (more low high at : ℕ) (input : List ℕ) → begins comma (drop at input) ≡ true → next_field more low high (drop at input) ≡ whole_field more low high (drop (at + 1) input)
unfolding next_field
next-comma more low high at input e = rw e (ap (whole_field more low high) (drop-drop 1 at input))

-- ---- the line

module _ (input : List ℕ) where
  pub away_seed : whole_field 9 0 (2 ^ 32 - 1) input ≡ fault → asked_in input ≡ turned_away 0
  unfolding asked_in
  away_seed e = rw e

  module _ {seed : ℕ} {r0 : List ℕ} (e0 : whole_field 9 0 (2 ^ 32 - 1) input ≡ number seed r0) where
    pub away_nodes : next_field 5 8 256 r0 ≡ fault → asked_in input ≡ turned_away 1
    unfolding asked_in
    away_nodes e = rw (e0, e)

    module _ {nodes : ℕ} {r1 : List ℕ} (e1 : next_field 5 8 256 r0 ≡ number nodes r1) where
      pub away_nets : next_field 5 1 64 r1 ≡ fault → asked_in input ≡ turned_away 2
      unfolding asked_in
      away_nets e = rw (e0, e1, e)

      module _ {nets : ℕ} {r2 : List ℕ} (e2 : next_field 5 1 64 r1 ≡ number nets r2) where
        at_end_lem : asked_in input ≡ ended r2 (asked seed nodes nets)
        unfolding asked_in
        at_end_lem = rw (e0, e1, e2)

        pub away_open : begins lf r2 ≡ false → asked_in input ≡ turned_away 3
        unfolding ended
        away_open e = at_end_lem ∙ rw e

        pub away_more : (length r2 ≡ 1 → ⊥) → asked_in input ≡ turned_away 3
        unfolding ended
        away_more n = at_end_lem ∙ rw (ne_eqb (length r2) 1 n, both_false_right (begins lf r2) false refl)

        pub asked_is : begins lf r2 ≡ true → length r2 ≡ 1 → asked_in input ≡ asked seed nodes nets
        unfolding ended
        asked_is e l = at_end_lem ∙ rw (e, eq-eqb (length r2) 1 l)
