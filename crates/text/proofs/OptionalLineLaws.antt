-- A line that may be left out, at a place of the text: what the terms are after it.
--     left_out, wrong_shape, line_given      what was read of it
--     optional_, terms_after, read_place     the terms by the line's shape and bounds, and where the line after it begins
--     rule-alone, -none, -one, -both         the V line, which has one number or two
--     then_on, then_stopped                  the lines that may follow F, one after the other
-- Assumes nothing.
use mathlib.Core.Bool.{Bool, true, false}
use mathlib.Core.List.{List, [], ◌∷◌}
use mathlib.Core.Path.{◌≡◌, refl, ◌∙◌, ap, subst}
use Prim.Native.Nat.{ℕ, ◌+◌, ◌≤◌}
use native.Mathlib.Omega.{arith}
use lib.ListN.{length, get_or, take, drop}
use borrow.Author.Tests.{eq-eqb, ne_eqb}
use Rattle.price.specs.Test.{choose}
use Rattle.job.specs.declared.Terms.{Terms}
use Rattle.text.specs.Lines.{letter_v, begins, Fields, taken, malformed, line}
use Rattle.text.specs.JobText.{values, refused, judged, rule_fields, Part, part, stopped, onward, and_then, optional}
use Rattle.text.specs.Steps.{row, Within, Shaped, terms_at, TermsPlace}
use Rattle.std.specs.Result.{IsErrAnd}
use Rattle.std.specs.Prelude.{Option}
use Rattle.std.specs.Prelude.{Some, None}
use Rattle.std.specs.Prelude.{Result}
use Rattle.std.specs.Prelude.{Ok, Err}
use Rattle.text.specs.declared.fields.LineFields.{LineFields}
use Rattle.text.specs.declared.place.Place.{Place}
use Rattle.text.specs.declared.place.LineFault.TheVariants.{Malformed, BeyondBounds}
use Rattle.text.specs.declared.place.LineRefusal.{LineRefusal}
use Rattle.text.specs.declared.optional.TermsRead.{TermsRead}

-- ---- one line: its letter, how it is read, the bounds of its values, and how it changes the terms

module _ (letter count : ℕ) (read : List ℕ → Fields) (from : Place) (text : List ℕ) {r : Result (Option LineFields) LineRefusal} (shaped : Shaped letter read count from text r) where
  -- what was read, and what it tells
  shaped_so : (x : Result (Option LineFields) LineRefusal) → r ≡ x → Shaped letter read count from text x
  shaped_so x is = subst (λ (y : Result (Option LineFields) LineRefusal). Shaped letter read count from text y) is shaped

  pub left_out : r ≡ Ok None → begins letter (drop from.at text) ≡ false
  left_out is = shaped_so (Ok None) is

  pub wrong_shape : {e : LineRefusal} → r ≡ Err e → Shaped letter read count from text (Err e)
  wrong_shape {e} is = shaped_so (Err e) is

  pub line_given : {l : LineFields} → r ≡ Ok (Some l) → Shaped letter read count from text (Ok (Some l))
  line_given {l} is = shaped_so (Ok (Some l)) is

  module _ (within : List ℕ → Bool) (change : List ℕ → Terms) (t : Terms) where
    pub optional_none : r ≡ Ok None → part t from.line (drop from.at text) ≡ optional letter (judged within (λ vs. true) (read (drop from.at text))) change t from.line (drop from.at text)
    optional_none is = rw (left_out is)

    pub optional_wrong : {e : LineRefusal} → r ≡ Err e → stopped (row e.fault) e.line ≡ optional letter (judged within (λ vs. true) (read (drop from.at text))) change t from.line (drop from.at text)
    optional_wrong is = let h = wrong_shape is in rw (h.0, h.1, h.2, h.3)

    module _ {l : LineFields} (is : r ≡ Ok (Some l)) where
      pub optional_beyond :
          within (take count (l.first ∷ l.second ∷ l.third ∷ l.fourth ∷ [])) ≡ false
          → stopped 2 from.line ≡ optional letter (judged within (λ vs. true) (read (drop from.at text))) change t from.line (drop from.at text)
      optional_beyond w = let h = line_given is in rw (h.0, h.1, w)

      pub optional_read :
          within (take count (l.first ∷ l.second ∷ l.third ∷ l.fourth ∷ [])) ≡ true
          → part (change (take count (l.first ∷ l.second ∷ l.third ∷ l.fourth ∷ []))) (from.line + 1) (drop l.next text)
          ≡ optional letter (judged within (λ vs. true) (read (drop from.at text))) change t from.line (drop from.at text)
      optional_read w = let h = line_given is in rw (h.0, h.1, w)

-- the values that were read
abbrev pub values_of : ℕ → Result (Option LineFields) LineRefusal → List ℕ
values_of count (Ok (Some l)) = take count (l.first ∷ l.second ∷ l.third ∷ l.fourth ∷ [])
values_of count (Ok None) = []
values_of count (Err e) = []

-- the terms after the line, as they were or changed, or its fault: its shape, or a value beyond its bounds
abbrev pub terms_after : Result (Option LineFields) LineRefusal → Bool → Terms → Terms → Place → Result TermsRead LineRefusal
terms_after (Ok None) within t changed from = Ok (record { terms = t; place = from })
terms_after (Err e) within t changed from = Err (record { fault = Malformed; line = from.line })
terms_after (Ok (Some l)) within t changed from =
    choose within (Ok (record { terms = changed; place = record { at = l.next; line = from.line + 1 } })) (Err (record { fault = BeyondBounds; line = from.line }))

-- values that passed their test or not
judged-terms :
    (change : List ℕ → Terms) (at next : ℕ) (text vs : List ℕ) (w : Bool)
    → terms_at text (choose w (Ok (record { terms = change vs; place = record { at = next; line = at + 1 } })) (Err (record { fault = BeyondBounds; line = at })))
    ≡ onward (choose w (values vs (drop next text)) (refused 2)) at (λ vs rest. part (change vs) (at + 1) rest)
judged-terms change at next text vs true = refl
judged-terms change at next text vs false = refl

judged_place :
    (t : Terms) (at next : ℕ) (text : List ℕ) → next ≤ length text → at + 1 ≤ next + 1 → (w : Bool)
    → TermsPlace text (choose w (Ok (record { terms = t; place = record { at = next; line = at + 1 } })) (Err (record { fault = BeyondBounds; line = at })))
judged_place t at next text few on true = (few, on)
judged_place t at next text few on false = tt

module _ (letter count : ℕ) (read : List ℕ → Fields) (within : List ℕ → Bool) (change : List ℕ → Terms) (t : Terms) (from : Place) (text : List ℕ) where
  -- what is given where the line ends, and its place
  abbrev Given : Result TermsRead LineRefusal → Type 0
  Given x = (terms_at text x ≡ optional letter (judged within (λ vs. true) (read (drop from.at text))) change t from.line (drop from.at text)) × TermsPlace text x

  given_by :
      (r : Result (Option LineFields) LineRefusal) → Within text from → Shaped letter read count from text r
      → Given (terms_after r (within (values_of count r)) t (change (values_of count r)) from)
  given_by (Ok None) pre b = (rw b, pre)
  given_by (Err e) pre h = (rw (h.2, h.3), tt)
  given_by (Ok (Some l)) pre h = (
    judged-terms change from.line l.next text (take count (l.first ∷ l.second ∷ l.third ∷ l.fourth ∷ [])) (within (take count (l.first ∷ l.second ∷ l.third ∷ l.fourth ∷ []))) ∙ rw (h.0, h.1),
    judged_place (change (take count (l.first ∷ l.second ∷ l.third ∷ l.fourth ∷ []))) from.line l.next text h.2.1 (omega (arith, h.2.0, pre.1)) (within (take count (l.first ∷ l.second ∷ l.third ∷ l.fourth ∷ []))),
  )

  pub optional_given :
      (r : Result (Option LineFields) LineRefusal) {w : Bool} {x : Result TermsRead LineRefusal} → Within text from → Shaped letter read count from text r
      → w ≡ within (values_of count r) → x ≡ terms_after r w t (change (values_of count r)) from → Given x
  optional_given r pre h tested is = rw (is, tested) (given_by r pre h)

-- a refusal that is passed on by `?`
pub passed_on : {A B : Type 0} {e : B} (r : Result A B) → IsErrAnd r (λ b. b ≡ e) → r ≡ Err e
passed_on (Ok x) h = absurd h
passed_on (Err b) h = ap Err h

pub terms_refused : (text : List ℕ) {r : Result TermsRead LineRefusal} {e : LineRefusal} {p : Part Terms} → r ≡ Err e → stopped (row e.fault) e.line ≡ p → (terms_at text r ≡ p) × TermsPlace text r
terms_refused text is e = rw is (e, tt)

pub read_place : (text : List ℕ) {y : Result TermsRead LineRefusal} {t : TermsRead} → y ≡ Ok t → TermsPlace text y → Within text t.place
read_place text is place = rw is at place

-- ---- the V line

module _ (bs : List ℕ) where
  pub rule-alone : {vs rest : List ℕ} → line letter_v 1 bs ≡ taken vs rest → rule_fields bs ≡ taken (get_or vs 0 0 ∷ 1 ∷ []) rest
  unfolding rule_fields
  rule-alone is = rw is

  module _ (other : line letter_v 1 bs ≡ malformed) where
    pub rule-none : line letter_v 2 bs ≡ malformed → rule_fields bs ≡ malformed
    unfolding rule_fields
    rule-none is = rw (other, is)

    module _ {vs rest : List ℕ} (is : line letter_v 2 bs ≡ taken vs rest) where
      pub rule_one : get_or vs 0 0 ≡ 1 → rule_fields bs ≡ malformed
      unfolding rule_fields
      rule_one one = rw (other, is, eq-eqb (get_or vs 0 0) 1 one)

      pub rule-both : (get_or vs 0 0 ≡ 1 → ⊥) → rule_fields bs ≡ taken vs rest
      unfolding rule_fields
      rule-both n = rw (other, is, ne_eqb (get_or vs 0 0) 1 n)

-- ---- the lines that may follow F

-- one line after the other: the terms are read on, or a line before them was refused
module _ (text : List ℕ) {y : Result TermsRead LineRefusal} {p : Part Terms} (asked : terms_at text y ≡ p) (f : Terms → ℕ → List ℕ → Part Terms) where
  pub then_on :
      {t : TermsRead} (z : Result TermsRead LineRefusal) → y ≡ Ok t → terms_at text z ≡ f t.terms t.place.line (drop t.place.at text)
      → terms_at text z ≡ and_then p f
  then_on z is read = read ∙ rw (← asked, is)

  pub then_stopped : {e : LineRefusal} → y ≡ Err e → stopped (row e.fault) e.line ≡ and_then p f
  then_stopped is = rw (← asked, is)
