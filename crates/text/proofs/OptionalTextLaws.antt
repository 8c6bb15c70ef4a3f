-- The lines that may follow F: reading one, or none, gives terms within their bounds, and printing these where the line is written gives the same bytes.
--     optional_read                            any such line, from reading
--     optional-written, optional-unwritten     and from printing
--     terms_read, terms-printed                all of them
-- Assumes nothing.
use mathlib.Core.Bool.{Bool, true, false}
use mathlib.Core.List.{List, [], ◌∷◌, ◌++◌, append_assoc}
use mathlib.Core.Path.{◌≡◌, refl, sym, ◌∙◌, ap, subst}
use Prim.Native.Nat.{ℕ, ◌+◌, ◌^◌, ◌≤◌, ◌<◌}
use native.Mathlib.Omega.{arith}
use lib.Dec.{leb, ltb, eqb}
use lib.ListN.{get_or}
use borrow.Author.Tests.{leb-true, lt-ltb, ne_eqb, eqb-true, eqb-false}
use Rattle.price.specs.Test.{choose, both, either}
use Rattle.price.specs.Lists.{every}
use Rattle.price.specs.Tuning.{plain, tuning_sound}
use Rattle.price.proofs.TestLaws.{by_test, both_true, both_left, both_right, true≢false}
use Rattle.price.proofs.TuningLaws.{TuningWithin, tuning_within_lem}
use Rattle.job.specs.Job.{plain_terms}
use Rattle.job.specs.Tables.{one_of, until_most, rule_sound}
use Rattle.job.specs.declared.Terms.{Terms}
use Rattle.text.specs.Lines.{letter_p, letter_v, letter_w, letter_n, begins, Fields, taken, malformed, line, print_line}
use Rattle.text.specs.JobText.{judged, part, and_then, optional, tuning_within, tuning_line, with_tuning, tuning_part, terms_part}
use Rattle.text.specs.JobText.{one_or_two, rule_fields, rule_within, rule_line, with_rule, rule_part, timed_line, with_times, timed_part}
use Rattle.text.specs.Printed.{RuleForm, unwritten, alone, whole, Form, line_if, tuning_text, rule_text, terms_text, Written, RuleWritten, Allowed}
use Rattle.text.proofs.JudgedLaws.{Judged, judged-values}
use Rattle.text.proofs.PrintLaws.{line-printed, line_longer, printed-line, none_of, one_of_lem, two_of, four_of_lem, onward-part, then_part}
use Rattle.text.proofs.OptionalLineLaws.{rule-alone, rule-both}

-- ---- any line: its letter, how it is read, the bounds of its values, and how it changes the terms

module _ (letter : ℕ) (read : List ℕ → Fields) (within : List ℕ → Bool) (change : List ℕ → Terms) (t : Terms) where
  -- what holds of the changed terms after the line, and of the terms as they were where there is none
  pub optional_read :
      (at at' : ℕ) (bs rest : List ℕ) (t' : Terms) (P : Terms → List ℕ → Type 0)
      → ((vs mid : List ℕ) → Judged within (λ vs. true) (read bs) vs mid → P (change vs) mid) → P t bs
      → optional letter (judged within (λ vs. true) (read bs)) change t at bs ≡ part t' at' rest → P t' rest
  optional_read at at' bs rest t' P answered none e =
      by_test (begins letter bs)
      (λ q.
      let r = onward-part (judged within (λ vs. true) (read bs)) at (λ vs rest. part (change vs) (at + 1) rest) t' at' rest (rw q at e) in
      let vs : List ℕ = r.0 in
      let mid : List ℕ = r.1 in
      let made : part (change vs) (at + 1) mid ≡ part t' at' rest = r.3 in
      let same : change vs ≡ t' = cc in
      let follow : mid ≡ rest = cc in
      rw (same, follow) at (answered vs mid (judged-values within (λ vs. true) (read bs) vs mid r.2)))
      (λ q.
      let made : part t at bs ≡ part t' at' rest = rw q at e in
      let same : t ≡ t' = cc in
      let follow : bs ≡ rest = cc in
      rw (same, follow) at none)

  pub optional-written :
      (at : ℕ) (bs vs rest : List ℕ) → begins letter bs ≡ true → read bs ≡ taken vs rest → within vs ≡ true
      → optional letter (judged within (λ vs. true) (read bs)) change t at bs ≡ part (change vs) (at + 1) rest
  optional-written at bs vs rest begun is fits = rw (begun, is, fits)

  -- after a line that is left out its letter does not follow
  pub optional-unwritten :
      (at : ℕ) (rest : List ℕ) → begins letter rest ≡ false → optional letter (judged within (λ vs. true) (read rest)) change t at rest ≡ part t at rest
  optional-unwritten at rest other = rw other

-- ---- from reading

-- the P line, or none: rule and k are still those of a job without a V line, and no W line has come
pub record TuningGiven (limit : ℕ) (bs : List ℕ) (t : Terms) (rest : List ℕ) : Type 0 where
  pub limit_is : t.limit ≡ limit
  pub rule-is : t.rule ≡ 1
  pub until_is : t.until ≡ 1
  pub untimed : t.timed ≡ false
  pub tuned : tuning_sound t.tuning ≡ true
  pub written : Bool
  pub may : Written written plain t.tuning
  pub text : bs ≡ tuning_text written t.tuning ++ rest

tuning_given : (limit at at' : ℕ) (bs rest : List ℕ) (t : Terms) → tuning_part (plain_terms limit) at bs ≡ part t at' rest → TuningGiven limit bs t rest
unfolding tuning_part tuning_line tuning_within tuning_sound line_if
tuning_given limit at at' bs rest t e =
    optional_read letter_p (line letter_p 4) tuning_within (with_tuning (plain_terms limit)) (plain_terms limit) at at' bs rest t (TuningGiven limit bs)
    (λ vs mid answered.
    let printed = printed-line letter_p 4 bs vs mid answered.is in
    record {
      limit_is = refl;
      rule-is = refl;
      until_is = refl;
      untimed = refl;
      tuned = answered.bounds;
      written = true;
      may = tt;
      text = printed.1 ∙ ap (λ (us : List ℕ). print_line letter_p us ++ mid) (four_of_lem vs printed.0);
    })
    (record {
      limit_is = refl;
      rule-is = refl;
      until_is = refl;
      untimed = refl;
      tuned = refl;
      written = false;
      may = refl;
      text = refl;
    }) e

-- a rule that keeps its bounds is 1, or else 2
rule_two : (rule until : ℕ) → rule_sound rule until ≡ true → (rule ≡ 1 → ⊥) → rule ≡ 2
unfolding rule_sound one_of
rule_two rule until e n =
    let known : either (eqb rule 1) (eqb rule 2) ≡ true = both_right (both (leb 1 until) (leb until until_most)) (either (eqb rule 1) (eqb rule 2)) e in
    eqb-true rule 2 (rw (ne_eqb rule 1 n) at known)

-- how a V line that gives these values is written
record RuleRead (bs vs rest : List ℕ) : Type 0 where
  form : RuleForm
  may : RuleWritten form (get_or vs 0 0) (get_or vs 1 0)
  text : bs ≡ rule_text form (get_or vs 0 0) (get_or vs 1 0) ++ rest

read_moved : (bs us vs mid rest : List ℕ) → us ≡ vs → mid ≡ rest → RuleRead bs us mid → RuleRead bs vs rest
read_moved bs us vs mid rest same follow r = rw (same, follow) at r

rule_read :
    (bs vs rest : List ℕ) (one two : Fields) → line letter_v 1 bs ≡ one → line letter_v 2 bs ≡ two → one_or_two one two ≡ taken vs rest
    → rule_sound (get_or vs 0 0) (get_or vs 1 0) ≡ true → RuleRead bs vs rest
rule_read bs vs rest (taken us mid) two e f is s =
    let given : taken (get_or us 0 0 ∷ 1 ∷ []) mid ≡ taken vs rest = is in
    let same : get_or us 0 0 ∷ 1 ∷ [] ≡ vs = cc in
    let follow : mid ≡ rest = cc in
    let printed = printed-line letter_v 1 bs us mid e in
    read_moved bs (get_or us 0 0 ∷ 1 ∷ []) vs mid rest same follow
    (record {
      form = alone;
      may = refl;
      text = printed.1 ∙ ap (λ (xs : List ℕ). print_line letter_v xs ++ mid) (one_of_lem us printed.0);
    })
rule_read bs vs rest malformed (taken us mid) e f is s =
    by_test (eqb (get_or us 0 0) 1)
    (λ q.
    let bad : malformed ≡ taken vs rest = rw q at is in
    let z : ◌≡◌ {A = ℕ} 0 1 = cc in absurd (omega arith))
    (λ q.
    let given : taken us mid ≡ taken vs rest = rw q at is in
    let same : us ≡ vs = cc in
    let follow : mid ≡ rest = cc in
    let printed = printed-line letter_v 2 bs us mid f in
    let sound : rule_sound (get_or us 0 0) (get_or us 1 0) ≡ true = subst (λ (xs : List ℕ). rule_sound (get_or xs 0 0) (get_or xs 1 0) ≡ true) (sym same) s in
    read_moved bs us vs mid rest same follow
    (record {
      form = whole;
      may = rule_two (get_or us 0 0) (get_or us 1 0) sound (eqb-false (get_or us 0 0) 1 q);
      text = printed.1 ∙ ap (λ (xs : List ℕ). print_line letter_v xs ++ mid) (two_of us printed.0);
    }))
rule_read bs vs rest malformed malformed e f is s =
    let bad : malformed ≡ taken vs rest = is in
    let z : ◌≡◌ {A = ℕ} 0 1 = cc in absurd (omega arith)

-- the V line after terms of rule 1 and k 1, or none
pub record RuleGiven (start : Terms) (bs : List ℕ) (t : Terms) (rest : List ℕ) : Type 0 where
  pub limit_is : t.limit ≡ start.limit
  pub tuning-is : t.tuning ≡ start.tuning
  pub timed_is : t.timed ≡ start.timed
  pub ruled : rule_sound t.rule t.until ≡ true
  pub form : RuleForm
  pub may : RuleWritten form t.rule t.until
  pub text : bs ≡ rule_text form t.rule t.until ++ rest

plain_ruled : (rule until : ℕ) → rule ≡ 1 → until ≡ 1 → rule_sound rule until ≡ true
unfolding rule_sound one_of
plain_ruled rule until one k = rw (one, k)

rule_given :
    (start : Terms) (at at' : ℕ) (bs rest : List ℕ) (t : Terms) → start.rule ≡ 1 → start.until ≡ 1 → rule_part start at bs ≡ part t at' rest → RuleGiven start bs t rest
unfolding rule_part rule_line rule_within rule_fields
rule_given start at at' bs rest t one k e =
    optional_read letter_v rule_fields rule_within (with_rule start) start at at' bs rest t (RuleGiven start bs)
    (λ vs mid answered.
    let r : RuleRead bs vs mid = rule_read bs vs mid (line letter_v 1 bs) (line letter_v 2 bs) refl refl answered.is answered.bounds in
    record { limit_is = refl; tuning-is = refl; timed_is = refl; ruled = answered.bounds; form = r.form; may = r.may; text = r.text })
    (record {
      limit_is = refl;
      tuning-is = refl;
      timed_is = refl;
      ruled = plain_ruled start.rule start.until one k;
      form = unwritten;
      may = (one, k);
      text = refl;
    }) e

-- the W line after untimed terms, or none
pub record TimedGiven (start : Terms) (bs : List ℕ) (t : Terms) (rest : List ℕ) : Type 0 where
  pub limit_is : t.limit ≡ start.limit
  pub tuning-is : t.tuning ≡ start.tuning
  pub rule-is : t.rule ≡ start.rule
  pub until_is : t.until ≡ start.until
  pub text : bs ≡ line_if t.timed letter_w [] ++ rest

timed_given : (start : Terms) (at at' : ℕ) (bs rest : List ℕ) (t : Terms) → start.timed ≡ false → timed_part start at bs ≡ part t at' rest → TimedGiven start bs t rest
unfolding timed_part timed_line line_if
timed_given start at at' bs rest t untimed e =
    optional_read letter_w (line letter_w 0) (λ vs. true) (with_times start) start at at' bs rest t (TimedGiven start bs)
    (λ vs mid answered.
    let printed = printed-line letter_w 0 bs vs mid answered.is in
    record {
      limit_is = refl;
      tuning-is = refl;
      rule-is = refl;
      until_is = refl;
      text = printed.1 ∙ ap (λ (us : List ℕ). print_line letter_w us ++ mid) (none_of vs printed.0);
    })
    (record { limit_is = refl; tuning-is = refl; rule-is = refl; until_is = refl; text = rw untimed }) e

-- all lines that may follow F
pub record TermsGiven (limit : ℕ) (bs : List ℕ) (t : Terms) (rest : List ℕ) : Type 0 where
  pub limit_is : t.limit ≡ limit
  pub tuned : tuning_sound t.tuning ≡ true
  pub ruled : rule_sound t.rule t.until ≡ true
  pub form : Form
  pub allowed : Allowed form t
  pub text : bs ≡ terms_text form t ++ rest

-- three texts one after the other
three_texts : (xs ys zs rest : List ℕ) → xs ++ (ys ++ (zs ++ rest)) ≡ (xs ++ (ys ++ zs)) ++ rest
three_texts xs ys zs rest = ap (λ (r : List ℕ). xs ++ r) (sym (append_assoc ys zs rest)) ∙ sym (append_assoc xs (ys ++ zs) rest)

lines_given :
    (limit : ℕ) (bs mid mid' rest : List ℕ) (s r t : Terms) → TuningGiven limit bs s mid → RuleGiven s mid r mid' → TimedGiven r mid' t rest → TermsGiven limit bs t rest
unfolding terms_text
lines_given limit bs mid mid' rest s r t p v w =
    let tuning : t.tuning ≡ s.tuning = w.tuning-is ∙ v.tuning-is in
    record {
      limit_is = w.limit_is ∙ v.limit_is ∙ p.limit_is;
      tuned = rw tuning p.tuned;
      ruled = rw (w.rule-is, w.until_is) v.ruled;
      form = record { tuning = p.written; rule = v.form };
      allowed = record { tuning = rw tuning p.may; rule = rw (w.rule-is, w.until_is) v.may };
      text =
          p.text
          ∙ rw (v.text, w.text, ← tuning, ← w.rule-is, ← w.until_is)
          (three_texts (tuning_text p.written t.tuning) (rule_text v.form t.rule t.until) (line_if t.timed letter_w []) rest);
    }

pub terms_read : (limit at at' : ℕ) (bs rest : List ℕ) (t : Terms) → terms_part limit at bs ≡ part t at' rest → TermsGiven limit bs t rest
unfolding terms_part
terms_read limit at at' bs rest t e =
    let a = then_part (tuning_part (plain_terms limit) at bs) (λ t l rest. and_then (rule_part t l rest) timed_part) t at' rest e in
    let s : Terms = a.0 in
    let mid : List ℕ = a.2 in
    let tuning : TuningGiven limit bs s mid = tuning_given limit at a.1 bs mid s a.3 in
    let b = then_part (rule_part s a.1 mid) timed_part t at' rest a.4 in
    let r : Terms = b.0 in
    let mid' : List ℕ = b.2 in
    let rule : RuleGiven s mid r mid' = rule_given s a.1 b.1 mid mid' r tuning.rule-is tuning.until_is b.3 in
    lines_given limit bs mid mid' rest s r t tuning rule (timed_given r b.1 at' mid' rest t (rule.timed_is ∙ tuning.untimed) b.4)

-- ---- from printing

-- a text that begins with one letter begins with no other
begins_other : (a b : ℕ) (bs : List ℕ) → begins a bs ≡ true → eqb a b ≡ false → begins b bs ≡ false
unfolding begins
begins_other a b [] e n = absurd (true≢false (sym e))
begins_other a b (c ∷ bs) e n = rw (eqb-true c a e) n

-- the number of the line after one that may be left out
abbrev line_after : Bool → ℕ → ℕ
line_after written at = choose written (at + 1) at

abbrev rule_after : RuleForm → ℕ → ℕ
rule_after unwritten at = at
rule_after alone at = at + 1
rule_after whole at = at + 1

abbrev pub lines_after : Form → Bool → ℕ → ℕ
lines_after form timed at = line_after timed (rule_after form.rule (line_after form.tuning at))

-- what follows a line that is left out begins with no letter of it
timed_begins :
    (letter : ℕ) (written : Bool) (rest : List ℕ) → begins letter_n rest ≡ true → eqb letter_n letter ≡ false → eqb letter_w letter ≡ false
    → begins letter (line_if written letter_w [] ++ rest) ≡ false
unfolding begins print_line line_if
timed_begins letter true rest e n w = w
timed_begins letter false rest e n w = begins_other letter_n letter rest e n

rule-begins : (form : RuleForm) (rule until : ℕ) (rest : List ℕ) → begins letter_p rest ≡ false → begins letter_p (rule_text form rule until ++ rest) ≡ false
unfolding begins print_line
rule-begins unwritten rule until rest e = e
rule-begins alone rule until rest e = refl
rule-begins whole rule until rest e = refl

rule-few : (rule until : ℕ) → rule_sound rule until ≡ true → rule ≤ 2
rule-few rule until e =
    by_test (eqb rule 1)
    (λ q. let is : rule ≡ 1 = eqb-true rule 1 q in omega arith)
    (λ q. let is : rule ≡ 2 = rule_two rule until e (eqb-false rule 1 q) in omega arith)

until_few : (rule until : ℕ) → rule_sound rule until ≡ true → until ≤ until_most
unfolding rule_sound
until_few rule until e =
    leb-true until until_most (both_right (leb 1 until) (leb until until_most) (both_left (both (leb 1 until) (leb until until_most)) (one_of 1 2 rule) e))

module _ (t : Terms) where
  abbrev vs : List ℕ
  vs = t.tuning.first ∷ t.tuning.up ∷ t.tuning.down ∷ t.tuning.step ∷ []

  tuning-small : tuning_sound t.tuning ≡ true → every (λ v. ltb v (10 ^ 6)) vs ≡ true
  unfolding every
  tuning-small s =
      let w : TuningWithin t.tuning = tuning_within_lem t.tuning s in
      both_true (lt-ltb t.tuning.first (10 ^ 6) (omega (arith, w.few_first)))
      (both_true (lt-ltb t.tuning.up (10 ^ 6) (omega (arith, w.few_up)))
      (both_true (lt-ltb t.tuning.down (10 ^ 6) (omega (arith, w.few_down))) (both_true (lt-ltb t.tuning.step (10 ^ 6) (omega (arith, w.few_step))) refl)))

  -- the terms after the P line
  abbrev tuned : Terms
  tuned = record { limit = t.limit; tuning = t.tuning; rule = 1; until = 1; timed = false }

  tuned_plain : t.tuning ≡ plain → plain_terms t.limit ≡ tuned
  tuned_plain may = rw may

  tuning-printed :
      (written : Bool) (at : ℕ) (after : List ℕ) → Written written plain t.tuning → tuning_sound t.tuning ≡ true → begins letter_p after ≡ false
      → tuning_part (plain_terms t.limit) at (tuning_text written t.tuning ++ after) ≡ part tuned (line_after written at) after
  unfolding tuning_part tuning_line tuning_within line_if begins print_line
  tuning-printed true at after may s other =
      optional-written letter_p (line letter_p 4) tuning_within (with_tuning (plain_terms t.limit)) (plain_terms t.limit) at (print_line letter_p vs ++ after) vs after
      refl (line-printed letter_p vs after (tuning-small s)) s
  tuning-printed false at after may s other =
      optional-unwritten letter_p (line letter_p 4) tuning_within (with_tuning (plain_terms t.limit)) (plain_terms t.limit) at after other
      ∙ ap (λ (x : Terms). part x at after) (tuned_plain may)

  -- the terms after the V line
  abbrev ruled : Terms
  ruled = record { limit = t.limit; tuning = t.tuning; rule = t.rule; until = t.until; timed = false }

  ruled_plain : t.rule ≡ 1 → t.until ≡ 1 → tuned ≡ ruled
  ruled_plain one k =
      ap (λ (rule : ℕ). record { limit = t.limit; tuning = t.tuning; rule = rule; until = 1; timed = false }) (sym one)
      ∙ ap (λ (until : ℕ). record { limit = t.limit; tuning = t.tuning; rule = t.rule; until = until; timed = false }) (sym k)

  ruled_alone : t.until ≡ 1 → with_rule tuned (t.rule ∷ 1 ∷ []) ≡ ruled
  ruled_alone k = ap (λ (until : ℕ). record { limit = t.limit; tuning = t.tuning; rule = t.rule; until = until; timed = false }) (sym k)

  -- and after the W line
  timed_so : (timed : Bool) → t.timed ≡ timed → record { limit = t.limit; tuning = t.tuning; rule = t.rule; until = t.until; timed = timed } ≡ t
  timed_so timed e = ap (λ (x : Bool). record { limit = t.limit; tuning = t.tuning; rule = t.rule; until = t.until; timed = x }) (sym e)

  rule-small : rule_sound t.rule t.until ≡ true → t.rule < 10 ^ 6
  rule-small s = omega (arith, rule-few t.rule t.until s)

  until_small : rule_sound t.rule t.until ≡ true → t.until < 10 ^ 6
  until_small s = omega (arith, until_few t.rule t.until s)

  rule-printed :
      (form : RuleForm) (at : ℕ) (rest : List ℕ) → RuleWritten form t.rule t.until → rule_sound t.rule t.until ≡ true → begins letter_v rest ≡ false
      → rule_part tuned at (rule_text form t.rule t.until ++ rest) ≡ part ruled (rule_after form at) rest
  unfolding rule_part rule_line rule_within begins print_line every
  rule-printed unwritten at rest may s next =
      optional-unwritten letter_v rule_fields rule_within (with_rule tuned) tuned at rest next
      ∙ ap (λ (x : Terms). part x at rest) (ruled_plain may.0 may.1)
  rule-printed alone at rest may s next =
      let bs : List ℕ = print_line letter_v (t.rule ∷ []) ++ rest in
      let one : line letter_v 1 bs ≡ taken (t.rule ∷ []) rest =
      line-printed letter_v (t.rule ∷ []) rest (both_true (lt-ltb t.rule (10 ^ 6) (rule-small s)) refl) in
      let sound : rule_sound t.rule 1 ≡ true = rw may at s in
      optional-written letter_v rule_fields rule_within (with_rule tuned) tuned at bs (t.rule ∷ 1 ∷ []) rest refl (rule-alone bs one) sound
      ∙ ap (λ (x : Terms). part x (at + 1) rest) (ruled_alone may)
  rule-printed whole at rest may s next =
      let bs : List ℕ = print_line letter_v (t.rule ∷ t.until ∷ []) ++ rest in
      let two : line letter_v 2 bs ≡ taken (t.rule ∷ t.until ∷ []) rest =
      line-printed letter_v (t.rule ∷ t.until ∷ []) rest
      (both_true (lt-ltb t.rule (10 ^ 6) (rule-small s)) (both_true (lt-ltb t.until (10 ^ 6) (until_small s)) refl)) in
      optional-written letter_v rule_fields rule_within (with_rule tuned) tuned at bs (t.rule ∷ t.until ∷ []) rest refl
      (rule-both bs (line_longer letter_v t.rule t.until [] rest (rule-small s)) two (λ (one : t.rule ≡ 1). omega arith)) s

  timed_printed :
      (timed : Bool) (at : ℕ) (rest : List ℕ) → t.timed ≡ timed → begins letter_n rest ≡ true
      → timed_part ruled at (line_if timed letter_w [] ++ rest) ≡ part t (line_after timed at) rest
  unfolding timed_part timed_line line_if begins print_line every
  timed_printed true at rest is next =
      optional-written letter_w (line letter_w 0) (λ vs. true) (with_times ruled) ruled at (print_line letter_w [] ++ rest) [] rest refl (line-printed letter_w [] rest refl) refl
      ∙ ap (λ (x : Terms). part x (at + 1) rest) (timed_so true is)
  timed_printed false at rest is next =
      optional-unwritten letter_w (line letter_w 0) (λ vs. true) (with_times ruled) ruled at rest (begins_other letter_n letter_w rest next refl)
      ∙ ap (λ (x : Terms). part x at rest) (timed_so false is)

  -- a node's line follows
  pub terms-printed :
      (form : Form) → Allowed form t → (rest : List ℕ) (at : ℕ) → tuning_sound t.tuning ≡ true → rule_sound t.rule t.until ≡ true → begins letter_n rest ≡ true
      → terms_part t.limit at (terms_text form t ++ rest) ≡ part t (lines_after form t.timed at) rest
  unfolding terms_part terms_text
  terms-printed form allowed rest at s r next =
      let last : List ℕ = line_if t.timed letter_w [] in
      let after : List ℕ = rule_text form.rule t.rule t.until ++ (last ++ rest) in
      rw (
        ← three_texts (tuning_text form.tuning t.tuning) (rule_text form.rule t.rule t.until) last rest,
        tuning-printed form.tuning at after allowed.tuning s
            (rule-begins form.rule t.rule t.until (last ++ rest) (timed_begins letter_p t.timed rest next refl refl)),
        rule-printed form.rule (line_after form.tuning at) (last ++ rest) allowed.rule r (timed_begins letter_v t.timed rest next refl refl),
        timed_printed t.timed (rule_after form.rule (line_after form.tuning at)) rest refl next,
      )
