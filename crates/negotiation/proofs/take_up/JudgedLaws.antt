-- What the next record of a net comes to, by the tests that are made of it.
--     sent_on                             what the exit of a `?` returns
--     judged_some                         the record follows
--     said-                               as the call answers
--     whole-                              behind a whole iteration
-- Assumes nothing.
use mathlib.Core.Bool.{Bool, true, false}
use mathlib.Core.List.{List}
use mathlib.Core.Path.{◌≡◌, sym, ◌∙◌, ap}
use Prim.Native.Nat.{ℕ, ◌+◌, ◌-◌}
use lib.Dec.{eqb, leb, ltb}
use lib.ListN.{get_or}
use Rattle.std.proofs.lemmas.Result.{err_from_is_err_and}
use Rattle.std.specs.Result.{IsErrAnd}
use Rattle.std.specs.Prelude.{Option, Some, None, Result, Ok, Err}
use Rattle.price.specs.Test.{both, either}
use Rattle.price.proofs.TestLaws.{by_test, true≢false}
use Rattle.negotiation.specs.ResumeSteps.{named_cost}
use Rattle.negotiation.specs.TakeSteps.{told_of, judged_as, tried_as, whole_as}
use Rattle.negotiation.specs.declared.tariff.Tariff.{Tariff}
use Rattle.negotiation.specs.declared.take_up.Stopped.{Stopped}
use Rattle.negotiation.specs.declared.take_up.Stopped.TheVariants.{Off, Ends, NotCheapest}
use Rattle.negotiation.specs.declared.take_up.Told.{Told}
use Rattle.negotiation.specs.declared.take_up.Walk.{Walk}

-- what the exit of a `?` returns
pub sent_on : {A : Type 0} (r : Result A Stopped) {e : Stopped} → IsErrAnd r (λ x. x ≡ e) → r ≡ Err e
sent_on r is = let p = err_from_is_err_and r is in p.1 ∙ ap Err p.2

-- ---- a record

abbrev is_ok : Result ℕ Stopped → Bool
is_ok (Ok count) = true
is_ok (Err e) = false

abbrev words_in : Result ℕ Stopped → ℕ
words_in (Ok count) = count
words_in (Err e) = 0

abbrev stopped_in : Stopped → Result ℕ Stopped → Stopped
stopped_in d (Ok count) = d
stopped_in d (Err e) = e

pub stopped_same : {e e' : Stopped} → ◌≡◌ {A = Result ℕ Stopped} (Err e) (Err e') → e ≡ e'
stopped_same {e} q = ap (stopped_in e) q

pub not_both : {r : Result ℕ Stopped} {e : Stopped} {count : ℕ} → r ≡ Err e → r ≡ Ok count → ⊥
not_both p q = true≢false (sym (ap is_ok q) ∙ ap is_ok p)

module _ (t : Tariff) (over : ℕ) where
  judged_none : (count : Option ℕ) (cost least : ℕ) → count ≡ None → Err (Off t.words) ≡ judged_as t over count cost least
  unfolding judged_as
  judged_none count cost least e = rw e

  pub judged_some :
      (count : Option ℕ) (cost least : ℕ) {r : Result ℕ Stopped} {words : ℕ} → r ≡ judged_as t over count cost least → r ≡ Ok words → count ≡ None → ⊥
  judged_some count cost least is e z = not_both (is ∙ sym (judged_none count cost least z)) e

-- what the call answers, by the same tests
module _ (t : Tariff) (walk : Walk) (ended passes : Bool) (ws : List ℕ) (least : ℕ) where
  abbrev said : Result ℕ Stopped
  said = tried_as t walk ended passes ws least

  abbrev told_now : Told
  told_now = told_of t (t.iteration - 1) walk.over

  pub said_ends : both walk.audit ended ≡ true → said ≡ Err (Ends told_now)
  unfolding tried_as
  said_ends e = rw e

  module _ (on : both walk.audit ended ≡ false) where
    pub said_strays : passes ≡ false → said ≡ Err (Off t.words)
    unfolding tried_as judged_as
    said_strays p = rw (on, p)

    module _ (yes : passes ≡ true) where
      said_judged : said ≡ judged_as t walk.over (Some (6 + get_or ws 5 0)) (named_cost ws) least
      unfolding tried_as
      said_judged = rw (on, yes)

      pub said_dear : ltb least (named_cost ws) ≡ true → said ≡ Err (NotCheapest told_now (named_cost ws) least)
      unfolding judged_as
      said_dear d = said_judged ∙ rw d

      pub said_follows : ltb least (named_cost ws) ≡ false → said ≡ Ok (6 + get_or ws 5 0)
      unfolding judged_as
      said_follows d = said_judged ∙ rw d

  pub said_ended : {end : Bool} {told : Told} → end ≡ both walk.audit ended → end ≡ true → told ≡ told_now → Err (Ends told) ≡ said
  said_ended is e same = ap (λ (x : Told). Err (Ends x)) same ∙ sym (said_ends (sym is ∙ e))

  -- a record that follows has passed all of them
  pub record SaidFollows (count : ℕ) : Type 0 where
    pub more : both walk.audit ended ≡ false
    pub follows : passes ≡ true
    pub cheap : ltb least (named_cost ws) ≡ false
    pub count-is : count ≡ 6 + get_or ws 5 0

  pub said_so : {count : ℕ} → said ≡ Ok count → SaidFollows count
  said_so {count} e =
      by_test (both walk.audit ended)
      (λ q. absurd (not_both (said_ends q) e))
      (λ q.
      by_test passes
      (λ y.
      by_test (ltb least (named_cost ws))
      (λ d. absurd (not_both (said_dear q y d) e))
      (λ d. record { more = q; follows = y; cheap = d; count-is = ap words_in (sym e ∙ said_follows q y d) }))
      (λ n. absurd (not_both (said_strays q n) e)))

-- ---- an iteration

abbrev is_on : Result Tariff Stopped → Bool
is_on (Ok t) = true
is_on (Err e) = false

abbrev tariff_in : Tariff → Result Tariff Stopped → Tariff
tariff_in d (Ok t) = t
tariff_in d (Err e) = d

-- what is answered, by the same tests
module _ (audit : Bool) (t : Tariff) (over limit len : ℕ) where
  pub whole_said_ends : both audit (leb len t.words) ≡ true → whole_as audit t over limit len ≡ Err (Ends (told_of t t.iteration over))
  unfolding whole_as
  whole_said_ends e = rw e

  module _ (e : both audit (leb len t.words) ≡ false) where
    pub whole_said_off : either (eqb over 0) (eqb t.iteration limit) ≡ true → whole_as audit t over limit len ≡ Err (Off t.words)
    unfolding whole_as
    whole_said_off s = rw (e, s)

    pub whole_said_on : either (eqb over 0) (eqb t.iteration limit) ≡ false → whole_as audit t over limit len ≡ Ok t
    unfolding whole_as
    whole_said_on s = rw (e, s)

  -- a run goes on only behind an iteration that has passed all of them
  pub record WholeOn (t' : Tariff) : Type 0 where
    pub more : both audit (leb len t.words) ≡ false
    pub unsettled : either (eqb over 0) (eqb t.iteration limit) ≡ false
    pub same : t' ≡ t

  pub whole_said_so : {t' : Tariff} → Ok t' ≡ whole_as audit t over limit len → WholeOn t'
  whole_said_so {t'} is =
      by_test (both audit (leb len t.words))
      (λ e. absurd (true≢false (ap is_on (is ∙ whole_said_ends e))))
      (λ e.
      by_test (either (eqb over 0) (eqb t.iteration limit))
      (λ s. absurd (true≢false (ap is_on (is ∙ whole_said_off e s))))
      (λ s. record { more = e; unsettled = s; same = ap (tariff_in t) (is ∙ whole_said_on e s) }))
