-- Which nets an iteration takes: a net that is due has sinks; under rule 1, and up to iteration k, a net that has sinks is due.
-- Assumes nothing.
use mathlib.Core.Bool.{true, false}
use mathlib.Core.Path.{◌≡◌, sym, ◌∙◌}
use Prim.Native.Nat.{ℕ, ◌≤◌, ◌<◌}
use native.Mathlib.Omega.{arith}
use lib.Dec.{eqb, leb}
use lib.ListN.{length}
use borrow.Author.Tests.{le-leb, lt-leb, leb-true, eq-eqb, ne_eqb}
use Rattle.price.specs.Test.{both}
use Rattle.price.proofs.TestLaws.{by_test, both_left, either_true}
use Rattle.job.specs.Job.{Job, net_sinks}
use Rattle.negotiation.specs.Machine.{State, has_sinks, all_due, crowded, due}
use Rattle.job.specs.declared.Terms.{Terms}

-- ---- whether the rule takes every net

module _ (g : Terms) (t : ℕ) where
  pub all-rule : g.rule ≡ 1 → all_due g t ≡ true
  unfolding all_due
  all-rule e = rw (eq-eqb g.rule 1 e)

  pub all-iteration : (g.rule ≡ 1 → ⊥) → all_due g t ≡ leb t g.until
  unfolding all_due
  all-iteration n = rw (ne_eqb g.rule 1 n)

  all_early : t ≤ g.until → all_due g t ≡ true
  unfolding all_due
  all_early h = rw (le-leb t g.until h) (either_true (eqb g.rule 1))

  some_late : (g.rule ≡ 1 → ⊥) → g.until < t → all_due g t ≡ false
  some_late n h = all-iteration n ∙ lt-leb t g.until h

-- ---- a net

module _ (j : Job) (s : State) (i : ℕ) where
  pub due-sinks : due j s i ≡ true → has_sinks j i ≡ true
  unfolding due
  due-sinks d = both_left _ _ d

  pub due_some : due j s i ≡ true → 1 ≤ length (net_sinks j i)
  unfolding has_sinks
  due_some d = leb-true 1 (length (net_sinks j i)) (due-sinks d)

  all-taken : all_due j.terms s.iteration ≡ true → due j s i ≡ has_sinks j i
  unfolding due
  all-taken q =
      by_test (has_sinks j i) (λ p. rw (p, q)) (λ p. rw p)

  -- request 2.7: "Under rule 1, or without the line, negotiation and log are as before"
  pub rule_1 : j.terms.rule ≡ 1 → due j s i ≡ has_sinks j i
  rule_1 e = all-taken (all-rule j.terms s.iteration e)

  -- request 2.8: "rule 1 up to iteration k"
  pub early_due : s.iteration ≤ j.terms.until → due j s i ≡ has_sinks j i
  early_due h = all-taken (all_early j.terms s.iteration h)

  -- "rule 2 after it"
  pub late_due : j.terms.rule ≡ 2 → j.terms.until < s.iteration → due j s i ≡ both (has_sinks j i) (crowded j s.trees i)
  unfolding due
  late_due e h = rw (some_late j.terms s.iteration (λ one. let z : ◌≡◌ {A = ℕ} 2 1 = sym e ∙ one in omega arith) h)

  pub first_due : 1 ≤ j.terms.until → s.iteration ≡ 1 → due j s i ≡ has_sinks j i
  first_due some e = early_due (rw e some)
