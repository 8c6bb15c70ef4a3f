-- Request 2.9: as long as a net of a timed job has a sink that is not joined, one is due, the first listed of the most critical.
-- Assumes nothing.
use mathlib.Core.Bool.{Bool, true, false}
use mathlib.Core.List.{List}
use mathlib.Core.Logic.{⊎_elim}
use mathlib.Core.Path.{◌≡◌, sym, ◌∙◌, ap, subst}
use Prim.Native.Nat.{ℕ, zero, suc, ◌+◌, ◌≤◌, ◌<◌}
use native.Mathlib.Omega.{arith}
use lib.ListN.{length, get_or}
use Rattle.price.specs.Lists.{has}
use Rattle.price.proofs.TestLaws.{by_test, le_or_lt, true≢false}
use Rattle.price.proofs.ListLaws.{has_place}
use Rattle.job.specs.Job.{Job, nets, net_sinks, net_criticalities}
use Rattle.job.specs.Join.{joined}
use Rattle.negotiation.specs.Order.{place_due}
use Rattle.negotiation.specs.Routable.{Routable}
use Rattle.negotiation.specs.Falling.{OneDue, SinksFall}
use Rattle.negotiation.proofs.OrderLaws.{due-alone, timed_sinks, timed_criticality, criticalities-long, criticalities-most}
use Rattle.negotiation.proofs.NextTriedLaws.{NoneOpen, Leads, Leading, leading_start, leading_joined, leading_lower, leading_new, leading_all}
use Rattle.negotiation.proofs.JoinedHolds.{joined-routable}

-- of the first places one leads, or none is open
module _ (in_tree : ℕ → Bool) (sinks cs : List ℕ) where
  abbrev LeadingAt : ℕ → Type 0
  LeadingAt n = (due : ℕ) × (least : ℕ) × Leading in_tree sinks cs n due least

  leading_more : (n : ℕ) → LeadingAt n → LeadingAt (n + 1)
  leading_more n l =
      by_test (in_tree (get_or sinks n 0))
      (λ e. (l.0, l.1, leading_joined in_tree sinks cs l.2 e))
      (λ e.
      ⊎_elim
      (λ (h : l.1 ≤ get_or cs n 0). (n, get_or cs n 0 + 1, leading_new in_tree sinks cs l.2 e h))
      (λ (h : get_or cs n 0 < l.1). (l.0, l.1, leading_lower in_tree sinks cs l.2 h))
      (le_or_lt l.1 (get_or cs n 0)))

  leading_at : (n : ℕ) → LeadingAt n
  leading_at zero = (length sinks, 0, leading_start in_tree sinks cs)
  leading_at (suc n) = let one : n + 1 ≡ suc n = omega arith in subst LeadingAt one (leading_more n (leading_at n))

module _ (j : Job) (sound : Routable j) (timed : j.terms.timed ≡ true) (i : ℕ) (hi : i < nets j) (tree : List ℕ) where
  abbrev in_tree : ℕ → Bool
  in_tree s = has s tree

  abbrev sinks : List ℕ
  sinks = net_sinks j i

  abbrev cs : List ℕ
  cs = net_criticalities j i

  due_of : {due least : ℕ} → Leads in_tree sinks cs (length sinks) due least → due ≡ place_due in_tree sinks cs → OneDue j i tree
  due_of {due} {least} l is =
      let within : place_due in_tree sinks cs < length sinks = subst (λ (p : ℕ). p < length sinks) is l.before in
      record {
        place = due;
        within = l.before;
        alone = timed_sinks j i tree timed ∙ due-alone in_tree sinks cs within ∙ rw (← is);
        weighs = timed_criticality j i tree timed ∙ rw (← is);
        unjoined = l.lacks;
        highest = l.most;
        first_listed = l.first;
      }

  one_due : (sink : ℕ) → has sink sinks ≡ true → has sink tree ≡ false → OneDue j i tree
  one_due sink listed out =
      let at = leading_at in_tree sinks cs (length sinks) in
      let long : length cs ≡ length sinks = criticalities-long j sound i hi timed in
      let is : at.0 ≡ place_due in_tree sinks cs =
      leading_all in_tree sinks cs at.2 long
      (λ p l. let most = criticalities-most j sound i hi timed p (rw long at l) in omega arith) (omega arith) (omega arith) in
      ⊎_elim
      (λ (n : NoneOpen in_tree sinks cs (length sinks) at.0 at.1).
      let place = has_place sink sinks listed in
      absurd (true≢false (sym (n.all place.0 place.1) ∙ ap in_tree place.2 ∙ out)))
      (λ (l : Leads in_tree sinks cs (length sinks) at.0 at.1). due_of l is)
      at.2

pub sinks_fall : (j : Job) → SinksFall j
sinks_fall j sound fits timed i sink tree hi listed out = one_due (joined j) (joined-routable j sound fits) timed i hi tree sink listed out
