-- The machine's own run is a run: from any state that whole iterations lead to, it goes on with turns that each net owns.
-- Assumes nothing.
use mathlib.Core.Bool.{true}
use mathlib.Core.List.{List, ◌++◌, append-nil, append_assoc}
use mathlib.Core.Path.{◌≡◌, ◌∙◌}
use Prim.Native.Nat.{ℕ, zero, suc, ◌+◌, ◌≤◌, ◌<◌}
use native.Mathlib.Nat.{le_refl}
use native.Mathlib.Omega.{arith}
use lib.ListN.{length}
use Rattle.price.specs.Lists.{has}
use Rattle.price.proofs.TestLaws.{by_test}
use Rattle.job.specs.Job.{Job, nets, net_sinks}
use Rattle.negotiation.specs.Records.{Record}
use Rattle.negotiation.specs.Machine.{State, Progress, net_records, due, after_nets, iterate, state_after, records_after}
use Rattle.negotiation.specs.Outcome.{has_path}
use Rattle.negotiation.specs.Routable.{Routable}
use Rattle.negotiation.specs.Kept.{Grown, CanGoOn}
use Rattle.negotiation.specs.Runs.{Of, Owns, NetsRan, none, kept, routed, Ran, start, next}
use Rattle.negotiation.proofs.DueLaws.{due_some}
use Rattle.negotiation.proofs.StateLaws.{nets-iteration}
use Rattle.negotiation.proofs.NetLaws.{StateReady, grown-same, grown_first, grown-on, grown-ready, net-turn, net-joins, net-source, net-distinct}
use Rattle.negotiation.proofs.FilterLaws.{all_splits}
use Rattle.negotiation.proofs.RanLaws.{nets-histories, nets-factor, ran-iteration, ran-trees, source_twice}

-- every sink has a path from its source, as the test before iteration 1 finds
abbrev pub Reached : Job → Type 0
Reached j = (i x : ℕ) → i < nets j → has x (net_sinks j i) ≡ true → has_path j i x ≡ true

-- ---- factor and histories keep their bounds, whoever made the turns

module _ (j : Job) (sound : Routable j) where
  pub ran-grown : {m : ℕ} {rs : List Record} {s : State} → Ran j m rs s → Grown j s m
  ran-grown start = grown_first j sound
  ran-grown (next {m = m} {s = s} {p = p} r n) =
      grown-on j sound p.state m (grown-same j s p.state m (nets-histories j n) (nets-factor j n) (ran-grown r))

  pub ran-ready : {m i : ℕ} {rs : List Record} {s : State} {p : Progress} → Ran j m rs s → NetsRan j s i p → m < j.terms.limit → StateReady j p.state
  ran-ready {m = m} {s = s} {p = p} r n h =
      grown-ready j sound p.state m h (grown-same j s p.state m (nets-histories j n) (nets-factor j n) (ran-grown r))

  -- below the limit a run can go on from where it leads
  pub ran-can : {m : ℕ} {rs : List Record} {s : State} → Ran j m rs s → m < j.terms.limit → CanGoOn j (record { records = rs; state = s })
  ran-can {m = m} r h = record { made = m; below = h; iteration-is = ran-iteration j r; grown = ran-grown r; trees-long = ran-trees j r }

-- ---- the machine's turns

module _ (j : Job) (sound : Routable j) (all : Reached j) where
  -- a net's turns in a state that keeps the bounds
  net_owns : (s : State) → StateReady j s → (i t : ℕ) → i < nets j → s.iteration ≡ t → 1 ≤ length (net_sinks j i) → Owns j i t (net_records j s i)
  net_owns s ready i t h at some =
      let on = net-source j sound s ready i h (λ x l. all i x h l) some in
      record {
        own =
            all_splits (Of i t) (net_records j s i)
            (λ earlier later r e.
            let turn = net-turn j sound s ready i h earlier later r e in
            record { net-is = turn.net-is; iteration-is = turn.iteration-is ∙ at });
        source-on = on;
        joined = λ x l.
            source_twice j i x (net_records j s i) on ∙ net-joins j sound s ready i h (λ y k. all i y h k) x l;
        once = net-distinct j sound s ready i h;
      }

  pub machine_nets : {m : ℕ} {rs : List Record} {s : State} → Ran j m rs s → m < j.terms.limit → (i : ℕ) → i ≤ nets j → NetsRan j s i (after_nets j s i)
  unfolding after_nets
  machine_nets r h zero l = none
  machine_nets {s = s} r h (suc i) l =
      let before : NetsRan j s i (after_nets j s i) = machine_nets r h i (omega arith) in
      by_test (due j s i)
      (λ q.
      rw q
      (routed before q
      (net_owns (after_nets j s i).state (ran-ready j sound r before h) i s.iteration l (nets-iteration j s i) (due_some j s i q))))
      (λ q. rw q (kept before q))

  -- so many iterations more
  pub machine_ran :
      {m : ℕ} {rs : List Record} {s : State} → Ran j m rs s → (n : ℕ) → m + n ≤ j.terms.limit
      → Ran j (m + n) (rs ++ records_after j s n) (state_after j s n)
  unfolding records_after state_after iterate
  machine_ran {m = m} {rs = rs} {s = s} r zero h =
      let e : m + 0 ≡ m = omega arith in
      rw (e, append-nil rs) r
  machine_ran {m = m} {rs = rs} {s = s} r (suc n) h =
      let e : m + suc n ≡ suc (m + n) = omega arith in
      let before : Ran j (m + n) (rs ++ records_after j s n) (state_after j s n) = machine_ran r n (omega arith) in
      rw (e, ← append_assoc rs (records_after j s n) (after_nets j (state_after j s n) (nets j)).records)
      (next before (machine_nets before (omega arith) (nets j) (le_refl (nets j))))
