-- A net ends: its new tree counts, and stands between its two places.
-- Assumes nothing.
use mathlib.Core.Bool.{true}
use mathlib.Core.List.{List, ◌++◌, append_assoc, append-nil}
use mathlib.Core.Logic.{⊎_elim}
use mathlib.Core.Path.{◌≡◌, sym, ◌∙◌, ap, subst}
use Prim.Native.Nat.{ℕ, ◌+◌, ◌≤◌}
use native.Mathlib.Numerals.{add-one}
use native.Mathlib.Omega.{arith}
use lib.ListN.{length, get_or}
use Rattle.price.specs.Lists.{has}
use Rattle.job.specs.Job.{Job, nodes, nets, source}
use Rattle.negotiation.specs.Routable.{Routable}
use Rattle.negotiation.specs.Records.{path_nodes}
use Rattle.negotiation.specs.Machine.{State, Progress, congestion_for, net_records, tree_from, with_net, after_nets, records_after}
use Rattle.job.specs.Steps.{AllBelow}
use Rattle.negotiation.specs.Steps.{CountReady, EndReady, Ended, Passed}
use Rattle.negotiation.specs.declared.tariff.Tariff.{Tariff}
use Rattle.negotiation.proofs.DueLaws.{due_some}
use Rattle.negotiation.proofs.StateLaws.{nets-trees, state-trees, routed-next}
use Rattle.negotiation.proofs.FilterLaws.{all_splits}
use Rattle.negotiation.proofs.NetLaws.{net-turn, net-source}
use Rattle.negotiation.proofs.MachineRan.{Reached}
use Rattle.negotiation.proofs.TurnStepLaws.{turns-none, paths-below, idle_next}
use Rattle.negotiation.proofs.KeepLaws.{start_of, reached, AtNet, AtTurn, AtIdle, AtTurns}
use Rattle.negotiation.proofs.KeepProgress.{due_mark, dues_long, countable, counted}
use Rattle.negotiation.proofs.KeepTurn.{ready-state}

module _ (j : Job) (sound : Routable j) (all : Reached j) {p : Progress} {work₀ log₀ : List ℕ} {m i : ℕ} {t : Tariff}
    {history users marks from to dues work log : List ℕ} where
  -- ---- a net that is due

  module _ {first : ℕ} (at : AtTurn j p work₀ log₀ m i 0 t history users marks from to dues work log first) where
    abbrev here : State
    here = (reached j p m i).state

    -- it has made all its turns
    all_made : net_records j here i ≡ at.made
    all_made = at.rest_is ∙ rw (turns-none j (p.state.iteration + m) (congestion_for j here i) i (tree_from j i at.made)) (append-nil at.made)

    own-nodes : AllBelow (nodes j) (path_nodes at.made)
    own-nodes =
        paths-below (nodes j) at.made
        (all_splits (λ r. AllBelow (nodes j) r.path) at.made
        (λ earlier later r e.
        (net-turn j sound here (ready-state j sound i at.under) i at.net earlier later r (all_made ∙ e)).path_nodes_lem))

    -- its source is on a path
    source-on : has (source j i) (path_nodes at.made) ≡ true
    source-on =
        rw all_made at
        (net-source j sound here (ready-state j sound i at.under) i at.net (λ x l. all i x at.net l) (due_some j (start_of j p m) i at.taken))

    can-count : CountReady (length marks) first t.words log users marks
    can-count = countable j sound at.opened at.tallied at.net first at.first_is own-nodes source-on

    -- and then it is routed
    next-is : reached j p m (i + 1) ≡ with_net j i (reached j p m i) at.made
    next-is =
        rw (
          add-one,
          routed-next j (start_of j p m) i at.taken,
          all_made,
          ← append_assoc (p.records ++ records_after j p.state m) (after_nets j (start_of j p m) i).records at.made,
        )

    due-ready : EndReady log i first t.words dues users marks from to
    due-ready =
        let inside = at.net in
        let long = dues_long j (start_of j p m) at.due-is in
        let from_long = at.opened.places.from_long in
        let to-long = at.opened.places.to-long in
        record { due-listed = omega arith; from_listed = omega arith; to-listed = omega arith; countable = λ some. can-count }

    due-ended :
        {users' marks' from' to' : List ℕ} → ((get_or dues i 0 ≡ 0 → ⊥) → Ended log i first t.words users marks from to users' marks' from' to')
        → AtNet j p work₀ log₀ m (i + 1) t history users' marks' from' to' dues work log
    due-ended e =
        let one : get_or dues i 0 ≡ 1 = due_mark j (start_of j p m) at.due-is i at.net ∙ rw at.taken in
        let ended = e (λ z. let n : 0 ≡ 1 = sym z ∙ one in omega arith) in
        let trees-long : length here.trees ≡ nets j = nets-trees j (start_of j p m) i ∙ state-trees j p.state m ∙ at.under.can.trees-long in
        let inside = at.net in
        record {
          under = at.under;
          upto = omega arith;
          kept = rw next-is (counted j sound at.opened at.tallied at.net first at.first_is own-nodes source-on trees-long ended);
          due-is = at.due-is;
          tallied = rw (ap (λ (q : Progress). q.records) next-is) at.tallied;
          work-same = at.work-same;
        }

  -- ---- one that is not

  module _ (at : AtIdle j p work₀ log₀ m i 0 t history users marks from to dues work log) where
    no_mark : get_or dues i 0 ≡ 0
    no_mark = due_mark j (start_of j p m) at.at.due-is i at.net ∙ rw at.not_taken

    idle_ready : {first : ℕ} → EndReady log i first t.words dues users marks from to
    idle_ready =
        let inside = at.net in
        let long = dues_long j (start_of j p m) at.at.due-is in
        let from_long = at.at.kept.places.from_long in
        let to-long = at.at.kept.places.to-long in
        record { due-listed = omega arith; from_listed = omega arith; to-listed = omega arith; countable = λ some. absurd (some no_mark) }

    idle_ended :
        {users' marks' from' to' : List ℕ} → (get_or dues i 0 ≡ 0 → Passed users marks from to users' marks' from' to')
        → AtNet j p work₀ log₀ m (i + 1) t history users' marks' from' to' dues work log
    idle_ended e =
        let q = e no_mark in
        let a = at.at in
        let inside = at.net in
        let same = idle_next j (start_of j p m) i at.not_taken in
        rw (q.users-same, q.marks_same, q.from_same, q.to_same)
        (record {
          under = a.under;
          upto = omega arith;
          kept = rw same a.kept;
          due-is = a.due-is;
          tallied = rw same a.tallied;
          work-same = a.work-same;
        })

  -- ---- either, with no turn left

  none_left : {left first : ℕ} → left ≤ 0 → AtTurns j p work₀ log₀ m i left t history users marks from to dues work log first → AtTurns j p work₀ log₀ m i 0 t history users marks from to dues work log first
  none_left {left} {first} l at =
      let e : left ≡ 0 = omega arith in
      subst (λ (k : ℕ). AtTurns j p work₀ log₀ m i k t history users marks from to dues work log first) e at

  pub keep_end-ready : {left first : ℕ} → left ≤ 0 → AtTurns j p work₀ log₀ m i left t history users marks from to dues work log first → EndReady log i first t.words dues users marks from to
  keep_end-ready l at = ⊎_elim (λ idle. idle_ready idle) (λ taken. due-ready taken) (none_left l at)

  pub keep_ended :
      {left first : ℕ} → left ≤ 0 → AtTurns j p work₀ log₀ m i left t history users marks from to dues work log first → {users' marks' from' to' : List ℕ}
      → (get_or dues i 0 ≡ 0 → Passed users marks from to users' marks' from' to')
      → ((get_or dues i 0 ≡ 0 → ⊥) → Ended log i first t.words users marks from to users' marks' from' to')
      → AtNet j p work₀ log₀ m (i + 1) t history users' marks' from' to' dues work log
  keep_ended l at passed ended = ⊎_elim (λ idle. idle_ended idle passed) (λ taken. due-ended taken ended) (none_left l at)
