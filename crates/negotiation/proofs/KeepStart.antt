-- A run begins or goes on, an iteration marks the nets that are due, and such a net drops its old tree.
-- Assumes nothing.
use mathlib.Core.Bool.{true, false}
use mathlib.Core.List.{List, [], append-nil}
use mathlib.Core.Logic.{inl, inr}
use mathlib.Core.Path.{◌≡◌, refl, sym, ◌∙◌, ap}
use Prim.Native.Nat.{ℕ, ◌+◌, ◌-◌, ◌≤◌, ◌<◌, zero-le}
use native.Mathlib.Nat.{not-suc-le-zero, le_trans}
use native.Mathlib.Omega.{arith}
use lib.ListN.{length, get_or, take, replicate, length-replicate, get_or-replicate}
use lib.Seq.{length-slice, length-take-le, get_or-take, ext_get_or}
use Rattle.price.specs.Test.{choose}
use Rattle.price.specs.Lists.{up_to}
use Rattle.price.specs.Prices.{next_factor}
use Rattle.price.proofs.TestLaws.{by_test}
use Rattle.price.proofs.ListLaws.{up_to_is}
use Rattle.job.specs.Job.{Job, nodes, nets, net_sinks}
use Rattle.negotiation.specs.Routable.{Routable}
use Rattle.negotiation.specs.Records.{encode, path_nodes}
use Rattle.negotiation.specs.Machine.{Progress, users_of, congestion_for, turns_of, net_records, tree_from, all_due, due, after_nets, first_state, state_after, records_after}
use Rattle.negotiation.specs.Outcome.{first_progress, iterations_left, log_with}
use Rattle.negotiation.specs.Steps.{takes, BeginReady, Begun, Idle}
use Rattle.negotiation.specs.Kept.{Ready}
use Rattle.negotiation.specs.Runs.{start}
use Rattle.negotiation.specs.declared.tariff.Tariff.{Tariff}
use Rattle.negotiation.proofs.StateLaws.{nets-iteration, state-iteration}
use Rattle.negotiation.proofs.MachineRan.{ran-can}
use Rattle.negotiation.proofs.UserLaws.{users-none}
use Rattle.negotiation.proofs.KeepLaws.{start_of, reached, AtIteration, AtNet, AtTurn, AtIdle, AtTurns}
use Rattle.negotiation.proofs.KeepPlaces.{first_places_lem}
use Rattle.negotiation.proofs.KeepProgress.{due_mark, dues_long, due-marked, begin_ready, opens}

-- a beginning of one number over and over
pub take-replicate : (n most x : ℕ) → n ≤ most → take n (replicate most x) ≡ replicate n x
take-replicate n most x h =
    let long : length (take n (replicate most x)) ≡ n = length-take-le n (replicate most x) (rw length-replicate h) in
    ext_get_or 0 (take n (replicate most x)) (replicate n x) (long ∙ sym (length-replicate n x))
    (λ v l.
    let b : v < n = rw long at l in
    get_or-take n (replicate most x) v 0 b ∙ get_or-replicate most v x 0 (le_trans b h) ∙ sym (get_or-replicate n v x 0 b))

-- ---- a run begins

-- its lists and tariff: history 1, no users, no tree
pub record Starts (j : Job) (t : Tariff) (history users marks from to dues : List ℕ) : Type 0 where
  pub iteration-is : t.iteration ≡ 1
  pub factor-is : t.factor ≡ 0
  pub turns-is : t.turns ≡ 0
  pub words-is : t.words ≡ 0
  pub history_is : history ≡ replicate (nodes j) 1
  pub users-is : users ≡ replicate (nodes j) 0
  pub no_marks : marks ≡ replicate (nodes j) 0
  pub from_is : from ≡ replicate (nets j) 0
  pub to_is : to ≡ replicate (nets j) 0
  pub due-long : length dues ≡ nets j

no_users : (j : Job) (users : List ℕ) → users ≡ replicate (nodes j) 0 → users ≡ up_to (users_of j (first_state j).trees) (nodes j)
no_users j users e =
    up_to_is (users_of j (first_state j).trees) (nodes j) users (ap length e ∙ length-replicate (nodes j) 0)
    (λ v h. ap (λ (l : List ℕ). get_or l v 0) e ∙ get_or-replicate (nodes j) v 0 0 h ∙ sym (users-none j v))

-- they are those of the first state
pub begun_ready :
    (j : Job) → Routable j → {t : Tariff} {history users marks from to dues : List ℕ} → Starts j t history users marks from to dues → (log : List ℕ)
    → Ready j (first_progress j) t history users marks from to dues log
unfolding first_state next_factor encode log_with
begun_ready j sound {users = users} {from = from} {to = to} s log =
    record {
      can = ran-can j sound start sound.limit_some;
      iteration-is = s.iteration-is;
      factor-is = s.factor-is;
      kept =
          record {
            history_is = s.history_is;
            users-is = no_users j users s.users-is;
            no_marks = s.no_marks;
            places = first_places_lem j (first_progress j) from to refl refl s.from_is s.to_is;
          };
      due-long = s.due-long;
      tallied = record { turns-is = s.turns-is; words-is = s.words-is; log_is = refl; fits = zero-le };
    }

-- ---- it goes on

-- no iteration more is made
pub keep_start :
    (j : Job) {p : Progress} {t : Tariff} {history users marks from to dues log : List ℕ} → Ready j p t history users marks from to dues log → (work : List ℕ)
    → AtIteration j p work log 0 t history users marks from to dues work log
unfolding records_after state_after after_nets iterations_left
keep_start j {p} r work =
    let made = r.can.iteration-is in
    let few = r.can.below in
    let none : p.state.iteration ≡ p.state.iteration + 0 = omega arith in
    record {
      under =
          record {
            can = r.can;
            below = omega arith;
            unsettled = λ n l. absurd (not-suc-le-zero l);
            iteration-is = r.iteration-is ∙ none;
            factor-is = r.factor-is;
          };
      kept = rw (append-nil p.records, append-nil p.records) r.kept;
      due-long = r.due-long;
      tallied = rw (append-nil p.records, append-nil p.records) r.tallied;
      work-same = record { long = refl; high = λ n l. refl };
    }

-- a net has as many sinks as stand between its places of table 6
pub sinks-count :
    (j : Job) → Routable j → (i : ℕ) → i < nets j → get_or j.first_sinks (i + 1) 0 - get_or j.first_sinks i 0 ≡ length (net_sinks j i)
unfolding net_sinks
sinks-count j sound i hi =
    sym (length-slice (get_or j.first_sinks i 0) (get_or j.first_sinks (i + 1) 0) j.sinks (sound.sinks-end (i + 1) (omega arith)))

module _ (j : Job) (sound : Routable j) {p : Progress} {work₀ log₀ : List ℕ} {m : ℕ} where
  -- ---- an iteration begins

  pub keep_due :
      {t : Tariff} {history users marks from to dues work log : List ℕ} → AtIteration j p work₀ log₀ m t history users marks from to dues work log → (dues' : List ℕ)
      → dues' ≡ up_to (λ k. choose (takes (all_due j.terms t.iteration) j.block.capacities j.first_sinks log from to users k) 1 0) (length dues)
      → AtNet j p work₀ log₀ m 0 t history users marks from to dues' work log
  unfolding after_nets
  keep_due {dues = dues} at dues' e =
      record {
        under = at.under;
        upto = zero-le;
        kept = at.kept;
        due-is = due-marked j sound at.kept at.tallied (at.under.iteration-is ∙ sym (state-iteration j p.state m)) dues dues' at.due-long e;
        tallied = at.tallied;
        work-same = at.work-same;
      }

  -- ---- a net begins

  module _ {i : ℕ} {t : Tariff} {history users marks from to dues work log : List ℕ}
      (at : AtNet j p work₀ log₀ m i t history users marks from to dues work log) (hi : i < nets j) where
    pub keep_ready : BeginReady log j.sources j.first_sinks i dues from to users marks
    keep_ready = begin_ready j sound at.kept at.tallied i hi dues (dues_long j (start_of j p m) at.due-is)

    -- all turns are left
    first_turns :
        net_records j (reached j p m i).state i
        ≡ turns_of j (p.state.iteration + m) (congestion_for j (reached j p m i).state i) i (length (net_sinks j i)) (tree_from j i [])
    unfolding net_records path_nodes
    first_turns = rw (nets-iteration j (start_of j p m) i, state-iteration j p.state m)

    taken :
        {left : ℕ} {users' marks' : List ℕ} → due j (start_of j p m) i ≡ true → Begun log j.sources j.first_sinks i from to users marks left users' marks'
        → AtTurn j p work₀ log₀ m i left t history users' marks' from to dues work log t.words
    taken q b =
        record {
          under = at.under;
          net = hi;
          taken = q;
          made = [];
          rest_is = rw (b.left_is, sinks-count j sound i hi) first_turns;
          tallied = rw (append-nil (reached j p m i).records) at.tallied;
          first_is = at.tallied.words-is;
          opened = opens j sound at.kept at.tallied i hi b;
          due-is = at.due-is;
          work-same = at.work-same;
        }

    idle :
        {left : ℕ} {users' marks' : List ℕ} → due j (start_of j p m) i ≡ false → Idle left users marks users' marks'
        → AtIdle j p work₀ log₀ m i left t history users' marks' from to dues work log
    idle q e = record { net = hi; not_taken = q; none_left = e.none_left; at = rw (e.users-same, e.marks_same) at }

    pub keep_begun :
        {left : ℕ} {users' marks' : List ℕ} → (get_or dues i 0 ≡ 0 → Idle left users marks users' marks')
        → ((get_or dues i 0 ≡ 0 → ⊥) → Begun log j.sources j.first_sinks i from to users marks left users' marks')
        → AtTurns j p work₀ log₀ m i left t history users' marks' from to dues work log t.words
    keep_begun without with-turns =
        let mark = due_mark j (start_of j p m) at.due-is i hi in
        by_test (due j (start_of j p m) i)
        (λ q.
        let one : get_or dues i 0 ≡ 1 = mark ∙ rw q in
        inr (taken q (with-turns (λ z. let n : 0 ≡ 1 = sym z ∙ one in omega arith))))
        (λ q. inl (idle q (without (mark ∙ rw q))))
