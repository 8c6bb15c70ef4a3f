-- The iterations of a lent log, as a loop follows them one after the other.
--     Taking, take-start, taking-long     the iterations so far
--     nets-on, next-below                 what its nets come to
--     due_asks, nets_open, growable       the next one begins, and what each call asks
--     take-stopped                        a net ends it
--     same-iteration                      else it is whole
--     take_whole                          an audit ends behind it, it settles, or is the limit's
--     take_next, take_on                  else the run can go on, in the log or behind it
-- Assumes nothing.
use mathlib.Core.Bool.{Bool, true, false}
use mathlib.Core.List.{List, []}
use mathlib.Core.Logic.{⊎_elim}
use mathlib.Core.Path.{◌≡◌, refl, sym, ◌∙◌, ap, subst}
use Prim.Native.Nat.{ℕ, suc, ◌+◌, ◌-◌, ◌≤◌, ◌<◌, zero-le}
use native.Mathlib.Nat.{eq-or-lt_of_le}
use native.Mathlib.Omega.{arith}
use lib.Dec.{eqb, leb, ltb}
use lib.ListN.{length, get_or}
use borrow.Author.Tests.{eq-eqb, eqb-true, eqb-false, le-leb, lt-leb, lt-ltb, le-ltb, ltb-true, ltb-false}
use Rattle.price.specs.Test.{choose, both, either}
use Rattle.price.specs.Lists.{up_to}
use Rattle.price.specs.Prices.{next_factor}
use Rattle.price.proofs.TestLaws.{by_test, true≢false}
use Rattle.price.proofs.BelowLaws.{count_same}
use Rattle.job.specs.Job.{Job, nodes, nets}
use Rattle.negotiation.specs.Routable.{Routable}
use Rattle.negotiation.specs.Records.{encode}
use Rattle.negotiation.specs.Machine.{State, Progress, overfull, all_due, over_count, move_on, first_state}
use Rattle.negotiation.specs.Outcome.{first_progress}
use Rattle.negotiation.specs.Steps.{takes, DueReady}
use Rattle.negotiation.specs.TariffSteps.{ended_tariff, started_tariff}
use Rattle.negotiation.specs.Kept.{CanGoOn, Ready}
use Rattle.negotiation.specs.Resume.{Replay, on, off, ends, not_cheapest, if_on, at_end, since_start, moved_on, replay_nets, replay_next, replay_from}
use Rattle.negotiation.specs.TakeSteps.{told_of, whole_as, ToldAt, NetsOpen, NetsOn, NetsEnd, NetsTaken, LogOn, LogEnds, LogTaken}
use Rattle.negotiation.specs.declared.tariff.Tariff.{Tariff}
use Rattle.std.specs.Prelude.{Result, Ok, Err}
use Rattle.negotiation.specs.declared.take_up.Stopped.{Stopped}
use Rattle.negotiation.specs.declared.take_up.Stopped.TheVariants.{Off, Ends, NotCheapest}
use Rattle.negotiation.specs.declared.take_up.Told.{Told}
use Rattle.negotiation.specs.declared.take_up.Walk.{Walk}
use Rattle.negotiation.proofs.ReplayLaws.{either_no}
use Rattle.negotiation.proofs.UserLaws.{count_zero, users-none}
use Rattle.negotiation.proofs.NetLaws.{grown-on}
use Rattle.negotiation.proofs.KeepProgress.{users-long, marks_long, due-ready, due-marked, over_used, over-is, grow, kept-moved}
use Rattle.negotiation.proofs.take_up.JudgedLaws.{whole_said_ends, whole_said_off, whole_said_on, WholeOn, whole_said_so}
use Rattle.negotiation.proofs.take_up.TakeTurnLaws.{can-ready}
use Rattle.negotiation.proofs.take_up.TakeNetLaws.{on_err}

-- ---- the iterations so far

-- they follow and lead to this progress, and the next one is followed
pub record Taking (audit : Bool) (j : Job) (over : ℕ) (t : Tariff) (history users marks from to dues log : List ℕ) : Type 0 where
  pub progress : Progress
  pub left : ℕ
  pub left_is : left + progress.state.iteration ≡ j.terms.limit + 1
  pub is : replay_from audit j log j.terms.limit (first_state j) [] ≡ replay_from audit j log left progress.state progress.records
  pub over-is : over ≡ over_count j progress.state.trees
  pub ready : Ready j progress t history users marks from to dues log

-- nothing is over capacity where no net has a tree
none_over : (j : Job) → 0 ≡ over_count j (first_state j).trees
unfolding over_count overfull
none_over j =
    sym (count_same (overfull j (first_state j).trees) (λ _. false) (nodes j) (λ v h. rw (users-none j v) (le-ltb (get_or j.block.capacities v 0) 0 (zero-le)))
    ∙ count_zero (nodes j))

-- none, at first
pub take-start :
    (audit : Bool) (j : Job) {t : Tariff} {history users marks from to dues log : List ℕ} → Ready j (first_progress j) t history users marks from to dues log
    → Taking audit j 0 t history users marks from to dues log
unfolding first_state
take-start audit j r = record { progress = first_progress j; left = j.terms.limit; left_is = refl; is = refl; over-is = none_over j; ready = r }

-- the lists keep their lengths
pub taking-long :
    {audit : Bool} (j : Job) {over : ℕ} {t : Tariff} {history users marks from to dues log : List ℕ} → Taking audit j over t history users marks from to dues log
    → (length history ≡ nodes j) × (length users ≡ nodes j) × (length marks ≡ nodes j) × (length from ≡ nets j) × (length to ≡ nets j) × (length dues ≡ nets j)
taking-long j a =
    let kept = a.ready.kept in (
      ap length kept.history_is ∙ a.ready.can.grown.long,
      users-long j kept,
      marks_long j kept,
      kept.places.from_long,
      kept.places.to-long,
      a.ready.due-long,
    )

-- ---- what the nets come to, by cases

pub nets-on :
    (walk : Walk) (j : Job) (p : Progress) (history users marks from to log : List ℕ) {r : Result Tariff Stopped} {t : Tariff} → NetsTaken walk r j p history users marks from to log
    → r ≡ Ok t → NetsOn walk.audit j p (nets j) t history users marks from to log
nets-on walk j p history users marks from to log n e = subst (λ (x : Result Tariff Stopped). NetsTaken walk x j p history users marks from to log) e n

pub nets-err :
    (walk : Walk) (j : Job) (p : Progress) (history users marks from to log : List ℕ) {r : Result Tariff Stopped} {e : Stopped} → NetsTaken walk r j p history users marks from to log
    → r ≡ Err e → NetsTaken walk (Err e) j p history users marks from to log
nets-err walk j p history users marks from to log n e = subst (λ (x : Result Tariff Stopped). NetsTaken walk x j p history users marks from to log) e n

-- one is left behind an iteration that is not the limit's
pub next-below :
    {audit : Bool} (j : Job) {p : Progress} {i : ℕ} {t : Tariff} {history users marks from to log : List ℕ} → NetsOn audit j p i t history users marks from to log
    → (t.iteration ≡ j.terms.limit → ⊥) → t.iteration < j.terms.limit
next-below j {t = t} n go =
    let is = n.at.iteration-is in
    let made = n.at.can.iteration-is in
    let below = n.at.can.below in
    ⊎_elim (λ (e : t.iteration ≡ j.terms.limit). absurd (go e)) (λ l. l) (eq-or-lt_of_le (omega arith))

-- one iteration of the replay
from_step :
    (audit : Bool) (j : Job) (ws : List ℕ) (k : ℕ) (q : Progress) (a : Replay) → replay_nets audit j ws q.state q.records (nets j) ≡ a
    → replay_from audit j ws (suc k) q.state q.records ≡ if_on (since_start q.state a) (λ p. replay_next audit j ws p (replay_from audit j ws k))
unfolding replay_from
from_step audit j ws k q a e = rw e

-- ---- the next iteration

module _ (j : Job) (sound : Routable j) {audit : Bool} {over : ℕ} {t : Tariff} {history users marks from to dues log : List ℕ}
    (a : Taking audit j over t history users marks from to dues log) where
  abbrev here : Progress
  here = a.progress

  pub due_asks : DueReady j.block.capacities j.first_sinks log from to users × (length dues ≡ length from)
  due_asks = (due-ready j sound a.ready.kept a.ready.tallied, a.ready.due-long ∙ sym a.ready.kept.places.from_long)

  -- histories can grow
  pub growable : (v : ℕ) → v < length history → get_or history v 0 < 2147483648
  growable v l =
      let h : v < nodes j = rw (taking-long j a).0 at l in
      let most = (can-ready j sound a.ready.can).history_most_lem v h in
      let is : get_or history v 0 ≡ get_or here.state.histories v 0 = ap (λ (xs : List ℕ). get_or xs v 0) a.ready.kept.history_is in
      omega arith

  -- its nets are marked
  pub nets_open :
      {dues' : List ℕ}
      → dues' ≡ up_to (λ k. choose (takes (all_due j.terms t.iteration) j.block.capacities j.first_sinks log from to users k) 1 0) (length dues)
      → NetsOpen j here t history users marks from to dues' log
  nets_open {dues'} e =
      record {
        routable = sound;
        at = record { can = a.ready.can; iteration-is = a.ready.iteration-is; factor-is = a.ready.factor-is; tallied = a.ready.tallied };
        kept = a.ready.kept;
        due-is = due-marked j sound a.ready.kept a.ready.tallied a.ready.iteration-is dues dues' a.ready.due-long e;
      }

  -- an iteration is left
  some_left : a.left ≡ suc (a.left - 1)
  some_left =
      let is = a.left_is in
      let made = a.ready.can.iteration-is in
      let below = a.ready.can.below in
      omega arith

  one_more : replay_from audit j log j.terms.limit (first_state j) [] ≡ replay_from audit j log (suc (a.left - 1)) here.state here.records
  one_more =
      a.is ∙ ap (λ (k : ℕ). replay_from audit j log k here.state here.records) some_left

  abbrev walk : Walk
  walk = record { audit = audit; over = over }

  -- a net ends it
  ended_so : (told : Told) (reply : Progress → Replay)
      → ((q : Progress) (s : State) (next : Progress → Replay) → if_on (since_start s (reply q)) next ≡ reply (record { records = q.records; state = s }))
      → NetsEnd walk j here log told reply → LogEnds audit j log told reply
  ended_so told reply since n =
      record {
        progress = record { records = n.progress.records; state = here.state };
        is = one_more ∙ from_step audit j log (a.left - 1) here (reply n.progress) n.is ∙ since n.progress here.state _;
        told_at = subst (λ (k : ℕ). ToldAt n.progress.records here.state.iteration k told) a.over-is n.told_at;
      }

  pub take-stopped :
      (users' marks' from' to' : List ℕ) (e : Stopped) → NetsTaken walk (Err e) j here history users' marks' from' to' log
      → (history'' users'' marks'' from'' to'' dues'' : List ℕ) → LogTaken audit (Err e) j history'' users'' marks'' from'' to'' dues'' log
  take-stopped users' marks' from' to' (Off w) n history'' users'' marks'' from'' to'' dues'' = one_more ∙ from_step audit j log (a.left - 1) here (off w) n
  take-stopped users' marks' from' to' (Ends told) n history'' users'' marks'' from'' to'' dues'' = ended_so told ends (λ q s next. refl) n
  take-stopped users' marks' from' to' (NotCheapest told cost least) n history'' users'' marks'' from'' to'' dues'' =
      ended_so told (λ q. not_cheapest q cost least) (λ q s next. refl) n

  -- or all nets follow
  module _ {t' : Tariff} {users' marks' from' to' : List ℕ} (n : NetsOn audit j here (nets j) t' history users' marks' from' to' log) where
    abbrev end : Progress
    end = n.progress

    whole : replay_from audit j log j.terms.limit (first_state j) [] ≡ replay_next audit j log end (replay_from audit j log (a.left - 1))
    whole = one_more ∙ from_step audit j log (a.left - 1) here (on end) n.is

    over-same : over_used j users' ≡ over_count j end.state.trees
    over-same = over-is j n.kept

    abbrev moved : Progress
    moved = moved_on j end

    end_so : {b : Bool} → both audit (leb (length log) t'.words) ≡ b → both audit (at_end log end.records) ≡ b
    end_so e = ap (λ (k : ℕ). both audit (leb (length log) k)) (sym n.at.tallied.words-is) ∙ e

    -- it is the limit's
    last-is : leb j.terms.limit end.state.iteration ≡ eqb t'.iteration j.terms.limit
    last-is =
        let is = n.at.iteration-is in
        let made = n.at.can.iteration-is in
        let below = n.at.can.below in
        by_test (eqb t'.iteration j.terms.limit)
        (λ q.
        let e : t'.iteration ≡ j.terms.limit = eqb-true t'.iteration j.terms.limit q in
        le-leb j.terms.limit end.state.iteration (omega arith) ∙ sym q)
        (λ q.
        let l : t'.iteration < j.terms.limit =
        ⊎_elim (λ (e : t'.iteration ≡ j.terms.limit). absurd (true≢false (sym (eq-eqb t'.iteration j.terms.limit e) ∙ q))) (λ l. l) (eq-or-lt_of_le (omega arith)) in
        lt-leb j.terms.limit end.state.iteration (omega arith) ∙ sym q)

    -- the nodes over capacity are counted
    module _ (over' : ℕ) (counts : over' ≡ over_used j users') where
      over_so : over' ≡ over_count j end.state.trees
      over_so = counts ∙ over-same

      abbrev stop : Bool
      stop = either (eqb over' 0) (eqb t'.iteration j.terms.limit)

      stop_is : either (eqb (over_count j end.state.trees) 0) (leb j.terms.limit end.state.iteration) ≡ stop
      stop_is = rw (last-is, ← over_so)

      -- an audit's words end behind it
      ends_whole : both audit (leb (length log) t'.words) ≡ true → LogEnds audit j log (told_of t' t'.iteration over') ends
      unfolding move_on
      ends_whole e =
          let q : both audit (at_end log end.records) ≡ true = end_so e in
          record {
            progress = moved;
            is = whole ∙ rw q;
            told_at =
                record {
                  turns-is = n.at.tallied.turns-is;
                  words-is = n.at.tallied.words-is;
                  whole_is = ap (λ (k : ℕ). k + 1) n.at.iteration-is;
                  over-is = over_so;
                };
          }

      stops : both audit (leb (length log) t'.words) ≡ false → stop ≡ true → replay_from audit j log j.terms.limit (first_state j) [] ≡ off t'.words
      stops e s =
          let q : both audit (at_end log end.records) ≡ false = end_so e in
          whole ∙ rw (q, stop_is, s) (ap off (sym n.at.tallied.words-is))

      -- what is answered then
      pub take_whole :
          (e : Stopped) → Err e ≡ whole_as audit t' over' j.terms.limit (length log)
          → (history'' users'' marks'' from'' to'' dues'' : List ℕ) → LogTaken audit (Err e) j history'' users'' marks'' from'' to'' dues'' log
      take_whole r is history'' users'' marks'' from'' to'' dues'' =
          by_test (both audit (leb (length log) t'.words))
          (λ e. taken_as (Err (Ends (told_of t' t'.iteration over'))) (whole_said_ends audit t' over' j.terms.limit (length log) e) (ends_whole e))
          (λ e.
          by_test stop
          (λ s. taken_as (Err (Off t'.words)) (whole_said_off audit t' over' j.terms.limit (length log) e s) (stops e s))
          (λ s. absurd (on_err (sym (is ∙ whole_said_on audit t' over' j.terms.limit (length log) e s)))))
        where
          taken_as : (x : Result Tariff Stopped) → whole_as audit t' over' j.terms.limit (length log) ≡ x → LogTaken audit x j history'' users'' marks'' from'' to'' dues'' log
              → LogTaken audit (Err r) j history'' users'' marks'' from'' to'' dues'' log
          taken_as x e l = subst (λ (y : Result Tariff Stopped). LogTaken audit y j history'' users'' marks'' from'' to'' dues'' log) (sym (is ∙ e)) l

    -- in the same iteration, so that the next one lowers the measure
    pub same-iteration : t'.iteration ≡ t.iteration
    same-iteration = n.at.iteration-is ∙ n.same ∙ sym a.ready.iteration-is

    -- or the run can go on
    module _ (over' : ℕ) (counts : over' ≡ over_used j users') {t'' : Tariff}
        (goes : Ok t'' ≡ whole_as audit t' over' j.terms.limit (length log)) where
      said : WholeOn audit t' over' j.terms.limit (length log) t''
      said = whole_said_so audit t' over' j.terms.limit (length log) goes

      more-words : both audit (at_end log end.records) ≡ false
      more-words = end_so said.more

      goes-still : either (eqb (over_count j end.state.trees) 0) (leb j.terms.limit end.state.iteration) ≡ false
      goes-still = stop_is over' counts ∙ said.unsettled

      pub low : t'.iteration < j.terms.limit
      low = next-below j n (eqb-false t'.iteration j.terms.limit (either_no (eqb over' 0) (eqb t'.iteration j.terms.limit) said.unsettled))

      can-next : CanGoOn j moved
      unfolding move_on
      can-next =
          let c = n.at.can in
          let made = c.iteration-is in
          let is = n.at.iteration-is in
          let l = low in
          record {
            made = suc c.made;
            below = omega arith;
            iteration-is = omega arith;
            grown = grown-on j sound end.state c.made c.grown;
            trees-long = c.trees-long;
          }

      -- in the log, or behind it
      ended : (more' : Bool) → more' ≡ ltb t'.words (length log)
          → replay_from audit j log j.terms.limit (first_state j) [] ≡ choose more' (replay_from audit j log (a.left - 1) moved.state moved.records) (on moved)
      ended more' e =
          let words_are = n.at.tallied.words-is in
          by_test (ltb t'.words (length log))
          (λ q.
          let l = ltb-true t'.words (length log) q in
          whole ∙ rw (e, q, more-words, goes-still, lt-leb (length log) (length (encode end.records)) (omega arith)))
          (λ q.
          let l = ltb-false t'.words (length log) q in
          whole ∙ rw (e, q, more-words, goes-still, le-leb (length log) (length (encode end.records)) (omega arith)))

      -- what it starts from
      module _ {t''' : Tariff} (next-is : t''' ≡ started_tariff (ended_tariff j.terms.tuning t'')) where
        started : t''' ≡ started_tariff (ended_tariff j.terms.tuning t')
        started = next-is ∙ ap (λ (x : Tariff). started_tariff (ended_tariff j.terms.tuning x)) said.same

        words_same : t'''.words ≡ t'.words
        words_same = ap (λ (x : Tariff). x.words) started

        module _ {dues' : List ℕ} (due-long : length dues' ≡ nets j) {history' : List ℕ} (grown-so : history' ≡ up_to (grow j n.kept) (length history)) where
          ready_next : Ready j moved t''' history' users' marks' from' to' dues' log
          unfolding move_on
          ready_next =
              let e = started in
              let now = n.at.iteration-is in
              record {
                can = can-next;
                iteration-is = ap (λ (x : Tariff). x.iteration) e ∙ ap (λ (k : ℕ). k + 1) now;
                factor-is =
                    ap (λ (x : Tariff). x.factor) e ∙ ap (λ (k : ℕ). next_factor j.terms.tuning k t'.factor) now
                    ∙ ap (λ (k : ℕ). next_factor j.terms.tuning end.state.iteration k) n.at.factor-is;
                kept = kept-moved j n.kept (taking-long j a).0 grown-so;
                due-long = due-long;
                tallied =
                    record {
                      turns-is = ap (λ (x : Tariff). x.turns) e ∙ n.at.tallied.turns-is;
                      words-is = words_same ∙ n.at.tallied.words-is;
                      log_is = n.at.tallied.log_is;
                      fits = n.at.tallied.fits;
                    };
              }

          -- in the log
          pub take_next : t'''.words < length log → Taking audit j over' t''' history' users' marks' from' to' dues' log
          unfolding move_on
          take_next l =
              let is = a.left_is in
              let left-some = some_left in
              let same = n.same in
              let low : t'.words < length log = rw words_same at l in
              record {
                progress = moved;
                left = a.left - 1;
                left_is = omega arith;
                over-is = over_so over' counts;
                is = ended true (sym (lt-ltb t'.words (length log) low));
                ready = ready_next;
              }

          -- behind it
          pub take_on : length log ≤ t'''.words → LogOn audit j t''' history' users' marks' from' to' dues' log
          take_on l =
              let end : length log ≤ t'.words = rw words_same at l in
              record { progress = moved; is = ended false (sym (le-ltb t'.words (length log) end)); ready = ready_next }
