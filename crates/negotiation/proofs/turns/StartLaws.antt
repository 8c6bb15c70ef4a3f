-- A run starts anew, or after a lent log that is taken up from its words used; else the log is turned away.
-- Assumes nothing.
use mathlib.Core.Bool.{Bool, false}
use mathlib.Core.List.{List, [], ◌++◌, append_assoc}
use mathlib.Core.Path.{◌≡◌, refl, sym, ◌∙◌, ap, subst}
use Prim.Native.Nat.{ℕ, ◌*◌, ◌≤◌, ◌<◌, zero-le}
use native.Mathlib.Omega.{arith}
use lib.ListN.{length, take, drop, replicate, take-append-drop}
use lib.Seq.{length-take-le, drop-append_seam}
use borrow.Author.Tests.{lt-ltb, le-ltb}
use Rattle.job.specs.Job.{Job, nodes}
use Rattle.negotiation.specs.Records.{Record, encode, decode}
use Rattle.negotiation.specs.Machine.{Progress, first_state}
use Rattle.negotiation.specs.Outcome.{RouteReply, first_progress, log_with, continued, refused_answer, route_reply_of}
use Rattle.negotiation.specs.Kept.{Tallied, Ready, SomeReady}
use Rattle.negotiation.specs.Steps.{SameFrom}
use Rattle.negotiation.specs.Resume.{Replay, on, off, replay_from, replay_by, replay, resumed_reply, run_from, lent_records}
use Rattle.negotiation.specs.Routable.{Routable}
use Rattle.negotiation.specs.Aimed.{expanded_after}
use Rattle.negotiation.specs.Runs.{Ran, start as none-ran}
use Rattle.negotiation.specs.TariffSteps.{going_on}
use Rattle.negotiation.specs.TakeSteps.{LogTaken, StartOn, words_at, TurnedAway, Started}
use Rattle.negotiation.specs.declared.RouteAnswer.{RouteAnswer}
use Rattle.negotiation.specs.declared.Outcome.TheVariants.{Diverges}
use Rattle.negotiation.specs.declared.tariff.Tariff.{Tariff}
use Rattle.std.specs.Prelude.{Option, Some, None, Result, Ok, Err}
use Rattle.negotiation.specs.declared.take_up.Stopped.{Stopped}
use Rattle.negotiation.specs.declared.take_up.Stopped.TheVariants.{Off, Ends, NotCheapest}
use Rattle.negotiation.proofs.RecordLaws.{decode-encode}
use Rattle.negotiation.proofs.ReplayLaws.{TakenUp, taken_up_lem, never_ends, never_finds}
use Rattle.negotiation.proofs.TurnStepLaws.{tallied_so}
use Rattle.negotiation.proofs.EndLaws.{cleared-same, continued-same}

-- ---- the words used and the whole log

-- records that stand first in a beginning of the log stand first in the log
tallied_whole : {rs : List Record} {t : Tariff} (used : ℕ) (log : List ℕ) → used ≤ length log → Tallied rs (take used log) t (take used log) → Tallied rs log t log
unfolding log_with
tallied_whole {rs} used log within at =
    let rest : List ℕ = drop (length (encode rs)) (take used log) ++ drop used log in
    let there : log ≡ encode rs ++ rest =
    sym (take-append-drop used log) ∙ ap (λ (l : List ℕ). l ++ drop used log) at.log_is
    ∙ append_assoc (encode rs) (drop (length (encode rs)) (take used log)) (drop used log) in
    let past : drop (length (encode rs)) log ≡ rest = ap (drop (length (encode rs))) there ∙ drop-append_seam (encode rs) rest in
    let long = length-take-le used log within in
    let few = at.fits in
    record {
      turns-is = at.turns-is;
      words-is = at.words-is;
      log_is = there ∙ ap (λ (l : List ℕ). encode rs ++ l) (sym past);
      fits = omega arith;
    }

module _ (j : Job) {t : Tariff} {history users marks from to dues : List ℕ} where
  ready_whole :
      {p : Progress} (used : ℕ) (log : List ℕ) → used ≤ length log → Ready j p t history users marks from to dues (take used log)
      → Ready j p t history users marks from to dues log
  ready_whole used log within r =
      record {
        can = r.can;
        iteration-is = r.iteration-is;
        factor-is = r.factor-is;
        kept = r.kept;
        due-long = r.due-long;
        tallied = tallied_whole used log within r.tallied;
      }

  -- a run that begins has no records, so any log will do
  pub begun_over :
      {log : List ℕ} → Ready j (first_progress j) t history users marks from to dues log → (other : List ℕ) → Ready j (first_progress j) t history users marks from to dues other
  unfolding encode log_with
  begun_over r other =
      record {
        can = r.can;
        iteration-is = r.iteration-is;
        factor-is = r.factor-is;
        kept = r.kept;
        due-long = r.due-long;
        tallied = record { turns-is = r.tallied.turns-is; words-is = r.tallied.words-is; log_is = refl; fits = zero-le };
      }

-- ---- what a start comes to

module _ (j : Job) (start : Option ℕ) (log : List ℕ) where
  pub start_anew :
      start ≡ None → {t : Tariff} {history users marks from to dues : List ℕ} → Ready j (first_progress j) t history users marks from to dues log
      → Started (Ok t) start j history users marks from to dues log
  unfolding Started
  start_anew e r = record { progress = first_progress j; is = λ work. rw e; ready = r; iterations = 0; ran = none-ran; lent_is = rw e }

  module _ (used : ℕ) (e : start ≡ Some used) where
    after_so : (a : Replay) → replay j used log ≡ a → (work : List ℕ) → run_from start j work log ≡ resumed_reply j a work log
    after_so a q work = rw (e, q)

    pub start-beyond : length log < used → (history users marks from to dues : List ℕ) → Started (Err (Off (length log))) start j history users marks from to dues log
    unfolding Started replay_by
    start-beyond l history users marks from to dues = after_so (off (length log)) (rw (lt-ltb (length log) used l))

    module _ (within : used ≤ length log) where
      replay-is : replay j used log ≡ replay_from false j (take used log) j.terms.limit (first_state j) []
      unfolding replay_by
      replay-is = rw (le-ltb (length log) used within)

      pub start-taken :
          Routable j → (r : Result Tariff Stopped) (history users marks from to dues : List ℕ) → LogTaken false r j history users marks from to dues (take used log)
          → Started r start j history users marks from to dues log
      unfolding Started
      start-taken sound (Ok t) history users marks from to dues o =
          let taken : TakenUp j used log o.progress = taken_up_lem j sound.source_no_sink used log o.progress (replay-is ∙ o.is) in
          record {
            progress = o.progress;
            is = after_so (on o.progress) (replay-is ∙ o.is);
            ready = ready_whole j used log within o.ready;
            iterations = taken.whole;
            ran = taken.ran;
            lent_is = rw e (sym (ap decode taken.words_are ∙ decode-encode o.progress.records));
          }
      start-taken sound (Err (Off word)) history users marks from to dues q = after_so (off word) (replay-is ∙ q)
      start-taken sound (Err (Ends told)) history users marks from to dues q = absurd (never_ends j used log q.progress (replay-is ∙ q.is))
      start-taken sound (Err (NotCheapest told cost least)) history users marks from to dues q =
          absurd (never_finds j used log q.progress cost least (replay-is ∙ q.is))

-- ---- the run from it

module _ (j : Job) (start : Option ℕ) (log : List ℕ) {r : Result Tariff Stopped} {history users marks from to dues : List ℕ} (s : Started r start j history users marks from to dues log) where
  started_on : {t : Tariff} → r ≡ Ok t → StartOn start j t history users marks from to dues log
  unfolding Started
  started_on e = subst (λ (x : Result Tariff Stopped). Started x start j history users marks from to dues log) e s

  -- by the search that is chosen
  module _ {t t' : Tariff} (e : r ≡ Ok t) (aimed : Bool) (chosen : t' ≡ going_on t aimed) where
    ready_going : Ready j (started_on e).progress t' history users marks from to dues log
    ready_going =
        let at = (started_on e).ready in
        rw chosen
        (record {
          can = at.can;
          iteration-is = at.iteration-is;
          factor-is = at.factor-is;
          kept = at.kept;
          due-long = at.due-long;
          tallied = tallied_so refl refl at.tallied;
        })

    -- it can go on,
    pub start_some_ready : SomeReady j t' history users marks from to dues log
    start_some_ready =
        let at = started_on e in
        record { progress = at.progress; ready = ready_going; iterations = at.iterations; ran = at.ran; none-expanded = ap (λ (x : Tariff). x.expanded) chosen }

    -- its reply is that of a run which goes on from the same progress, whatever the start left in the first entries of the work slice,
    pub start-ran :
        (work w : List ℕ) → SameFrom (8 * nodes j) work w → (a : RouteReply)
        → ((p : Progress) → Ready j p t' history users marks from to dues log → a ≡ continued j p w log) → a ≡ run_from start j work log
    start-ran work w kept a ran =
        ran (started_on e).progress ready_going ∙ continued-same j (started_on e).progress work w log kept ∙ sym ((started_on e).is work)

    -- and its count is over the turns past the lent ones
    pub start-counts :
        (count : ℕ) (made : List Record)
        → ((p : Progress) (m : ℕ) → Ready j p t' history users marks from to dues log → Ran j m p.records p.state → count ≡ expanded_after t'.aimed j p.records made)
        → count ≡ expanded_after aimed j (lent_records start log) made
    start-counts count made counts =
        let at = started_on e in
        counts at.progress at.iterations ready_going at.ran
        ∙ ap (λ (x : Tariff). expanded_after x.aimed j at.progress.records made) chosen
        ∙ ap (λ (l : List Record). expanded_after aimed j l made) at.lent_is

-- a log that is not taken up is turned away at its word,
module _ (j : Job) (start : Option ℕ) (log history users marks from to dues : List ℕ) where
  away_so :
      (e : Stopped) → Started (Err e) start j history users marks from to dues log → TurnedAway (words_at e) start j log
  unfolding Started
  away_so (Off word) s = s
  away_so (Ends told) s = s
  away_so (NotCheapest told cost least) s = s

  -- which leaves the work slice cleared
  pub turned_away_lem :
      {r : Result Tariff Stopped} → Started r start j history users marks from to dues log → {e : Stopped} → r ≡ Err e → (word : ℕ) → word ≡ words_at e
      → (work w : List ℕ) → SameFrom (8 * nodes j) work w → (a : RouteAnswer) → a ≡ refused_answer (Diverges word)
      → (left : List ℕ) → left ≡ replicate (8 * nodes j) 0 ++ drop (8 * nodes j) w → route_reply_of a left log ≡ run_from start j work log
  turned_away_lem s {e} at word word-is work w kept a q left is =
      rw (q, word-is, is ∙ cleared-same (nodes j) work w kept)
      (sym (away_so e (subst (λ (x : Result Tariff Stopped). Started x start j history users marks from to dues log) at s) work))
