-- Request 2.8, of every resumed call: what is rebuilt is read off the lent log, its words stand first, its turns are legal, the appended turns and the final trees are as demand 3 asks, and all costs fit.
-- Assumes nothing.
use mathlib.Core.Bool.{true, false}
use mathlib.Core.List.{List, [], ◌∷◌, ◌++◌, append-nil, append_assoc}
use mathlib.Core.Logic.{◌⊎◌, ⊎_elim, inl, inr}
use mathlib.Core.Path.{◌≡◌, refl, sym, ◌∙◌, ap, subst}
use Prim.Native.Nat.{ℕ, ◌+◌, ◌-◌, ◌≤◌, ◌<◌}
use native.Mathlib.Omega.{arith}
use lib.Dec.{ltb}
use lib.ListN.{length, take, length-append}
use lib.Seq.{length-take-le, take-append_seam}
use Rattle.price.specs.Bounds.{path_most}
use Rattle.price.proofs.TestLaws.{by_test, true≢false}
use Rattle.search.specs.Replies.{cleared}
use Rattle.job.specs.Job.{Job, nodes}
use Rattle.job.specs.Join.{joined}
use Rattle.negotiation.specs.Routable.{Routable}
use Rattle.negotiation.specs.Records.{Record, encode, decode, fitting}
use Rattle.negotiation.specs.Machine.{Progress, records_after, settles_at}
use Rattle.negotiation.specs.Outcome.{RouteReply, turns_logged, made_from, all_records, logged_records, refused_reply, end_numbers, continued}
use Rattle.negotiation.specs.Resume.{Replay, on, off, ends, not_cheapest, replay, resumed_reply, resume_reply}
use Rattle.negotiation.specs.Demand.{history_read, FinalTrees}
use Rattle.negotiation.specs.Resumed.{taken_up, NotTakenUp, LentFirst, LentTurn, Rebuilt, RebuiltAsRead, Resumed}
use Rattle.negotiation.specs.Runs.{Ran}
use Rattle.negotiation.proofs.RecordLaws.{decode-encode, encode-append, fitting-all, fitting-append}
use Rattle.negotiation.proofs.LimitLaws.{not_accepted}
use Rattle.negotiation.proofs.ReplyLogLaws.{LogHas, log-turns, run_log}
use Rattle.negotiation.proofs.RanLaws.{ran-iteration, ran-factor, ran_read, ran_history}
use Rattle.negotiation.proofs.JoinedHolds.{joined_no_source}
use Rattle.negotiation.proofs.MachineRan.{Reached}
use Rattle.negotiation.proofs.DemandLaws.{split-append}
use Rattle.negotiation.proofs.ReplayLaws.{EachTurn, NoneDear, LentStep, TakenUp, taken-each, taken_up_lem, never_ends, never_finds}
use Rattle.negotiation.proofs.LentLaws.{lent-turn, lent_below}
use Rattle.negotiation.proofs.DemandHolds.{Facts, logged-is, words_only, turns_are, costs_of_lem, tested_case, refused_facts, run_facts}

-- ---- a log that is taken up

module _ (j : Job) (used : ℕ) (log : List ℕ) (p : Progress) (taken : TakenUp j used log p) where
  -- its turns are the records of the run that it is, and its words are theirs
  lent_is : decode (take used log) ≡ p.records
  lent_is = ap decode taken.words_are ∙ decode-encode p.records

  used-is : used ≡ length (encode p.records)
  used-is = sym (length-take-le used log taken.within) ∙ ap length taken.words_are

  -- they fit, so they stand first among those that are logged
  lent-logged : (later : List Record) × (fitting (length log) (all_records j p) ≡ p.records ++ later)
  unfolding all_records
  lent-logged =
      let more = fitting-append (length log) p.records (records_after j p.state (made_from j p.state)) in
      let long = used-is in
      let within = taken.within in
      let fits : length (encode p.records) ≤ length log = omega arith in
      (more.0, more.1 ∙ ap (λ (l : List Record). l ++ more.0) (fitting-all (length log) p.records fits))

  lent-stays : (work : List ℕ) → LentFirst used log (continued j p work log)
  lent-stays work =
      let r : RouteReply = continued j p work log in
      let rs : List Record = p.records in
      let later : List Record = lent-logged.0 in
      let has : LogHas r (rs ++ later) = subst (LogHas r) lent-logged.1 (run_log j p work log) in
      let both : encode (rs ++ later) ≡ encode rs ++ encode later = encode-append rs later in
      let size : r.used ≡ length (encode rs) + length (encode later) = has.used ∙ ap length both ∙ length-append (encode rs) (encode later) in
      let is : used ≡ length (encode rs) = used-is in
      let first : r.log ≡ encode rs ++ (encode later ++ has.rest) =
      has.log ∙ ap (λ (l : List ℕ). l ++ has.rest) both ∙ append_assoc (encode rs) (encode later) has.rest in
      record {
        counted = omega arith;
        words =
            ap (λ (n : ℕ). take n r.log) is ∙ ap (take (length (encode rs))) first
            ∙ take-append_seam (encode rs) (encode later ++ has.rest) ∙ sym taken.words_are;
        turns = (later, log-turns r (rs ++ later) has ∙ ap (λ (l : List Record). l ++ later) (sym lent_is));
      }

-- ---- what is rebuilt

rebuilt_of : (j : Job) (m : ℕ) (p : Progress) → 1 ≤ m → m < j.terms.limit → Ran j m p.records p.state → Rebuilt j m p.records p
rebuilt_of j m p some below r =
    record {
      turns = refl;
      some = some;
      below = below;
      iteration = ran-iteration j r;
      factor = ran-factor j r;
      histories = λ v h. sym (ran_history j r [] tt v h) ∙ ap (λ (l : List Record). history_read j l m v) (append-nil p.records);
      trees = λ i v h. sym (ran_read j r i v h);
    }

pub rebuilt_as_read : (j : Job) (used : ℕ) (log : List ℕ) → RebuiltAsRead j used log
rebuilt_as_read j used log sound p e =
    let taken : TakenUp (joined j) used log p = taken_up_lem (joined j) (joined_no_source j sound) used log p e in (
      taken.whole,
      subst (λ (rs : List Record). Rebuilt (joined j) taken.whole rs p) (sym (lent_is (joined j) used log p taken))
          (rebuilt_of (joined j) taken.whole p taken.some taken.below taken.ran),
    )

-- ---- each case of the reply

-- a run that goes on is accepted or ends by 8 or 9
run_taken_up : (j : Job) (p : Progress) (work log : List ℕ) → taken_up (continued j p work log).refusal ≡ true
unfolding continued taken_up end_numbers
run_taken_up j p work log =
    by_test (ltb (length (logged_records j p (length log))) (length (all_records j p)))
    (λ q. rw q)
    (λ q.
    by_test (settles_at j p.state (made_from j p.state - 1))
    (λ t. rw (q, t))
    (λ t. rw (q, t)))

module _ (j : Job) (used : ℕ) (work log : List ℕ) where
  abbrev lent : List Record
  lent = decode (take used log)

  -- a lent turn is legal, and its cost fits
  abbrev LentFits : List Record → Record → Type 0
  LentFits earlier t = LentTurn (joined j) earlier t × (t.cost < path_most)

  -- the log is taken up, or it is not
  abbrev Holds : RouteReply → Type 0
  Holds r =
      Facts j lent r
      × (((taken_up r.refusal ≡ true) × LentFirst used log r × EachTurn LentFits lent) ⊎ ((taken_up r.refusal ≡ false) × NotTakenUp log r))

  lent_fits : Routable (joined j) → LentStep false (joined j) LentFits NoneDear
  lent_fits sound m i rs s p r low n hi made own t of path cost =
      ((λ _. (lent-turn (joined j) sound r low n hi made own t of path cost, lent_below (joined j) sound r low n hi made own t of path cost)), (λ _. tt))

  refused_holds :
      (number : ℕ) (numbers left : List ℕ) → taken_up (number ∷ numbers) ≡ false → Facts j lent (refused_reply (number ∷ numbers) left log)
      → Holds (refused_reply (number ∷ numbers) left log)
  refused_holds number numbers left before facts =
      (facts, inr (before, record { refused = λ e. not_accepted number numbers (sym e); no_turns = refl; no_words = refl; log-stays = refl }))

  -- 14, or a run that goes on
  replay_holds : Routable (joined j) → Reached (joined j) → (a : Replay) → replay (joined j) used log ≡ a → Holds (resumed_reply (joined j) a work log)
  unfolding taken_up
  replay_holds sound all (off word) e =
      refused_holds 14 (word ∷ []) (cleared (nodes j) [] work) refl
      (refused_facts j work log lent 14 (word ∷ []) (cleared (nodes j) [] work) (λ _ z. omega arith))
  replay_holds sound all (on p) e =
      let up : TakenUp (joined j) used log p × EachTurn LentFits p.records =
      taken-each (joined j) sound.source_no_sink LentFits (lent_fits sound) used log p e in
      let taken : TakenUp (joined j) used log p = up.0 in
      let is : decode (take used log) ≡ p.records = lent_is (joined j) used log p taken in (
        subst (λ (rs : List Record). Facts j rs (continued (joined j) p work log)) (sym is)
            (run_facts j work log taken.whole p sound all taken.ran taken.below),
        inl (run_taken_up (joined j) p work log, lent-stays (joined j) used log p taken work, subst (EachTurn LentFits) (sym is) up.1),
      )
  replay_holds sound all (ends p) e = absurd (never_ends (joined j) used log p e)
  replay_holds sound all (not_cheapest p cost least) e = absurd (never_finds (joined j) used log p cost least e)

  resume_holds : Holds (resume_reply j used work log)
  unfolding resume_reply
  resume_holds =
      tested_case j work log (λ f. Holds (f (resumed_reply (joined j) (replay (joined j) used log) work log)))
      (λ number numbers left before reached. refused_holds number numbers left before (refused_facts j work log lent number numbers left reached))
      (λ sound all. replay_holds sound all (replay (joined j) used log) refl)

  module _ (r : RouteReply) (h : Holds r) where
    -- what holds of a reply by which the log is taken up, and by which it is not
    when_taken : taken_up r.refusal ≡ true → LentFirst used log r × EachTurn LentFits lent
    when_taken e = ⊎_elim (λ q. (q.1, q.2)) (λ q. absurd (true≢false (sym e ∙ q.0))) h.1

    when_not : taken_up r.refusal ≡ false → NotTakenUp log r
    when_not e = ⊎_elim (λ q. absurd (true≢false (sym q.0 ∙ e))) (λ q. q.1) h.1

    -- costs of lent turns, of appended ones, and of none
    each_below : (earlier later : List Record) (t : Record) → turns_logged r ≡ earlier ++ (t ∷ later) → t.cost < path_most
    each_below earlier later t e =
        ⊎_elim
        (λ q.
        let turns = q.1.turns in
        ⊎_elim
        (λ c. (q.2 earlier c.0 t c.1).1)
        (λ c. (h.0.each c.0 later t (sym (logged-is j lent r h.0) ∙ turns.1 ∙ ap (λ (l : List Record). lent ++ l) c.1)).1)
        (split-append lent turns.0 earlier later t (sym turns.1 ∙ e)))
        (λ q.
        let none = q.1.no_turns in
        let counted = turns_are j lent r h.0 in
        let long : length (turns_logged r) ≡ length earlier + length (t ∷ later) = ap length e ∙ length-append earlier (t ∷ later) in
        absurd (omega arith))
        h.1

  pub resumed : Resumed j used work log (resume_reply j used work log)
  resumed =
      let r : RouteReply = resume_reply j used work log in
      let h : Facts j lent r = resume_holds.0 in
      record {
        as_resumed = refl;
        nothing_else = words_only j lent r h;
        turns-counted = turns_are j lent r h;
        lent_first = λ e. (when_taken r resume_holds e).0;
        not_taken_up = when_not r resume_holds;
        lent-turns = λ e earlier later t is. ((when_taken r resume_holds e).1 earlier later t is).0;
        appended = λ earlier later t e. (h.each earlier later t (sym (logged-is j lent r h) ∙ e)).0;
        final_trees = λ e. subst (λ (rs : List Record). FinalTrees (joined j) rs) (sym (logged-is j lent r h)) (h.final e);
        not_unreachable = h.reached;
        costs_fit = costs_of_lem r (each_below r resume_holds);
      }
