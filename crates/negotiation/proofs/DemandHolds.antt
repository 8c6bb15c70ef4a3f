-- Demand 3 holds of every call, and with it that every logged cost is below the bound on a path's.
-- Assumes nothing.
use mathlib.Core.Bool.{Bool, true, false}
use mathlib.Core.List.{List, [], ◌∷◌, ◌++◌, append_assoc, append_cancel_left}
use mathlib.Core.Path.{◌≡◌, refl, sym, ◌∙◌, ap}
use Prim.Native.Nat.{ℕ, suc, ◌+◌, ◌-◌, ◌≤◌, ◌<◌}
use native.Mathlib.Omega.{arith}
use lib.Dec.{leb, ltb}
use lib.ListN.{length}
use borrow.Author.Tests.{leb-false, ltb-true, ltb-false}
use Rattle.price.specs.Test.{choose}
use Rattle.price.specs.Bounds.{path_most}
use Rattle.price.specs.Lists.{first_below}
use Rattle.price.proofs.TestLaws.{by_test}
use Rattle.price.proofs.PriceLaws.{path-fits}
use Rattle.search.specs.Replies.{work_needed, cleared}
use Rattle.job.specs.Job.{Job, nodes, nets}
use Rattle.job.specs.Tables.{faulty_job, exceeds, SoundJob}
use Rattle.negotiation.specs.Records.{Record, encode}
use Rattle.negotiation.specs.Machine.{State, Progress, records_after, settles_at}
use Rattle.negotiation.specs.Outcome.{RouteReply, words_used, turns_logged, refused_reply, unreachable_net, unreachable_place, iterations_made, first_progress, iterations_left, made_from, all_records, logged_records, end_numbers, continued, negotiated, tested_by, tested, route_reply}
use Rattle.negotiation.specs.Unreachable.{AllReachable}
use Rattle.negotiation.specs.Demand.{TurnHolds, FinalTrees, Demand3, CostsFit}
use Rattle.negotiation.specs.Resumed.{taken_up}
use Rattle.negotiation.specs.Routable.{Routable}
use Rattle.negotiation.specs.Runs.{Ran, start}
use Rattle.job.specs.Join.{joined}
use Rattle.job.proofs.JobLaws.{sound-job}
use Rattle.negotiation.proofs.JoinedHolds.{joined-routable}
use Rattle.negotiation.proofs.RecordLaws.{fitting-begins}
use Rattle.negotiation.proofs.NetLaws.{no_split}
use Rattle.negotiation.proofs.RanLaws.{ran-iteration}
use Rattle.negotiation.proofs.MachineRan.{Reached}
use Rattle.negotiation.proofs.DemandLaws.{all-reached, none_unreachable, TurnPlace, turn_place, turn_holds, turn_below, final_trees_hold}
use Rattle.negotiation.proofs.TurnReadLaws.{TurnRead, turn_read}
use Rattle.negotiation.proofs.ReplyLogLaws.{LogHas, log-words, log-turns, refused-log, ran-log}

-- a run makes an iteration at least, and no more than the limit
pub made-most : (j : Job) (s : State) (most : ℕ) → iterations_made j s most ≤ most
unfolding iterations_made
made-most j s most =
    by_test (ltb (first_below (settles_at j s) most) most)
    (λ q. let h = ltb-true (first_below (settles_at j s) most) most q in rw q (omega arith))
    (λ q. rw q (omega arith))

some_made : (j : Job) (s : State) (most : ℕ) → 1 ≤ most → 1 ≤ iterations_made j s most
unfolding iterations_made
some_made j s most h =
    by_test (ltb (first_below (settles_at j s) most) most)
    (λ q. rw q (omega arith))
    (λ q. rw q h)

-- where the run's end has no numbers, its last iteration settles
chosen_none : (t : Bool) (k : ℕ) (ks : List ℕ) → choose t [] (k ∷ ks) ≡ [] → t ≡ true
chosen_none true k ks e = refl
chosen_none false k ks e = absurd (let z : ◌≡◌ {A = ℕ} 0 1 = cc in omega arith)

chosen_number : (t : Bool) (k n : ℕ) (ks ns : List ℕ) → choose t [] (k ∷ ks) ≡ n ∷ ns → k ≡ n
chosen_number true k n ks ns e = absurd (let z : ◌≡◌ {A = ℕ} 0 1 = cc in omega arith)
chosen_number false k n ks ns e = cc

-- no run ends as unreachable
end-reached : (j : Job) (s : State) (net place : ℕ) → end_numbers j s ≡ 7 ∷ net ∷ place ∷ [] → ⊥
unfolding end_numbers
end-reached j s net place e =
    let z : ◌≡◌ {A = ℕ} 9 7 = chosen_number (settles_at j s (made_from j s - 1)) _ _ _ _ e in
    omega arith

pub run_reached : (j : Job) (p : Progress) (work log : List ℕ) (net place : ℕ) → (continued j p work log).refusal ≡ 7 ∷ net ∷ place ∷ [] → ⊥
unfolding continued
run_reached j p work log net place =
    by_test (ltb (length (logged_records j p (length log))) (length (all_records j p)))
    (λ q.
    rw q (λ e. let z : ◌≡◌ {A = ℕ} 8 7 = cc in omega arith))
    (λ q. rw q (end-reached j p.state net place))

-- ---- from what holds of some records

-- what holds of a logged turn: demand 3, the bound on its cost, and that it is the turn that is read off the earlier ones
abbrev pub TurnFacts : Job → List Record → Record → Type 0
TurnFacts j earlier t = TurnHolds j earlier t × (t.cost < path_most) × TurnRead j earlier t

-- what is known of a reply whose words used are those of some records: of each turn after those that were lent
pub record Facts (j : Job) (lent : List Record) (r : RouteReply) : Type 0 where
  pub records : List Record
  pub words : LogHas r records
  pub turns : r.turns ≡ length records
  pub each :
      (earlier later : List Record) (t : Record) → records ≡ lent ++ (earlier ++ (t ∷ later)) → TurnFacts (joined j) (lent ++ earlier) t
  pub final : r.refusal ≡ [] → FinalTrees (joined j) records
  pub reached : AllReachable (joined j) → (net place : ℕ) → r.refusal ≡ 7 ∷ net ∷ place ∷ [] → ⊥

module _ (j : Job) (lent : List Record) (r : RouteReply) (h : Facts j lent r) where
  pub logged-is : turns_logged r ≡ h.records
  logged-is = log-turns r h.records h.words

  pub words_only : encode (turns_logged r) ≡ words_used r
  words_only = ap encode logged-is ∙ sym (log-words r h.records h.words)

  pub turns_are : r.turns ≡ length (turns_logged r)
  turns_are = h.turns ∙ sym (ap length logged-is)

-- costs that are below the bound fit
pub costs_of_lem : (r : RouteReply) → ((earlier later : List Record) (t : Record) → turns_logged r ≡ earlier ++ (t ∷ later) → t.cost < path_most) → CostsFit r
costs_of_lem r below = record { below = below; fits = path-fits; timed_fits = omega arith }

-- none was lent
module _ (j : Job) (work log : List ℕ) (r : RouteReply) (h : Facts j [] r) where
  each-logged : (earlier later : List Record) (t : Record) → turns_logged r ≡ earlier ++ (t ∷ later) → TurnFacts (joined j) earlier t
  each-logged earlier later t e = h.each earlier later t (sym (logged-is j [] r h) ∙ e)

  demand_of : r ≡ route_reply j work log → Demand3 j work log r
  demand_of reply =
      record {
        as_negotiated = reply;
        nothing_else = words_only j [] r h;
        every-turn = λ earlier later t e. (each-logged earlier later t e).0;
        final_trees = λ e. rw (logged-is j [] r h) (h.final e);
        not_unreachable = h.reached;
        turns-counted = turns_are j [] r h;
        costs_fit = costs_of_lem r (λ earlier later t e. (each-logged earlier later t e).1);
      }

-- ---- a run of joined nets

-- from where whole iterations lead, below the limit
module _ (j : Job) (sound : Routable j) (all : Reached j) {m : ℕ} {rs : List Record} {s : State} (r : Ran j m rs s) (below : m < j.terms.limit) where
  -- it makes one at least, and no more than the limit leaves
  pub made_some : 1 ≤ made_from j s
  unfolding iterations_left
  made_some = let t = ran-iteration j r in some_made j s (iterations_left j s) (omega arith)

  pub made-few : m + made_from j s ≤ j.terms.limit
  unfolding iterations_left
  made-few =
      let t = ran-iteration j r in
      let most = made-most j s (iterations_left j s) in
      omega arith

  pub run_turn :
      (earlier later : List Record) (t : Record) → records_after j s (made_from j s) ≡ earlier ++ (t ∷ later) → TurnFacts j (rs ++ earlier) t
  run_turn earlier later t e =
      let at : TurnPlace j (rs ++ earlier) t = turn_place j sound all r (made_from j s) made-few earlier later t e in
      (turn_holds j sound at, turn_below j sound at, turn_read j sound at)

  pub run_final : end_numbers j s ≡ [] → FinalTrees j (rs ++ records_after j s (made_from j s))
  unfolding end_numbers
  run_final e =
      let made : ℕ = made_from j s in
      let some : 1 ≤ made = made_some in
      let few : m + made ≤ j.terms.limit = made-few in
      let last : made ≡ suc (made - 1) = omega arith in
      let settled : settles_at j s (made - 1) ≡ true = chosen_none _ _ _ e in
      rw last (final_trees_hold j sound all r (made - 1) (omega arith) settled)

-- and goes on
module _ (j : Job) (sound : Routable j) (all : Reached j) (m : ℕ) (p : Progress) (r : Ran j m p.records p.state) (below : m < j.terms.limit) where
  all-turn :
      (earlier later : List Record) (t : Record) → all_records j p ≡ p.records ++ (earlier ++ (t ∷ later)) → TurnFacts j (p.records ++ earlier) t
  unfolding all_records
  all-turn earlier later t e =
      run_turn j sound all r below earlier later t
      (append_cancel_left p.records (records_after j p.state (made_from j p.state)) (earlier ++ (t ∷ later)) e)

  all_final : end_numbers j p.state ≡ [] → FinalTrees j (all_records j p)
  unfolding all_records
  all_final = run_final j sound all r below

  -- the records that fit are a beginning of all
  logged-turn :
      (room : ℕ) (earlier later : List Record) (t : Record) → logged_records j p room ≡ p.records ++ (earlier ++ (t ∷ later))
      → TurnFacts j (p.records ++ earlier) t
  unfolding logged_records
  logged-turn room earlier later t e =
      let whole = fitting-begins room (all_records j p) in
      all-turn earlier (later ++ whole.0) t
      (whole.1 ∙ ap (λ (l : List Record). l ++ whole.0) e ∙ append_assoc p.records (earlier ++ (t ∷ later)) whole.0
      ∙ ap (λ (l : List Record). p.records ++ l) (append_assoc earlier (t ∷ later) whole.0))

-- ---- each case of the reply

-- what holds of every refusal before a run, and of a run of a sound job whose sinks have paths, holds of what a call comes to
pub by_tests :
    {R : Type 0} (refuse : List ℕ → List ℕ → R) (j : Job) (work : List ℕ) (P : (R → R) → Type 0)
    → ((number : ℕ) (numbers left : List ℕ) → number ≤ 15 → taken_up (number ∷ numbers) ≡ false → (AllReachable (joined j) → number ≡ 7 → ⊥) → P (λ _. refuse (number ∷ numbers) left))
    → (Routable (joined j) → Reached (joined j) → P (λ run. run)) → P (λ run. tested_by refuse j work run)
unfolding taken_up
by_tests refuse j work P refused runs =
    by_test (leb 1 (faulty_job j))
    (λ t. rw t (refused 5 (faulty_job j ∷ []) work (omega arith) refl (λ _ z. omega arith)))
    (λ t.
    let none : faulty_job j < 1 = leb-false 1 (faulty_job j) t in
    let sound : SoundJob j = sound-job j (omega arith) in
    by_test (exceeds (nodes j) j.terms)
    (λ x. rw (t, x) (refused 15 (nodes j ∷ j.terms.limit ∷ []) work (omega arith) refl (λ _ z. omega arith)))
    (λ x.
    by_test (ltb (length work) (work_needed (nodes j)))
    (λ u. rw (t, x, u) (refused 6 (work_needed (nodes j) ∷ []) work (omega arith) refl (λ _ z. omega arith)))
    (λ u.
    by_test (ltb (unreachable_net (joined j)) (nets j))
    (λ v.
    rw (t, x, u, v)
    (refused 7 (unreachable_net (joined j) ∷ unreachable_place (joined j) ∷ []) (cleared (nodes j) [] work) (omega arith) refl
    (λ all _. none_unreachable (joined j) (joined-routable j sound x) all (ltb-true _ _ v))))
    (λ v.
    rw (t, x, u, v) (runs (joined-routable j sound x) (all-reached (joined j) (ltb-false _ _ v)))))))

module _ (j : Job) (work log : List ℕ) where
  pub tested_case :
      (P : (RouteReply → RouteReply) → Type 0)
      → ((number : ℕ) (numbers left : List ℕ) → taken_up (number ∷ numbers) ≡ false → (AllReachable (joined j) → number ≡ 7 → ⊥) → P (λ _. refused_reply (number ∷ numbers) left log))
      → (Routable (joined j) → Reached (joined j) → P (λ run. run)) → P (λ run. tested j work log run)
  tested_case P refused runs =
      by_tests (λ numbers left. refused_reply numbers left log) j work P (λ number numbers left few before reached. refused number numbers left before reached) runs

  -- a refusal before any turn leaves no record
  pub refused_facts :
      (lent : List Record) (number : ℕ) (numbers left : List ℕ) → (AllReachable (joined j) → number ≡ 7 → ⊥) → Facts j lent (refused_reply (number ∷ numbers) left log)
  refused_facts lent number numbers left reached =
      record {
        records = [];
        words = refused-log (number ∷ numbers) left log;
        turns = refl;
        each = λ earlier later t e. absurd (no_split (lent ++ earlier) later t (e ∙ sym (append_assoc lent earlier (t ∷ later))));
        final = λ e. absurd (let z : ◌≡◌ {A = ℕ} 0 1 = cc in omega arith);
        reached = λ all net place e. reached all (cc);
      }

  pub run_facts :
      (m : ℕ) (p : Progress) → Routable (joined j) → Reached (joined j) → Ran (joined j) m p.records p.state → m < j.terms.limit
      → Facts j p.records (continued (joined j) p work log)
  unfolding continued
  run_facts m p sound all r below =
      let k : Job = joined j in
      by_test (ltb (length (logged_records k p (length log))) (length (all_records k p)))
      (λ q.
      rw q
      (record {
        records = logged_records k p (length log);
        words = ran-log k _ _ (logged_records k p (length log)) work log;
        turns = refl;
        each = logged-turn k sound all m p r below (length log);
        final = λ e. absurd (let z : ◌≡◌ {A = ℕ} 0 1 = cc in omega arith);
        reached = λ _ net place e. let z : ◌≡◌ {A = ℕ} 8 7 = cc in omega arith;
      }))
      (λ q.
      rw q
      (record {
        records = all_records k p;
        words = ran-log k (end_numbers k p.state) _ (all_records k p) work log;
        turns = refl;
        each = all-turn k sound all m p r below;
        final = all_final k sound all m p r below;
        reached = λ _. end-reached k p.state;
      }))

  reply_facts : Facts j [] (route_reply j work log)
  unfolding route_reply
  reply_facts =
      tested_case (λ f. Facts j [] (f (negotiated (joined j) work log))) (λ number numbers left _. refused_facts [] number numbers left)
      (λ sound all. run_facts 0 (first_progress (joined j)) sound all start sound.limit_some)

  pub demand_3 : Demand3 j work log (route_reply j work log)
  demand_3 = demand_of j work log (route_reply j work log) reply_facts refl

  -- every logged turn is the one that is read off the earlier ones
  pub logged_read : (earlier later : List Record) (t : Record) → turns_logged (route_reply j work log) ≡ earlier ++ (t ∷ later) → TurnRead (joined j) earlier t
  logged_read earlier later t e = (each-logged j work log (route_reply j work log) reply_facts earlier later t e).2
