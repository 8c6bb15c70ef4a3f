-- The nets of an iteration in a lent log, as a loop follows them one after the other.
--     nets-start, net-ready               the nets so far, and the next one begins
--     net_asks                            its turns can be followed
--     nets-stopped                        they end the iteration
--     end-ready, net-next                 or its new tree counts
--     nets-all                            all nets follow
-- Assumes nothing.
use mathlib.Core.Bool.{Bool, true, false}
use mathlib.Core.List.{List, [], ◌++◌}
use mathlib.Core.Logic.{⊎_elim}
use mathlib.Core.Path.{◌≡◌, refl, sym, ◌∙◌, ap, subst}
use Prim.Native.Nat.{ℕ, zero, suc, ◌+◌, ◌-◌, ◌≤◌, ◌<◌}
use native.Mathlib.Nat.{le_antisymm}
use native.Mathlib.Numerals.{add-one}
use native.Mathlib.Omega.{arith}
use lib.ListN.{length, get_or}
use Rattle.price.specs.Test.{choose}
use Rattle.price.proofs.TestLaws.{by_test, true≢false, either_way}
use Rattle.job.specs.Job.{Job, nodes, nets, net_sinks}
use Rattle.negotiation.specs.Routable.{Routable}
use Rattle.negotiation.specs.Records.{Record, path_nodes}
use Rattle.negotiation.specs.Machine.{State, Progress, with_net, due}
use Rattle.negotiation.specs.Steps.{BeginReady, Begun, Idle, EndReady, Ended, Passed}
use Rattle.negotiation.specs.Resume.{Replay, on, off, ends, not_cheapest, if_on, gone_to, replay_turns, replay_nets}
use Rattle.negotiation.specs.TakeSteps.{NetPlaces, NetOpens, NetOn, ToldAt, NetEnds, NetTaken, NetsOpen, NetsOn, NetsEnd, NetsTaken}
use Rattle.negotiation.specs.declared.tariff.Tariff.{Tariff}
use Rattle.std.specs.Prelude.{Result, Ok, Err}
use Rattle.negotiation.specs.declared.take_up.Stopped.{Stopped}
use Rattle.negotiation.specs.declared.take_up.Stopped.TheVariants.{Off, Ends, NotCheapest}
use Rattle.negotiation.specs.declared.take_up.Told.{Told}
use Rattle.negotiation.specs.declared.take_up.Walk.{Walk}
use Rattle.negotiation.proofs.DueLaws.{due_some}
use Rattle.negotiation.proofs.KeepLaws.{Opened, due_marks}
use Rattle.negotiation.proofs.KeepProgress.{users-long, marks_long, due_mark, dues_long, begin_ready, opens, countable, counted}
use Rattle.negotiation.proofs.KeepStart.{sinks-count}

-- ---- answers by cases

abbrev tariff_in : Tariff → Result Tariff Stopped → Tariff
tariff_in d (Ok t) = t
tariff_in d (Err e) = d

abbrev is_on : Result Tariff Stopped → Bool
is_on (Ok t) = true
is_on (Err e) = false

pub on_same : {t t' : Tariff} → ◌≡◌ {A = Result Tariff Stopped} (Ok t) (Ok t') → t ≡ t'
on_same {t} e = ap (tariff_in t) e

pub on_err : {t : Tariff} {e : Stopped} → ◌≡◌ {A = Result Tariff Stopped} (Ok t) (Err e) → ⊥
on_err q = true≢false (ap is_on q)

-- ---- the nets so far

-- none, at first
pub nets-start :
    (audit : Bool) (j : Job) {p : Progress} {t : Tariff} {history users marks from to dues log : List ℕ} → NetsOpen j p t history users marks from to dues log
    → NetsOn audit j p 0 t history users marks from to log
unfolding replay_nets
nets-start audit j {p} o = record { progress = p; is = refl; same = refl; at = o.at; kept = o.kept }

-- an answer after which no net is followed
abbrev Stays : Replay → Type 0
Stays a = (next : Progress → Replay) → if_on a next ≡ a

module _ (audit : Bool) (j : Job) (ws : List ℕ) (s : State) (rs : List Record) (i : ℕ) where
  -- it is the iteration's
  stop_step : (a : Replay) → Stays a → replay_nets audit j ws s rs i ≡ a → replay_nets audit j ws s rs (suc i) ≡ a
  unfolding replay_nets
  stop_step a stays e = rw e (stays _)

  -- a net more
  net-more :
      (q : Progress) (a : Replay) → replay_nets audit j ws s rs i ≡ on q
      → choose (due j s i) (replay_turns audit j ws i q (length (net_sinks j i)) []) (on q) ≡ a → replay_nets audit j ws s rs (suc i) ≡ a
  unfolding replay_nets
  net-more q a e f = rw e f

stop_more :
    (audit : Bool) (j : Job) (ws : List ℕ) (s : State) (rs : List Record) (i : ℕ) (a : Replay) → Stays a → replay_nets audit j ws s rs i ≡ a
    → (k : ℕ) → replay_nets audit j ws s rs (k + i) ≡ a
stop_more audit j ws s rs i a stays e zero =
    let none : i ≡ 0 + i = omega arith in
    subst (λ (n : ℕ). replay_nets audit j ws s rs n ≡ a) none e
stop_more audit j ws s rs i a stays e (suc k) =
    let one : suc (k + i) ≡ suc k + i = omega arith in
    subst (λ (n : ℕ). replay_nets audit j ws s rs n ≡ a) one (stop_step audit j ws s rs (k + i) a stays (stop_more audit j ws s rs i a stays e k))

-- past the last net
pub nets-all :
    {audit : Bool} (j : Job) {p : Progress} {i : ℕ} {t : Tariff} {history users marks from to log : List ℕ} → NetsOn audit j p i t history users marks from to log → i ≤ nets j
    → nets j ≤ i → NetsOn audit j p (nets j) t history users marks from to log
nets-all {audit} j {p} {t = t} {history} {users} {marks} {from} {to} {log} at upto l =
    subst (λ (k : ℕ). NetsOn audit j p k t history users marks from to log) (le_antisymm upto l) at

-- the lists keep their lengths
pub nets-long :
    {audit : Bool} (j : Job) {p : Progress} {i : ℕ} {t : Tariff} {history users marks from to log : List ℕ} → NetsOn audit j p i t history users marks from to log
    → (length users ≡ nodes j) × (length marks ≡ nodes j) × (length from ≡ nets j) × (length to ≡ nets j)
nets-long j at = (users-long j at.kept, marks_long j at.kept, at.kept.places.from_long, at.kept.places.to-long)

-- ---- the next net

module _ (j : Job) (sound : Routable j) {audit : Bool} {p : Progress} {i : ℕ} {t : Tariff} {history users marks from to dues log : List ℕ}
    (due-is : dues ≡ due_marks j p.state) (at : NetsOn audit j p i t history users marks from to log) (hi : i < nets j) where
  abbrev here : Progress
  here = at.progress

  pub net-ready : BeginReady log j.sources j.first_sinks i dues from to users marks
  net-ready = begin_ready j sound at.kept at.at.tallied i hi dues (dues_long j p.state due-is)

  marked : due j p.state i ≡ true → get_or dues i 0 ≡ 0 → ⊥
  marked d z = let one : get_or dues i 0 ≡ 1 = due_mark j p.state due-is i hi ∙ rw d in let n : ◌≡◌ {A = ℕ} 0 1 = sym z ∙ one in omega arith

  unmarked : due j p.state i ≡ false → get_or dues i 0 ≡ 0
  unmarked d = due_mark j p.state due-is i hi ∙ rw d

  -- it has dropped its old tree, if it is due
  module _ {turns : ℕ} {users' marks' : List ℕ} (without : get_or dues i 0 ≡ 0 → Idle turns users marks users' marks')
      (with-turns : (get_or dues i 0 ≡ 0 → ⊥) → Begun log j.sources j.first_sinks i from to users marks turns users' marks') where
    opened : due j p.state i ≡ true → Opened j here i [] history users' marks' from to
    opened d = opens j sound at.kept at.at.tallied i hi (with-turns (marked d))

    turns_are : due j p.state i ≡ true → turns ≡ length (net_sinks j i)
    turns_are d = (with-turns (marked d)).left_is ∙ sinks-count j sound i hi

    -- one with turns is due
    is-due : 0 < turns → due j p.state i ≡ true
    is-due some =
        by_test (due j p.state i) (λ d. d) (λ d. absurd (let z = (without (unmarked d)).none_left in omega arith))

    module _ {low high : ℕ} (places : NetPlaces j i low high) where
      net_opens : due j p.state i ≡ true → NetOpens j here i low high turns t history users' marks' log
      unfolding path_nodes
      net_opens d =
          record {
            routable = sound;
            net = hi;
            places = places;
            at = at.at;
            some = let all = turns_are d in let sinks = due_some j p.state i d in omega arith;
            turns-is = turns_are d;
            history_is = (opened d).history_is;
            users-is = (opened d).users-is;
            marks_is = (opened d).marks_is;
          }

      -- its turns can be followed
      pub net_asks : 0 < turns → NetOpens j here i low high turns t history users' marks' log
      net_asks some = net_opens (is-due some)

      -- what they come to, in a walk that tells of so many nodes over capacity
      module _ (over : ℕ) {r : Result Tariff Stopped} {marks'' : List ℕ} (none : turns ≡ 0 → (r ≡ Ok t) × (marks'' ≡ marks'))
          (answer :
          NetOpens j here i low high turns t history users' marks' log
          → NetTaken (record { audit = audit; over = over }) r j here i marks'' log) where
        abbrev walk : Walk
        walk = record { audit = audit; over = over }

        case : due j p.state i ≡ true → (x : Result Tariff Stopped) → r ≡ x → NetTaken walk x j here i marks'' log
        case d x e = subst (λ (y : Result Tariff Stopped). NetTaken walk y j here i marks'' log) e (answer (net_opens d))

        idle_is : due j p.state i ≡ false → (turns ≡ 0) × (users' ≡ users) × (marks' ≡ marks)
        idle_is d = let e = without (unmarked d) in (e.none_left, e.users-same, e.marks_same)

        -- they end the iteration
        module _ (d : due j p.state i ≡ true) where
          all-nets : (a : Replay) → Stays a → replay_turns audit j log i here (length (net_sinks j i)) [] ≡ a → replay_nets audit j log p.state p.records (nets j) ≡ a
          all-nets a stays e =
              let rest : (nets j - suc i) + suc i ≡ nets j = omega arith in
              subst (λ (n : ℕ). replay_nets audit j log p.state p.records n ≡ a) rest
              (stop_more audit j log p.state p.records (suc i) a stays (net-more audit j log p.state p.records i here a at.is (rw d e)) (nets j - suc i))

          ended : (told : Told) (reply : Progress → Replay) → ((q : Progress) → Stays (reply q)) → NetEnds walk j here i log told reply → NetsEnd walk j p log told reply
          ended told reply stays n =
              record {
                progress = gone_to here n.made;
                is = all-nets (reply (gone_to here n.made)) (stays (gone_to here n.made)) n.is;
                told_at = subst (λ (k : ℕ). ToldAt (here.records ++ n.made) k over told) at.same n.told_at;
              }

          stopped :
              (x : Stopped) → NetTaken walk (Err x) j here i marks'' log
              → (history' users'' marks''' from' to' : List ℕ) → NetsTaken walk (Err x) j p history' users'' marks''' from' to' log
          stopped (Off w) n history' users'' marks''' from' to' = all-nets (off w) (λ next. refl) n
          stopped (Ends told) n history' users'' marks''' from' to' = ended told ends (λ q next. refl) n
          stopped (NotCheapest told cost least) n history' users'' marks''' from' to' = ended told (λ q. not_cheapest q cost least) (λ q next. refl) n

        pub nets-stopped :
            {e : Stopped} → r ≡ Err e → (history' users'' marks''' from' to' : List ℕ) → NetsTaken walk (Err e) j p history' users'' marks''' from' to' log
        nets-stopped {e} is history' users'' marks''' from' to' =
            by_test (due j p.state i)
            (λ d. stopped d e (case d (Err e) is) history' users'' marks''' from' to')
            (λ d. absurd (on_err (sym (none (idle_is d).0).0 ∙ is)))

        -- or follow
        module _ {t' : Tariff} (is-on : r ≡ Ok t') where
          made : due j p.state i ≡ true → NetOn audit j here i t' marks'' log
          made d = case d (Ok t') is-on

          grown : (d : due j p.state i ≡ true) → Opened j here i (made d).made history users' marks'' from to
          grown d =
              record {
                history_is = (opened d).history_is;
                users-is = (opened d).users-is;
                marks_is = (made d).marks_is;
                places = (opened d).places;
              }

          pub end-ready : EndReady log i t.words t'.words dues users' marks'' from to
          end-ready =
              let long = dues_long j p.state due-is in
              let from_long = at.kept.places.from_long in
              let to-long = at.kept.places.to-long in
              record {
                due-listed = omega arith;
                from_listed = omega arith;
                to-listed = omega arith;
                countable = λ some.
                    by_test (due j p.state i)
                    (λ d.
                    countable j sound (grown d) (made d).at.tallied hi t.words at.at.tallied.words-is (made d).below (made d).source-on)
                    (λ d. absurd (some (unmarked d)));
              }

          module _ {users'' marks''' from' to' : List ℕ} (passed : get_or dues i 0 ≡ 0 → Passed users' marks'' from to users'' marks''' from' to')
              (ended : (get_or dues i 0 ≡ 0 → ⊥) → Ended log i t.words t'.words users' marks'' from to users'' marks''' from' to') where
            routed-next : due j p.state i ≡ true → NetsOn audit j p (suc i) t' history users'' marks''' from' to' log
            routed-next d =
                record {
                  progress = with_net j i here (made d).made;
                  is = net-more audit j log p.state p.records i here (on (with_net j i here (made d).made)) at.is (rw d (made d).is);
                  same = at.same;
                  at = (made d).at;
                  kept =
                      counted j sound (grown d) (made d).at.tallied hi t.words at.at.tallied.words-is (made d).below (made d).source-on
                      at.at.can.trees-long (ended (marked d));
                }

            idle_next : due j p.state i ≡ false → NetsOn audit j p (suc i) t' history users'' marks''' from' to' log
            idle_next d =
                let e = passed (unmarked d) in
                let still = none (idle_is d).0 in
                let same-tariff : t ≡ t' = on_same (sym still.0 ∙ is-on) in
                let users-same : users'' ≡ users = e.users-same ∙ (idle_is d).1 in
                let marks_same : marks''' ≡ marks = e.marks_same ∙ still.1 ∙ (idle_is d).2 in
                rw (users-same, marks_same, e.from_same, e.to_same, ← same-tariff)
                (record {
                  progress = here;
                  is = net-more audit j log p.state p.records i here (on here) at.is (rw d);
                  same = at.same;
                  at = at.at;
                  kept = at.kept;
                })

            pub net-next : NetsOn audit j p (i + 1) t' history users'' marks''' from' to' log
            net-next =
                subst (λ (k : ℕ). NetsOn audit j p k t' history users'' marks''' from' to' log) (sym (add-one i))
                (⊎_elim routed-next idle_next (either_way (due j p.state i)))
