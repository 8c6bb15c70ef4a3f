-- An audit of any log, whoever wrote it: of a sound one every turn is as demand 3 asks, and of one that settles the final trees too; a turn that is told is legal, and there is a cheaper path.
-- Assumes nothing.
use mathlib.Core.Bool.{true}
use mathlib.Core.List.{List, [], ◌∷◌, ◌++◌, append_assoc}
use mathlib.Core.Logic.{⊎_elim}
use mathlib.Core.Path.{◌≡◌, refl, sym, ◌∙◌, ap, subst}
use Prim.Native.Nat.{ℕ, ◌+◌, ◌≤◌}
use native.Mathlib.Omega.{arith}
use lib.ListN.{length, take, drop, take-append-drop}
use lib.Seq.{take_all}
use Rattle.price.specs.Lists.{has}
use Rattle.search.specs.Paths.{JoiningPath, CheapestPath}
use Rattle.search.specs.Replies.{cleared}
use Rattle.search.proofs.BlockLaws.{graph_of_lem}
use Rattle.job.specs.Job.{Job, nodes}
use Rattle.job.specs.Join.{joined}
use Rattle.negotiation.specs.Routable.{Routable}
use Rattle.negotiation.specs.Order.{turn_sinks}
use Rattle.negotiation.specs.Records.{Record, record_of, words, encode, decode}
use Rattle.negotiation.specs.Machine.{Progress, tree_from}
use Rattle.negotiation.specs.Resume.{turn_price, least_cost, Replay, on, off, ends, not_cheapest, replay_by}
use Rattle.negotiation.specs.Resumed.{LentTurn}
use Rattle.negotiation.specs.Demand.{TurnHolds, FinalTrees}
use Rattle.negotiation.specs.Runs.{Of}
use Rattle.negotiation.specs.Audit.{AuditReply, refused_audit, audited_to, audited_reply, audit_reply}
use Rattle.negotiation.specs.Audited.{EveryTurn, SoundLog, CheaperPath, FirstNotCheapest, Audited}
use Rattle.negotiation.proofs.RecordLaws.{decode-encode, encode-append}
use Rattle.negotiation.proofs.RanLaws.{ran-iteration}
use Rattle.negotiation.proofs.MachineRan.{ran-ready}
use Rattle.negotiation.proofs.DemandLaws.{cheapest-same, own_same, price-same, turn_of_lem, tree_as, final_of}
use Rattle.negotiation.proofs.LeastLaws.{LeastPath, least-path, least-cheapest}
use Rattle.negotiation.proofs.ReplayLaws.{encode_one, LentStep, Ended, Dear, Stands, LogCame, replayed}
use Rattle.negotiation.proofs.LentLaws.{joins_of, lent-turn}
use Rattle.negotiation.proofs.DemandHolds.{by_tests}

-- ---- one turn

-- what is told of a turn that costs more than the least
abbrev TurnDear : Job → List Record → Record → ℕ → Type 0
TurnDear j earlier t least = LentTurn j earlier t × CheaperPath j earlier t least

module _ (j : Job) (sound : Routable j) where
  audit_step : LentStep true j (λ earlier t. TurnHolds j earlier t) (TurnDear j)
  audit_step m i rs s p r low n hi made own t of path cost =
      let tree : List ℕ = tree_from j i made in
      let before : List Record = (rs ++ p.records) ++ made in
      let here : JoiningPath j.block (turn_price j p.state i tree) (λ v. has v tree) (turn_sinks j i tree) t.sink t.cost t.path =
      joins_of j i (turn_price j p.state i tree) tree t.sink t.cost t.path path cost in (
        (λ few. as_read t of (least-cheapest j sound p.state (ran-ready j sound r n low) i hi tree here (few refl))),
        (λ less.
            let least : LeastPath j sound p.state (ran-ready j sound r n low) i hi tree = least-path j sound p.state (ran-ready j sound r n low) i hi tree here in
            let other : Record = record_of t.iteration t.net least.sink (least_cost j p.state i tree) least.path in (
              lent-turn j sound r low n hi made own t of path cost,
              record {
                sink = least.sink;
                path = least.path;
                cheapest = as_read other (record { net-is = of.net-is; iteration-is = of.iteration-is }) least.cheapest;
              },
            )),
      )
    where
      -- at what is read off the log
      as_read :
          (q : Record) → Of i (m + 1) q
          → CheapestPath j.block (turn_price j p.state i (tree_from j i made)) (λ v. has v (tree_from j i made)) (turn_sinks j i (tree_from j i made)) q.sink q.cost q.path
          → TurnHolds j ((rs ++ p.records) ++ made) q
      as_read q of c =
          turn_of_lem CheapestPath j ((rs ++ p.records) ++ made) ((rs ++ p.records) ++ made) q i (m + 1) of.net-is of.iteration-is refl
          (tree_as CheapestPath j i (own_same j sound r low n hi made own)
          (cheapest-same j.block (graph_of_lem j.block sound.block-sound) _ _ (price-same j sound r low n hi made own) c))

-- ---- what a log comes to

off-ends : {w : ℕ} {p : Progress} → off w ≡ ends p → ⊥
off-ends e = let z : ◌≡◌ {A = ℕ} 0 1 = cc in omega arith

off_dear : {w cost least : ℕ} {p : Progress} → off w ≡ not_cheapest p cost least → ⊥
off_dear e = let z : ◌≡◌ {A = ℕ} 0 1 = cc in omega arith

module _ (j : Job) (sound : Routable j) (used : ℕ) (log : List ℕ) where
  abbrev Comes : Replay → Type 0
  Comes = LogCame true j sound.source_no_sink (λ earlier t. TurnHolds j earlier t) (TurnDear j) (audit_step j sound) (take used log) 0

  comes : (a : Replay) → replay_by true j used log ≡ a → ((w : ℕ) → off w ≡ a → ⊥) → (used ≤ length log) × Comes a
  comes a e not-off =
      ⊎_elim
      (λ c. (c.0, subst Comes e c.1))
      (λ o. absurd (not-off (length log) (sym o ∙ e)))
      (replayed true j sound.source_no_sink (λ earlier t. TurnHolds j earlier t) (TurnDear j) (audit_step j sound) used log)

  sound-log : (p : Progress) (work : List ℕ) → replay_by true j used log ≡ ends p → SoundLog j used log (audited_to j [] p work)
  sound-log p work e =
      let c : (used ≤ length log) × Comes (ends p) = comes (ends p) e (λ w. off-ends) in
      let ended : Ended (λ earlier t. TurnHolds j earlier t) (take used log) p.records = c.1.0 in
      let stands : Stands true j sound.source_no_sink (λ earlier t. TurnHolds j earlier t) (TurnDear j) (audit_step j sound) (take used log) p = c.1.1 in
      let words_are : take used log ≡ encode p.records = sym (take_all (length (encode p.records)) (take used log) ended.all_read) ∙ ended.begins in
      let is : decode (take used log) ≡ p.records = ap decode words_are ∙ decode-encode p.records in
      let at = ran-iteration j stands.ran in
      record {
        within = c.0;
        nothing_else = ap encode is ∙ sym words_are;
        turns-counted = sym (ap length is);
        every-turn = subst (EveryTurn j) (sym is) ended.each;
        final_trees =
            λ some none.
            let whole : 1 ≤ stands.whole = omega (arith, some, at) in
            subst (FinalTrees j) (sym (is ∙ stands.last whole none)) (final_of j sound stands.ran whole none);
      }

  first_dear :
      (p : Progress) (cost least : ℕ) → replay_by true j used log ≡ not_cheapest p cost least
      → FirstNotCheapest j used log (length (encode p.records)) cost least (length p.records)
  first_dear p cost least e =
      let d : Dear (λ earlier t. TurnHolds j earlier t) (TurnDear j) (take used log) p.records cost least = (comes (not_cheapest p cost least) e (λ w. off_dear)).1 in
      let to : ℕ = length (encode (p.records ++ (d.turn ∷ []))) in
      let rest : List ℕ = drop to (take used log) in
      record {
        earlier = p.records;
        turn = d.turn;
        rest = rest;
        words_are =
            sym (take-append-drop to (take used log))
            ∙ ap (λ (l : List ℕ). l ++ rest) (d.begins ∙ encode-append p.records (d.turn ∷ []) ∙ ap (λ (l : List ℕ). encode p.records ++ l) (encode_one d.turn))
            ∙ append_assoc (encode p.records) (words d.turn) rest;
        word_is = refl;
        turns-is = refl;
        every-earlier = d.each;
        legal = d.dear.0;
        cost_is_lem = d.cost_is_lem;
        cheaper = d.cheaper;
        there-is = d.dear.1;
      }

-- ---- each case of the reply

module _ (j : Job) (used : ℕ) (work log : List ℕ) where
  abbrev Holds : AuditReply → Type 0
  Holds r =
      (r.told ≡ [] → SoundLog (joined j) used log r)
      × ((word cost least : ℕ) → r.told ≡ 18 ∷ word ∷ cost ∷ least ∷ [] → FirstNotCheapest (joined j) used log word cost least r.turns)

  refused_holds : (number : ℕ) (numbers left : List ℕ) → number ≤ 15 → Holds (refused_audit (number ∷ numbers) left)
  refused_holds number numbers left few = (
    (λ e. absurd (let z : ◌≡◌ {A = ℕ} 0 1 = cc in omega arith)),
    (λ word cost least e. absurd (let z : number ≡ 18 = cc in omega arith)),
  )

  comes_to : Routable (joined j) → (a : Replay) → replay_by true (joined j) used log ≡ a → Holds (audited_reply (joined j) a work)
  comes_to sound (off word) e = refused_holds 14 (word ∷ []) (cleared (nodes j) [] work) (omega arith)
  comes_to sound (on p) e = refused_holds 14 (length (encode p.records) ∷ []) (cleared (nodes j) [] work) (omega arith)
  comes_to sound (ends p) e = (
    (λ _. sound-log (joined j) sound used log p work e),
    (λ word cost least none. absurd (let z : ◌≡◌ {A = ℕ} 0 1 = cc in omega arith)),
  )
  comes_to sound (not_cheapest p cost least) e = (
    (λ none. absurd (let z : ◌≡◌ {A = ℕ} 0 1 = cc in omega arith)),
    (λ word cost' least' told.
        let at : length (encode p.records) ≡ word = cc in
        let dear : cost ≡ cost' = cc in
        let low : least ≡ least' = cc in
        subst (λ (w : ℕ). FirstNotCheapest (joined j) used log w cost' least' (length p.records)) at
        (subst (λ (c : ℕ). FirstNotCheapest (joined j) used log (length (encode p.records)) c least' (length p.records)) dear
        (subst (λ (l : ℕ). FirstNotCheapest (joined j) used log (length (encode p.records)) cost l (length p.records)) low
        (first_dear (joined j) sound used log p cost least e)))),
  )

  audit_holds : Holds (audit_reply j used work log)
  unfolding audit_reply
  audit_holds =
      by_tests refused_audit j work (λ f. Holds (f (audited_reply (joined j) (replay_by true (joined j) used log) work)))
      (λ number numbers left few before reached. refused_holds number numbers left few)
      (λ sound all. comes_to sound (replay_by true (joined j) used log) refl)

  pub audited : Audited j used work log (audit_reply j used work log)
  audited = record { as_audited = refl; sound = audit_holds.0; not_cheapest_lem = audit_holds.1 }
