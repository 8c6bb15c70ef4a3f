-- What the private functions that take up a lent log leave: tariff and lists over the progress that the replay has reached. It is no value
-- of the code, nor is the whole job within an iteration. Only their contracts cite this file: no caller has to believe it.
-- Assumes nothing.
use Rattle.std.specs.Prelude.{Option, Some, None, Result, Ok, Err, Bool, true, List, [], ◌∷◌, ◌++◌, ◌≡◌}
use Rattle.std.specs.Prelude.{ℕ, ◌+◌, ◌-◌, ◌≤◌, ◌<◌, eqb, leb, ltb, length, get_or}
use Rattle.std.proofs.Math.Seq.{slice}
use Rattle.price.specs.Test.{choose, both, either}
use Rattle.price.specs.Lists.{has, up_to}
use Rattle.price.specs.declared.Weighting.{Weighting}
use Rattle.search.specs.Block.{block_in}
use Rattle.search.specs.Distance.{tree_has}
use Rattle.search.specs.Turn.{Congestion, weighed_congestion, price_at, turn}
use Rattle.search.specs.Replies.{sink_list_sound}
use Rattle.job.specs.Job.{Job, nodes, nets, source, net_sinks}
use Rattle.negotiation.specs.Routable.{Routable}
use Rattle.negotiation.specs.Records.{Record, encode, path_nodes}
use Rattle.negotiation.specs.Order.{sinks_tried, weighting_due}
use Rattle.negotiation.specs.OrderSteps.{SinksReady}
use Rattle.negotiation.specs.Machine.{Progress, others_of, marks_of, tree_from, with_net, due, over_count, first_state}
use Rattle.job.specs.Steps.{AllBelow}
use Rattle.negotiation.specs.Outcome.{continued}
use Rattle.negotiation.specs.Resume.{Replay, on, off, ends, not_cheapest, gone_to, replay_turns, replay_nets, replay_from}
use Rattle.negotiation.specs.Resume.{resumed_reply, run_from, lent_records}
use Rattle.negotiation.specs.ResumeSteps.{RecordReady, named_cost, turn_passes, least_asked}
use Rattle.negotiation.specs.Steps.{TurnReady}
use Rattle.negotiation.specs.Kept.{Kept, Tallied, CanGoOn, Ready}
use Rattle.negotiation.specs.Runs.{Ran}
use Rattle.job.specs.declared.JobTables.{JobTables}
use Rattle.negotiation.specs.declared.tariff.Tariff.{Tariff}
use Rattle.negotiation.specs.declared.take_up.Stopped.{Stopped}
use Rattle.negotiation.specs.declared.take_up.Stopped.TheVariants.{Off, Ends, NotCheapest}
use Rattle.negotiation.specs.declared.take_up.Told.{Told}
use Rattle.negotiation.specs.declared.take_up.Walk.{Walk}

-- the lent log begins with the records of a run that can go on from p, and the tariff is that run's
pub record TakenTo (j : Job) (p : Progress) (t : Tariff) (log : List ℕ) : Type 0 where
  pub can : CanGoOn j p
  pub iteration-is : t.iteration ≡ p.state.iteration
  pub factor-is : t.factor ≡ p.state.factor
  pub tallied : Tallied p.records log t log

-- ---- one turn

-- how far an audit came, by the tariff there
abbrev pub told_of : Tariff → (whole over : ℕ) → Told
told_of t whole over = record { turns = t.turns; words = t.words; whole = whole; over = over }

-- what a record of so many words, none where it doesn't follow, comes to at this cost: the iterations before this one are whole
unfoldable pub judged_as : Tariff → (over : ℕ) → (count : Option ℕ) → (cost least : ℕ) → Result ℕ Stopped
judged_as t over None cost least = Err (Off t.words)
judged_as t over (Some count) cost least =
    choose (ltb least cost) (Err (NotCheapest (told_of t (t.iteration - 1) over) cost least)) (Ok count)

-- what the next record comes to, whose words are these: `ended` where there are none, `passes` where it follows
unfoldable pub tried_as : Tariff → Walk → (ended passes : Bool) (ws : List ℕ) (least : ℕ) → Result ℕ Stopped
tried_as t walk ended passes ws least =
    choose (both walk.audit ended) (Err (Ends (told_of t (t.iteration - 1) walk.over)))
    (judged_as t walk.over (choose passes (Some (6 + get_or ws 5 0)) None) (named_cost ws) least)

-- what a log comes to behind a whole iteration
unfoldable pub whole_as : Bool → Tariff → (over limit len : ℕ) → Result Tariff Stopped
whole_as audit t over limit len =
    choose (both audit (leb len t.words)) (Err (Ends (told_of t t.iteration over)))
    (choose (either (eqb over 0) (eqb t.iteration limit)) (Err (Off t.words)) (Ok t))

-- the turn of the net whose sinks stand in table 7 from one place to below another: the sinks that it tries, and what prices it
module _ (tables : JobTables) (from to : ℕ) (marks : List ℕ) where
  abbrev pub tried_here : List ℕ
  tried_here =
      sinks_tried tables.terms.timed (tree_has marks) (slice from to tables.sink.now) (slice from to tables.criticality.now)

  abbrev pub weighting_here : Weighting
  weighting_here =
      weighting_due tables.terms.timed (tree_has marks) (slice from to tables.sink.now) (slice from to tables.criticality.now)

  abbrev pub congestion_here : Tariff → (history users : List ℕ) → Congestion
  congestion_here t history users = weighed_congestion weighting_here tables.delay.now t.factor history users

-- marks of these nodes
abbrev pub goals_of : ℕ → List ℕ → List ℕ
goals_of n xs = up_to (λ v. choose (has v xs) 1 0) n

-- the sinks that it tries are goals
abbrev pub goals_here : (tables : JobTables) → (from to : ℕ) → (marks : List ℕ) → List ℕ
goals_here tables from to marks = goals_of (length tables.block.kind.now) (tried_here tables from to marks)

-- it can be followed: its sinks can be chosen, and its record be tested at their prices
pub record TryReady (tables : JobTables) (from to : ℕ) (t : Tariff) (history users marks work log : List ℕ) : Type 0 where
  pub choosable : SinksReady tables.terms.timed tables.sink.now tables.criticality.now from to marks
  pub tested :
      RecordReady (block_in tables.block) (congestion_here tables from to marks t history users) (goals_here tables from to marks) marks log
      t.words
  pub searchable : TurnReady (block_in tables.block) (congestion_here tables from to marks t history users) marks work
  pub sinks_sound_lem : sink_list_sound (length tables.block.kind.now) (tried_here tables from to marks) ≡ true

-- the least cost of that turn, where it is asked for
abbrev pub tried_least : (tables : JobTables) → (from to : ℕ) → Tariff → Bool → (history users marks : List ℕ) → ℕ
tried_least tables from to t audit history users marks =
    let b = block_in tables.block in
    let price = price_at b (congestion_here tables from to marks t history users) in
    least_asked audit (turn b price marks (tried_here tables from to marks))

-- the words begin with a record that follows
abbrev pub tried_passes : (tables : JobTables) → (from to : ℕ) → Tariff → (net : ℕ) → (history users marks ws : List ℕ) → Bool
tried_passes tables from to t net history users marks ws =
    let b = block_in tables.block in
    let price = price_at b (congestion_here tables from to marks t history users) in
    turn_passes b price (goals_here tables from to marks) marks t.iteration net ws

-- ---- the turns of a net

-- where net i's sinks stand in table 7
pub record NetPlaces (j : Job) (i from to : ℕ) : Type 0 where
  pub from_is : from ≡ get_or j.first_sinks i 0
  pub to_is : to ≡ get_or j.first_sinks (i + 1) 0

-- net i has dropped its old tree: the others are left of the users, and its source is marked
pub record NetOpens (j : Job) (p : Progress) (i from to turns : ℕ) (t : Tariff) (history users marks log : List ℕ) : Type 0 where
  pub routable : Routable j
  pub net : i < nets j
  pub places : NetPlaces j i from to
  pub at : TakenTo j p t log
  pub some : 1 ≤ turns
  pub turns-is : turns ≡ length (net_sinks j i)
  pub history_is : history ≡ p.state.histories
  pub users-is : users ≡ up_to (others_of j p.state.trees i) (nodes j)
  pub marks_is : marks ≡ marks_of j (source j i ∷ [])

-- it has done so behind some progress
pub record SomeNet (j : Job) (from to i turns : ℕ) (t : Tariff) (history users marks log : List ℕ) : Type 0 where
  pub progress : Progress
  pub opens : NetOpens j progress i from to turns t history users marks log

-- its turns follow: their tree is marked, and its source is on a path
pub record NetOn (audit : Bool) (j : Job) (p : Progress) (i : ℕ) (t : Tariff) (marks log : List ℕ) : Type 0 where
  pub made : List Record
  pub is : replay_turns audit j log i p (length (net_sinks j i)) [] ≡ on (with_net j i p made)
  pub at : TakenTo j (with_net j i p made) t log
  pub marks_is : marks ≡ marks_of j (tree_from j i made)
  pub below : AllBelow (nodes j) (path_nodes made)
  pub source-on : has (source j i) (path_nodes made) ≡ true

-- an audit came so far: behind these records, in this iteration, with so many nodes over capacity at its start
pub record ToldAt (rs : List Record) (iteration over : ℕ) (told : Told) : Type 0 where
  pub turns-is : told.turns ≡ length rs
  pub words-is : told.words ≡ length (encode rs)
  pub whole_is : told.whole + 1 ≡ iteration
  pub over-is : told.over ≡ over

-- an audit ends inside the net: its words end, or a turn isn't cheapest
pub record NetEnds (walk : Walk) (j : Job) (p : Progress) (i : ℕ) (log : List ℕ) (told : Told) (answer : Progress → Replay) : Type 0 where
  pub made : List Record
  pub is : replay_turns walk.audit j log i p (length (net_sinks j i)) [] ≡ answer (gone_to p made)
  pub told_at : ToldAt (p.records ++ made) p.state.iteration walk.over told

-- what its turns come to
abbrev pub NetTaken : Walk → Result Tariff Stopped → (j : Job) (p : Progress) (i : ℕ) (marks log : List ℕ) → Type 0
NetTaken walk (Ok t) j p i marks log = NetOn walk.audit j p i t marks log
NetTaken walk (Err (Off word)) j p i marks log = replay_turns walk.audit j log i p (length (net_sinks j i)) [] ≡ off word
NetTaken walk (Err (Ends told)) j p i marks log = NetEnds walk j p i log told ends
NetTaken walk (Err (NotCheapest told cost least)) j p i marks log = NetEnds walk j p i log told (λ q. not_cheapest q cost least)

-- behind every such progress
abbrev pub NetAnswered :
    Walk → (j : Job) (from to i turns : ℕ) (t : Tariff) (history users marks log : List ℕ) (r : Result Tariff Stopped) (marks' : List ℕ)
    → Type 0
NetAnswered walk j from to i turns t history users marks log r marks' =
    (p : Progress) → NetOpens j p i from to turns t history users marks log → NetTaken walk r j p i marks' log

-- ---- the nets of an iteration

-- an iteration begins at p: the lists are the state's, and the nets that are due are marked
pub record NetsOpen (j : Job) (p : Progress) (t : Tariff) (history users marks from to dues log : List ℕ) : Type 0 where
  pub routable : Routable j
  pub at : TakenTo j p t log
  pub kept : Kept j p history users marks from to
  pub due-is : dues ≡ up_to (λ k. choose (due j p.state k) 1 0) (nets j)

-- at some progress
pub record SomeNets (j : Job) (t : Tariff) (history users marks from to dues log : List ℕ) : Type 0 where
  pub progress : Progress
  pub open_so : NetsOpen j progress t history users marks from to dues log

-- its first nets follow, up to q in the same iteration
pub record NetsOn (audit : Bool) (j : Job) (p : Progress) (i : ℕ) (t : Tariff) (history users marks from to log : List ℕ) : Type 0 where
  pub progress : Progress
  pub is : replay_nets audit j log p.state p.records i ≡ on progress
  pub same : progress.state.iteration ≡ p.state.iteration
  pub at : TakenTo j progress t log
  pub kept : Kept j progress history users marks from to

-- an audit ends inside one of them
pub record NetsEnd (walk : Walk) (j : Job) (p : Progress) (log : List ℕ) (told : Told) (answer : Progress → Replay) : Type 0 where
  pub progress : Progress
  pub is : replay_nets walk.audit j log p.state p.records (nets j) ≡ answer progress
  pub told_at : ToldAt progress.records p.state.iteration walk.over told

-- what its nets come to
abbrev pub NetsTaken : Walk → Result Tariff Stopped → (j : Job) (p : Progress) (history users marks from to log : List ℕ) → Type 0
NetsTaken walk (Ok t) j p history users marks from to log = NetsOn walk.audit j p (nets j) t history users marks from to log
NetsTaken walk (Err (Off word)) j p history users marks from to log = replay_nets walk.audit j log p.state p.records (nets j) ≡ off word
NetsTaken walk (Err (Ends told)) j p history users marks from to log = NetsEnd walk j p log told ends
NetsTaken walk (Err (NotCheapest told cost least)) j p history users marks from to log =
    NetsEnd walk j p log told (λ q. not_cheapest q cost least)

-- behind every such progress
abbrev pub NetsAnswered :
    Walk → (j : Job) (t : Tariff) (history users marks from to dues log : List ℕ) (r : Result Tariff Stopped)
    (users' marks' from' to' : List ℕ) → Type 0
NetsAnswered walk j t history users marks from to dues log r users' marks' from' to' =
    (p : Progress) → NetsOpen j p t history users marks from to dues log → NetsTaken walk r j p history users' marks' from' to' log

-- ---- the iterations

-- the whole log follows, and a run can go on behind it
pub record LogOn (audit : Bool) (j : Job) (t : Tariff) (history users marks from to dues log : List ℕ) : Type 0 where
  pub progress : Progress
  pub is : replay_from audit j log j.terms.limit (first_state j) [] ≡ on progress
  pub ready : Ready j progress t history users marks from to dues log

-- an audit ends: its state is that at an iteration's start
pub record LogEnds (audit : Bool) (j : Job) (log : List ℕ) (told : Told) (answer : Progress → Replay) : Type 0 where
  pub progress : Progress
  pub is : replay_from audit j log j.terms.limit (first_state j) [] ≡ answer progress
  pub told_at : ToldAt progress.records progress.state.iteration (over_count j progress.state.trees) told

-- what a log comes to
abbrev pub LogTaken : Bool → Result Tariff Stopped → (j : Job) (history users marks from to dues log : List ℕ) → Type 0
LogTaken audit (Ok t) j history users marks from to dues log = LogOn audit j t history users marks from to dues log
LogTaken audit (Err (Off word)) j history users marks from to dues log = replay_from audit j log j.terms.limit (first_state j) [] ≡ off word
LogTaken audit (Err (Ends told)) j history users marks from to dues log = LogEnds audit j log told ends
LogTaken audit (Err (NotCheapest told cost least)) j history users marks from to dues log =
    LogEnds audit j log told (λ q. not_cheapest q cost least)

-- ---- a run's start

-- a run that starts so goes on from a progress after whole iterations, whose records are those lent, with the whole log
pub record StartOn (start : Option ℕ) (j : Job) (t : Tariff) (history users marks from to dues log : List ℕ) : Type 0 where
  pub progress : Progress
  pub is : (work : List ℕ) → run_from start j work log ≡ continued j progress work log
  pub ready : Ready j progress t history users marks from to dues log
  pub iterations : ℕ
  pub ran : Ran j iterations progress.records progress.state
  pub lent_is : progress.records ≡ lent_records start log

-- the word at which a log is turned away
abbrev pub words_at : Stopped → ℕ
words_at (Off word) = word
words_at (Ends told) = told.words
words_at (NotCheapest told cost least) = told.words

-- the lent log is turned away at this word
abbrev pub TurnedAway : ℕ → (start : Option ℕ) (j : Job) (log : List ℕ) → Type 0
TurnedAway word start j log = (work : List ℕ) → run_from start j work log ≡ resumed_reply j (off word) work log

-- what a start comes to: such a progress, or the lent log is turned away
unfoldable pub Started : Result Tariff Stopped → (start : Option ℕ) (j : Job) (history users marks from to dues log : List ℕ) → Type 0
Started (Ok t) start j history users marks from to dues log = StartOn start j t history users marks from to dues log
Started (Err (Off word)) start j history users marks from to dues log = TurnedAway word start j log
Started (Err (Ends told)) start j history users marks from to dues log = TurnedAway told.words start j log
Started (Err (NotCheapest told cost least)) start j history users marks from to dues log = TurnedAway told.words start j log
