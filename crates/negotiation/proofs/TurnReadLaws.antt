-- A logged turn is the machine's at the congestion and from the tree that are read off the earlier records: sink, cost and path.
-- Assumes nothing.
use mathlib.Core.List.{List, [], ◌∷◌, ◌++◌, append-nil, append_assoc}
use mathlib.Core.Path.{◌≡◌, sym, ◌∙◌, fun_ext}
use Prim.Native.Nat.{ℕ, zero, suc, ◌+◌, ◌-◌, ◌<◌}
use native.Mathlib.Omega.{arith}
use lib.ListN.{length, get_or}
use lib.Seq.{ext_get_or}
use Rattle.price.specs.Lists.{up_to}
use Rattle.price.proofs.ListLaws.{length_up_to, get_or_up_to}
use Rattle.search.specs.Turn.{Congestion, Turn, joins, stuck}
use Rattle.job.specs.Job.{Job, nodes, nets, source, net_sinks}
use Rattle.negotiation.specs.Records.{Record, record_of, path_nodes}
use Rattle.negotiation.specs.Order.{turn_sinks}
use Rattle.negotiation.specs.Machine.{State, Progress, others_of, congestion_for, turn_of, log_turn, turns_of, net_records, tree_from}
use Rattle.negotiation.specs.Demand.{own_tree, others_read, history_read}
use Rattle.negotiation.specs.OlderJobs.{congestion_read}
use Rattle.negotiation.specs.Routable.{Routable}
use Rattle.negotiation.specs.Runs.{All, Of, NetsRan, Ran}
use Rattle.negotiation.proofs.NetLaws.{NetTurn, net-turn, no_split}
use Rattle.negotiation.proofs.RanLaws.{nets-iteration, nets-factor, ran-iteration, ran-factor, others_read_lem, history_read_lem}
use Rattle.negotiation.proofs.MachineRan.{ran-ready}
use Rattle.negotiation.proofs.DemandLaws.{own_same, own-all, TurnPlace}

-- ---- a record of a net's turns

-- net i's turn from this tree in iteration t logs the record
abbrev Logs : Job → ℕ → Congestion → ℕ → List ℕ → Record → Type 0
Logs j t c i tree r = log_turn j t i tree (turn_of j c i tree) (λ _. []) ≡ r ∷ []

module _ (j : Job) (t i : ℕ) where
  -- a turn logs the first record of what it makes with the rest
  first_logged :
      (tree : List ℕ) (made : Turn) (rest : List ℕ → List Record) (later : List Record) (r : Record)
      → log_turn j t i tree made rest ≡ r ∷ later → log_turn j t i tree made (λ _. []) ≡ r ∷ []
  first_logged tree (joins place cost path) rest later r e = cc
  first_logged tree stuck rest later r e = absurd (no_split [] later r e)

  -- and the rest goes on from the tree with its path
  rest_logged :
      (tree : List ℕ) (made : Turn) (rest : List ℕ → List Record) (later : List Record) (r : Record)
      → log_turn j t i tree made rest ≡ r ∷ later → rest (tree ++ r.path) ≡ later
  rest_logged tree (joins place cost path) rest later r e =
      let same : record_of t i (get_or (turn_sinks j i tree) place 0) cost path ≡ r = cc in
      let on : rest (tree ++ path) ≡ later = cc in
      rw (← same) on
  rest_logged tree stuck rest later r e = absurd (no_split [] later r e)

  turns_logged_lem :
      (c : Congestion) (k : ℕ) (tree : List ℕ) (e later : List Record) (r : Record) → turns_of j t c i k tree ≡ e ++ (r ∷ later)
      → Logs j t c i (tree ++ path_nodes e) r
  unfolding turns_of path_nodes
  turns_logged_lem c zero tree e later r is = absurd (no_split e later r is)
  turns_logged_lem c (suc k) tree [] later r is = rw (append-nil tree) (first_logged tree (turn_of j c i tree) (turns_of j t c i k) later r is)
  turns_logged_lem c (suc k) tree (x ∷ xs) later r is =
      rw (← append_assoc tree x.path (path_nodes xs))
      (turns_logged_lem c k (tree ++ x.path) xs later r (rest_logged tree (turn_of j c i tree) (turns_of j t c i k) (xs ++ (r ∷ later)) x is))

-- of net i in a state, after its own records e
net-logged :
    (j : Job) (s : State) (i : ℕ) (e rest : List Record) (r : Record) → net_records j s i ≡ e ++ (r ∷ rest)
    → Logs j s.iteration (congestion_for j s i) i (tree_from j i e) r
unfolding net_records
net-logged j s i e rest r is = turns_logged_lem j s.iteration i (congestion_for j s i) (length (net_sinks j i)) (source j i ∷ []) e rest r is

-- ---- read off the log

-- what net i's turn in iteration t logs that is read off the earlier records
abbrev pub log_read : Job → ℕ → ℕ → List Record → List Record
log_read j t i earlier = log_turn j t i (own_tree j i t earlier) (turn_of j (congestion_read j i t earlier) i (own_tree j i t earlier)) (λ _. [])

-- it is this record
abbrev pub TurnRead : Job → List Record → Record → Type 0
TurnRead j earlier r = log_read j r.iteration r.net earlier ≡ r ∷ []

same_read :
    (j : Job) {t t' i i' : ℕ} {earlier before : List Record} → t ≡ t' → i ≡ i' → earlier ≡ before → log_read j t i earlier ≡ log_read j t' i' before
same_read j p q r = rw (p, q, r)

-- in a run: of net i, after its own records e and those before them
module _ (j : Job) (sound : Routable j) {m : ℕ} {rs : List Record} {s : State} (r : Ran j m rs s) (hm : m < j.terms.limit)
    {i : ℕ} {p : Progress} (n : NetsRan j s i p) (hi : i < nets j) where
  module _ (e : List Record) (own : All (Of i (m + 1)) e) where
    abbrev before : List Record
    before = (rs ++ p.records) ++ e

    histories-same : p.state.histories ≡ up_to (history_read j before (m + 1 - 1)) (nodes j)
    histories-same =
        let one : m + 1 - 1 ≡ m = omega arith in
        let long : length p.state.histories ≡ nodes j = (ran-ready j sound r n hm).long in
        ext_get_or 0 p.state.histories (up_to (history_read j before (m + 1 - 1)) (nodes j)) (long ∙ sym (length_up_to (history_read j before (m + 1 - 1)) (nodes j)))
        (λ v l.
        let h : v < nodes j = rw long at l in
        rw (get_or_up_to (history_read j before (m + 1 - 1)) (nodes j) v 0 h, one) (sym (history_read_lem j r n hi e own v h)))

    congestion_same : congestion_for j p.state i ≡ congestion_read j i (m + 1) before
    unfolding congestion_for congestion_read
    congestion_same =
        let factor = nets-factor j n ∙ ran-factor j r in
        let others : others_of j p.state.trees i ≡ others_read j i before = fun_ext (λ v. sym (others_read_lem j r n hi e own v)) in
        rw (factor, histories-same, others)

  read_here :
      (e rest : List Record) (t : Record) → net_records j p.state i ≡ e ++ (t ∷ rest) → (earlier : List Record) → earlier ≡ (rs ++ p.records) ++ e
      → TurnRead j earlier t
  read_here e rest t is earlier parts =
      let own : All (Of i (m + 1)) e = own-all j sound r hm n hi e (t ∷ rest) is in
      let turn : NetTurn j p.state i e t = net-turn j sound p.state (ran-ready j sound r n hm) i hi e rest t is in
      let at : p.state.iteration ≡ m + 1 = nets-iteration j n ∙ ran-iteration j r in
      let here : log_read j (m + 1) i ((rs ++ p.records) ++ e) ≡ t ∷ [] =
      rw (← own_same j sound r hm n hi e own, ← congestion_same e own, ← at) (net-logged j p.state i e rest t is) in
      same_read j (turn.iteration-is ∙ at) turn.net-is parts ∙ here

-- each turn that the machine makes
pub turn_read : (j : Job) → Routable j → {earlier : List Record} {t : Record} → TurnPlace j earlier t → TurnRead j earlier t
turn_read j sound {earlier} {t} at =
    read_here j sound at.ran at.below at.nets-ran at.net-below at.own at.rest t at.is earlier at.before
