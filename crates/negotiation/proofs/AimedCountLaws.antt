-- Request 2.13: how many nodes the turns of a log expand. Turn by turn, at most so many, and each turn of the machine's as many as its search.
--     expanded-more    the turns of one record more
--     after_none, after-short, after_more, after-most   the same of what a call counts
--     turn_count_lem       what is read off the log before a turn of the machine's is what the turn expands in its state
--     records-most     m whole iterations make at most so many records; run_most: with those of a net so far
--     run_more, run_fits   what a call that goes on from a progress counts: with one turn more, and that it fits 64 bits
-- Assumes nothing.
use mathlib.Core.Bool.{Bool, true, false}
use mathlib.Core.List.{List, [], ◌∷◌, ◌++◌, append-nil, append_assoc}
use mathlib.Core.Path.{◌≡◌, refl, sym, ◌∙◌, ap}
use Prim.Native.Nat.{ℕ, zero, suc, ◌+◌, ◌-◌, ◌*◌, ◌^◌, ◌≤◌, ◌<◌, zero-le}
use native.Mathlib.Omega.{arith}
use lib.Dec.{eqb}
use lib.ListN.{length, get_or, length-append}
use lib.Seq.{append_snoc, drop-append_seam, drop-nil, length-slice}
use Rattle.price.specs.Test.{choose}
use Rattle.price.specs.Bounds.{nodes_most, limit_most}
use Rattle.price.proofs.TestLaws.{by_test}
use Rattle.price.proofs.BelowLaws.{count_most_lem}
use Rattle.search.specs.Distance.{far}
use Rattle.search.specs.Turn.{price_at, nearest_distance}
use Rattle.search.specs.Aimed.{weight_at, expands, expanded_by, expanded}
use Rattle.search.specs.Replies.{sinks_most}
use Rattle.search.proofs.BlockLaws.{graph_of_lem}
use Rattle.search.proofs.AimedLaws.{expanded-same}
use Rattle.job.specs.Job.{Job, nodes, nets, net_sinks}
use Rattle.negotiation.specs.Records.{Record}
use Rattle.negotiation.specs.Order.{turn_sinks, turn_weighting, turn_congestion}
use Rattle.negotiation.specs.Machine.{State, Progress, marks_of, congestion_for, net_records, tree_from, due, after_nets, iterate, state_after, records_after}
use Rattle.negotiation.specs.Steps.{turn_count}
use Rattle.negotiation.specs.Demand.{own_tree, price_read}
use Rattle.negotiation.specs.Resume.{turn_price}
use Rattle.negotiation.specs.Aimed.{turn_expanded, expanded_in, expanded_after}
use Rattle.negotiation.specs.Routable.{Routable}
use Rattle.negotiation.specs.Runs.{All, Of, NetsRan, Ran}
use Rattle.negotiation.proofs.StateLaws.{route_if_lem}
use Rattle.negotiation.proofs.NetLaws.{NetTurn, net-turn}
use Rattle.negotiation.proofs.RanLaws.{nets-iteration, ran-iteration}
use Rattle.negotiation.proofs.MachineRan.{Reached, ran-ready, machine_nets, machine_ran}
use Rattle.negotiation.proofs.DemandLaws.{own_same, price-same, own-all}
use Rattle.negotiation.proofs.OwnReplayLaws.{net-few}
use Rattle.negotiation.proofs.KeepLaws.{reached}

-- ---- turn by turn

pub expanded-more :
    (j : Job) (lent rs : List Record) (r : Record) → expanded_in j lent (rs ++ (r ∷ [])) ≡ expanded_in j lent rs + turn_expanded j (lent ++ rs) r
unfolding expanded_in
expanded-more j lent [] r = rw (append-nil lent) (omega arith)
expanded-more j lent (s ∷ rs) r =
    let more = expanded-more j (lent ++ (s ∷ [])) rs r in
    let here : (lent ++ (s ∷ [])) ++ rs ≡ lent ++ (s ∷ rs) = append_snoc lent s rs in
    rw (← here) (omega arith)

-- ---- what a call counts

after_these : (aimed : Bool) (j : Job) (lent rs : List Record) → expanded_after aimed j lent (lent ++ rs) ≡ choose aimed (expanded_in j lent rs) 0
unfolding expanded_after
after_these aimed j lent rs = rw (drop-append_seam lent rs)

-- where nothing is logged past the lent records, nothing is counted
pub after_none : (aimed : Bool) (j : Job) (lent : List Record) → expanded_after aimed j lent lent ≡ 0
unfolding expanded_in
after_none true j lent = ap (expanded_after true j lent) (sym (append-nil lent)) ∙ after_these true j lent []
after_none false j lent = ap (expanded_after false j lent) (sym (append-nil lent)) ∙ after_these false j lent []

-- nor where no record stands there
pub after-short : (aimed : Bool) (j : Job) (lent : List Record) → expanded_after aimed j lent [] ≡ 0
unfolding expanded_after expanded_in
after-short true j lent = rw (drop-nil (length lent))
after-short false j lent = refl

-- one record more
pub after_more :
    (aimed : Bool) (j : Job) (lent rs : List Record) (r : Record)
    → expanded_after aimed j lent (lent ++ (rs ++ (r ∷ [])))
    ≡ expanded_after aimed j lent (lent ++ rs) + choose aimed (turn_expanded j (lent ++ rs) r) 0
after_more true j lent rs r =
    rw (after_these true j lent (rs ++ (r ∷ [])), after_these true j lent rs) (expanded-more j lent rs r)
after_more false j lent rs r = rw (after_these false j lent (rs ++ (r ∷ [])), after_these false j lent rs)

-- ---- at most so many

-- a turn expands no more than the nodes
pub turn-most : (j : Job) (earlier : List Record) (r : Record) → turn_expanded j earlier r ≤ nodes j
unfolding turn_expanded expanded_by
turn-most j earlier r =
    let tree : List ℕ = own_tree j r.net r.iteration earlier in
    let price : (ℕ → ℕ) = price_read j r.net r.iteration earlier in
    let marks : List ℕ = marks_of j tree in
    let sinks : List ℕ = turn_sinks j r.net tree in
    let weight : (ℕ → ℕ) = weight_at j.block (turn_weighting j r.net tree) in
    by_test (eqb (nearest_distance j.block price marks sinks) far)
    (λ q. rw q zero-le)
    (λ q. rw q (count_most_lem (expands j.block price weight marks sinks) (nodes j)))

module _ (j : Job) (few : nodes j ≤ nodes_most) where
  turns-most : (lent rs : List Record) → expanded_in j lent rs ≤ nodes_most * length rs
  unfolding expanded_in
  turns-most lent [] = zero-le
  turns-most lent (r ∷ rs) =
      let here = turn-most j lent r in
      let rest = turns-most (lent ++ (r ∷ [])) rs in
      omega arith

  pub after-most : (aimed : Bool) (lent rs : List Record) → expanded_after aimed j lent (lent ++ rs) ≤ nodes_most * length rs
  after-most true lent rs = rw (after_these true j lent rs) (turns-most lent rs)
  after-most false lent rs = rw (after_these false j lent rs) zero-le

-- ---- the machine's turns

-- a turn of net i, after its own records e and those before them in a run
module _ (j : Job) (sound : Routable j) {k : ℕ} {rs : List Record} {s : State} (r : Ran j k rs s) (hk : k < j.terms.limit)
    {i : ℕ} {p : Progress} (n : NetsRan j s i p) (hi : i < nets j) where
  count-here :
      (e rest : List Record) (t : Record) → net_records j p.state i ≡ e ++ (t ∷ rest)
      → turn_expanded j ((rs ++ p.records) ++ e) t
      ≡ expanded j.block (turn_price j p.state i (tree_from j i e)) (weight_at j.block (turn_weighting j i (tree_from j i e))) (marks_of j (tree_from j i e))
      (turn_sinks j i (tree_from j i e))
  unfolding turn_expanded
  count-here e rest t is =
      let own : All (Of i (k + 1)) e = own-all j sound r hk n hi e (t ∷ rest) is in
      let turn : NetTurn j p.state i e t = net-turn j sound p.state (ran-ready j sound r n hk) i hi e rest t is in
      let at : t.iteration ≡ k + 1 = turn.iteration-is ∙ nets-iteration j n ∙ ran-iteration j r in
      let tree : List ℕ = tree_from j i e in
      rw (turn.net-is, at, ← own_same j sound r hk n hi e own)
      (sym (expanded-same j.block (marks_of j tree) (turn_sinks j i tree) (turn_price j p.state i tree) (price_read j i (k + 1) ((rs ++ p.records) ++ e))
      (weight_at j.block (turn_weighting j i tree)) (price-same j sound r hk n hi e own)))

-- what is read off the log before a turn is what the turn expands: of net i of the iteration after m whole ones more, where these are its records so far
pub turn_count_lem :
    (j : Job) → Routable j → Reached j → {k : ℕ} (p : Progress) → Ran j k p.records p.state → (m : ℕ) → k + m < j.terms.limit
    → (i : ℕ) → i < nets j → (made rest : List Record) (r : Record) → net_records j (reached j p m i).state i ≡ made ++ (r ∷ rest)
    → turn_expanded j ((reached j p m i).records ++ made) r
    ≡ expanded j.block (price_at j.block (turn_congestion j (congestion_for j (reached j p m i).state i) i (tree_from j i made)))
    (weight_at j.block (turn_weighting j i (tree_from j i made))) (marks_of j (tree_from j i made)) (turn_sinks j i (tree_from j i made))
turn_count_lem j sound all {k} p ran m h i hi made rest r is =
    let there : Ran j (k + m) (p.records ++ records_after j p.state m) (state_after j p.state m) = machine_ran j sound all ran m (omega arith) in
    count-here j sound there h (machine_nets j sound all there h i (omega arith)) hi made rest r is

-- ---- how many records

-- a net's sinks stand between its first place and the next net's
sinks_between_lem : (j : Job) → Routable j → (i : ℕ) → i < nets j → length (net_sinks j i) ≡ get_or j.first_sinks (i + 1) 0 - get_or j.first_sinks i 0
unfolding net_sinks
sinks_between_lem j sound i h =
    length-slice (get_or j.first_sinks i 0) (get_or j.first_sinks (i + 1) 0) j.sinks (sound.sinks-end (i + 1) (omega arith))

-- the first i nets of an iteration make no more records than they have sinks
nets_most_lem : (j : Job) → Routable j → (s : State) (i : ℕ) → i ≤ nets j → length (after_nets j s i).records ≤ get_or j.first_sinks i 0
unfolding after_nets
nets_most_lem j sound s zero h = zero-le
nets_most_lem j sound s (suc i) h =
    let before : length (after_nets j s i).records ≤ get_or j.first_sinks i 0 = nets_most_lem j sound s i (omega arith) in
    let next : suc i ≡ i + 1 = omega arith in
    let rise : get_or j.first_sinks i 0 ≤ get_or j.first_sinks (i + 1) 0 = sound.sinks-order i h in
    rw next
    (route_if_lem (λ q. length q.records ≤ get_or j.first_sinks (i + 1) 0) (due j s i) j i (after_nets j s i)
    (let own = net-few j (after_nets j s i).state i in
    let sinks = sinks_between_lem j sound i h in
    let both = length-append (after_nets j s i).records (net_records j (after_nets j s i).state i) in
    omega arith)
    (omega arith))

-- so do a net's own
pub net-most :
    (j : Job) → Routable j → (s : State) (i : ℕ) → i < nets j → (made rest : List Record) → net_records j (after_nets j s i).state i ≡ made ++ rest
    → length ((after_nets j s i).records ++ made) ≤ sinks_most
net-most j sound s i h made rest is =
    let before = nets_most_lem j sound s i (omega arith) in
    let own = net-few j (after_nets j s i).state i in
    let long : length (net_records j (after_nets j s i).state i) ≡ length made + length rest = ap length is ∙ length-append made rest in
    let sinks = sinks_between_lem j sound i h in
    let rise = sound.sinks-order i h in
    let end = sound.sinks-end (i + 1) (omega arith) in
    let few = sound.sinks-few in
    let both = length-append (after_nets j s i).records made in
    omega arith

-- m whole iterations make at most so many
pub records-most : (j : Job) → Routable j → (s : State) (m : ℕ) → length (records_after j s m) ≤ m * sinks_most
unfolding records_after iterate
records-most j sound s zero = zero-le
records-most j sound s (suc m) =
    let before = records-most j sound s m in
    let here = nets_most_lem j sound (state_after j s m) (nets j) (omega arith) in
    let end = sound.sinks-end (nets j) (omega arith) in
    let few = sound.sinks-few in
    let both = length-append (records_after j s m) (after_nets j (state_after j s m) (nets j)).records in
    omega arith

-- with the turns of a net of the next
pub run_most :
    (j : Job) → Routable j → (s : State) (m i : ℕ) → i < nets j → (made rest : List Record) → net_records j (after_nets j (state_after j s m) i).state i ≡ made ++ rest
    → length (records_after j s m ++ ((after_nets j (state_after j s m) i).records ++ made)) ≤ (m + 1) * sinks_most
run_most j sound s m i h made rest is =
    let before = records-most j sound s m in
    let here = net-most j sound (state_after j s m) i h made rest is in
    let both = length-append (records_after j s m) ((after_nets j (state_after j s m) i).records ++ made) in
    omega arith

-- ---- a call that goes on from a progress

-- its records before a turn are the lent ones and its own
run_records :
    (j : Job) (p : Progress) (m i : ℕ) (made : List Record)
    → (reached j p m i).records ++ made ≡ p.records ++ (records_after j p.state m ++ ((after_nets j (state_after j p.state m) i).records ++ made))
run_records j p m i made = simp append_assoc

-- with each turn its count grows by what the turn expands
pub run_more :
    (aimed : Bool) (j : Job) → Routable j → Reached j → {k : ℕ} (p : Progress) → Ran j k p.records p.state → (m : ℕ) → k + m < j.terms.limit
    → (i : ℕ) → i < nets j → (made rest : List Record) (r : Record) → net_records j (reached j p m i).state i ≡ made ++ (r ∷ rest)
    → expanded_after aimed j p.records (((reached j p m i).records ++ made) ++ (r ∷ []))
    ≡ expanded_after aimed j p.records ((reached j p m i).records ++ made)
    + turn_count aimed j.block (turn_congestion j (congestion_for j (reached j p m i).state i) i (tree_from j i made)) (marks_of j (tree_from j i made))
    (turn_sinks j i (tree_from j i made))
unfolding turn_congestion
run_more aimed j sound all p ran m h i hi made rest r is =
    let own : List Record = records_after j p.state m ++ ((after_nets j (state_after j p.state m) i).records ++ made) in
    let more : (reached j p m i).records ++ made ≡ p.records ++ own = run_records j p m i made in
    let count = turn_count_lem j sound all p ran m h i hi made rest r is in
    ap (λ (l : List Record). expanded_after aimed j p.records (l ++ (r ∷ []))) more
    ∙ ap (expanded_after aimed j p.records) (append_assoc p.records own (r ∷ []))
    ∙ after_more aimed j p.records own r
    ∙ rw (← more, count)

-- and it fits 64 bits, with a turn more
pub run_fits :
    (aimed : Bool) (j : Job) → Routable j → (p : Progress) (m : ℕ) → m < limit_most → (i : ℕ) → i < nets j → (made rest : List Record)
    → net_records j (reached j p m i).state i ≡ made ++ rest → expanded_after aimed j p.records ((reached j p m i).records ++ made) + nodes j < 2 ^ 64
run_fits aimed j sound p m h i hi made rest is =
    let few : nodes j ≤ nodes_most = (graph_of_lem j.block sound.block-sound).few in
    let own : List Record = records_after j p.state m ++ ((after_nets j (state_after j p.state m) i).records ++ made) in
    let count : expanded_after aimed j p.records (p.records ++ own) ≤ nodes_most * length own = after-most j few aimed p.records own in
    let long : length own ≤ (m + 1) * sinks_most = run_most j sound p.state m i hi made rest is in
    rw (run_records j p m i made) (omega arith)
