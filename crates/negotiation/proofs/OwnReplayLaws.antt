-- A log whose turns follow, one after the other, and cost no more than the least, is taken up: the other way round of ReplayLaws.
-- Assumes nothing.
use mathlib.Core.Bool.{Bool, true, false}
use mathlib.Core.List.{List, [], ◌∷◌, ◌++◌, append-nil, append_assoc}
use mathlib.Core.Path.{◌≡◌, ◌∙◌, ap, subst}
use Prim.Native.Nat.{ℕ, zero, suc, ◌+◌, ◌-◌, ◌≤◌, ◌<◌, zero-le, suc-le-suc}
use native.Mathlib.Nat.{not-suc-le-zero, le_of_suc-le-suc, le_refl}
use native.Mathlib.Omega.{arith}
use lib.Dec.{eqb, leb, ltb}
use lib.ListN.{length, take, length-append}
use lib.Seq.{take-append_seam, drop-append_seam, append_snoc}
use borrow.Author.Tests.{le-leb, lt-leb, le-ltb}
use Rattle.price.specs.Test.{both, either}
use Rattle.price.proofs.TestLaws.{by_test, both_false_right}
use Rattle.search.specs.Paths.{path_cost}
use Rattle.search.specs.Turn.{Congestion, Turn, joins, stuck}
use Rattle.job.specs.Job.{Job, nets, source, net_sinks}
use Rattle.negotiation.specs.Records.{Record, words, encode}
use Rattle.negotiation.specs.Machine.{State, Progress, congestion_for, turn_of, log_turn, turns_of, net_records, tree_from, with_net, due, route_if, after_nets, iterate, over_count, state_after, iteration_after, records_after, settles_at}
use Rattle.negotiation.specs.Resume.{record_path, record_in, turn_price, turn_follows, all_joined, least_cost, on, after, at_end, replay_turns, replay_nets, replay_from}
use Rattle.negotiation.proofs.RecordLaws.{words-length, encode-append, records-few}
use Rattle.negotiation.proofs.EndLaws.{records-more}

-- ---- the turns of one net

-- the turns of a net that are left follow one after the other, and then its sinks are joined
pub data Follow (j : Job) (s : State) (i : ℕ) : List Record → List Record → Type 0 where
  done : {made : List Record} → all_joined j i made ≡ true → Follow j s i made []
  more : {made rest : List Record} {r : Record} → all_joined j i made ≡ false → r.cost ≡ path_cost (turn_price j s i (tree_from j i made)) r.path
      → ((ws : List ℕ) → turn_follows j s i (tree_from j i made) (words r ++ ws) ≡ true) → r.cost ≤ least_cost j s i (tree_from j i made)
      → Follow j s i (made ++ (r ∷ [])) rest → Follow j s i made (r ∷ rest)

-- the record that stands there is read
pub record_there : (price : ℕ → ℕ) (r : Record) (ws : List ℕ) → r.cost ≡ path_cost price r.path → record_in price (words r ++ ws) ≡ r
unfolding words
record_there price r ws e =
    let path : take (length r.path) (r.path ++ ws) ≡ r.path = take-append_seam r.path ws in
    rw (path, ← e)

-- the words after some records of a log that goes on with others
pub after_these : (rs ss : List Record) (ws : List ℕ) → after (encode (rs ++ ss) ++ ws) rs ≡ encode ss ++ ws
after_these rs ss ws =
    rw (encode-append rs ss, append_assoc (encode rs) (encode ss) ws) (drop-append_seam (encode rs) (encode ss ++ ws))

-- and there are some
pub words_left : (rs rest : List Record) (r : Record) (ws later : List ℕ) → ws ≡ encode (rs ++ (r ∷ rest)) ++ later → at_end ws rs ≡ false
unfolding encode
words_left rs rest r ws later e =
    let six = words-length r in
    let long : length ws ≡ length (encode rs) + (length (words r) + length (encode rest)) + length later =
    ap length e
    ∙ rw (
      encode-append rs (r ∷ rest),
      length-append (encode rs ++ (words r ++ encode rest)) later,
      length-append (encode rs) (words r ++ encode rest),
      length-append (words r) (encode rest),
    ) in
    lt-leb (length ws) (length (encode rs)) (omega arith)

-- the cost that is named there is the record's
pub cheap_there :
    (audit : Bool) (price : ℕ → ℕ) (r : Record) (ws : List ℕ) (least : ℕ) → r.cost ≡ path_cost price r.path → r.cost ≤ least
    → both audit (ltb least (path_cost price (record_path (words r ++ ws)))) ≡ false
cheap_there audit price r ws least e h =
    let same : path_cost price (record_path (words r ++ ws)) ≡ r.cost = ap (λ (x : Record). x.cost) (record_there price r ws e) in
    both_false_right audit (ltb least (path_cost price (record_path (words r ++ ws)))) (ap (ltb least) same ∙ le-ltb least r.cost h)

module _ (audit : Bool) (j : Job) (ws later : List ℕ) (i : ℕ) (p : Progress) where
  -- a turn that follows and is there
  pub own_turn :
      (made rest : List Record) (r : Record) → all_joined j i made ≡ false → r.cost ≡ path_cost (turn_price j p.state i (tree_from j i made)) r.path
      → ((ws : List ℕ) → turn_follows j p.state i (tree_from j i made) (words r ++ ws) ≡ true) → r.cost ≤ least_cost j p.state i (tree_from j i made)
      → (k : ℕ) → ws ≡ encode ((p.records ++ made) ++ (r ∷ rest)) ++ later
      → replay_turns audit j ws i p (suc k) made ≡ replay_turns audit j ws i p k (made ++ (r ∷ []))
  unfolding replay_turns encode
  own_turn made rest r t c f l k e =
      let there : after ws (p.records ++ made) ≡ words r ++ (encode rest ++ later) =
      ap (λ (l : List ℕ). after l (p.records ++ made)) e
      ∙ after_these (p.records ++ made) (r ∷ rest) later
      ∙ append_assoc (words r) (encode rest) later in
      let price : (ℕ → ℕ) = turn_price j p.state i (tree_from j i made) in
      let left : both audit (at_end ws (p.records ++ made)) ≡ false =
      both_false_right audit (at_end ws (p.records ++ made)) (words_left (p.records ++ made) rest r ws later e) in
      rw (
        t,
        left,
        there,
        f (encode rest ++ later),
        cheap_there audit price r (encode rest ++ later) (least_cost j p.state i (tree_from j i made)) c l,
        record_there price r (encode rest ++ later) c,
      )

  -- the rest of the words, after it
  pub one_more : (made rest : List Record) (r : Record) → ws ≡ encode ((p.records ++ made) ++ (r ∷ rest)) ++ later → ws ≡ encode ((p.records ++ (made ++ (r ∷ []))) ++ rest) ++ later
  one_more made rest r e = e ∙ rw (← append_assoc p.records made (r ∷ []), append_snoc (p.records ++ made) r rest)

  own-turns :
      {made rest : List Record} → Follow j p.state i made rest → (k : ℕ) → length rest ≤ k → ws ≡ encode ((p.records ++ made) ++ rest) ++ later
      → replay_turns audit j ws i p k made ≡ on (with_net j i p (made ++ rest))
  unfolding replay_turns
  own-turns (done {made} t) zero h e = rw (t, append-nil made)
  own-turns (done {made} t) (suc k) h e = rw (t, append-nil made)
  own-turns (more t c f l g) zero h e = absurd (not-suc-le-zero h)
  own-turns (more {made} {rest} {r} t c f l g) (suc k) h e =
      own_turn made rest r t c f l k e ∙ own-turns g k (le_of_suc-le-suc h) (one_more made rest r e) ∙ ap (λ (l : List Record). on (with_net j i p l)) (append_snoc made r rest)

-- ---- the nets of an iteration

-- a turn and the rest
few-more :
    (j : Job) (t : ℕ) (c : Congestion) (i k : ℕ) (tree : List ℕ) (u : Turn) → ((l : List ℕ) → length (turns_of j t c i k l) ≤ k)
    → length (log_turn j t i tree u (turns_of j t c i k)) ≤ suc k
few-more j t c i k tree (joins place cost path) rest = suc-le-suc (rest (tree ++ path))
few-more j t c i k tree stuck rest = zero-le

turns-few : (j : Job) (t : ℕ) (c : Congestion) (i k : ℕ) (tree : List ℕ) → length (turns_of j t c i k tree) ≤ k
unfolding turns_of
turns-few j t c i zero tree = le_refl 0
turns-few j t c i (suc k) tree = few-more j t c i k tree (turn_of j c i tree) (turns-few j t c i k)

pub net-few : (j : Job) (s : State) (i : ℕ) → length (net_records j s i) ≤ length (net_sinks j i)
unfolding net_records
net-few j s i = turns-few j s.iteration (congestion_for j s i) i (length (net_sinks j i)) (source j i ∷ [])

-- the progress of an iteration, after these records
abbrev pub after_these_lem : List Record → Progress → Progress
after_these_lem rs p = record { records = rs ++ p.records; state = p.state }

-- each due net's turns follow
abbrev pub NetsFollow : Job → State → Type 0
NetsFollow j s = (k : ℕ) → k < nets j → due j s k ≡ true → Follow j (after_nets j s k).state k [] (net_records j (after_nets j s k).state k)

module _ (audit : Bool) (j : Job) (ws : List ℕ) (s : State) (rs : List Record) (follow : NetsFollow j s) where
  pub own-nets :
      (i : ℕ) → i ≤ nets j → (later : List ℕ) → ws ≡ encode (rs ++ (after_nets j s i).records) ++ later
      → replay_nets audit j ws s rs i ≡ on (after_these_lem rs (after_nets j s i))
  unfolding replay_nets after_nets
  own-nets zero h later e = rw (append-nil rs)
  own-nets (suc i) h later e =
      by_test (due j s i)
      (λ d.
      let p : Progress = after_nets j s i in
      let own : List Record = net_records j p.state i in
      let q : Progress = after_these_lem rs p in
      let words_are : ws ≡ encode (rs ++ (p.records ++ own)) ++ later = subst (λ (b : Bool). ws ≡ encode (rs ++ (route_if b j i p).records) ++ later) d e in
      let split : ws ≡ encode (rs ++ p.records) ++ (encode own ++ later) =
      words_are ∙ rw (← append_assoc rs p.records own, encode-append (rs ++ p.records) own) (append_assoc (encode (rs ++ p.records)) (encode own) later) in
      let before : replay_nets audit j ws s rs i ≡ on q = own-nets i (omega arith) (encode own ++ later) split in
      let turns : replay_turns audit j ws i q (length (net_sinks j i)) [] ≡ on (with_net j i q own) =
      own-turns audit j ws later i q (follow i h d) (length (net_sinks j i)) (net-few j p.state i)
      (words_are ∙ rw (append-nil (rs ++ p.records), ← append_assoc rs p.records own)) in
      rw (before, d, turns, append_assoc rs p.records own))
      (λ d.
      let same : ws ≡ encode (rs ++ (after_nets j s i).records) ++ later =
      subst (λ (b : Bool). ws ≡ encode (rs ++ (route_if b j i (after_nets j s i)).records) ++ later) d e in
      rw (own-nets i (omega arith) later same, d))

-- ---- iterations

-- the iteration after k whole ones is read
pub iteration-on :
    (audit : Bool) (j : Job) (ws : List ℕ) (s : State) (k : ℕ) → NetsFollow j (state_after j s k) → (later : List ℕ) → ws ≡ encode (records_after j s (suc k)) ++ later
    → replay_nets audit j ws (state_after j s k) (records_after j s k) (nets j) ≡ on (after_these_lem (records_after j s k) (iteration_after j s k))
unfolding iterate records_after
iteration-on audit j ws s k follow later e = own-nets audit j ws (state_after j s k) (records_after j s k) follow (nets j) (le_refl (nets j)) later e

-- n iterations from s are one or more, their turns follow, each leaves a node overfull below the limit, and each has a turn
pub record OwnRun (j : Job) (s : State) (n : ℕ) : Type 0 where
  pub follow : (k : ℕ) → k < n → NetsFollow j (state_after j s k)
  pub unsettled : (k : ℕ) → k < n → settles_at j s k ≡ false
  pub below : (k : ℕ) → k < n → (iteration_after j s k).state.iteration < j.terms.limit
  pub some : (k : ℕ) → k < n → 1 ≤ length (iteration_after j s k).records

module _ (j : Job) (ws : List ℕ) (s : State) (n : ℕ) (own : OwnRun j s n) (words_are : ws ≡ encode (records_after j s n)) where
  -- the words begin with the records of fewer iterations
  split_after : (k : ℕ) → k ≤ n → (later : List Record) × (ws ≡ encode (records_after j s k) ++ encode later)
  split_after k h =
      let more = records-more j s n k h in
      (more.0, words_are ∙ ap encode more.1 ∙ encode-append (records_after j s k) more.0)

  -- where there is an iteration more, so are words
  words_more : (k : ℕ) → suc k ≤ n → length (encode (records_after j s k)) < length ws
  unfolding records_after
  words_more k h =
      let split = split_after (suc k) h in
      let rs : List Record = records_after j s k in
      let here : List Record = (iteration_after j s k).records in
      let long : length ws ≡ length (encode rs) + length (encode here) + length (encode split.0) =
      ap length split.1 ∙ rw (encode-append rs here, length-append (encode rs ++ encode here) (encode split.0), length-append (encode rs) (encode here)) in
      let few = records-few here in
      let one = own.some k h in
      omega arith

  -- after an iteration there is an overfull node, and the limit is not reached
  goes_on :
      (k : ℕ) → k < n
      → either (eqb (over_count j (iteration_after j s k).state.trees) 0) (leb j.terms.limit (iteration_after j s k).state.iteration) ≡ false
  unfolding settles_at
  goes_on k h = rw (own.unsettled k h) (lt-leb j.terms.limit (iteration_after j s k).state.iteration (own.below k h))

  iteration_read :
      (k : ℕ) → k < n → replay_nets false j ws (state_after j s k) (records_after j s k) (nets j) ≡ on (after_these_lem (records_after j s k) (iteration_after j s k))
  iteration_read k h =
      let split = split_after (suc k) h in
      iteration-on false j ws s k (own.follow k h) (encode split.0) split.1

  -- so are m more, and one, which end the words
  own_from :
      (m k a : ℕ) → suc (m + k) ≡ n → m < a
      → replay_from false j ws a (state_after j s k) (records_after j s k) ≡ on (record { records = records_after j s n; state = state_after j s n })
  unfolding replay_from records_after state_after
  own_from m k zero e h = absurd (not-suc-le-zero h)
  own_from zero k (suc a) e h =
      let last : n ≡ suc k = omega arith in
      let ends : leb (length ws) (length (encode (records_after j s (suc k)))) ≡ true =
      le-leb (length ws) (length (encode (records_after j s (suc k)))) (rw (words_are, last) (le_refl (length (encode (records_after j s (suc k)))))) in
      rw (iteration_read k (omega arith), goes_on k (omega arith), ends, last)
  own_from (suc m) k (suc a) e h =
      let more : leb (length ws) (length (encode (records_after j s (suc k)))) ≡ false =
      lt-leb (length ws) (length (encode (records_after j s (suc k)))) (words_more (suc k) (omega arith)) in
      rw (iteration_read k (omega arith), goes_on k (omega arith), more) (own_from m (suc k) a (omega arith) (le_of_suc-le-suc h))

  -- the run is taken up, with its records and its state
  pub own_run : (most : ℕ) → 1 ≤ n → n ≤ most → replay_from false j ws most s [] ≡ on (record { records = records_after j s n; state = state_after j s n })
  unfolding records_after state_after
  own_run most some few = own_from (n - 1) 0 most (omega arith) (omega arith)
