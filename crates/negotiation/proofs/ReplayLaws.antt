-- What a replay comes to. A lent log that is taken up is a run: its records lead to the state that is rebuilt, its words are theirs, it has fewer iterations
-- than the limit allows, and each of its turns has what the test of a record says. An audit's turns have it too, and are no dearer than the least, up to where it ends or finds one that is dearer.
-- Assumes nothing.
use mathlib.Core.Bool.{Bool, true, false}
use mathlib.Core.List.{List, [], ◌∷◌, ◌++◌, append-nil, append_assoc}
use mathlib.Core.Logic.{◌⊎◌, ⊎_elim, inl, inr}
use mathlib.Core.Path.{◌≡◌, refl, sym, ◌∙◌, ap, subst}
use Prim.Native.Nat.{ℕ, zero, suc, ◌+◌, ◌≤◌, ◌<◌}
use native.Mathlib.Nat.{le_refl}
use native.Mathlib.Omega.{arith}
use lib.Dec.{eqb, leb, ltb}
use lib.ListN.{length, get_or, take, drop, length-append}
use lib.Seq.{length-take-le, take_all, take-add}
use borrow.Author.Tests.{eqb-false, leb-true, leb-false, ltb-true, ltb-false}
use Rattle.price.specs.Test.{choose, both, either}
use Rattle.price.specs.Lists.{has, distinct}
use Rattle.price.proofs.TestLaws.{by_test, true≢false, both_right}
use Rattle.price.proofs.ListLaws.{has-at, has_append_left, has_append_right}
use Rattle.search.proofs.DistinctLaws.{has_first, has_rest, has_cons, lacks, distinct_rest}
use Rattle.search.specs.Paths.{path_cost}
use Rattle.job.specs.Job.{Job, nets, source, net_sinks}
use Rattle.negotiation.specs.Records.{Record, words, encode, path_nodes}
use Rattle.negotiation.specs.Machine.{State, Progress, tree_from, with_net, due, over_count, move_on, first_state}
use Rattle.negotiation.specs.Resume.{record_in, whole_record, cost_follows, turn_price, turn_follows, all_joined, least_cost, Replay, on, off, ends, not_cheapest, if_on, since_start, after, at_end, replay_turns, replay_nets, replay_next, replay_from, replay_by, replay}
use Rattle.negotiation.specs.Runs.{All, Of, step_ends, branch_ends, Owns, NetsRan, none, kept, routed, Ran, start, next}
use Rattle.negotiation.proofs.DueLaws.{due_some}
use Rattle.negotiation.proofs.RecordLaws.{encode-append, path_nodes-append}
use Rattle.negotiation.proofs.NetLaws.{no_split}
use Rattle.negotiation.proofs.MemberLaws.{every-has, has-append_split, no_entry, none_has, distinct_append}
use Rattle.negotiation.proofs.FilterLaws.{all_append}
use Rattle.negotiation.proofs.RanLaws.{nets-iteration, ran-iteration}
use Rattle.negotiation.proofs.DemandLaws.{split-append}
use Rattle.negotiation.proofs.FollowLaws.{PathHolds, first_there, Follows, follows_of, whole_long, words-there}

-- ---- tests

off-on : {w : ℕ} {p : Progress} → off w ≡ on p → ⊥
off-on e = let z : ◌≡◌ {A = ℕ} 0 1 = cc in omega arith

either_first : (a b : Bool) → either a b ≡ false → a ≡ false
either_first true b e = absurd (true≢false e)
either_first false b e = refl

pub either_no : (a b : Bool) → either a b ≡ false → b ≡ false
either_no true b e = absurd (true≢false e)
either_no false b e = e

-- where an audit's question is answered by no
asked_no : (audit b : Bool) → both audit b ≡ false → audit ≡ true → b ≡ false
asked_no true b e h = e
asked_no false b e h = absurd (true≢false (sym h))

-- ---- the records are the beginning of the words

abbrev pub Begins : List ℕ → List Record → Type 0
Begins ws rs = take (length (encode rs)) ws ≡ encode rs

begins-none : (ws : List ℕ) → Begins ws []
unfolding encode
begins-none ws = refl

pub encode_one : (r : Record) → encode (r ∷ []) ≡ words r
unfolding encode
encode_one r = append-nil (words r)

-- one record more
pub begins-more :
    (ws : List ℕ) (rs : List Record) (price : ℕ → ℕ) → Begins ws rs → whole_record (after ws rs) ≡ true → cost_follows price (after ws rs) ≡ true
    → Begins ws (rs ++ (record_in price (after ws rs) ∷ []))
begins-more ws rs price b w c =
    let r : Record = record_in price (after ws rs) in
    let n : ℕ = 6 + get_or (after ws rs) 5 0 in
    let there : words r ≡ take n (after ws rs) = words-there price (after ws rs) w c in
    let long : length (words r) ≡ n = ap length there ∙ length-take-le n (after ws rs) (whole_long (after ws rs) w) in
    let same : take (length (words r)) (after ws rs) ≡ words r = rw long (sym there) in
    rw (
      encode-append rs (r ∷ []),
      encode_one r,
      length-append (encode rs) (words r),
      take-add (length (encode rs)) (length (words r)) ws,
      b,
      same,
    )

-- ---- every turn, beside the records before it

-- every turn of the records has the property
abbrev pub EachTurn : (List Record → Record → Type 0) → List Record → Type 0
EachTurn P rs = (earlier later : List Record) (t : Record) → rs ≡ earlier ++ (t ∷ later) → P earlier t

each_none : (P : List Record → Record → Type 0) → EachTurn P []
each_none P earlier later t e = absurd (no_split earlier later t e)

-- a turn more
each_more : (P : List Record → Record → Type 0) (rs : List Record) (r : Record) → EachTurn P rs → P rs r → EachTurn P (rs ++ (r ∷ []))
each_more P rs r each here earlier later t e =
    ⊎_elim
    (λ q. each earlier q.0 t q.1)
    (λ q. last_turn q.0 q.1 q.2)
    (split-append rs (r ∷ []) earlier later t e)
  where
    last_turn : (front : List Record) → r ∷ [] ≡ front ++ (t ∷ later) → earlier ≡ rs ++ front → P earlier t
    last_turn [] is before =
        let same : r ≡ t = cc in
        subst (λ (x : Record). P earlier x) same (subst (λ (l : List Record). P l r) (sym (before ∙ append-nil rs)) here)
    last_turn (x ∷ xs) is before = absurd (no_split xs later t (let tail : [] ≡ xs ++ (t ∷ later) = cc in tail))

-- what is known of a turn that follows: P where, in an audit, it costs no more than the least; D where it costs more
abbrev pub Judged : Bool → (List Record → Record → Type 0) → (List Record → Record → ℕ → Type 0) → ℕ → List Record → Record → Type 0
Judged audit P D least earlier t = ((audit ≡ true → t.cost ≤ least) → P earlier t) × (least < t.cost → D earlier t least)

-- no turn is called dear where a log is taken up
abbrev pub NoneDear : List Record → Record → ℕ → Type 0
NoneDear earlier t least = Unit {0}

-- what these properties ask of a turn that follows, of net i after its own turns and all before them
abbrev pub LentStep : Bool → Job → (List Record → Record → Type 0) → (List Record → Record → ℕ → Type 0) → Type 0
LentStep audit j P D =
    (m i : ℕ) (rs : List Record) (s : State) (p : Progress) → Ran j m rs s → m < j.terms.limit → NetsRan j s i p → i < nets j
    → (made : List Record) → All (Of i (m + 1)) made → (t : Record) → Of i (m + 1) t → PathHolds j i (tree_from j i made) t.sink t.path
    → t.cost ≡ path_cost (turn_price j p.state i (tree_from j i made)) t.path
    → Judged audit P D (least_cost j p.state i (tree_from j i made)) ((rs ++ p.records) ++ made) t

-- the same of one net, from this progress
abbrev NetStep : Bool → Job → (List Record → Record → Type 0) → (List Record → Record → ℕ → Type 0) → ℕ → Progress → Type 0
NetStep audit j P D i p =
    (made : List Record) → All (Of i p.state.iteration) made → (t : Record) → Of i p.state.iteration t
    → PathHolds j i (tree_from j i made) t.sink t.path → t.cost ≡ path_cost (turn_price j p.state i (tree_from j i made)) t.path
    → Judged audit P D (least_cost j p.state i (tree_from j i made)) (p.records ++ made) t

-- ---- what an answer says

-- an audit's words end behind these records
pub record Ended (P : List Record → Record → Type 0) (ws : List ℕ) (rs : List Record) : Type 0 where
  pub begins : Begins ws rs
  pub all_read : length ws ≤ length (encode rs)
  pub each : EachTurn P rs

-- the next record follows these, and costs more than the least
pub record Dear (P : List Record → Record → Type 0) (D : List Record → Record → ℕ → Type 0) (ws : List ℕ) (rs : List Record) (cost least : ℕ) : Type 0 where
  pub turn : Record
  pub begins : Begins ws (rs ++ (turn ∷ []))
  pub each : EachTurn P rs
  pub cost_is_lem : turn.cost ≡ cost
  pub cheaper : least < cost
  pub dear : D rs turn least

module _ (P : List Record → Record → Type 0) (D : List Record → Record → ℕ → Type 0) (ws : List ℕ) where
  -- F is what holds where the records so far follow
  abbrev Came : (Progress → Type 0) → Replay → Type 0
  Came F (on q) = F q
  Came F (off word) = Unit {0}
  Came F (ends q) = Ended P ws q.records
  Came F (not_cheapest q cost least) = Dear P D ws q.records cost least

  came_as : (F G : Progress → Type 0) (a : Replay) → Came F a → ((q : Progress) → F q → G q) → Came G a
  came_as F G (on q) c f = f q c
  came_as F G (off word) c f = c
  came_as F G (ends q) c f = c
  came_as F G (not_cheapest q cost least) c f = c

  came_then : (F G : Progress → Type 0) (a : Replay) (f : Progress → Replay) → Came F a → ((q : Progress) → F q → Came G (f q)) → Came G (if_on a f)
  came_then F G (on q) f c g = g q c
  came_then F G (off word) f c g = c
  came_then F G (ends q) f c g = c
  came_then F G (not_cheapest q cost least) f c g = c

-- ---- the turns of one net

branch_ends-append : (rs ss : List Record) → branch_ends (rs ++ ss) ≡ branch_ends rs ++ branch_ends ss
unfolding branch_ends
branch_ends-append [] ss = refl
branch_ends-append (r ∷ rs) ss = rw (branch_ends-append rs ss) (sym (append_assoc (step_ends r) (branch_ends rs) (branch_ends ss)))

ends_on : (v : ℕ) (path : List ℕ) → has v (drop 1 path) ≡ true → has v path ≡ true
ends_on v [] h = h
ends_on v (x ∷ xs) h = has_rest v x xs h

-- a branch ends on its path
branch-on : (v : ℕ) (rs : List Record) → has v (branch_ends rs) ≡ true → has v (path_nodes rs) ≡ true
unfolding branch_ends path_nodes
branch-on v [] h = h
branch-on v (r ∷ rs) h =
    ⊎_elim
    (λ (q : has v (step_ends r) ≡ true). has_append_left v r.path (path_nodes rs) (ends_on v r.path q))
    (λ (q : has v (branch_ends rs) ≡ true). has_append_right v r.path (path_nodes rs) (branch-on v rs q))
    (has-append_split v (step_ends r) (branch_ends rs) h)

-- what the tree lacks is neither the source nor an end of a branch
no_branch : (j : Job) (i v : ℕ) (made : List Record) → has v (tree_from j i made) ≡ false → has v (source j i ∷ branch_ends made) ≡ false
no_branch j i v made out =
    lacks v (source j i ∷ branch_ends made)
    (λ h.
    ⊎_elim
    (λ (e : v ≡ source j i). true≢false (sym (has_first (source j i) (path_nodes made)) ∙ sym (ap (λ (x : ℕ). has x (tree_from j i made)) e) ∙ out))
    (λ (q : has v (branch_ends made) ≡ true). true≢false (sym (has_rest v (source j i) (path_nodes made) (branch-on v made q)) ∙ out))
    (has_cons v (source j i) (branch_ends made) h))

-- the turns so far: they name net and iteration, the source is on their first path, and they reach no node twice
pub record MadeSo (j : Job) (i t : ℕ) (made : List Record) : Type 0 where
  pub own : All (Of i t) made
  pub source-on : (made ≡ []) ⊎ (has (source j i) (path_nodes made) ≡ true)
  pub once : distinct (source j i ∷ branch_ends made) ≡ true

made_none : (j : Job) (i t : ℕ) → MadeSo j i t []
unfolding branch_ends distinct has
made_none j i t = record { own = tt; source-on = inl refl; once = refl }

-- a path more
module _ (j : Job) (i : ℕ) (made : List Record) (r : Record) (f : PathHolds j i (tree_from j i made) r.sink r.path) where
  pub source_more : (made ≡ []) ⊎ (has (source j i) (path_nodes made) ≡ true) → has (source j i) (path_nodes (made ++ (r ∷ []))) ≡ true
  unfolding path_nodes
  source_more before =
      let path = first_there j i (tree_from j i made) r.sink r.path f in
      rw (path_nodes-append made (r ∷ []))
      (⊎_elim
      (λ (e : made ≡ []).
      let tree : has path.0 (source j i ∷ []) ≡ true = subst (λ (l : List Record). has path.0 (tree_from j i l) ≡ true) e path.3 in
      let same : path.0 ≡ source j i = ⊎_elim (λ q. q) (λ q. absurd (no_entry path.0 q)) (has_cons path.0 (source j i) [] tree) in
      rw (e, path.2, same) (has_first (source j i) (path.1 ++ [])))
      (λ (h : has (source j i) (path_nodes made) ≡ true). has_append_left (source j i) (path_nodes made) (r.path ++ []) h)
      before)

  once_more : distinct (source j i ∷ branch_ends made) ≡ true → distinct (source j i ∷ branch_ends (made ++ (r ∷ []))) ≡ true
  unfolding branch_ends
  once_more before =
      let path = first_there j i (tree_from j i made) r.sink r.path f in
      let own : distinct (step_ends r) ≡ true =
      subst (λ (l : List ℕ). distinct (drop 1 l) ≡ true) (sym path.2) (distinct_rest path.0 path.1 (rw path.2 at f.once)) in
      rw (branch_ends-append made (r ∷ []), append-nil (step_ends r))
      (distinct_append (source j i ∷ branch_ends made) (step_ends r) before own
      (λ v h. no_branch j i v made (none_has (tree_from j i made) (step_ends r) f.new-nodes v h)))

made_more :
    (j : Job) (s : State) (i : ℕ) (made : List Record) (ws : List ℕ) (price : ℕ → ℕ) → MadeSo j i s.iteration made
    → Follows j s i (tree_from j i made) ws → MadeSo j i s.iteration (made ++ (record_in price ws ∷ []))
made_more j s i made ws price m f =
    let r : Record = record_in price ws in
    record {
      own = all_append (Of i s.iteration) made (r ∷ []) m.own (record { net-is = f.net-is; iteration-is = f.iteration-is }, tt);
      source-on = inr (source_more j i made r f.path m.source-on);
      once = once_more j i made r f.path m.once;
    }

-- what the turns of a net give where they follow
record NetFollowed (j : Job) (P : List Record → Record → Type 0) (ws : List ℕ) (i : ℕ) (p q : Progress) : Type 0 where
  rs : List Record
  is : q ≡ with_net j i p rs
  made : MadeSo j i p.state.iteration rs
  joined : all_joined j i rs ≡ true
  begins : Begins ws (p.records ++ rs)
  each : EachTurn P (p.records ++ rs)

module _ (audit : Bool) (j : Job) (P : List Record → Record → Type 0) (D : List Record → Record → ℕ → Type 0) (ws : List ℕ) (i : ℕ) (p : Progress)
    (step : NetStep audit j P D i p) where
  turns-came :
      (k : ℕ) (made : List Record) → MadeSo j i p.state.iteration made → Begins ws (p.records ++ made) → EachTurn P (p.records ++ made)
      → Came P D ws (NetFollowed j P ws i p) (replay_turns audit j ws i p k made)
  unfolding replay_turns
  turns-came zero made m b a =
      by_test (all_joined j i made)
      (λ t. rw t (record { rs = made; is = refl; made = m; joined = t; begins = b; each = a }))
      (λ t. rw t tt)
  turns-came (suc k) made m b a =
      let price : (ℕ → ℕ) = turn_price j p.state i (tree_from j i made) in
      let there : List ℕ = after ws (p.records ++ made) in
      let r : Record = record_in price there in
      let least : ℕ = least_cost j p.state i (tree_from j i made) in
      by_test (all_joined j i made)
      (λ t. rw t (record { rs = made; is = refl; made = m; joined = t; begins = b; each = a }))
      (λ t.
      by_test (both audit (at_end ws (p.records ++ made)))
      (λ u. rw (t, u) (record { begins = b; all_read = leb-true _ _ (both_right audit (at_end ws (p.records ++ made)) u); each = a }))
      (λ u.
      by_test (turn_follows j p.state i (tree_from j i made) there)
      (λ v.
      let f : Follows j p.state i (tree_from j i made) there = follows_of j p.state i (tree_from j i made) there v in
      let more : Begins ws ((p.records ++ made) ++ (r ∷ [])) = begins-more ws (p.records ++ made) price b f.is_whole f.cost in
      let judged : Judged audit P D least (p.records ++ made) r = step made m.own r (record { net-is = f.net-is; iteration-is = f.iteration-is }) f.path refl in
      by_test (both audit (ltb least r.cost))
      (λ w.
      let less : least < r.cost = ltb-true least r.cost (both_right audit (ltb least r.cost) w) in
      rw (t, u, v, w) (record { turn = r; begins = more; each = a; cost_is_lem = refl; cheaper = less; dear = judged.1 less }))
      (λ w.
      let here : P (p.records ++ made) r = judged.0 (λ h. ltb-false least r.cost (asked_no audit (ltb least r.cost) w h)) in
      rw (t, u, v, w)
      (turns-came k (made ++ (r ∷ [])) (made_more j p.state i made there price m f) (rw (← append_assoc p.records made (r ∷ [])) more)
      (rw (← append_assoc p.records made (r ∷ [])) (each_more P (p.records ++ made) r a here)))))
      (λ v. rw (t, u, v) tt)))

-- ---- the nets of an iteration

-- a sink that is joined and is not the source is on a path
pub joined-on :
    (j : Job) (i : ℕ) (rs : List Record) → has (source j i) (net_sinks j i) ≡ false → all_joined j i rs ≡ true
    → (x : ℕ) → has x (net_sinks j i) ≡ true → has x (path_nodes rs) ≡ true
unfolding all_joined
joined-on j i rs other all x listed =
    ⊎_elim
    (λ (e : x ≡ source j i). absurd (true≢false (sym listed ∙ ap (λ (v : ℕ). has v (net_sinks j i)) e ∙ other)))
    (λ q. q)
    (has_cons x (source j i) (path_nodes rs) (every-has (λ v. has v (tree_from j i rs)) (net_sinks j i) all x listed))

-- the turns of a due net that follow are its own: it has a sink, which is not its source
owns_of :
    (j : Job) (i t : ℕ) (rs : List Record) → 1 ≤ length (net_sinks j i) → has (source j i) (net_sinks j i) ≡ false → MadeSo j i t rs
    → all_joined j i rs ≡ true → Owns j i t rs
unfolding path_nodes
owns_of j i t rs some other m all =
    let x : ℕ = get_or (net_sinks j i) 0 0 in
    let on-path : has x (path_nodes rs) ≡ true = joined-on j i rs other all x (has-at (net_sinks j i) 0 some) in
    record {
      own = m.own;
      source-on =
          ⊎_elim
          (λ (e : rs ≡ []). absurd (no_entry x (subst (λ (l : List Record). has x (path_nodes l) ≡ true) e on-path)))
          (λ h. h)
          m.source-on;
      joined = joined-on j i rs other all;
      once = m.once;
    }

-- a net is routed, after these records
with_before :
    (j : Job) (i : ℕ) (rs : List Record) (n p : Progress) (ss : List Record) → p ≡ record { records = rs ++ n.records; state = n.state }
    → with_net j i p ss ≡ record { records = rs ++ (with_net j i n ss).records; state = (with_net j i n ss).state }
with_before j i rs n p ss e = ap (λ (x : Progress). with_net j i x ss) e ∙ rw (append_assoc rs n.records ss)

module _ (audit : Bool) (j : Job) (clean : (i : ℕ) → i < nets j → has (source j i) (net_sinks j i) ≡ false) (P : List Record → Record → Type 0)
    (D : List Record → Record → ℕ → Type 0) (step : LentStep audit j P D) (ws : List ℕ) where
  -- the first nets of the iteration from s, after these records
  record NetsFollowed (s : State) (rs : List Record) (i : ℕ) (q : Progress) : Type 0 where
    p : Progress
    ran : NetsRan j s i p
    is : q ≡ record { records = rs ++ p.records; state = p.state }
    begins : Begins ws q.records
    each : EachTurn P q.records

  -- the step of one net
  net_step :
      {m : ℕ} {s : State} {rs : List Record} → Ran j m rs s → m < j.terms.limit → (i : ℕ) (p : Progress) → i < nets j → NetsFollowed s rs i p → NetStep audit j P D i p
  net_step {m} {s} {rs} r low i p h n =
      let at : n.p.state.iteration ≡ m + 1 = nets-iteration j n.ran ∙ ran-iteration j r in
      subst (NetStep audit j P D i) (sym n.is)
      (λ made own t of path cost.
      step m i rs s n.p r low n.ran h made (subst (λ (k : ℕ). All (Of i k) made) at own) t (subst (λ (k : ℕ). Of i k t) at of) path cost)

  -- a net more, as its rule says
  net-more :
      {m : ℕ} (s : State) (rs : List Record) → Ran j m rs s → m < j.terms.limit → (i : ℕ) (p : Progress) → i < nets j → NetsFollowed s rs i p
      → Came P D ws (NetsFollowed s rs (suc i)) (choose (due j s i) (replay_turns audit j ws i p (length (net_sinks j i)) []) (on p))
  net-more s rs r low i p h n =
      by_test (due j s i)
      (λ d.
      let t : p.state.iteration ≡ s.iteration = ap (λ (x : Progress). x.state.iteration) n.is ∙ nets-iteration j n.ran in
      rw d
      (came_as P D ws (NetFollowed j P ws i p) (NetsFollowed s rs (suc i)) (replay_turns audit j ws i p (length (net_sinks j i)) [])
      (turns-came audit j P D ws i p (net_step r low i p h n) (length (net_sinks j i)) [] (made_none j i p.state.iteration)
      (rw (append-nil p.records) n.begins) (rw (append-nil p.records) n.each))
      (λ q f.
      record {
        p = with_net j i n.p f.rs;
        ran =
            routed n.ran d
            (owns_of j i s.iteration f.rs (due_some j s i d) (clean i h) (subst (λ (k : ℕ). MadeSo j i k f.rs) t f.made) f.joined);
        is = f.is ∙ with_before j i rs n.p p f.rs n.is;
        begins = rw f.is f.begins;
        each = rw f.is f.each;
      })))
      (λ d. rw d (record { p = n.p; ran = kept n.ran d; is = n.is; begins = n.begins; each = n.each }))

  nets-came :
      {m : ℕ} (s : State) (rs : List Record) → Ran j m rs s → m < j.terms.limit → Begins ws rs → EachTurn P rs → (i : ℕ) → i ≤ nets j
      → Came P D ws (NetsFollowed s rs i) (replay_nets audit j ws s rs i)
  unfolding replay_nets
  nets-came s rs r low b a zero h =
      record { p = record { records = []; state = s }; ran = none; is = rw (append-nil rs); begins = b; each = a }
  nets-came s rs r low b a (suc i) h =
      came_then P D ws (NetsFollowed s rs i) (NetsFollowed s rs (suc i)) (replay_nets audit j ws s rs i) (λ p. choose (due j s i) (replay_turns audit j ws i p (length (net_sinks j i)) []) (on p))
      (nets-came s rs r low b a i (omega arith)) (λ p n. net-more s rs r low i p h n)

  -- ---- iterations

  -- a log that is taken up, after m iterations of it
  pub record Followed (m : ℕ) (q : Progress) : Type 0 where
    pub whole : ℕ
    pub more : m < whole
    pub ran : Ran j whole q.records q.state
    pub begins : Begins ws q.records
    pub ends : length ws ≤ length (encode q.records)
    pub below : whole < j.terms.limit
    pub each : EachTurn P q.records

  -- where an audit ends: its state is that after so many whole iterations; one that leaves no node overfull is the last
  pub record Stands (q : Progress) : Type 0 where
    pub whole : ℕ
    pub made : List Record
    pub ran : Ran j whole made q.state
    pub last : 1 ≤ whole → over_count j q.state.trees ≡ 0 → q.records ≡ made

  abbrev pub LogCame : ℕ → Replay → Type 0
  LogCame m (on q) = Followed m q
  LogCame m (off word) = Unit {0}
  LogCame m (ends q) = Ended P ws q.records × Stands q
  LogCame m (not_cheapest q cost least) = Dear P D ws q.records cost least

  -- after fewer iterations
  log-fewer : (m : ℕ) (a : Replay) → LogCame (suc m) a → LogCame m a
  log-fewer m (on q) f =
      record { whole = f.whole; more = omega (arith, f.more); ran = f.ran; begins = f.begins; ends = f.ends; below = f.below; each = f.each }
  log-fewer m (off word) c = c
  log-fewer m (ends q) c = c
  log-fewer m (not_cheapest q cost least) c = c

  -- an iteration left a node overfull, or none is made
  abbrev Unsettled : ℕ → State → Type 0
  Unsettled m s = 1 ≤ m → over_count j s.trees ≡ 0 → ⊥

  -- an audit that ends inside an iteration
  since_came :
      {m : ℕ} {rs : List Record} {s : State} → Ran j m rs s → Unsettled m s → (a : Replay) (f : Progress → Replay) → Came P D ws (NetsFollowed s rs (nets j)) a
      → ((q : Progress) → NetsFollowed s rs (nets j) q → LogCame m (f q)) → LogCame m (if_on (since_start s a) f)
  since_came r left (on q) f c g = g q c
  since_came r left (off word) f c g = tt
  since_came {m} {rs} r left (ends q) f c g = (c, record { whole = m; made = rs; ran = r; last = λ some none. absurd (left some none) })
  since_came r left (not_cheapest q cost least) f c g = c

  -- an iteration more
  iteration-more :
      (m : ℕ) (rs : List Record) (s : State) (p : Progress) (next-ones : State → List Record → Replay) → Ran j m rs s → NetsFollowed s rs (nets j) p
      → ((rs : List Record) (s : State) → Ran j (suc m) rs s → Unsettled (suc m) s → Begins ws rs → EachTurn P rs → LogCame (suc m) (next-ones s rs))
      → LogCame m (replay_next audit j ws p next-ones)
  unfolding move_on
  iteration-more m rs s p next-ones r n again =
      let settles : Bool = eqb (over_count j p.state.trees) 0 in
      let full : Bool = leb j.terms.limit p.state.iteration in
      let ran : Ran j (suc m) p.records (move_on j p.state) =
      subst (λ (x : Progress). Ran j (suc m) x.records (move_on j x.state)) (sym n.is) (next r n.ran) in
      by_test (both audit (at_end ws p.records))
      (λ e.
      rw e (
        record { begins = n.begins; all_read = leb-true _ _ (both_right audit (at_end ws p.records) e); each = n.each },
        record { whole = suc m; made = p.records; ran = ran; last = λ some none. refl },
      ))
      (λ e.
      by_test (either settles full)
      (λ t. rw (e, t) tt)
      (λ t.
      let low : p.state.iteration < j.terms.limit = leb-false j.terms.limit p.state.iteration (either_no settles full t) in
      let left : over_count j p.state.trees ≡ 0 → ⊥ = eqb-false (over_count j p.state.trees) 0 (either_first settles full t) in
      let at : p.state.iteration ≡ m + 1 = ap (λ (x : Progress). x.state.iteration) n.is ∙ nets-iteration j n.ran ∙ ran-iteration j r in
      by_test (at_end ws p.records)
      (λ u.
      rw (e, t, u)
      (record {
        whole = suc m;
        more = omega arith;
        ran = ran;
        begins = n.begins;
        ends = leb-true (length ws) (length (encode p.records)) u;
        below = omega arith;
        each = n.each;
      }))
      (λ u.
      rw (e, t, u)
      (log-fewer m (next-ones (move_on j p.state) p.records) (again p.records (move_on j p.state) ran (λ some. left) n.begins n.each)))))

  from_came :
      (k m : ℕ) (rs : List Record) (s : State) → m + k ≤ j.terms.limit → Ran j m rs s → Unsettled m s → Begins ws rs → EachTurn P rs
      → LogCame m (replay_from audit j ws k s rs)
  unfolding replay_from
  from_came zero m rs s few r left b a = tt
  from_came (suc k) m rs s few r left b a =
      since_came r left (replay_nets audit j ws s rs (nets j)) (λ p. replay_next audit j ws p (replay_from audit j ws k))
      (nets-came s rs r (omega arith) b a (nets j) (le_refl (nets j)))
      (λ p n. iteration-more m rs s p (replay_from audit j ws k) r n (λ rs s r left b a. from_came k (suc m) rs s (omega arith) r left b a))

-- the whole log: more words are used than it has, or it comes to this
pub replayed :
    (audit : Bool) (j : Job) (clean : (i : ℕ) → i < nets j → has (source j i) (net_sinks j i) ≡ false) (P : List Record → Record → Type 0)
    (D : List Record → Record → ℕ → Type 0) (step : LentStep audit j P D) (used : ℕ) (log : List ℕ)
    → ((used ≤ length log) × LogCame audit j clean P D step (take used log) 0 (replay_by audit j used log)) ⊎ (replay_by audit j used log ≡ off (length log))
unfolding replay_by
replayed audit j clean P D step used log =
    by_test (ltb (length log) used)
    (λ t. inr (rw t))
    (λ t.
    inl (
      ltb-false (length log) used t,
      rw t
          (from_came audit j clean P D step (take used log) j.terms.limit 0 [] (first_state j) (omega arith) start (λ some none. omega (arith, some))
          (begins-none (take used log)) (each_none P)),
    ))

-- ---- a log that is taken up

-- whole iterations, one or more and fewer than the limit, of which the words used are the records' and nothing else
pub record TakenUp (j : Job) (used : ℕ) (log : List ℕ) (q : Progress) : Type 0 where
  pub whole : ℕ
  pub some : 1 ≤ whole
  pub below : whole < j.terms.limit
  pub ran : Ran j whole q.records q.state
  pub within : used ≤ length log
  pub words_are : take used log ≡ encode q.records

-- so it is, and each of its turns has what a turn that follows has
pub taken-each :
    (j : Job) → ((i : ℕ) → i < nets j → has (source j i) (net_sinks j i) ≡ false) → (P : List Record → Record → Type 0) → LentStep false j P NoneDear
    → (used : ℕ) (log : List ℕ) (q : Progress) → replay j used log ≡ on q → TakenUp j used log q × EachTurn P q.records
taken-each j clean P step used log q e =
    ⊎_elim
    (λ c.
    let ws : List ℕ = take used log in
    let f : Followed false j clean P NoneDear step ws 0 q = subst (LogCame false j clean P NoneDear step ws 0) e c.1 in (
      record {
        whole = f.whole;
        some = f.more;
        below = f.below;
        ran = f.ran;
        within = c.0;
        words_are = sym (take_all (length (encode q.records)) ws f.ends) ∙ f.begins;
      },
      f.each,
    ))
    (λ o. absurd (off-on (sym o ∙ e)))
    (replayed false j clean P NoneDear step used log)

pub taken_up_lem :
    (j : Job) → ((i : ℕ) → i < nets j → has (source j i) (net_sinks j i) ≡ false) → (used : ℕ) (log : List ℕ) (q : Progress) → replay j used log ≡ on q
    → TakenUp j used log q
taken_up_lem j clean used log q e = (taken-each j clean (λ _ _. Unit {0}) (λ _ _ _ _ _ _ _ _ _ _ _ _ _ _ _. ((λ _. tt), (λ _. tt))) used log q e).0

-- ---- which answers there are

-- a replay that takes a log up neither ends nor finds
abbrev TakesUp : Replay → Type 0
TakesUp (on p) = Unit {0}
TakesUp (off word) = Unit {0}
TakesUp (ends p) = ⊥
TakesUp (not_cheapest p cost least) = ⊥

takes_then : (a : Replay) (f : Progress → Replay) → TakesUp a → ((p : Progress) → TakesUp (f p)) → TakesUp (if_on a f)
takes_then (on p) f t g = g p
takes_then (off word) f t g = tt
takes_then (ends p) f t g = t
takes_then (not_cheapest p cost least) f t g = t

takes_since : (s : State) (a : Replay) → TakesUp a → TakesUp (since_start s a)
takes_since s (on p) t = tt
takes_since s (off word) t = tt
takes_since s (ends p) t = t
takes_since s (not_cheapest p cost least) t = t

takes_choose : (t : Bool) (a b : Replay) → TakesUp a → TakesUp b → TakesUp (choose t a b)
takes_choose true a b l r = l
takes_choose false a b l r = r

module _ (j : Job) (ws : List ℕ) where
  takes-turns : (i : ℕ) (p : Progress) (k : ℕ) (made : List Record) → TakesUp (replay_turns false j ws i p k made)
  unfolding replay_turns
  takes-turns i p zero made = takes_choose (all_joined j i made) _ _ tt tt
  takes-turns i p (suc k) made =
      takes_choose (all_joined j i made) _ _ tt
      (takes_choose (turn_follows j p.state i (tree_from j i made) (after ws (p.records ++ made))) _ _
      (takes-turns i p k (made ++ (record_in (turn_price j p.state i (tree_from j i made)) (after ws (p.records ++ made)) ∷ []))) tt)

  takes-nets : (s : State) (rs : List Record) (i : ℕ) → TakesUp (replay_nets false j ws s rs i)
  unfolding replay_nets
  takes-nets s rs zero = tt
  takes-nets s rs (suc i) =
      takes_then (replay_nets false j ws s rs i) _ (takes-nets s rs i)
      (λ p. takes_choose (due j s i) _ _ (takes-turns i p (length (net_sinks j i)) []) tt)

  takes_from : (k : ℕ) (s : State) (rs : List Record) → TakesUp (replay_from false j ws k s rs)
  unfolding replay_from
  takes_from zero s rs = tt
  takes_from (suc k) s rs =
      takes_then (since_start s (replay_nets false j ws s rs (nets j))) _ (takes_since s (replay_nets false j ws s rs (nets j)) (takes-nets s rs (nets j)))
      (λ p.
      takes_choose (either (eqb (over_count j p.state.trees) 0) (leb j.terms.limit p.state.iteration)) _ _ tt
      (takes_choose (at_end ws p.records) _ _ tt (takes_from k (move_on j p.state) p.records)))

takes_up : (j : Job) (used : ℕ) (log : List ℕ) → TakesUp (replay j used log)
unfolding replay_by
takes_up j used log = takes_choose (ltb (length log) used) _ _ tt (takes_from j (take used log) j.terms.limit (first_state j) [])

pub never_ends : (j : Job) (used : ℕ) (log : List ℕ) (p : Progress) → replay j used log ≡ ends p → ⊥
never_ends j used log p e = subst TakesUp e (takes_up j used log)

pub never_finds : (j : Job) (used : ℕ) (log : List ℕ) (p : Progress) (cost least : ℕ) → replay j used log ≡ not_cheapest p cost least → ⊥
never_finds j used log p cost least e = subst TakesUp e (takes_up j used log)

-- an audit takes no log up
abbrev Audits : Replay → Type 0
Audits (on p) = ⊥
Audits (off word) = Unit {0}
Audits (ends p) = Unit {0}
Audits (not_cheapest p cost least) = Unit {0}

audits_then : (s : State) (a : Replay) (f : Progress → Replay) → ((p : Progress) → Audits (f p)) → Audits (if_on (since_start s a) f)
audits_then s (on p) f g = g p
audits_then s (off word) f g = tt
audits_then s (ends p) f g = tt
audits_then s (not_cheapest p cost least) f g = tt

audits_from : (j : Job) (ws : List ℕ) (k : ℕ) (s : State) (rs : List Record) → Audits (replay_from true j ws k s rs)
unfolding replay_from
audits_from j ws zero s rs = tt
audits_from j ws (suc k) s rs =
    audits_then s (replay_nets true j ws s rs (nets j)) _
    (λ p.
    by_test (at_end ws p.records)
    (λ e. rw e tt)
    (λ e.
    by_test (either (eqb (over_count j p.state.trees) 0) (leb j.terms.limit p.state.iteration))
    (λ t. rw (e, t) tt)
    (λ t. rw (e, t) (audits_from j ws k (move_on j p.state) p.records))))

pub never_on : (j : Job) (used : ℕ) (log : List ℕ) (p : Progress) → replay_by true j used log ≡ on p → ⊥
unfolding replay_by
never_on j used log p e =
    by_test (ltb (length log) used)
    (λ t. off-on (rw t at e))
    (λ t. subst Audits (rw t at e) (audits_from j (take used log) j.terms.limit (first_state j) []))
