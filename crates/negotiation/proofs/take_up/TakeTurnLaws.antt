-- The turns of a net in a lent log, as a loop follows them one after the other until the tree lacks no sink.
--     can_with, can-ready                 a net more, in a run that can go on
--     begins_of, tallied-follows          the log begins with the records so far, and with one more
--     marks_of_lem                            marks by node
--     missing-more                        the first sink that is missing, after a turn more
--     Following, follow_start             the turns so far
--     part-                               the net's part of table 7
--     follow_ready                        the next turn can be tested
--     follow_out, -stopped, -more         where a sink is missing: no turn is left, or its record ends the net, or is one turn more
--     follow_room                         the tariff can count it
--     follow_on                           where none is missing
-- Assumes nothing.
use mathlib.Core.Bool.{Bool, true, false}
use mathlib.Core.List.{List, [], ◌∷◌, ◌++◌, append_assoc, append-nil}
use mathlib.Core.Logic.{◌⊎◌, ⊎_elim, inl, inr}
use mathlib.Core.Path.{◌≡◌, refl, sym, ◌∙◌, ap, subst}
use Prim.Native.Nat.{ℕ, zero, suc, ◌+◌, ◌-◌, ◌*◌, ◌/◌, ◌%◌, ◌^◌, ◌≤◌, ◌<◌}
use native.Mathlib.Nat.{not-suc-le-zero, le_of_eq, le_trans}
use native.Mathlib.Omega.{arith}
use lib.Dec.{eqb, leb, ltb}
use lib.ListN.{length, get_or, take, drop, length-append, length-drop, length-set, take-append-drop, get_or-eq_default}
use lib.Seq.{length-slice, take-append_seam, get_or-drop}
use borrow.Author.Tests.{eqb-true, le-ltb}
use Rattle.price.specs.Test.{choose, both}
use Rattle.price.specs.Lists.{every, has}
use Rattle.price.proofs.TestLaws.{by_test, true≢false, le_or_lt, both_left, both_right}
use Rattle.price.proofs.ListLaws.{part_slice, has-at, has_place}
use Rattle.search.specs.Distance.{far}
use Rattle.search.specs.Paths.{path_cost}
use Rattle.search.specs.Replies.{sinks_most}
use Rattle.search.specs.Tables.{Graph}
use Rattle.search.proofs.BlockLaws.{graph_of_lem}
use Rattle.search.proofs.DistinctLaws.{has_cons, lacks}
use Rattle.job.specs.Job.{Job, nodes, source, net_sinks}
use Rattle.job.specs.Job.{job_in}
use Rattle.job.specs.declared.JobTables.{JobTables}
use Rattle.negotiation.specs.Records.{Record, encode, words, path_nodes}
use Rattle.negotiation.specs.Routable.{Routable}
use Rattle.negotiation.specs.Order.{turn_sinks}
use Rattle.negotiation.specs.Machine.{State, Progress, marks_of, tree_from, with_net}
use Rattle.negotiation.specs.Flood.{FirstUnmarked}
use Rattle.negotiation.specs.Outcome.{log_with}
use Rattle.job.specs.Steps.{AllBelow, Stored}
use Rattle.negotiation.specs.TariffSteps.{logged_tariff}
use Rattle.negotiation.specs.Kept.{Tallied, CanGoOn}
use Rattle.negotiation.specs.Resume.{record_path, record_in, whole_record, cost_follows, turn_price, turn_follows, all_joined, least_cost, on, off, ends, not_cheapest, gone_to, after, at_end, replay_turns}
use Rattle.negotiation.specs.ResumeSteps.{named_cost, turn_passes}
use Rattle.negotiation.specs.TakeSteps.{TakenTo, told_of, tried_as, goals_of, TryReady, tried_passes, tried_least, NetOpens, NetOn, ToldAt, NetTaken}
use Rattle.negotiation.specs.declared.tariff.Tariff.{Tariff}
use Rattle.std.specs.Prelude.{Result, Ok, Err}
use Rattle.negotiation.specs.declared.take_up.Stopped.{Stopped}
use Rattle.negotiation.specs.declared.take_up.Walk.{Walk}
use Rattle.negotiation.proofs.MemberLaws.{every-has, every_members, no_entry}
use Rattle.negotiation.proofs.OrderLaws.{turn-nodes}
use Rattle.negotiation.proofs.RecordLaws.{cost-back, words-length, records-few, path_nodes-append}
use Rattle.negotiation.proofs.TreeLaws.{TreeNodes}
use Rattle.negotiation.proofs.NetLaws.{StateReady, grown-same, grown-ready}
use Rattle.negotiation.proofs.FollowLaws.{Follows, follows_of, whole_long, path-long}
use Rattle.negotiation.proofs.ReplayLaws.{Begins, begins-more, source_more, joined-on}
use Rattle.negotiation.proofs.take_up.StepPassLaws.{Marks, mark_out}
use Rattle.negotiation.proofs.take_up.PathPassLaws.{path_nodes_lem, turn_pass}
use Rattle.negotiation.proofs.take_up.TriedLaws.{sinks-here, tried-is, price-is, least-is, try_ready}
use Rattle.negotiation.proofs.take_up.JudgedLaws.{stopped_same, not_both, said_ends, said_strays, said_dear, said_follows, SaidFollows, said_so}
use Rattle.negotiation.proofs.TurnStepLaws.{mark_at, encode-more, below-append}
use Rattle.negotiation.proofs.KeepProgress.{marks_length, marks_grow}

-- ---- a run that can go on

-- with a net more
pub can_with : (j : Job) (i : ℕ) (p : Progress) (rs : List Record) → CanGoOn j p → CanGoOn j (with_net j i p rs)
can_with j i p rs c =
    record {
      made = c.made;
      below = c.below;
      iteration-is = c.iteration-is;
      grown = grown-same j p.state (with_net j i p rs).state c.made refl refl c.grown;
      trees-long = length-set p.state.trees i (tree_from j i rs) ∙ c.trees-long;
    }

-- its state keeps its bounds
pub can-ready : (j : Job) {p : Progress} → Routable j → CanGoOn j p → StateReady j p.state
can-ready j {p} sound c = grown-ready j sound p.state c.made c.below c.grown

-- ---- the log begins with the records

pub begins_of : (rs : List Record) (log : List ℕ) (t : Tariff) → Tallied rs log t log → Begins log rs
unfolding log_with
begins_of rs log t a =
    ap (λ (l : List ℕ). take (length (encode rs)) l) a.log_is ∙ take-append_seam (encode rs) (drop (length (encode rs)) log)

begins-log : (rs : List Record) (log : List ℕ) → Begins log rs → log ≡ log_with rs log
unfolding log_with
begins-log rs log b =
    sym (take-append-drop (length (encode rs)) log) ∙ ap (λ (l : List ℕ). l ++ drop (length (encode rs)) log) b

-- and with one more that follows
pub tallied-follows :
    (rs : List Record) (log : List ℕ) (t : Tariff) (price : ℕ → ℕ) → Tallied rs log t log → whole_record (after log rs) ≡ true
    → cost_follows price (after log rs) ≡ true
    → Tallied (rs ++ (record_in price (after log rs) ∷ [])) log (logged_tariff t (6 + get_or (after log rs) 5 0) 0) log
tallied-follows rs log t price a w c =
    let r : Record = record_in price (after log rs) in
    let path : length (record_path (after log rs)) ≡ get_or (after log rs) 5 0 = path-long (after log rs) w in
    let own : length (words r) ≡ 6 + length (record_path (after log rs)) = words-length r in
    let long : length (encode (rs ++ (r ∷ []))) ≡ length (encode rs) + length (words r) = rw (encode-more rs r) (length-append (encode rs) (words r)) in
    let one : length (rs ++ (r ∷ [])) ≡ length rs + 1 = length-append rs (r ∷ []) in
    let there : 6 + get_or (after log rs) 5 0 ≤ length (after log rs) = whole_long (after log rs) w in
    let rest : length (after log rs) ≡ length log - length (encode rs) = length-drop (length (encode rs)) log in
    let fits = a.fits in
    let words_are = a.words-is in
    let turns_are = a.turns-is in
    record {
      turns-is = omega arith;
      words-is = omega arith;
      log_is = begins-log (rs ++ (r ∷ [])) log (begins-more log rs price (begins_of rs log t a) w c);
      fits = omega arith;
    }

-- ---- marks by node

all-nodes : (n : ℕ) (xs : List ℕ) → AllBelow n xs → (v : ℕ) → has v xs ≡ true → v < n
all-nodes n xs all v m = let place = has_place v xs m in subst (λ (u : ℕ). u < n) place.2 (all place.0 place.1)

tree-nodes : (j : Job) (i : ℕ) (made : List Record) → source j i < nodes j → AllBelow (nodes j) (path_nodes made) → TreeNodes j (tree_from j i made)
tree-nodes j i made from all v m =
    ⊎_elim (λ (e : v ≡ source j i). subst (λ (u : ℕ). u < nodes j) (sym e) from) (λ q. all-nodes (nodes j) (path_nodes made) all v q)
    (has_cons v (source j i) (path_nodes made) m)

no_mark : (j : Job) (tree : List ℕ) (v : ℕ) → TreeNodes j tree → nodes j ≤ v → get_or (marks_of j tree) v 0 ≡ choose (has v tree) 1 0
no_mark j tree v all h =
    let long = marks_length j tree in
    let out : has v tree ≡ false = lacks v tree (λ m. let b : v < nodes j = all v m in absurd (omega arith)) in
    rw out (get_or-eq_default (marks_of j tree) 0 (omega arith))

pub marks_of_lem : (j : Job) (tree : List ℕ) {marks : List ℕ} → TreeNodes j tree → marks ≡ marks_of j tree → Marks tree marks
marks_of_lem j tree all e v =
    ap (λ (l : List ℕ). get_or l v 0) e
    ∙ ⊎_elim (λ (h : nodes j ≤ v). no_mark j tree v all h) (λ (h : v < nodes j). mark_at j tree v h) (le_or_lt (nodes j) v)

-- ---- the first sink that is missing

-- what the tree has stays marked
pub missing-more :
    {sinks path old new : List ℕ} {place place' : ℕ} → FirstUnmarked old sinks 0 place → Stored 1 path old new → FirstUnmarked new sinks place place'
    → FirstUnmarked new sinks 0 place'
missing-more {sinks} {path} {old} {new} {place} a s r =
    record {
      within = r.within;
      before = λ p l low.
          ⊎_elim
          (λ (h : place ≤ p). r.before p l h)
          (λ (h : p < place).
          let v : ℕ = get_or sinks p 0 in
          by_test (has v path)
          (λ q. rw (s.at v, q) (omega arith))
          (λ q. rw (s.at v, q) (a.before p h (omega arith))))
          (le_or_lt place p);
      here = r.here;
    }

mark_some : (t : Bool) → ◌<◌ 0 (choose t 1 0) → t ≡ true
mark_some true h = refl
mark_some false h = absurd (omega arith)

module _ (j : Job) (i : ℕ) (made : List Record) {marks sinks : List ℕ} (marked : Marks (tree_from j i made) marks) (is : sinks ≡ net_sinks j i) {place : ℕ}
    (first : FirstUnmarked marks sinks 0 place) where
  -- all are joined where none is
  all_joined_lem : length sinks ≤ place → all_joined j i made ≡ true
  unfolding all_joined
  all_joined_lem end =
      every_members (λ x. has x (tree_from j i made)) (net_sinks j i)
      (λ x h.
      let at = has_place x sinks (rw is h) in
      let some : 0 < get_or marks x 0 = rw at.2 at (first.before at.0 (omega (arith, at.1)) (omega arith)) in
      mark_some (has x (tree_from j i made)) (rw (marked x) at some))

  not_joined : place < length sinks → all_joined j i made ≡ false
  unfolding all_joined
  not_joined l =
      let x : ℕ = get_or sinks place 0 in
      let out : has x (tree_from j i made) ≡ false = mark_out (has x (tree_from j i made)) (sym (marked x) ∙ first.here l) in
      by_test (every (λ x. has x (tree_from j i made)) (net_sinks j i))
      (λ t.
      absurd (true≢false (sym (every-has (λ x. has x (tree_from j i made)) (net_sinks j i) t x (rw (← is) (has-at sinks place l))) ∙ out)))
      (λ t. t)

-- where all are joined the net makes no more turns
turns_done :
    (audit : Bool) (j : Job) (ws : List ℕ) (i : ℕ) (p : Progress) (k : ℕ) (made : List Record) → all_joined j i made ≡ true → replay_turns audit j ws i p k made ≡ on (with_net j i p made)
unfolding replay_turns
turns_done audit j ws i p zero made e = rw e
turns_done audit j ws i p (suc k) made e = rw e

-- ---- answers as numbers

suc_of : (n : ℕ) → (n ≡ 0 → ⊥) → n ≡ suc (n - 1)
suc_of zero some = absurd (some refl)
suc_of (suc n) some = omega arith

pub some_of : (n : ℕ) → (n ≡ 0 → ⊥) → 0 < n
some_of n some = let e : n ≡ suc (n - 1) = suc_of n some in omega arith

-- a cost is held against the least where that is asked for: none is above 2^64 − 1
test_same : (audit : Bool) (lowest : ℕ) {least named cost : ℕ} → least ≡ choose audit lowest far → named ≡ cost → named ≤ far → ltb least named ≡ both audit (ltb lowest cost)
test_same true lowest a b low = rw (a, b)
test_same false lowest {named = named} a b low = rw a (le-ltb far named low)

least_dear : (audit : Bool) (lowest : ℕ) {least named : ℕ} → least ≡ choose audit lowest far → named ≤ far → ltb least named ≡ true → least ≡ lowest
least_dear true lowest a low d = a
least_dear false lowest {named = named} a low d = absurd (true≢false (sym d ∙ rw a (le-ltb far named low)))

-- ---- the turns so far

-- these turns follow, and so many more may be made
pub record Following (audit : Bool) (j : Job) (p : Progress) (i left : ℕ) (t : Tariff) (marks log : List ℕ) : Type 0 where
  pub made : List Record
  pub rest_is : replay_turns audit j log i p (length (net_sinks j i)) [] ≡ replay_turns audit j log i p left made
  pub at : TakenTo j (with_net j i p made) t log
  pub marks_is : marks ≡ marks_of j (tree_from j i made)
  pub below : AllBelow (nodes j) (path_nodes made)
  pub source-on : (made ≡ []) ⊎ (has (source j i) (path_nodes made) ≡ true)

module _ (j : Job) {p : Progress} {i from to turns : ℕ} {t₀ : Tariff} {history users marks₀ log : List ℕ}
    (o : NetOpens j p i from to turns t₀ history users marks₀ log) where
  -- none, at first
  pub follow_start : (audit : Bool) → Following audit j p i turns t₀ marks₀ log
  unfolding path_nodes
  follow_start audit =
      record {
        made = [];
        rest_is = ap (λ (k : ℕ). replay_turns audit j log i p k []) (sym o.turns-is);
        at =
            record {
              can = can_with j i p [] o.at.can;
              iteration-is = o.at.iteration-is;
              factor-is = o.at.factor-is;
              tallied = subst (λ (rs : List Record). Tallied rs log t₀ log) (sym (append-nil p.records)) o.at.tallied;
            };
        marks_is = o.marks_is;
        below = λ k l. absurd (not-suc-le-zero l);
        source-on = inl refl;
      }

  -- the net's part of table 7
  abbrev part : List ℕ
  part = take (to - from) (drop from j.sinks)

  pub part-order : from ≤ to
  part-order = rw (o.places.from_is, o.places.to_is) (o.routable.sinks-order i o.net)

  pub part-within : to ≤ length j.sinks
  part-within = rw o.places.to_is (o.routable.sinks-end (i + 1) (let h = o.net in omega arith))

  pub part_small : to ≤ sinks_most
  part_small = let within = part-within in let few = o.routable.sinks-few in omega arith

  pub part-long : length part ≡ to - from
  part-long = ap length (part_slice from to j.sinks) ∙ length-slice from to j.sinks part-within

  -- its sinks are nodes
  pub part-below : (n : ℕ) → n ≡ length marks₀ → AllBelow n part
  part-below n same =
      let long : length marks₀ ≡ nodes j = ap length o.marks_is ∙ marks_length j (source j i ∷ []) in
      rw (same ∙ long, sinks-here o.places) (o.routable.sink-node i o.net)

-- a record is tested by a pass
same_test :
    (j : Job) → Graph j.block → (s : State) (i : ℕ) (tree marks : List ℕ) → TreeNodes j tree → length marks ≡ nodes j → Marks tree marks
    → TreeNodes j (turn_sinks j i tree) → (price : ℕ → ℕ) (tried : List ℕ) (iteration : ℕ) (ws there : List ℕ) → price ≡ turn_price j s i tree
    → tried ≡ turn_sinks j i tree → iteration ≡ s.iteration → ws ≡ there
    → turn_passes j.block price (goals_of (nodes j) tried) marks iteration i ws ≡ turn_follows j s i tree there
unfolding marks_of
same_test j g s i tree marks inside long marked goals price tried iteration ws there a q b e =
    rw (a, q, b, e)
    (sym
    (turn_pass j g s i tree (goals_of (nodes j) (turn_sinks j i tree)) marks inside long marked (marks_of_lem j (turn_sinks j i tree) goals refl) there))

-- ---- the next turn

module _ (tables : JobTables) {p : Progress} {i from to turns : ℕ} {t₀ : Tariff} {history users marks₀ log : List ℕ}
    (o : NetOpens (job_in tables) p i from to turns t₀ history users marks₀ log) {audit : Bool} {left : ℕ} {t : Tariff} {marks : List ℕ}
    (f : Following audit (job_in tables) p i left t marks log) where
  abbrev j : Job
  j = job_in tables

  abbrev tree : List ℕ
  tree = tree_from j i f.made

  abbrev there : List ℕ
  there = after log (p.records ++ f.made)

  words-here : drop t.words log ≡ there
  words-here = ap (λ (k : ℕ). drop k log) f.at.tallied.words-is

  state-ready : StateReady j p.state
  state-ready = can-ready j o.routable o.at.can

  tree-long : length marks ≡ nodes j
  tree-long = ap length f.marks_is ∙ marks_length j tree

  inside : TreeNodes j tree
  inside = tree-nodes j i f.made (o.routable.source-node i o.net) f.below

  graph : Graph j.block
  graph = graph_of_lem j.block o.routable.block-sound

  tree-marked : Marks tree marks
  tree-marked = marks_of_lem j tree inside f.marks_is

  -- it can be tested
  pub follow_ready : {work : List ℕ} → 8 * nodes j ≤ length work → TryReady tables from to t history users marks work log
  follow_ready enough =
      try_ready tables o.places o.routable o.net tree f.marks_is p.state t history users f.at.factor-is o.history_is o.users-is state-ready
      enough (le_trans (le_of_eq f.at.tallied.words-is) f.at.tallied.fits)

  -- what its test says
  abbrev passes : Bool
  passes = tried_passes tables from to t i history users marks (drop t.words log)

  passes_is : passes ≡ turn_follows j p.state i tree there
  passes_is =
      same_test j graph p.state i tree marks inside tree-long tree-marked
      (all-nodes (nodes j) (turn_sinks j i tree) (turn-nodes j o.routable i o.net tree)) _ _ t.iteration (drop t.words log) there
      (price-is tables o.places o.routable o.net tree f.marks_is p.state t history users f.at.factor-is o.history_is o.users-is)
      (tried-is tables o.places o.routable o.net tree f.marks_is) f.at.iteration-is words-here

  -- its words end here
  abbrev ended : Bool
  ended = leb (length log) t.words

  end_so : {b : Bool} → both audit ended ≡ b → both audit (at_end log (p.records ++ f.made)) ≡ b
  end_so e = ap (λ (k : ℕ). both audit (leb (length log) k)) (sym f.at.tallied.words-is) ∙ e

  -- what it costs at least, where that is asked for
  abbrev least : ℕ
  least = tried_least tables from to t audit history users marks

  least_so : least ≡ choose audit (least_cost j p.state i tree) far
  least_so = least-is tables o.places o.routable o.net tree f.marks_is p.state t history users f.at.factor-is o.history_is o.users-is audit

  -- how far an audit came, if it ends here
  told_here : (over : ℕ) → ToldAt (p.records ++ f.made) p.state.iteration over (told_of t (t.iteration - 1) over)
  told_here over =
      let is = f.at.iteration-is in
      let some = f.at.can.iteration-is in
      record { turns-is = f.at.tallied.turns-is; words-is = f.at.tallied.words-is; whole_is = omega arith; over-is = refl }

  pub follow_some : 1 ≤ t.iteration
  follow_some = let is = f.at.iteration-is in let some = f.at.can.iteration-is in omega arith

  -- a sink is missing
  module _ {place : ℕ} (first : FirstUnmarked marks (part j o) 0 place) (some : place < to - from) where
    still_open : all_joined j i f.made ≡ false
    still_open = not_joined j i f.made tree-marked (sinks-here o.places) first (let long = part-long j o in omega arith)

    -- no turn is left
    pub follow_out : left ≡ 0 → replay_turns audit j log i p (length (net_sinks j i)) [] ≡ off t.words
    unfolding replay_turns
    follow_out z =
        f.rest_is ∙ ap (λ (k : ℕ). replay_turns audit j log i p k f.made) z ∙ rw still_open (ap off (sym f.at.tallied.words-is))

    module _ (more : left ≡ 0 → ⊥) where
      more_left : replay_turns audit j log i p (length (net_sinks j i)) [] ≡ replay_turns audit j log i p (suc (left - 1)) f.made
      more_left = f.rest_is ∙ ap (λ (k : ℕ). replay_turns audit j log i p k f.made) (suc_of left more)

      -- its words end
      ends-here : both audit ended ≡ true → replay_turns audit j log i p (length (net_sinks j i)) [] ≡ ends (gone_to p f.made)
      unfolding replay_turns
      ends-here e = let end : both audit (at_end log (p.records ++ f.made)) ≡ true = end_so e in more_left ∙ rw (still_open, end)

      module _ (on-still : both audit ended ≡ false) where
        more-words : both audit (at_end log (p.records ++ f.made)) ≡ false
        more-words = end_so on-still

        -- it strays
        strays : turn_follows j p.state i tree there ≡ false → replay_turns audit j log i p (length (net_sinks j i)) [] ≡ off t.words
        unfolding replay_turns
        strays stray = more_left ∙ rw (still_open, more-words, stray) (ap off (sym f.at.tallied.words-is))

        -- or follows
        module _ (yes : turn_follows j p.state i tree there ≡ true) where
          abbrev price : ℕ → ℕ
          price = turn_price j p.state i tree

          abbrev r : Record
          r = record_in price there

          follows : Follows j p.state i tree there
          follows = follows_of j p.state i tree there yes

          abbrev cost : ℕ
          cost = path_cost price (record_path there)

          -- its two words name its cost
          named_is : named_cost (drop t.words log) ≡ cost
          unfolding cost_follows
          named_is =
              let cs : both (eqb (get_or there 3 0) (cost % 2 ^ 32)) (eqb (get_or there 4 0) (cost / 2 ^ 32)) ≡ true = follows.cost in
              let low : get_or there 3 0 ≡ cost % 2 ^ 32 = eqb-true (get_or there 3 0) (cost % 2 ^ 32) (both_left (eqb (get_or there 3 0) (cost % 2 ^ 32)) _ cs) in
              let high : get_or there 4 0 ≡ cost / 2 ^ 32 = eqb-true (get_or there 4 0) (cost / 2 ^ 32) (both_right (eqb (get_or there 3 0) (cost % 2 ^ 32)) _ cs) in
              ap named_cost words-here ∙ rw (low, high) (cost-back cost)

          -- it costs more than the least
          dear : both audit (ltb (least_cost j p.state i tree) cost) ≡ true → {named lowest : ℕ} → named ≡ cost → lowest ≡ least_cost j p.state i tree
              → replay_turns audit j log i p (length (net_sinks j i)) [] ≡ not_cheapest (gone_to p f.made) named lowest
          unfolding replay_turns
          dear d {named} x y =
              more_left ∙ rw (still_open, more-words, yes, d)
              (ap (λ (k : ℕ). not_cheapest (gone_to p f.made) k (least_cost j p.state i tree)) (sym x) ∙ ap (λ (k : ℕ). not_cheapest (gone_to p f.made) named k) (sym y))

          -- or not, or that is not asked for
          one_more :
              both audit (ltb (least_cost j p.state i tree) cost) ≡ false
              → replay_turns audit j log i p (length (net_sinks j i)) [] ≡ replay_turns audit j log i p (left - 1) (f.made ++ (r ∷ []))
          unfolding replay_turns
          one_more cheap = more_left ∙ rw (still_open, more-words, yes, cheap)

          path-below : AllBelow (nodes j) (record_path there)
          path-below = path_nodes_lem j graph i tree inside (get_or there 2 0) (record_path there) follows.path

          nodes-below : AllBelow (nodes j) (path_nodes (f.made ++ (r ∷ [])))
          unfolding path_nodes
          nodes-below =
              rw (path_nodes-append f.made (r ∷ []), append-nil (record_path there))
              (below-append (nodes j) (path_nodes f.made) (record_path there) f.below path-below)

          counted : Tallied (p.records ++ (f.made ++ (r ∷ []))) log (logged_tariff t (6 + get_or there 5 0) 0) log
          counted =
              rw (← append_assoc p.records f.made (r ∷ []))
              (tallied-follows (p.records ++ f.made) log t price f.at.tallied follows.is_whole follows.cost)

          one_turn :
              both audit (ltb (least_cost j p.state i tree) cost) ≡ false → {marks' : List ℕ} → Stored 1 (record_path there) marks marks'
              → Following audit j p i (left - 1) (logged_tariff t (6 + get_or there 5 0) 0) marks' log
          one_turn cheap stored =
              record {
                made = f.made ++ (r ∷ []);
                rest_is = one_more cheap;
                at =
                    record {
                      can = can_with j i p (f.made ++ (r ∷ [])) o.at.can;
                      iteration-is = f.at.iteration-is;
                      factor-is = f.at.factor-is;
                      tallied = counted;
                    };
                marks_is = marks_grow j i f.made r f.marks_is stored;
                below = nodes-below;
                source-on = inr (source_more j i f.made r follows.path f.source-on);
              }

      -- as the call answers
      module _ (small : (k : ℕ) → get_or log k 0 < 2 ^ 32) (over : ℕ) {said : Result ℕ Stopped}
          (answer : said ≡ tried_as t (record { audit = audit; over = over }) ended passes (drop t.words log) least) where
        abbrev walk : Walk
        walk = record { audit = audit; over = over }

        abbrev ws : List ℕ
        ws = drop t.words log

        named_low : named_cost ws ≤ far
        named_low =
            let low : get_or ws 3 0 < 2 ^ 32 = rw (get_or-drop t.words log 3 0) (small (t.words + 3)) in
            let high : get_or ws 4 0 < 2 ^ 32 = rw (get_or-drop t.words log 4 0) (small (t.words + 4)) in
            omega arith

        -- it ends the net
        module _ {stopped : Stopped} (is : said ≡ Err stopped) (marks' : List ℕ) where
          taken_as : {x : Stopped} → tried_as t walk ended passes ws least ≡ Err x → NetTaken walk (Err x) j p i marks' log → NetTaken walk (Err stopped) j p i marks' log
          taken_as {x} e n = subst (λ (y : Stopped). NetTaken walk (Err y) j p i marks' log) (stopped_same (sym e ∙ sym answer ∙ is)) n

          pub follow_stopped : NetTaken walk (Err stopped) j p i marks' log
          follow_stopped =
              by_test (both audit ended)
              (λ e. taken_as (said_ends _ _ _ _ _ _ e) (record { made = f.made; is = ends-here e; told_at = told_here over }))
              (λ e.
              by_test passes
              (λ y.
              let yes : turn_follows j p.state i tree there ≡ true = sym passes_is ∙ y in
              by_test (ltb least (named_cost ws))
              (λ d.
              taken_as (said_dear _ _ _ _ _ _ e y d)
              (record {
                made = f.made;
                is = dear e yes (sym (test_same audit _ least_so (named_is e yes) named_low) ∙ d) (named_is e yes) (least_dear audit _ least_so named_low d);
                told_at = told_here over;
              }))
              (λ d. absurd (not_both is (answer ∙ said_follows _ _ _ _ _ _ e y d))))
              (λ n. taken_as (said_strays _ _ _ _ _ _ e n) (strays e (sym passes_is ∙ n))))

        -- or is one turn more
        module _ {count : ℕ} (is-turn : said ≡ Ok count) where
          passed : SaidFollows t walk ended passes ws least count
          passed = said_so _ _ _ _ _ _ (sym answer ∙ is-turn)

          following : turn_follows j p.state i tree there ≡ true
          following = sym passes_is ∙ passed.follows

          cheapest : both audit (ltb (least_cost j p.state i tree) (cost passed.more following)) ≡ false
          cheapest = sym (test_same audit _ least_so (named_is passed.more following) named_low) ∙ passed.cheap

          count-is : count ≡ 6 + get_or there 5 0
          count-is = passed.count-is ∙ ap (λ (l : List ℕ). 6 + get_or l 5 0) words-here

          pub follow_more :
              {marks' : List ℕ} → Stored 1 (record_path (drop t.words log)) marks marks' → {t' : Tariff} → t' ≡ logged_tariff t count 0
              → Following audit j p i (left - 1) t' marks' log
          follow_more {marks'} stored {t'} is =
              subst (λ (x : Tariff). Following audit j p i (left - 1) x marks' log) (sym (is ∙ ap (λ (k : ℕ). logged_tariff t k 0) count-is))
              (one_turn passed.more following cheapest (subst (λ (l : List ℕ). Stored 1 (record_path l) marks marks') words-here stored))

          -- the tariff can count it
          pub follow_room : {most : ℕ} → length log < most → (t.turns + 1 < most) × (t.words + count < most)
          follow_room short =
              let whole = whole_long there (follows passed.more following).is_whole in
              let rest : length there ≡ length log - length (encode (p.records ++ f.made)) = length-drop (length (encode (p.records ++ f.made))) log in
              let few = records-few (p.records ++ f.made) in
              let is = count-is in
              let words_are = f.at.tallied.words-is in
              let turns_are = f.at.tallied.turns-is in
              let fits = f.at.tallied.fits in
              (omega arith, omega arith)

  -- none is missing
  module _ {place : ℕ} (first : FirstUnmarked marks (part j o) 0 place) (none : to - from ≤ place) where
    joined : all_joined j i f.made ≡ true
    joined = all_joined_lem j i f.made tree-marked (sinks-here o.places) first (let long = part-long j o in omega arith)

    -- the net has a sink, so it has made a turn
    some_made : f.made ≡ [] → ⊥
    unfolding path_nodes
    some_made e =
        let x : ℕ = get_or (net_sinks j i) 0 0 in
        let listed : has x (net_sinks j i) ≡ true = has-at (net_sinks j i) 0 (let many = o.turns-is in let one = o.some in omega arith) in
        let on-path : has x (path_nodes f.made) ≡ true = joined-on j i f.made (o.routable.source_no_sink i o.net) joined x listed in
        no_entry x (subst (λ (rs : List Record). has x (path_nodes rs) ≡ true) e on-path)

    pub follow_on : NetOn audit j p i t marks log
    follow_on =
        record {
          made = f.made;
          is = f.rest_is ∙ turns_done audit j log i p left f.made joined;
          at = f.at;
          marks_is = f.marks_is;
          below = f.below;
          source-on = ⊎_elim (λ (e : f.made ≡ []). absurd (some_made e)) (λ h. h) f.source-on;
        }
