-- The lists follow any progress, whoever makes its turns: the nets that are due are marked, such a net drops its old tree, its new one counts, and
-- after an iteration the histories move on.
-- Assumes nothing.
use mathlib.Core.Bool.{true, not}
use mathlib.Core.List.{List, [], ◌∷◌, ◌++◌}
use mathlib.Core.Path.{◌≡◌, refl, sym, ◌∙◌, ap, subst}
use Prim.Native.Nat.{ℕ, ◌+◌, ◌-◌, ◌<◌}
use native.Mathlib.Nat.{le_trans}
use native.Mathlib.Omega.{arith}
use lib.Dec.{eqb, ltb}
use lib.ListN.{length, get_or, set, replicate, length-append, length-set, length-replicate, get_or-replicate}
use lib.Seq.{slice, length-slice, ext_get_or, get_or-set_same, get_or-set_other}
use borrow.Author.Tests.{le-leb, lt-leb, ltb-true, ltb-false, eqb-true, eqb-false}
use Rattle.price.specs.Test.{choose}
use Rattle.price.specs.Lists.{has, up_to, count_below}
use Rattle.price.specs.Prices.{next_history}
use Rattle.price.proofs.TestLaws.{by_test}
use Rattle.price.proofs.ListLaws.{length_up_to, get_or_up_to, has_place, up_to_is}
use Rattle.price.proofs.BelowLaws.{count_same}
use Rattle.search.proofs.BlockLaws.{capacities-long}
use Rattle.job.specs.Job.{Job, nodes, nets, source, net_sinks}
use Rattle.job.specs.Tables.{nets_most}
use Rattle.negotiation.specs.Routable.{Routable}
use Rattle.negotiation.specs.Records.{Record, encode, decode, path_nodes}
use Rattle.negotiation.specs.Machine.{State, Progress, tree_at, users_of, others_of, marks_of, tree_from, with_net, has_sinks, overfull, all_due, crowded, due, over_count, moved_history, move_on}
use Rattle.job.specs.Steps.{AllBelow, Stored}
use Rattle.negotiation.specs.Steps.{NoMarks, RippedUp, CountReady, roomy, some_over, takes, DueReady, BeginReady, Begun, Ended}
use Rattle.negotiation.specs.Kept.{Kept, Tallied}
use Rattle.negotiation.specs.declared.tariff.Tariff.{Tariff}
use Rattle.negotiation.proofs.MemberLaws.{every_alike}
use Rattle.negotiation.proofs.RecordLaws.{decode-encode, encode-append}
use Rattle.negotiation.proofs.NetLaws.{others-few, tree-more}
use Rattle.negotiation.proofs.RanLaws.{source_twice}
use Rattle.negotiation.proofs.UserLaws.{users_but, users_with}
use Rattle.negotiation.proofs.TurnStepLaws.{mark_at, mark_more, log-length, tallied-slice}
use Rattle.negotiation.proofs.KeepPlaces.{can_rip, tree_read_lem, tree_whole, words-order, words-within, words_whole, routed-places}
use Rattle.negotiation.proofs.KeepLaws.{Opened, due_marks}

-- ---- lists by their entries

-- no mark at all
all_zero : (n : ℕ) (marks : List ℕ) → length marks ≡ n → NoMarks n marks → marks ≡ replicate n 0
all_zero n marks long none =
    ext_get_or 0 marks (replicate n 0) (long ∙ sym (length-replicate n 0))
    (λ v h. let l : v < n = rw long at h in none v l ∙ sym (get_or-replicate n v 0 0 l))

-- the marks of a tree
pub marks_length : (j : Job) (tree : List ℕ) → length (marks_of j tree) ≡ nodes j
unfolding marks_of
marks_length j tree = length_up_to {A = ℕ} (λ v. choose (has v tree) 1 0) (nodes j)

pub marks_are : (j : Job) (tree marks : List ℕ) → length marks ≡ nodes j → ((v : ℕ) → v < nodes j → get_or marks v 0 ≡ choose (has v tree) 1 0) → marks ≡ marks_of j tree
unfolding marks_of
marks_are j tree marks long at = up_to_is (λ v. choose (has v tree) 1 0) (nodes j) marks long at

-- a path joins the tree, and is marked beside it
pub marks_grow :
    (j : Job) (i : ℕ) (made : List Record) (r : Record) {marks marks' : List ℕ} → marks ≡ marks_of j (tree_from j i made) → Stored 1 r.path marks marks'
    → marks' ≡ marks_of j (tree_from j i (made ++ (r ∷ [])))
marks_grow j i made r {marks} {marks'} is stored =
    marks_are j (tree_from j i (made ++ (r ∷ []))) marks' (stored.long ∙ ap length is ∙ marks_length j (tree_from j i made))
    (λ v h.
    let here : get_or marks v 0 ≡ choose (has v (tree_from j i made)) 1 0 = ap (λ (l : List ℕ). get_or l v 0) is ∙ mark_at j (tree_from j i made) v h in
    stored.at v ∙ rw (here, ← tree-more j i made r) (mark_more v (tree_from j i made) r.path))

-- a mark at one node alone is the mark of the tree of that node
one_mark : (j : Job) (marks : List ℕ) (s : ℕ) → length marks ≡ nodes j → s < nodes j → NoMarks (nodes j) marks → set marks s 1 ≡ marks_of j (s ∷ [])
unfolding has
one_mark j marks s long l none =
    marks_are j (s ∷ []) (set marks s 1) (length-set marks s 1 ∙ long)
    (λ v h.
    by_test (eqb v s)
    (λ q. rw (q, eqb-true v s q) (get_or-set_same marks s 1 0 (rw long l)))
    (λ q. rw q (get_or-set_other marks s v 1 0 (eqb-false v s q) ∙ none v h)))

-- fewer than 512 others have a node
pub others_below : (j : Job) → Routable j → (trees : List (List ℕ)) (i v : ℕ) → i < nets j → others_of j trees i v < nets_most
others_below j sound trees i v h = le_trans (others-few j trees i v h) sound.nets-few

-- ---- between two nets

module _ (j : Job) {p : Progress} {history users marks from to : List ℕ} (kept : Kept j p history users marks from to) where
  pub users-long : length users ≡ nodes j
  users-long = ap length kept.users-is ∙ length_up_to (users_of j p.state.trees) (nodes j)

  pub users-at : (v : ℕ) → v < nodes j → get_or users v 0 ≡ users_of j p.state.trees v
  users-at v h = ap (λ (l : List ℕ). get_or l v 0) kept.users-is ∙ get_or_up_to (users_of j p.state.trees) (nodes j) v 0 h

  pub marks_long : length marks ≡ nodes j
  marks_long = ap length kept.no_marks ∙ length-replicate (nodes j) 0

-- ---- which nets are due

-- the marks, by net
module _ (j : Job) (s : State) {dues : List ℕ} (is : dues ≡ due_marks j s) where
  pub due_mark : (i : ℕ) → i < nets j → get_or dues i 0 ≡ choose (due j s i) 1 0
  due_mark i h = ap (λ (l : List ℕ). get_or l i 0) is ∙ get_or_up_to {A = ℕ} (λ k. choose (due j s k) 1 0) (nets j) i 0 h

  pub dues_long : length dues ≡ nets j
  dues_long = ap length is ∙ length_up_to {A = ℕ} (λ k. choose (due j s k) 1 0) (nets j)

-- a net with sinks has more than none in table 7
sinks-is : (j : Job) → Routable j → (i : ℕ) → i < nets j → has_sinks j i ≡ ltb (get_or j.first_sinks i 0) (get_or j.first_sinks (i + 1) 0)
unfolding has_sinks net_sinks
sinks-is j sound i h =
    let a : ℕ = get_or j.first_sinks i 0 in
    let b : ℕ = get_or j.first_sinks (i + 1) 0 in
    let long : length (slice a b j.sinks) ≡ b - a = length-slice a b j.sinks (sound.sinks-end (i + 1) (omega arith)) in
    by_test (ltb a b)
    (λ q. let l = ltb-true a b q in rw q (le-leb 1 (length (slice a b j.sinks)) (omega arith)))
    (λ q. let l = ltb-false a b q in rw q (lt-leb 1 (length (slice a b j.sinks)) (omega arith)))

module _ (j : Job) (sound : Routable j) {p : Progress} {log₀ : List ℕ} {t : Tariff} {history users marks from to log : List ℕ}
    (kept : Kept j p history users marks from to) (tallied : Tallied p.records log₀ t log) where
  abbrev trees : List (List ℕ)
  trees = p.state.trees

  pub due-ready : DueReady j.block.capacities j.first_sinks log from to users
  due-ready =
      let places = kept.places in
      let net : ((k : ℕ) → k < length from → k < nets j) = λ k h. rw places.from_long at h in
      record {
        capacities-long = capacities-long _ _ sound.block-sound.capacities_sound_lem ∙ sym (users-long j kept);
        firsts-long = sound.first_sinks-long ∙ ap (λ n. n + 1) (sym places.from_long);
        to-long = places.to-long ∙ sym places.from_long;
        order = λ k h. words-order (places.words k (net k h)) tallied;
        within = λ k h. words-within (places.words k (net k h)) tallied;
        whole = λ k h. rw (users-long j kept) (tree_whole (places.words k (net k h)) tallied);
      }

  -- the nodes of a net's words are its tree's, and each has its users
  crowded-is :
      (i : ℕ) → i < nets j → crowded j trees i ≡ some_over j.block.capacities users (path_nodes (decode (slice (get_or from i 0) (get_or to i 0) log)))
  unfolding crowded some_over overfull
  crowded-is i h =
      let words = kept.places.words i h in
      let own : List ℕ = path_nodes (decode (slice (get_or from i 0) (get_or to i 0) log)) in
      ap not
      (sym (every_alike (roomy j.block.capacities users) (λ v. not (overfull j trees v)) own (tree_at trees i) (tree_read_lem words tallied)
      (λ v on.
      let place = has_place v own on in
      let below : v < nodes j = subst (λ (u : ℕ). u < nodes j) place.2 ((tree_whole words tallied).nodes-below place.0 place.1) in
      rw (users-at j kept v below))))

  due-is :
      t.iteration ≡ p.state.iteration → (i : ℕ) → i < nets j
      → due j p.state i ≡ takes (all_due j.terms t.iteration) j.block.capacities j.first_sinks log from to users i
  unfolding due
  due-is e i h = rw (sinks-is j sound i h, crowded-is i h, e)

  pub due-marked :
      t.iteration ≡ p.state.iteration → (dues dues' : List ℕ) → length dues ≡ nets j
      → dues' ≡ up_to (λ k. choose (takes (all_due j.terms t.iteration) j.block.capacities j.first_sinks log from to users k) 1 0) (length dues)
      → dues' ≡ due_marks j p.state
  due-marked same dues dues' long e =
      let mark : (ℕ → ℕ) = λ k. choose (takes (all_due j.terms t.iteration) j.block.capacities j.first_sinks log from to users k) 1 0 in
      let is : dues' ≡ up_to mark (nets j) = rw long at e in
      up_to_is (λ k. choose (due j p.state k) 1 0) (nets j) dues' (ap length is ∙ length_up_to mark (nets j))
      (λ k h. ap (λ (l : List ℕ). get_or l k 0) is ∙ get_or_up_to mark (nets j) k 0 h ∙ rw (due-is same k h))

  -- ---- a net drops its old tree

  module _ (i : ℕ) (hi : i < nets j) where
    pub begin_ready : (dues : List ℕ) → length dues ≡ nets j → BeginReady log j.sources j.first_sinks i dues from to users marks
    begin_ready dues due-long =
        let from_long = kept.places.from_long in
        let to-long = kept.places.to-long in
        let firsts-long = sound.first_sinks-long in
        record {
          source-listed = hi;
          source-node = rw (marks_long j kept) (sound.source-node i hi);
          sinks-listed = omega arith;
          sinks-order = sound.sinks-order i hi;
          due-listed = omega arith;
          from_listed = omega arith;
          to-listed = omega arith;
          old = can_rip (kept.places.words i hi) tallied trees i hi refl kept.users-is kept.no_marks;
        }

    -- the others are left of the users
    others-left :
        {bare users' : List ℕ} → RippedUp (length marks) (path_nodes (decode (slice (get_or from i 0) (get_or to i 0) log))) users marks users' bare
        → users' ≡ up_to (others_of j trees i) (nodes j)
    others-left {users' = users'} r =
        up_to_is (others_of j trees i) (nodes j) users' (r.users-long ∙ users-long j kept)
        (λ v h.
        r.users-at v (rw (marks_long j kept) h)
        ∙ rw (users-at j kept v h, tree_read_lem (kept.places.words i hi) tallied v) (users_but j trees i v hi))

    -- and its source is its tree
    pub opens :
        {left : ℕ} {users' marks' : List ℕ} → Begun log j.sources j.first_sinks i from to users marks left users' marks'
        → Opened j p i [] history users' marks' from to
    unfolding path_nodes
    opens b =
        record {
          history_is = kept.history_is;
          users-is = others-left b.ripped;
          marks_is =
              b.marks_is
              ∙ one_mark j b.bare (source j i) (b.ripped.marks_long ∙ marks_long j kept) (sound.source-node i hi) (rw (marks_long j kept) at b.ripped.no_marks);
          places = kept.places;
        }

-- ---- its new tree grows

module _ (j : Job) {p : Progress} {i : ℕ} {made : List Record} {history users marks from to : List ℕ} (opened : Opened j p i made history users marks from to) where
  pub others-at : (v : ℕ) → v < nodes j → get_or users v 0 ≡ others_of j p.state.trees i v
  others-at v h = ap (λ (l : List ℕ). get_or l v 0) opened.users-is ∙ get_or_up_to (others_of j p.state.trees i) (nodes j) v 0 h

  pub others-long : length users ≡ nodes j
  others-long = ap length opened.users-is ∙ length_up_to (others_of j p.state.trees i) (nodes j)

  pub tree_at_lem : (v : ℕ) → v < nodes j → get_or marks v 0 ≡ choose (has v (tree_from j i made)) 1 0
  tree_at_lem v h = ap (λ (l : List ℕ). get_or l v 0) opened.marks_is ∙ mark_at j (tree_from j i made) v h

  pub tree-long : length marks ≡ nodes j
  tree-long = ap length opened.marks_is ∙ marks_length j (tree_from j i made)

  -- a turn's path joins it
  pub opened_more : (r : Record) {marks' : List ℕ} → Stored 1 r.path marks marks' → Opened j p i (made ++ (r ∷ [])) history users marks' from to
  opened_more r stored =
      record {
        history_is = opened.history_is;
        users-is = opened.users-is;
        marks_is = marks_grow j i made r opened.marks_is stored;
        places = opened.places;
      }

-- ---- and counts

-- the turns stand in the log behind the records so far, and the source is on a path
module _ (j : Job) (sound : Routable j) {p : Progress} {i : ℕ} {made : List Record} {log₀ : List ℕ} {t : Tariff} {history users marks from to log : List ℕ}
    (opened : Opened j p i made history users marks from to) (tallied : Tallied (p.records ++ made) log₀ t log) (hi : i < nets j) (first : ℕ)
    (first_is : first ≡ length (encode p.records)) (below : AllBelow (nodes j) (path_nodes made)) (on : has (source j i) (path_nodes made) ≡ true) where
  own-words : slice first t.words log ≡ encode made
  own-words = tallied-slice p.records made log₀ t log first tallied first_is

  own_records_lem : decode (slice first t.words log) ≡ made
  own_records_lem = rw own-words (decode-encode made)

  -- so the nodes of the paths are the tree
  tree-nodes : (v : ℕ) → has v (path_nodes made) ≡ has v (tree_from j i made)
  tree-nodes v = source_twice j i v made on

  pub countable : CountReady (length marks) first t.words log users marks
  countable =
      let long = tree-long j opened in
      let words_are = tallied.words-is in
      let log-long : length log ≡ length log₀ = ap length tallied.log_is ∙ log-length (p.records ++ made) log₀ tallied.fits in
      let fits = tallied.fits in
      record {
        users-long = others-long j opened ∙ sym long;
        marks_long = refl;
        order =
            let sum : length (encode (p.records ++ made)) ≡ length (encode p.records) + length (encode made) =
            rw (encode-append p.records made) (length-append (encode p.records) (encode made)) in
            omega arith;
        within = omega arith;
        whole = rw long (words_whole (nodes j) made (slice first t.words log) own-words below);
        marked = λ v h. tree_at_lem j opened v (rw long at h) ∙ rw (own_records_lem, tree-nodes v);
        room =
            λ v h.
            let is = others-at j opened v (rw long at h) in
            let few = others_below j sound p.state.trees i v hi in
            omega arith;
      }

  pub counted :
      length p.state.trees ≡ nets j → {users' marks' from' to' : List ℕ} → Ended log i first t.words users marks from to users' marks' from' to'
      → Kept j (with_net j i p made) history users' marks' from' to'
  counted trees-long {users'} {marks'} e =
      let long = tree-long j opened in
      record {
        history_is = opened.history_is;
        users-is =
            up_to_is (users_of j (set p.state.trees i (tree_from j i made))) (nodes j) users' (e.counted.users-long ∙ others-long j opened)
            (λ v h.
            e.counted.users-at v (rw long h)
            ∙ rw (own_records_lem, others-at j opened v h, tree-nodes v)
            (sym (users_with j p.state.trees i (tree_from j i made) v hi (omega arith))));
        no_marks = all_zero (nodes j) marks' (e.counted.marks_long ∙ long) (rw long at e.counted.no_marks);
        places =
            rw (e.from_is, e.to_is)
            (routed-places opened.places i hi (omega arith) made first t.words first_is tallied.words-is below tree-nodes);
      }

-- ---- after an iteration

-- the nodes over capacity, as the code counts them
abbrev pub over_used : Job → List ℕ → ℕ
over_used j users = count_below (λ (v : ℕ). ltb (get_or j.block.capacities v 0) (get_or users v 0)) (nodes j)

pub capacities_long : (j : Job) → Routable j → length j.block.capacities ≡ nodes j
capacities_long j sound = capacities-long _ _ sound.block-sound.capacities_sound_lem

-- it counts up to the length of their table
pub over_counted :
    (j : Job) → Routable j → (users : List ℕ) {over : ℕ}
    → over ≡ count_below (λ (v : ℕ). ltb (get_or j.block.capacities v 0) (get_or users v 0)) (length j.block.capacities) → over ≡ over_used j users
over_counted j sound users e =
    e ∙ ap (λ (k : ℕ). count_below (λ (v : ℕ). ltb (get_or j.block.capacities v 0) (get_or users v 0)) k) (capacities_long j sound)

module _ (j : Job) {p : Progress} {history users marks from to : List ℕ} (kept : Kept j p history users marks from to) where
  -- the nodes over capacity
  pub over-is : over_used j users ≡ over_count j p.state.trees
  unfolding over_count overfull
  over-is =
      count_same (λ v. ltb (get_or j.block.capacities v 0) (get_or users v 0)) (λ v. ltb (get_or j.block.capacities v 0) (users_of j p.state.trees v)) (nodes j)
      (λ v h. rw (users-at j kept v h))

  -- a node's history as the code makes it grow
  abbrev pub grow : ℕ → ℕ
  grow v = next_history j.terms.tuning (get_or history v 0) (get_or users v 0) (get_or j.block.capacities v 0)

  -- histories move on, the rest stays
  pub kept-moved :
      length history ≡ nodes j → {history' : List ℕ} → history' ≡ up_to grow (length history)
      → Kept j (record { records = p.records; state = move_on j p.state }) history' users marks from to
  unfolding move_on
  kept-moved long {history'} e =
      let is : history' ≡ up_to grow (nodes j) = rw long at e in
      record {
        history_is =
            up_to_is (moved_history j p.state) (nodes j) history' (ap length is ∙ length_up_to grow (nodes j))
            (λ v h. ap (λ (l : List ℕ). get_or l v 0) is ∙ get_or_up_to grow (nodes j) v 0 h ∙ rw (kept.history_is, users-at j kept v h));
        users-is = kept.users-is;
        no_marks = kept.no_marks;
        places = record { from_long = kept.places.from_long; to-long = kept.places.to-long; words = kept.places.words };
      }
