-- Where each net's tree stands in the log: laws of its two places.
-- Assumes nothing.
use mathlib.Core.List.{List, [], ◌++◌, append_assoc, append-nil}
use mathlib.Core.Path.{◌≡◌, refl, sym, ◌∙◌, ap}
use Prim.Native.Nat.{ℕ, ◌+◌, ◌≤◌, ◌<◌}
use native.Mathlib.Nat.{not-suc-le-zero}
use native.Mathlib.Omega.{arith}
use lib.Dec.{eqb}
use lib.ListN.{length, get_or, set, drop, replicate, length-append, length-set, length-replicate, get_or-replicate}
use lib.Seq.{slice, take-append_seam, drop-append_seam, get_or-set_same, get_or-set_other}
use borrow.Author.Tests.{eqb-true, eqb-false}
use Rattle.price.specs.Lists.{has, up_to}
use Rattle.price.proofs.TestLaws.{by_test}
use Rattle.price.proofs.ListLaws.{length_up_to, get_or_up_to}
use Rattle.job.specs.Job.{Job, nodes, nets}
use Rattle.negotiation.specs.Records.{Record, encode, decode, path_nodes}
use Rattle.negotiation.specs.Machine.{Progress, tree_at, users_of, tree_from, with_net}
use Rattle.negotiation.specs.Outcome.{log_with}
use Rattle.job.specs.Steps.{AllBelow}
use Rattle.negotiation.specs.Steps.{Whole, RipReady}
use Rattle.negotiation.specs.Kept.{TreeWords, Places, Tallied}
use Rattle.negotiation.specs.declared.tariff.Tariff.{Tariff}
use Rattle.negotiation.proofs.RecordLaws.{decode-encode, encode-append}
use Rattle.negotiation.proofs.TurnStepLaws.{log-length}
use Rattle.negotiation.proofs.UserLaws.{users_some}

-- ---- words within a log

-- the words of some records among others
slice-between : (a b x : List Record) (log : List ℕ) → slice (length (encode a)) (length (encode (a ++ b))) (log_with (a ++ (b ++ x)) log) ≡ encode b
unfolding log_with
slice-between a b x log =
    rw (
      ← append_assoc a b x,
      encode-append (a ++ b) x,
      append_assoc (encode (a ++ b)) (encode x) (drop (length (encode (a ++ b) ++ encode x)) log),
      take-append_seam (encode (a ++ b)) (encode x ++ drop (length (encode (a ++ b) ++ encode x)) log),
      encode-append a b,
    )
    (drop-append_seam (encode a) (encode b))

encode-long : (a b : List Record) → length (encode (a ++ b)) ≡ length (encode a) + length (encode b)
encode-long a b = rw (encode-append a b) (length-append (encode a) (encode b))

-- words that are some records' are whole
pub words_whole : (n : ℕ) (own : List Record) (ws : List ℕ) → ws ≡ encode own → AllBelow n (path_nodes own) → Whole n ws
words_whole n own ws e below =
    rw e (record { whole = ap encode (decode-encode own); nodes-below = rw (decode-encode own) below })

-- ---- a tree's words

-- a tree that is empty stands at the beginning, with no words
no_words : (j : Job) → TreeWords j [] [] 0 0
unfolding encode path_nodes
no_words j =
    record {
      earlier = [];
      own = [];
      later = [];
      is = refl;
      from_is = refl;
      to_is = refl;
      below = λ i h. absurd (not-suc-le-zero h);
      tree_is = λ v. refl;
    }

-- more records leave them where they are
words_more : {j : Job} {rs : List Record} {tree : List ℕ} {from to : ℕ} (more : List Record) → TreeWords j rs tree from to → TreeWords j (rs ++ more) tree from to
words_more more w =
    record {
      earlier = w.earlier;
      own = w.own;
      later = w.later ++ more;
      is = rw (w.is, append_assoc w.earlier (w.own ++ w.later) more, append_assoc w.own w.later more);
      from_is = w.from_is;
      to_is = w.to_is;
      below = w.below;
      tree_is = w.tree_is;
    }

module _ {j : Job} {rs : List Record} {tree : List ℕ} {from to : ℕ} (w : TreeWords j rs tree from to) {log₀ log : List ℕ} {t : Tariff} (a : Tallied rs log₀ t log) where
  own-words : slice from to log ≡ encode w.own
  own-words = rw (a.log_is, w.from_is, w.to_is, w.is) (slice-between w.earlier w.own w.later log₀)

  -- their nodes are the tree's
  pub tree_read_lem : (v : ℕ) → has v (path_nodes (decode (slice from to log))) ≡ has v tree
  tree_read_lem v = rw (own-words, decode-encode w.own) (w.tree_is v)

  pub words-order : from ≤ to
  words-order = let l = encode-long w.earlier w.own in omega (arith, w.from_is, w.to_is)

  pub words-within : to ≤ length log
  words-within =
      let all = encode-long (w.earlier ++ w.own) w.later in
      let is : length (encode rs) ≡ length (encode ((w.earlier ++ w.own) ++ w.later)) =
      ap (λ (l : List Record). length (encode l)) (w.is ∙ sym (append_assoc w.earlier w.own w.later)) in
      let long : length log ≡ length log₀ = ap length a.log_is ∙ log-length rs log₀ a.fits in
      omega (arith, a.fits, w.to_is)

  pub tree_whole : Whole (nodes j) (slice from to log)
  tree_whole = words_whole (nodes j) w.own (slice from to log) own-words w.below

  -- the tree can be dropped, where the users are the nets whose tree has the node
  pub can_rip :
      (trees : List (List ℕ)) (i : ℕ) → i < nets j → tree ≡ tree_at trees i → {users marks : List ℕ} → users ≡ up_to (users_of j trees) (nodes j)
      → marks ≡ replicate (nodes j) 0 → RipReady (length marks) from to log users marks
  can_rip trees i hi is {users} {marks} u m =
      let marks_long : length marks ≡ nodes j = ap length m ∙ length-replicate (nodes j) 0 in
      record {
        users-long = ap length u ∙ length_up_to (users_of j trees) (nodes j) ∙ sym marks_long;
        marks_long = refl;
        order = words-order;
        within = words-within;
        whole = rw marks_long tree_whole;
        no_marks = λ v h. ap (λ (l : List ℕ). get_or l v 0) m ∙ get_or-replicate (nodes j) v 0 0 (rw marks_long at h);
        used = λ v h e.
            rw (u, get_or_up_to (users_of j trees) (nodes j) v 0 (rw marks_long at h))
            (users_some j trees i v hi (ap (has v) (sym is) ∙ sym (tree_read_lem v) ∙ e));
      }

-- ---- every net's

-- at first no net has a tree
pub first_places_lem : (j : Job) (p : Progress) (from to : List ℕ) → p.records ≡ [] → p.state.trees ≡ replicate (nets j) [] → from ≡ replicate (nets j) 0 → to ≡ replicate (nets j) 0 → Places j p from to
first_places_lem j p from to none empty f t =
    record {
      from_long = ap length f ∙ length-replicate (nets j) 0;
      to-long = ap length t ∙ length-replicate (nets j) 0;
      words = λ k h.
          rw (
            none,
            empty,
            f,
            t,
            get_or-replicate {A = List ℕ} (nets j) k [] [] h,
            get_or-replicate {A = ℕ} (nets j) k 0 0 h,
          )
          (no_words j);
    }

-- net i's new turns are its tree, the other nets' words stay
pub routed-places :
    {j : Job} {p : Progress} {from to : List ℕ} → Places j p from to → (i : ℕ) → i < nets j → i < length p.state.trees → (made : List Record) (a b : ℕ)
    → a ≡ length (encode p.records) → b ≡ length (encode (p.records ++ made)) → AllBelow (nodes j) (path_nodes made)
    → ((v : ℕ) → has v (path_nodes made) ≡ has v (tree_from j i made)) → Places j (with_net j i p made) (set from i a) (set to i b)
routed-places {j} {p} {from} {to} places i hi tree made a b ea eb below same =
    record {
      from_long = length-set from i a ∙ places.from_long;
      to-long = length-set to i b ∙ places.to-long;
      words = λ k h.
          by_test (eqb k i)
          (λ q.
          let from_long = places.from_long in
          let to-long = places.to-long in
          rw (
            eqb-true k i q,
            get_or-set_same from i a 0 (omega arith),
            get_or-set_same to i b 0 (omega arith),
            get_or-set_same p.state.trees i (tree_from j i made) [] tree,
          )
          (record {
            earlier = p.records;
            own = made;
            later = [];
            is = rw (append-nil made);
            from_is = ea;
            to_is = eb;
            below = below;
            tree_is = same;
          }))
          (λ q.
          let ne = eqb-false k i q in
          rw (get_or-set_other from i k a 0 ne, get_or-set_other to i k b 0 ne, get_or-set_other p.state.trees i k (tree_from j i made) [] ne)
          (words_more made (places.words k h)));
    }
