-- The branches of a routes text are those of its nets' final trees, net by net, and none is of another net.
--     routes_final                  of any records, so of the log of any run, whatever its outcome
--     tree_read_lem                     a final tree has the nodes of the records whose branches are listed
--     tree-ends                     the nodes in which its branches end are those that demand 3 asks to be reached once
--     routes-nets                   no net that a sound log can't name has a branch
--     users_load                    the nets whose final tree has a node, counted over all nets or over the job's, are as many
-- Assumes nothing.
use mathlib.Core.Bool.{Bool, true, false}
use mathlib.Core.List.{List, [], ◌∷◌, ◌++◌, map, append-nil, map-append, Memᴰ}
use mathlib.Core.Logic.{⊎_elim}
use mathlib.Core.Path.{◌≡◌, refl, sym, ◌∙◌, ap}
use Prim.Native.Nat.{ℕ, zero, suc, ◌≤◌, ◌<◌}
use native.Mathlib.Nat.{add-zero, not-suc-le-zero, le_of_suc-le-suc, eq-or-lt_of_le}
use native.Mathlib.Omega.{arith}
use lib.Dec.{ltb, eqb}
use lib.ListN.{length, drop}
use borrow.Author.Tests.{ltb-true, ne_eqb, eqb-true}
use Rattle.price.specs.Test.{both}
use Rattle.price.specs.Lists.{has, count_below}
use Rattle.price.proofs.TestLaws.{by_test, both_left, true≢false, le_or_lt}
use Rattle.job.specs.Job.{Job, nets}
use Rattle.job.specs.Tables.{nets_most}
use Rattle.job.specs.Join.{leads}
use Rattle.negotiation.specs.Records.{Record, decode, path_nodes}
use Rattle.negotiation.specs.Demand.{nodes_in, latest, tree_read, users_read, ends_in}
use Rattle.text.specs.Routes.{Named, sound_words, log_sound, net_writable, writable, Branch, steps, passing, records_in, final_records, record_branches, tree_branches, route_branches, of_net}
use Rattle.text.specs.Users.{nets_with}
use Rattle.text.proofs.LogLaws.{found_all}
use Rattle.text.proofs.ShortRecordLaws.{all_short}

-- the node in which each branch ends
abbrev pub ends_of_lem : List Branch → List ℕ
ends_of_lem bs = map (λ (b : Branch). b.to) bs

-- a path's steps end in its nodes after the first
step_ends_lem : (n : ℕ) (path : List ℕ) → ends_of_lem (steps n path) ≡ drop 1 path
unfolding steps
step_ends_lem n [] = refl
step_ends_lem n (u ∷ []) = refl
step_ends_lem n (u ∷ v ∷ path) = ap (λ (vs : List ℕ). v ∷ vs) (step_ends_lem n (v ∷ path))

module _ (i : ℕ) where
  -- ---- branches of one net

  of_append : (bs cs : List Branch) → of_net i (bs ++ cs) ≡ of_net i bs ++ of_net i cs
  unfolding of_net
  of_append [] cs = refl
  of_append (b ∷ bs) cs =
      by_test (eqb b.net i)
      (λ q. rw (q, of_append bs cs))
      (λ q. rw (q, of_append bs cs))

  -- a path's steps are of its record's net
  of_own : (n : ℕ) → eqb n i ≡ true → (path : List ℕ) → of_net i (steps n path) ≡ steps n path
  unfolding of_net steps
  of_own n e [] = refl
  of_own n e (u ∷ []) = refl
  of_own n e (u ∷ v ∷ path) = rw (e, of_own n e (v ∷ path))

  of_other : (n : ℕ) → eqb n i ≡ false → (path : List ℕ) → of_net i (steps n path) ≡ []
  unfolding of_net steps
  of_other n e [] = refl
  of_other n e (u ∷ []) = refl
  of_other n e (u ∷ v ∷ path) = rw e (of_other n e (v ∷ path))

  -- ---- trees

  -- a net's records have branches of this net alone
  own_in : (t : ℕ) (rs : List Record) → of_net i (record_branches (records_in i t rs)) ≡ record_branches (records_in i t rs)
  unfolding of_net passing record_branches
  own_in t [] = refl
  own_in t (r ∷ rs) =
      by_test (both (eqb r.net i) (eqb r.iteration t))
      (λ q.
      rw (
        q,
        of_append (steps r.net r.path) (record_branches (records_in i t rs)),
        of_own r.net (both_left (eqb r.net i) (eqb r.iteration t) q) r.path,
        own_in t rs,
      ))
      (λ q. rw q (own_in t rs))

  other_in : (k t : ℕ) → (k ≡ i → ⊥) → (rs : List Record) → of_net i (record_branches (records_in k t rs)) ≡ []
  unfolding of_net passing record_branches
  other_in k t ne [] = refl
  other_in k t ne (r ∷ rs) =
      by_test (both (eqb r.net k) (eqb r.iteration t))
      (λ q.
      let is : r.net ≡ k = eqb-true r.net k (both_left (eqb r.net k) (eqb r.iteration t) q) in
      rw (
        q,
        of_append (steps r.net r.path) (record_branches (records_in k t rs)),
        of_other r.net (ne_eqb r.net i (λ e. ne (sym is ∙ e))) r.path,
      )
      (other_in k t ne rs))
      (λ q. rw q (other_in k t ne rs))

  -- the first nets have no branch of a later one
  routes_before : (n : ℕ) (rs : List Record) → n ≤ i → of_net i (route_branches n rs) ≡ []
  unfolding of_net route_branches tree_branches final_records
  routes_before zero rs l = refl
  routes_before (suc k) rs l =
      rw (of_append (route_branches k rs) (tree_branches k rs), routes_before k rs (omega arith)) (other_in k (latest k rs) (λ e. omega arith) rs)

  -- the branches of each net of table 5 are those of its final tree
  pub routes_final : (n : ℕ) (rs : List Record) → i < n → of_net i (route_branches n rs) ≡ tree_branches i rs
  unfolding route_branches tree_branches final_records
  routes_final zero rs l = absurd (not-suc-le-zero l)
  routes_final (suc k) rs l =
      ⊎_elim
      (λ (e : i ≡ k).
      rw (of_append (route_branches k rs) (tree_branches k rs), ← e, routes_before i rs (omega arith)) (own_in (latest i rs) rs))
      (λ (h : i < k).
      rw (of_append (route_branches k rs) (tree_branches k rs), other_in k (latest k rs) (λ e. omega arith) rs)
      (append-nil (of_net i (route_branches k rs)) ∙ routes_final k rs h))
      (eq-or-lt_of_le (le_of_suc-le-suc l))

  nodes_in_lem : (t : ℕ) (rs : List Record) → nodes_in i t rs ≡ path_nodes (records_in i t rs)
  unfolding nodes_in path_nodes passing
  nodes_in_lem t [] = refl
  nodes_in_lem t (r ∷ rs) =
      by_test (both (eqb r.net i) (eqb r.iteration t))
      (λ q. rw (q, nodes_in_lem t rs))
      (λ q. rw q (nodes_in_lem t rs))

  -- the final tree of demand 3 is read from the same records
  pub tree_read_lem : (rs : List Record) → tree_read i rs ≡ path_nodes (final_records i rs)
  unfolding tree_read final_records
  tree_read_lem rs = nodes_in_lem (latest i rs) rs

  ends_in_lem : (t : ℕ) (rs : List Record) → ends_of_lem (record_branches (records_in i t rs)) ≡ ends_in i t rs
  unfolding record_branches passing ends_in
  ends_in_lem t [] = refl
  ends_in_lem t (r ∷ rs) =
      by_test (both (eqb r.net i) (eqb r.iteration t))
      (λ q.
      rw (q, map-append (λ (b : Branch). b.to) (steps r.net r.path) (record_branches (records_in i t rs)), step_ends_lem r.net r.path, ends_in_lem t rs))
      (λ q. rw q (ends_in_lem t rs))

  -- the branches that are printed end in the nodes of which demand 3 says that none is reached twice
  pub tree-ends : (rs : List Record) → ends_of_lem (tree_branches i rs) ≡ ends_in i (latest i rs) rs
  unfolding tree_branches final_records
  tree-ends rs = ends_in_lem (latest i rs) rs

  -- a net without a record has no tree
  none_in : (t : ℕ) (rs : List Record) → ((r : Record) → Memᴰ r rs → r.net ≡ i → ⊥) → records_in i t rs ≡ []
  unfolding passing
  none_in t [] h = refl
  none_in t (r ∷ rs) h = rw (ne_eqb r.net i (h r (Memᴰ.head refl))) (none_in t rs (λ q m. h q (Memᴰ.tail m)))

-- a net that table 5 lacks, or that is joined into another, has no branch
pub routes-nets :
    (sources log : List ℕ) → log_sound (writable sources) log ≡ true → (i : ℕ) → net_writable sources i ≡ false
    → of_net i (route_branches (length sources) (decode log)) ≡ []
unfolding sound_words record_branches tree_branches final_records
routes-nets sources log t i q =
    let named : Named = writable sources in
    let none : (r : Record) → Memᴰ r (decode log) → r.net ≡ i → ⊥ =
    λ r m e. true≢false (sym (all_short named (length log) 0 log (omega arith) (found_all named log t) r m).net_passes ∙ ap (net_writable sources) e ∙ q) in
    ⊎_elim
    (λ (l : length sources ≤ i). routes_before i (length sources) (decode log) l)
    (λ (l : i < length sources). routes_final i (length sources) (decode log) l ∙ rw (none_in i (latest i (decode log)) (decode log) none))
    (le_or_lt (length sources) i)

-- ---- users

-- where no later number passes, no more are counted
count-beyond : (t : ℕ → Bool) (n m : ℕ) → n ≤ m → ((x : ℕ) → n ≤ x → t x ≡ false) → count_below t m ≡ count_below t n
unfolding count_below
count-beyond t n zero l none = let e : n ≡ 0 = omega arith in rw e
count-beyond t n (suc m) l none =
    ⊎_elim
    (λ (h : suc m ≤ n). let e : n ≡ suc m = omega arith in rw e)
    (λ (h : n < suc m).
    rw (none m (omega arith)) (add-zero (count_below t m) ∙ count-beyond t n m (omega arith) none))
    (le_or_lt (suc m) n)

-- a net that no record names has no node
no_tree : (i v : ℕ) (rs : List Record) → ((r : Record) → Memᴰ r rs → r.net ≡ i → ⊥) → has v (tree_read i rs) ≡ false
unfolding final_records path_nodes has
no_tree i v rs none = rw (tree_read_lem i rs, none_in i (latest i rs) rs none)

-- request 2.11 counts a node's users over all nets below 512, without table 5; demand 3 counts its load over the nets of the job. Of a log that names only nets of the
-- job, as the log of an accepted one does, these are the same
pub users_load :
    (j : Job) (log : List ℕ) → log_sound (writable j.sources) log ≡ true → nets j ≤ nets_most → (v : ℕ) → nets_with (decode log) v ≡ users_read j (decode log) v
unfolding nets_with users_read sound_words net_writable
users_load j log t few v =
    let named : Named = writable j.sources in
    count-beyond (λ i. has v (tree_read i (decode log))) (nets j) nets_most few
    (λ i l.
    no_tree i v (decode log)
    (λ r m e.
    let passes : net_writable j.sources r.net ≡ true = (all_short named (length log) 0 log (omega arith) (found_all named log t) r m).net_passes in
    let below = ltb-true r.net (length j.sources) (both_left (ltb r.net (length j.sources)) (leads j.sources r.net) passes) in
    omega arith))
