-- How many nets' final trees have each node: what one node does, and two lists after each other do what their join does; the loops over
-- records and nets.
-- Assumes nothing.
use mathlib.Core.Bool.{Bool, true, false, not}
use mathlib.Core.List.{List, [], ◌∷◌, ◌++◌}
use mathlib.Core.Path.{◌≡◌, refl, sym, ◌∙◌, ap, subst}
use Prim.Native.Nat.{ℕ, ◌+◌, ◌-◌, ◌≤◌, ◌<◌}
use native.Mathlib.Numerals.{add-one}
use native.Mathlib.Omega.{arith}
use lib.Dec.{eqb, ltb}
use lib.ListN.{length, get_or, set, take, drop, length-set, drop_of_length-le}
use lib.Seq.{get_or-set_same, get_or-set_other, get_or-drop, drop-drop, take-suc}
use borrow.Author.Tests.{eq-eqb, ne_eqb, eqb-true, eqb-false, ltb-true}
use Rattle.price.specs.Test.{choose, both, either}
use Rattle.price.specs.Bounds.{nodes_most}
use Rattle.price.specs.Lists.{every, has, count_below}
use Rattle.price.proofs.TestLaws.{by_test}
use Rattle.price.proofs.ListLaws.{every-at, has-append}
use Rattle.price.proofs.BelowLaws.{count_most_lem}
use Rattle.negotiation.specs.Records.{decode, path_nodes}
use Rattle.negotiation.specs.Demand.{tree_read}
use Rattle.job.specs.Steps.{AllBelow}
use Rattle.job.specs.Tables.{nets_most}
use Rattle.job.proofs.MarkLaws.{stored_none, stored_one, stored_append}
use Rattle.text.specs.Routes.{path_words, passing}
use Rattle.text.specs.WriteSteps.{next_at, AllSound, part, own_records, LatestWords, RecordAt}
use Rattle.text.specs.Users.{nets_with}
use Rattle.text.specs.UserSteps.{Counted, FewUsers}
use Rattle.text.proofs.LogLaws.{long-at, decode-at, decode-none}
use Rattle.text.proofs.BranchLaws.{Rest, rest_none, sound-here, rest_next}
use Rattle.text.proofs.ShortRecordLaws.{first_short}
use Rattle.text.proofs.BranchHolds.{tree_read_lem}

-- ---- one list behind another

add_none : (u : ℕ) → u ≡ u + 0
add_none u = omega arith

pub counted_none : (stamp : ℕ) (users stamps : List ℕ) → Counted stamp [] users stamps users stamps
unfolding has
counted_none stamp users stamps = record { users-long = refl; users-at = λ v. add_none (get_or users v 0); stamps-set = stored_none stamp stamps }

module _ (stamp y : ℕ) (users stamps : List ℕ) (l : y < length stamps) where
  -- a node without the stamp
  pub counted_one : y < length users → (get_or stamps y 0 ≡ stamp → ⊥) → Counted stamp (y ∷ []) users stamps (set users y (get_or users y 0 + 1)) (set stamps y stamp)
  unfolding has
  counted_one h z = record {
    users-long = length-set users y (get_or users y 0 + 1);
    users-at = λ v.
        by_test (eqb v y)
        (λ q.
        let e : v ≡ y = eqb-true v y q in
        rw (q, e, ne_eqb (get_or stamps y 0) stamp z) (get_or-set_same users y (get_or users y 0 + 1) 0 h))
        (λ q. rw q (get_or-set_other users y v (get_or users y 0 + 1) 0 (eqb-false v y q) ∙ add_none (get_or users v 0)));
    stamps-set = stored_one stamp y stamps l;
  }

  -- a node that bears it
  pub counted-kept : get_or stamps y 0 ≡ stamp → Counted stamp (y ∷ []) users stamps users (set stamps y stamp)
  unfolding has
  counted-kept z = record {
    users-long = refl;
    users-at = λ v.
        by_test (eqb v y)
        (λ q. let e : v ≡ y = eqb-true v y q in rw (q, e, eq-eqb (get_or stamps y 0) stamp z) (add_none (get_or users y 0)))
        (λ q. rw q (add_none (get_or users v 0)));
    stamps-set = stored_one stamp y stamps l;
  }

count_again :
    (s t : Bool) (stamp m u : ℕ) → u + choose (both s (not (eqb m stamp))) 1 0 + choose (both t (not (eqb (choose s stamp m) stamp))) 1 0
    ≡ u + choose (both (either s t) (not (eqb m stamp))) 1 0
count_again true true stamp m u = rw (eq-eqb stamp stamp refl) (sym (add_none _))
count_again true false stamp m u = sym (add_none _)
count_again false t stamp m u = rw (← add_none u)

-- what a node gains in a second list it has not gained in the first: there it got the stamp
pub counted-append :
    {stamp : ℕ} {xs ys users stamps users_now stamps_now users_later stamps_later : List ℕ} → Counted stamp xs users stamps users_now stamps_now
    → Counted stamp ys users_now stamps_now users_later stamps_later → Counted stamp (xs ++ ys) users stamps users_later stamps_later
counted-append {stamp} {xs} {ys} {users} {stamps} s t = record {
  users-long = t.users-long ∙ s.users-long;
  users-at = λ v.
      t.users-at v
      ∙ rw (s.users-at v, s.stamps-set.at v, has-append v xs ys) (count_again (has v xs) (has v ys) stamp (get_or stamps v 0) (get_or users v 0));
  stamps-set = stored_append s.stamps-set t.stamps-set;
}

-- ---- a path, node after node

-- the nodes of a path before a place are counted
abbrev pub CountingPath : ℕ → List ℕ → List ℕ → List ℕ → List ℕ → List ℕ → ℕ → Type 0
CountingPath stamp path users stamps users_now stamps_now k = Counted stamp (take k path) users stamps users_now stamps_now

pub path_more :
    {stamp : ℕ} (path : List ℕ) (k : ℕ) {users stamps users_now stamps_now users_later stamps_later : List ℕ} → CountingPath stamp path users stamps users_now stamps_now k
    → k < length path → Counted stamp (get_or path k 0 ∷ []) users_now stamps_now users_later stamps_later → CountingPath stamp path users stamps users_later stamps_later (k + 1)
path_more path k c l one = rw (add-one, take-suc path k 0 l) (counted-append c one)

-- ---- no node has too many users

few-more :
    (t : Bool) (stamp m u u' : ℕ) → u ≤ nets_most + choose (eqb m stamp) 1 0 → u' ≡ u + choose (both t (not (eqb m stamp))) 1 0
    → u' ≤ nets_most + choose (eqb (choose t stamp m) stamp) 1 0
few-more true stamp m u u' few e =
    rw (eq-eqb stamp stamp refl)
    (by_test (eqb m stamp)
    (λ q. let f : u ≤ nets_most + 1 = rw q at few in let g : u' ≡ u + 0 = rw q at e in omega arith)
    (λ q. let f : u ≤ nets_most + 0 = rw q at few in let g : u' ≡ u + 1 = rw q at e in omega arith))
few-more false stamp m u u' few e = omega arith

pub few-counted : {stamp : ℕ} {xs users stamps users_now stamps_now : List ℕ} → FewUsers stamp users stamps → Counted stamp xs users stamps users_now stamps_now → FewUsers stamp users_now stamps_now
few-counted {stamp} {xs} {users} {stamps} {users_now} few s v =
    rw (s.stamps-set.at v) (few-more (has v xs) stamp (get_or stamps v 0) (get_or users v 0) (get_or users_now v 0) (few v) (s.users-at v))

-- ---- the records of a net

-- the nodes of a net's records from a place on
abbrev nodes_from_lem : ℕ → List ℕ → ℕ → List ℕ
nodes_from_lem net log at = path_nodes (own_records net (decode (drop at log)))

-- the path of the record at a place
path-at : (log : List ℕ) (at : ℕ) → take (get_or log (at + 5) 0) (drop (at + 6) log) ≡ part log (at + 6) (next_at log at)
path-at log at =
    let count : next_at log at - (at + 6) ≡ get_or log (at + 5) 0 = omega arith in
    rw count

module _ {log : List ℕ} {at : ℕ} (p : Rest log at) (few : p.named.nodes ≤ nodes_most) (l : at < length log) where
  abbrev rest : List ℕ
  rest = drop at log

  abbrev path : List ℕ
  path = path_words (get_or rest 5 0) rest

  path-is : path ≡ part log (at + 6) (next_at log at)
  path-is = rw (get_or-drop at log 5 0, drop-drop 6 at log) (path-at log at)

  nodes-sound : every (λ v. ltb v p.named.nodes) path ≡ true
  nodes-sound = (first_short p.named p.last rest (sound-here p l)).nodes-below

  -- its nodes are numbers of nodes
  pub path-below : {iteration own end : ℕ} {words : List ℕ} → RecordAt log at iteration own words end → AllBelow nodes_most words
  path-below r =
      rw (r.path-is, r.end-is)
      (subst (AllBelow nodes_most) path-is
      (λ k h. let low = ltb-true (get_or path k 0) p.named.nodes (every-at (λ v. ltb v p.named.nodes) path nodes-sound k h) in omega arith))

module _ {log : List ℕ} {at : ℕ} (p : Rest log at) (l : at < length log) (net : ℕ) where
  nodes_met : get_or log (at + 1) 0 ≡ net → nodes_from_lem net log at ≡ part log (at + 6) (next_at log at) ++ nodes_from_lem net log (next_at log at)
  unfolding passing path_nodes
  nodes_met e =
      let long = long-at log at p.named p.last (sound-here p l) in
      rw (decode-at log at (omega arith), eq-eqb (get_or log (at + 1) 0) net e, path-at log at)

  nodes_passed : (get_or log (at + 1) 0 ≡ net → ⊥) → nodes_from_lem net log at ≡ nodes_from_lem net log (next_at log at)
  unfolding passing
  nodes_passed e =
      let long = long-at log at p.named p.last (sound-here p l) in
      rw (decode-at log at (omega arith), ne_eqb (get_or log (at + 1) 0) net e)

-- the nodes of the net's records before a place are counted: whoever counts the others has counted all
pub record CountingRecords (stamp net : ℕ) (log users stamps users_now stamps_now : List ℕ) (at : ℕ) : Type 0 where
  pub rest : Rest log at
  pub nodes-few : rest.named.nodes ≤ nodes_most
  pub few : FewUsers stamp users_now stamps_now
  pub users-long : length users_now ≡ length users
  pub stamps-long : length stamps_now ≡ length stamps
  pub whole :
      (u s : List ℕ) → Counted stamp (nodes_from_lem net log at) users_now stamps_now u s → Counted stamp (path_nodes (own_records net (decode log))) users stamps u s

pub records-none : (stamp net : ℕ) (log users stamps : List ℕ) → AllSound log → FewUsers stamp users stamps → CountingRecords stamp net log users stamps users stamps 0
unfolding rest_none
records-none stamp net log users stamps e few =
    record {
      rest = rest_none log e;
      nodes-few = e.nodes-few;
      few = few;
      users-long = refl;
      stamps-long = refl;
      whole = λ u s c. c;
    }

module _ {stamp net : ℕ} {log users stamps users_now stamps_now : List ℕ} {at : ℕ} (p : CountingRecords stamp net log users stamps users_now stamps_now at) where
  pub records-all : length log ≤ at → Counted stamp (path_nodes (own_records net (decode log))) users stamps users_now stamps_now
  unfolding passing path_nodes
  records-all l =
      let none : nodes_from_lem net log at ≡ [] = rw (drop_of_length-le log l, decode-none) in
      p.whole users_now stamps_now (rw none (counted_none stamp users_now stamps_now))

  module _ (l : at < length log) where
    module _ {iteration own end : ℕ} {path : List ℕ} (r : RecordAt log at iteration own path end) where
      pub records_passed : (own ≡ net → ⊥) → CountingRecords stamp net log users stamps users_now stamps_now end
      records_passed e =
          record {
            rest = rw r.end-is (rest_next p.rest l);
            nodes-few = p.nodes-few;
            few = p.few;
            users-long = p.users-long;
            stamps-long = p.stamps-long;
            whole = λ u s c. p.whole u s (rw (nodes_passed p.rest l net (λ q. e (r.net-is ∙ q)), ← r.end-is) c);
          }

      pub records_met :
          {u s : List ℕ} → own ≡ net → Counted stamp path users_now stamps_now u s
          → CountingRecords stamp net log users stamps u s end
      records_met e q =
          record {
            rest = rw r.end-is (rest_next p.rest l);
            nodes-few = p.nodes-few;
            few = few-counted p.few q;
            users-long = q.users-long ∙ p.users-long;
            stamps-long = q.stamps-set.long ∙ p.stamps-long;
            whole = λ v t c. p.whole v t (rw (nodes_met p.rest l net (sym r.net-is ∙ e), ← r.end-is, ← r.path-is) (counted-append q c));
          }

-- ---- net after net

-- the trees of the nets before one are counted, and no node bears a later net's stamp
pub record CountingNets (log users stamps : List ℕ) (net : ℕ) : Type 0 where
  pub within : net ≤ nets_most
  pub users-long : length users ≡ 4096
  pub stamps-long : length stamps ≡ 4096
  pub users-at : (v : ℕ) → get_or users v 0 ≡ count_below (λ i. has v (tree_read i (decode log))) net
  pub stamps-low : (v : ℕ) → get_or stamps v 0 ≤ net

pub nets-none :
    (log users stamps : List ℕ) → length users ≡ 4096 → length stamps ≡ 4096 → ((v : ℕ) → (get_or users v 0 ≡ 0) × (get_or stamps v 0 ≡ 0))
    → CountingNets log users stamps 0
unfolding count_below
nets-none log users stamps ul sl zeros =
    record { within = omega arith; users-long = ul; stamps-long = sl; users-at = λ v. (zeros v).0; stamps-low = λ v. omega (arith, (zeros v).1) }

stamp_low : (t : Bool) (a m n : ℕ) → a ≤ n → m ≤ n → choose t a m ≤ n
stamp_low true a m n k l = k
stamp_low false a m n k l = l

alone : (t : Bool) → both t true ≡ t
alone true = refl
alone false = refl

module _ {log users stamps : List ℕ} {net : ℕ} (p : CountingNets log users stamps net) where
  pub nets-few : FewUsers (net + 1) users stamps
  nets-few v = omega (arith, p.users-at v, p.within, count_most_lem (λ i. has v (tree_read i (decode log))) net)

  pub nets-more :
      {words u s : List ℕ} → net < nets_most → LatestWords log net words → Counted (net + 1) (path_nodes (own_records net (decode words))) users stamps u s
      → CountingNets log u s (net + 1)
  unfolding count_below
  nets-more {words} {u} {s} l latest c =
      let tree : path_nodes (own_records net (decode words)) ≡ tree_read net (decode log) =
      ap path_nodes latest.own ∙ sym (tree_read_lem net (decode log)) in
      let is : Counted (net + 1) (tree_read net (decode log)) users stamps u s = rw tree at c in
      record {
        within = omega arith;
        users-long = is.users-long ∙ p.users-long;
        stamps-long = is.stamps-set.long ∙ p.stamps-long;
        users-at = λ v.
            is.users-at v
            ∙ rw (p.users-at v, ne_eqb (get_or stamps v 0) (net + 1) (λ e. omega (arith, p.stamps-low v)), alone (has v (tree_read net (decode log))), add-one);
        stamps-low = λ v. rw (is.stamps-set.at v) (stamp_low (has v (tree_read net (decode log))) (net + 1) (get_or stamps v 0) (net + 1) (omega arith) (omega (arith, p.stamps-low v)));
      }

  pub nets-all : nets_most ≤ net → (v : ℕ) → get_or users v 0 ≡ nets_with (decode log) v
  unfolding nets_with
  nets-all l v =
      let e : net ≡ nets_most = omega (arith, p.within) in
      p.users-at v ∙ ap (λ (n : ℕ). count_below (λ i. has v (tree_read i (decode log))) n) e
