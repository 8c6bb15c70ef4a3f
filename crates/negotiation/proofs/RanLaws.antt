-- A run of whole iterations, whoever made its turns: what is read off its records is the state that it leads to.
-- Assumes nothing.
use mathlib.Core.Bool.{true, false, not}
use mathlib.Core.List.{List, [], ◌∷◌, ◌++◌, append-nil, append_assoc}
use mathlib.Core.Logic.{⊎_elim}
use mathlib.Core.Path.{◌≡◌, refl, sym, ◌∙◌, ap, subst}
use Prim.Native.Nat.{ℕ, suc, ◌+◌, ◌≤◌, ◌<◌}
use native.Mathlib.Nat.{not-suc-le-zero, le_of_suc-le-suc, le_refl, eq-or-lt_of_le, max-zero}
use native.Mathlib.Omega.{arith}
use lib.Dec.{eqb}
use lib.ListN.{length, get_or, length-set, length-replicate, get_or-replicate}
use lib.Seq.{get_or-set_same, get_or-set_other}
use borrow.Author.Tests.{eqb-true, eqb-false, leb-false}
use Rattle.price.specs.Test.{both}
use Rattle.price.specs.Lists.{has, distinct}
use Rattle.price.specs.Prices.{factor_at, next_history}
use Rattle.price.proofs.TestLaws.{by_test, true≢false}
use Rattle.price.proofs.ListLaws.{get_or_up_to, has_place}
use Rattle.price.proofs.BelowLaws.{count_same}
use Rattle.price.proofs.PriceLaws.{factor-steps}
use Rattle.job.specs.Job.{Job, nodes, nets, source, net_sinks}
use Rattle.negotiation.specs.Records.{Record, path_nodes}
use Rattle.negotiation.specs.Machine.{State, Progress, tree_at, others_of, users_of, tree_from, has_sinks, due, move_on, first_state}
use Rattle.negotiation.specs.Demand.{nodes_in, latest, tree_read, others_read, up_to_iteration, users_read, history_read, ends_in}
use Rattle.negotiation.specs.Runs.{All, Of, branch_ends, Owns, NetsRan, none, kept, routed, Ran, start, next}
use Rattle.negotiation.proofs.DueLaws.{first_due}
use Rattle.negotiation.proofs.FilterLaws.{all_append, all_map, nodes-append, ends-append, up_to_append, latest-append, nodes_of_lem, ends_of, latest-le, latest_of_lem, Elsewhere, nodes-none, ends-none, latest-none, up_to_all, up_to_none}

-- ---- iteration, factor and histories

module _ (j : Job) {s : State} where
  pub nets-iteration : {i : ℕ} {p : Progress} → NetsRan j s i p → p.state.iteration ≡ s.iteration
  nets-iteration none = refl
  nets-iteration (kept r d) = nets-iteration r
  nets-iteration (routed r d o) = nets-iteration r

  pub nets-factor : {i : ℕ} {p : Progress} → NetsRan j s i p → p.state.factor ≡ s.factor
  nets-factor none = refl
  nets-factor (kept r d) = nets-factor r
  nets-factor (routed r d o) = nets-factor r

  pub nets-histories : {i : ℕ} {p : Progress} → NetsRan j s i p → p.state.histories ≡ s.histories
  nets-histories none = refl
  nets-histories (kept r d) = nets-histories r
  nets-histories (routed r d o) = nets-histories r

  pub nets-trees : {i : ℕ} {p : Progress} → NetsRan j s i p → length p.state.trees ≡ length s.trees
  nets-trees none = refl
  nets-trees (kept r d) = nets-trees r
  nets-trees (routed {i = i} {p = p} {rs = rs} r d o) = length-set p.state.trees i (tree_from j i rs) ∙ nets-trees r

  -- the records are of this iteration, and of nets that were looked at
  pub nets-all : {i : ℕ} {p : Progress} → NetsRan j s i p → All (λ r. r.iteration ≡ s.iteration) p.records
  nets-all none = tt
  nets-all (kept r d) = nets-all r
  nets-all (routed {i = i} {p = p} {rs = rs} r d o) =
      all_append (λ r. r.iteration ≡ s.iteration) p.records rs (nets-all r)
      (all_map (Of i s.iteration) (λ r. r.iteration ≡ s.iteration) (λ r o. o.iteration-is) rs o.own)

  pub nets-below : {i : ℕ} {p : Progress} → NetsRan j s i p → All (λ r. r.net < i) p.records
  nets-below none = tt
  nets-below (kept {i = i} {p = p} r d) = all_map (λ r. r.net < i) (λ r. r.net < suc i) (λ r h. omega (arith, h)) p.records (nets-below r)
  nets-below (routed {i = i} {p = p} {rs = rs} r d o) =
      all_append (λ r. r.net < suc i) p.records rs
      (all_map (λ r. r.net < i) (λ r. r.net < suc i) (λ r h. omega (arith, h)) p.records (nets-below r))
      (all_map (Of i s.iteration) (λ r. r.net < suc i) (λ r o. omega (arith, o.net-is)) rs o.own)

module _ (j : Job) where
  pub ran-iteration : {m : ℕ} {rs : List Record} {s : State} → Ran j m rs s → s.iteration ≡ m + 1
  unfolding first_state move_on
  ran-iteration start = refl
  ran-iteration (next r n) = rw (nets-iteration j n, ran-iteration r) (omega arith)

  pub ran-factor : {m : ℕ} {rs : List Record} {s : State} → Ran j m rs s → s.factor ≡ factor_at j.terms.tuning (m + 1)
  unfolding first_state move_on factor_at
  ran-factor start = refl
  ran-factor (next {m = m} r n) =
      let two : m + 1 + 1 ≡ suc m + 1 = omega arith in
      rw (nets-iteration j n, nets-factor j n, ran-iteration r, ran-factor r)
      (sym (factor-steps j.terms.tuning (m + 1)) ∙ ap (factor_at j.terms.tuning) two)

  pub ran-trees : {m : ℕ} {rs : List Record} {s : State} → Ran j m rs s → length s.trees ≡ nets j
  unfolding first_state move_on
  ran-trees start = length-replicate (nets j) []
  ran-trees (next r n) = nets-trees j n ∙ ran-trees r

  pub ran-all : {m : ℕ} {rs : List Record} {s : State} → Ran j m rs s → All (λ r. r.iteration ≤ m) rs
  ran-all start = tt
  ran-all (next {m = m} {rs = rs} {p = p} r n) =
      all_append (λ r. r.iteration ≤ suc m) rs p.records
      (all_map (λ r. r.iteration ≤ m) (λ r. r.iteration ≤ suc m) (λ r l. omega (arith, l)) rs (ran-all r))
      (all_map _ (λ r. r.iteration ≤ suc m) (λ q e. let t = ran-iteration r in omega (arith, e)) p.records (nets-all j n))

-- ---- trees

-- records of other nets change neither a net's latest iteration nor its tree nor the ends of its branches
module _ (k : ℕ) (rs ss : List Record) (others : All (λ r. r.net ≡ k → ⊥) ss) where
  absent_latest : latest k (rs ++ ss) ≡ latest k rs
  absent_latest = rw (latest-append k rs ss, latest-none k ss others) (max-zero (latest k rs))

  elsewhere : (t : ℕ) → All (Elsewhere k t) ss
  elsewhere t = all_map (λ r. r.net ≡ k → ⊥) (Elsewhere k t) (λ r ne e _. ne e) ss others

  absent_read : tree_read k (rs ++ ss) ≡ tree_read k rs
  unfolding tree_read
  absent_read =
      rw (absent_latest, nodes-append k (latest k rs) rs ss, nodes-none k (latest k rs) ss (elsewhere (latest k rs)))
      (append-nil (nodes_in k (latest k rs) rs))

  absent_ends : ends_in k (latest k (rs ++ ss)) (rs ++ ss) ≡ ends_in k (latest k rs) rs
  absent_ends =
      rw (absent_latest, ends-append k (latest k rs) rs ss, ends-none k (latest k rs) ss (elsewhere (latest k rs)))
      (append-nil (ends_in k (latest k rs) rs))

not_of : (i k : ℕ) (ss : List Record) → All (λ r. r.net ≡ i) ss → (k ≡ i → ⊥) → All (λ r. r.net ≡ k → ⊥) ss
not_of i k ss all ne = all_map (λ r. r.net ≡ i) (λ r. r.net ≡ k → ⊥) (λ r e q. ne (sym q ∙ e)) ss all

pub read_other : (i k : ℕ) (rs ss : List Record) → All (λ r. r.net ≡ i) ss → (k ≡ i → ⊥) → tree_read k (rs ++ ss) ≡ tree_read k rs
read_other i k rs ss all ne = absent_read k rs ss (not_of i k ss all ne)

-- a net's new records are its latest, and theirs are the ends of its branches
own-latest : (j : Job) (i t : ℕ) (rs ss : List Record) → Owns j i t ss → All (λ r. r.iteration ≤ t) rs → latest i (rs ++ ss) ≡ t
own-latest j i t rs ss o most =
    let before = latest-le i t rs most in
    let here = latest_of_lem i t (source j i) ss o.own o.source-on in
    latest-append i rs ss ∙ omega arith

own-ends : (i t : ℕ) (rs ss : List Record) → All (Of i t) ss → All (Elsewhere i t) rs → ends_in i t (rs ++ ss) ≡ branch_ends ss
own-ends i t rs ss own absent = rw (ends-append i t rs ss, ends-none i t rs absent) (ends_of i t ss own)

-- and they are its tree
pub read_own :
    (j : Job) (i t : ℕ) (rs ss : List Record) → Owns j i t ss → All (λ r. r.iteration ≤ t) rs → All (Elsewhere i t) rs
    → tree_read i (rs ++ ss) ≡ path_nodes ss
unfolding tree_read
read_own j i t rs ss o most absent =
    rw (own-latest j i t rs ss o most, nodes-append i t rs ss, nodes-none i t rs absent) (nodes_of_lem i t ss o.own)

-- the source is among the nodes already
pub source_twice : (j : Job) (i v : ℕ) (rs : List Record) → has (source j i) (path_nodes rs) ≡ true → has v (path_nodes rs) ≡ has v (tree_from j i rs)
unfolding has
source_twice j i v rs on =
    by_test (eqb v (source j i))
    (λ q. rw (q, eqb-true v (source j i) q) on)
    (λ q. rw q)

-- the records before net i's in this iteration
module _ (j : Job) {s : State} (rs : List Record) (most : All (λ r. r.iteration < s.iteration) rs) {i : ℕ} {p : Progress} (n : NetsRan j s i p) where
  -- none is of net i in this iteration
  not_yet : All (Elsewhere i s.iteration) (rs ++ p.records)
  not_yet =
      all_append (Elsewhere i s.iteration) rs p.records
      (all_map (λ r. r.iteration < s.iteration) (Elsewhere i s.iteration) (λ r l e f. omega (arith, l, f)) rs most)
      (all_map (λ r. r.net < i) (Elsewhere i s.iteration) (λ r l e f. omega (arith, l, e)) p.records (nets-below j n))

  -- none is of a later iteration
  up_to_now : All (λ r. r.iteration ≤ s.iteration) (rs ++ p.records)
  up_to_now =
      all_append (λ r. r.iteration ≤ s.iteration) rs p.records
      (all_map (λ r. r.iteration < s.iteration) (λ r. r.iteration ≤ s.iteration) (λ r l. omega (arith, l)) rs most)
      (all_map (λ r. r.iteration ≡ s.iteration) (λ r. r.iteration ≤ s.iteration) (λ r l. omega (arith, l)) p.records (nets-all j n))

-- what is read is the state's: after an iteration's first nets, where it is so at its start
module _ (j : Job) {s : State} (rs : List Record) (most : All (λ r. r.iteration < s.iteration) rs)
    (same : (k v : ℕ) → k < nets j → has v (tree_read k rs) ≡ has v (tree_at s.trees k)) (long : length s.trees ≡ nets j) where
  pub nets_read : {i : ℕ} {p : Progress} → NetsRan j s i p → (k v : ℕ) → i ≤ nets j → k < nets j → has v (tree_read k (rs ++ p.records)) ≡ has v (tree_at p.state.trees k)
  nets_read none k v h l = rw (append-nil rs) (same k v l)
  nets_read (kept r d) k v h l = nets_read r k v (omega arith) l
  nets_read (routed {i = i} {p = p} {rs = ss} r d o) k v h l =
      rw (← append_assoc rs p.records ss)
      (by_test (eqb k i)
      (λ q.
      let e : k ≡ i = eqb-true k i q in
      let t = nets-trees j r in
      rw (e, get_or-set_same p.state.trees i (tree_from j i ss) [] (omega arith), read_own j i s.iteration (rs ++ p.records) ss o (up_to_now j rs most r) (not_yet j rs most r))
      (source_twice j i v ss o.source-on))
      (λ q.
      let ne = eqb-false k i q in
      rw (
        read_other i k (rs ++ p.records) ss (all_map (Of i s.iteration) (λ r. r.net ≡ i) (λ r o. o.net-is) ss o.own) ne,
        get_or-set_other p.state.trees i k (tree_from j i ss) [] ne,
      )
      (nets_read r k v (omega arith) l)))

module _ (j : Job) where
  ran_before : {m : ℕ} {rs : List Record} {s : State} → Ran j m rs s → All (λ r. r.iteration < s.iteration) rs
  ran_before {m} {rs} {s} r = all_map (λ r. r.iteration ≤ m) (λ r. r.iteration < s.iteration) (λ q l. let t = ran-iteration j r in omega (arith, l)) rs (ran-all j r)

  pub ran_read : {m : ℕ} {rs : List Record} {s : State} → Ran j m rs s → (k v : ℕ) → k < nets j → has v (tree_read k rs) ≡ has v (tree_at s.trees k)
  unfolding first_state move_on tree_read nodes_in latest
  ran_read start k v l = sym (ap (has v) (get_or-replicate (nets j) k [] [] l))
  ran_read (next {rs = rs} r n) k v l =
      nets_read j rs (ran_before r) (λ k v h. ran_read r k v h) (ran-trees j r) n k v (omega arith) l

  pub ran-users : {m : ℕ} {rs : List Record} {s : State} → Ran j m rs s → (v : ℕ) → users_read j rs v ≡ users_of j s.trees v
  unfolding users_read users_of
  ran-users {rs = rs} {s = s} r v =
      count_same (λ k. has v (tree_read k rs)) (λ k. has v (tree_at s.trees k)) (nets j) (λ k l. ran_read r k v l)

  -- ---- histories

  -- whatever comes after in later iterations
  pub ran_history :
      {m : ℕ} {rs : List Record} {s : State} → Ran j m rs s → (more : List Record) → All (λ r. m < r.iteration) more → (v : ℕ) → v < nodes j
      → history_read j (rs ++ more) m v ≡ get_or s.histories v 0
  unfolding history_read first_state move_on
  ran_history start more later v h = sym (get_or-replicate (nodes j) v 1 0 h)
  ran_history (next {m = m} {rs = rs} {s = s} {p = p} r n) more later v h =
      let t = ran-iteration j r in
      let here : All (λ q. m < q.iteration) (p.records ++ more) =
      all_append (λ q. m < q.iteration) p.records more
      (all_map (λ q. q.iteration ≡ s.iteration) (λ q. m < q.iteration) (λ q e. omega (arith, e)) p.records (nets-all j n))
      (all_map (λ q. suc m < q.iteration) (λ q. m < q.iteration) (λ q e. omega (arith, e)) more later) in
      let cut : up_to_iteration (suc m) ((rs ++ p.records) ++ more) ≡ rs ++ p.records =
      up_to_append (suc m) (rs ++ p.records) more
      ∙ rw (up_to_all (suc m) (rs ++ p.records) (ran-all j (next r n)), up_to_none (suc m) more later) (append-nil (rs ++ p.records)) in
      let earlier : history_read j ((rs ++ p.records) ++ more) m v ≡ get_or s.histories v 0 =
      subst (λ (xs : List Record). history_read j xs m v ≡ get_or s.histories v 0) (sym (append_assoc rs p.records more))
      (ran_history r (p.records ++ more) here v h) in
      rw (cut, earlier, ran-users (next r n) v, ← nets-histories j n)
      (sym (get_or_up_to (λ u. next_history j.terms.tuning (get_or p.state.histories u 0) (users_of j p.state.trees u) (get_or j.block.capacities u 0)) (nodes j) v 0 h))

-- ---- before a turn

-- net i is due and has these turns of its own so far
module _ (j : Job) {m : ℕ} {rs : List Record} {s : State} (r : Ran j m rs s) {i : ℕ} {p : Progress} (n : NetsRan j s i p) (hi : i < nets j)
    (e : List Record) (own : All (Of i (m + 1)) e) where
  abbrev before : List Record
  before = (rs ++ p.records) ++ e

  of_net_lem : All (λ q. q.net ≡ i) e
  of_net_lem = all_map (Of i (m + 1)) (λ q. q.net ≡ i) (λ q o. o.net-is) e own

  pub others_read_lem : (v : ℕ) → others_read j i before v ≡ others_of j p.state.trees i v
  unfolding others_read others_of
  others_read_lem v =
      count_same (λ k. both (not (eqb k i)) (has v (tree_read k before))) (λ k. both (not (eqb k i)) (has v (tree_at p.state.trees k))) (nets j)
      (λ k l.
      by_test (eqb k i)
      (λ q. rw q)
      (λ q.
      rw (q, read_other i k (rs ++ p.records) e of_net_lem (eqb-false k i q))
      (nets_read j rs (ran_before j r) (λ k v h. ran_read j r k v h) (ran-trees j r) n k v (omega arith) l)))

  pub own_read : nodes_in i (m + 1) before ≡ path_nodes e
  own_read =
      nodes-append i (m + 1) (rs ++ p.records) e
      ∙ rw (nodes-none i (m + 1) (rs ++ p.records) (rw (ran-iteration j r) at (not_yet j rs (ran_before j r) n)))
      (nodes_of_lem i (m + 1) e own)

  pub history_read_lem : (v : ℕ) → v < nodes j → history_read j before m v ≡ get_or p.state.histories v 0
  history_read_lem v h =
      rw (append_assoc rs p.records e, nets-histories j n)
      (ran_history j r (p.records ++ e)
      (all_append (λ q. m < q.iteration) p.records e
      (all_map (λ q. q.iteration ≡ s.iteration) (λ q. m < q.iteration) (λ q l. let t = ran-iteration j r in omega (arith, l)) p.records (nets-all j n))
      (all_map (Of i (m + 1)) (λ q. m < q.iteration) (λ q o. omega (arith, o.iteration-is)) e own))
      v h)

-- ---- final trees

-- net k's latest records join every sink and reach no node twice
pub record Done (j : Job) (rs : List Record) (k : ℕ) : Type 0 where
  pub joined : (x : ℕ) → has x (net_sinks j k) ≡ true → has x (tree_read k rs) ≡ true
  pub once : distinct (source j k ∷ ends_in k (latest k rs) rs) ≡ true

-- records of other nets leave it so
done_still : (j : Job) (k : ℕ) (rs ss : List Record) → All (λ r. r.net ≡ k → ⊥) ss → Done j rs k → Done j (rs ++ ss) k
done_still j k rs ss others d =
    record {
      joined = λ x h. rw (absent_read k rs ss others) (d.joined x h);
      once = rw (absent_ends k rs ss others) d.once;
    }

done_own : (j : Job) (i t : ℕ) (rs ss : List Record) → Owns j i t ss → All (λ r. r.iteration ≤ t) rs → All (Elsewhere i t) rs → Done j (rs ++ ss) i
done_own j i t rs ss o most absent =
    record {
      joined = λ x h. rw (read_own j i t rs ss o most absent) (o.joined x h);
      once = rw (own-latest j i t rs ss o most, own-ends i t rs ss o.own absent) o.once;
    }

-- after an iteration's first nets, where the nets that are not due were done before it
module _ (j : Job) {s : State} (rs : List Record) (most : All (λ r. r.iteration < s.iteration) rs)
    (old : (k : ℕ) → k < nets j → due j s k ≡ false → Done j rs k) where
  nets_done : {i : ℕ} {p : Progress} → NetsRan j s i p → i ≤ nets j → (k : ℕ) → k < i → Done j (rs ++ p.records) k
  nets_done none h k l = absurd (not-suc-le-zero l)
  nets_done (kept {i = i} {p = p} r d) h k l =
      ⊎_elim
      (λ (e : k ≡ i).
      rw e
      (done_still j i rs p.records (all_map (λ q. q.net < i) (λ q. q.net ≡ i → ⊥) (λ q b e. omega (arith, b)) p.records (nets-below j r))
      (old i h d)))
      (λ (g : k < i). nets_done r (omega arith) k g)
      (eq-or-lt_of_le (le_of_suc-le-suc l))
  nets_done (routed {i = i} {p = p} {rs = ss} r d o) h k l =
      rw (← append_assoc rs p.records ss)
      (⊎_elim
      (λ (e : k ≡ i). rw e (done_own j i s.iteration (rs ++ p.records) ss o (up_to_now j rs most r) (not_yet j rs most r)))
      (λ (g : k < i).
      done_still j k (rs ++ p.records) ss
      (not_of i k ss (all_map (Of i s.iteration) (λ r. r.net ≡ i) (λ r o. o.net-is) ss o.own) (λ e. omega arith))
      (nets_done r (omega arith) k g))
      (eq-or-lt_of_le (le_of_suc-le-suc l)))

-- a net that was due has records of this iteration
module _ (j : Job) {s : State} (rs : List Record) (most : All (λ r. r.iteration < s.iteration) rs) where
  nets-latest : {i : ℕ} {p : Progress} → NetsRan j s i p → (k : ℕ) → k < i → due j s k ≡ true → latest k (rs ++ p.records) ≡ s.iteration
  nets-latest none k l t = absurd (not-suc-le-zero l)
  nets-latest (kept {i = i} r d) k l t =
      ⊎_elim
      (λ (e : k ≡ i). let now : due j s i ≡ true = rw e at t in absurd (true≢false (sym now ∙ d)))
      (λ (g : k < i). nets-latest r k g t)
      (eq-or-lt_of_le (le_of_suc-le-suc l))
  nets-latest (routed {i = i} {p = p} {rs = ss} r d o) k l t =
      rw (← append_assoc rs p.records ss)
      (⊎_elim
      (λ (e : k ≡ i). rw e (own-latest j i s.iteration (rs ++ p.records) ss o (up_to_now j rs most r)))
      (λ (g : k < i).
      absent_latest k (rs ++ p.records) ss
      (not_of i k ss (all_map (Of i s.iteration) (λ r. r.net ≡ i) (λ r o. o.net-is) ss o.own) (λ e. omega arith))
      ∙ nets-latest r k g t)
      (eq-or-lt_of_le (le_of_suc-le-suc l)))

-- a net that iteration 1 does not take has no sinks
first_done : (j : Job) (s : State) (k : ℕ) → 1 ≤ j.terms.until → s.iteration ≡ 1 → due j s k ≡ false → Done j [] k
unfolding has_sinks tree_read nodes_in latest ends_in distinct has
first_done j s k early first d =
    record {
      joined = λ x h.
          let at = has_place x (net_sinks j k) h in
          let none = leb-false 1 (length (net_sinks j k)) (sym (first_due j s k early first) ∙ d) in
          absurd (omega (arith, at.1));
      once = refl;
    }

module _ (j : Job) where
  -- after one or more whole iterations every net is done
  pub ran_done : 1 ≤ j.terms.until → {m : ℕ} {rs : List Record} {s : State} → Ran j m rs s → 1 ≤ m → (k : ℕ) → k < nets j → Done j rs k
  ran_done early start some k l = absurd (not-suc-le-zero some)
  ran_done early (next start n) some k l = nets_done j [] tt (λ i h d. first_done j (first_state j) i early (ran-iteration j start) d) n (le_refl (nets j)) k l
  ran_done early (next {rs = rs} (next r q) n) some k l =
      nets_done j rs (ran_before j (next r q)) (λ i h d. ran_done early (next r q) (omega arith) i h) n (le_refl (nets j)) k l

  pub ran-latest :
      {m : ℕ} {rs : List Record} {s : State} {p : Progress} → Ran j m rs s → NetsRan j s (nets j) p → (k : ℕ) → k < nets j → due j s k ≡ true
      → latest k (rs ++ p.records) ≡ m + 1
  ran-latest {rs = rs} r n k l d = nets-latest j rs (ran_before j r) n k l d ∙ ran-iteration j r
