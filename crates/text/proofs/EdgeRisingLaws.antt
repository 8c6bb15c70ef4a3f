-- Edges that rise by from, then to, and sound rows of targets: each gives the other.
-- Assumes nothing.
use mathlib.Core.Bool.{true, false, not}
use mathlib.Core.List.{List, [], ◌∷◌}
use mathlib.Core.Logic.{◌⊎◌, ⊎_elim, inl, inr}
use mathlib.Core.Path.{◌≡◌, refl, sym, ◌∙◌, ap}
use Prim.Native.Nat.{ℕ, zero, suc, ◌+◌, ◌-◌, ◌≤◌, ◌<◌, suc-le-suc}
use native.Mathlib.Nat.{not-suc-le-zero, le_of_suc-le-suc, suc_inj, le_refl, eq-or-lt_of_le}
use native.Mathlib.Numerals.{unary_clauses}
use native.Mathlib.Omega.{arith}
use lib.Dec.{leb, ltb, eqb}
use lib.ListN.{length, get_or}
use lib.Seq.{slice}
use borrow.Author.Tests.{ltb-true, leb-true, eqb-true, eqb-false, not-true, lt-ltb, le-leb, eq-eqb, ne_eqb}
use Rattle.price.specs.Test.{both, either}
use Rattle.price.proofs.TestLaws.{by_test, true≢false, both_true, both_left, both_right, le_or_lt}
use Rattle.price.proofs.ListLaws.{neighbours-all, neighbours_at}
use Rattle.search.specs.Tables.{row_sound}
use Rattle.search.proofs.BlockLaws.{firsts-most}
use Rattle.search.proofs.RowLaws.{Entry, row_no_node, row_itself, row_no_rise, row-all}
use Rattle.text.specs.JobText.{rises, edge_within, edge_ordered}
use Rattle.text.proofs.FirstPlaceLaws.{Keys, Filed, InRow, key_row, filed_keys}

-- the row of node u
abbrev pub row_of : List ℕ → List ℕ → ℕ → List ℕ
row_of first targets u = slice (get_or first u 0) (get_or first (u + 1) 0) targets

-- ---- pairs that rise

-- an edge between two nodes
pub record Edge (n from to : ℕ) : Type 0 where
  pub from_node : from < n
  pub to-node : to < n
  pub apart : from ≡ to → ⊥

-- rising by from, then to
abbrev pub Risen : ℕ → ℕ → ℕ → ℕ → Type 0
Risen from to from' to' = (from < from') ⊎ ((from ≡ from') × (to < to'))

-- edges that rise, after so many, the last of which is from `last_from` to `last_to`
pub record Rising (n count last_from last_to : ℕ) (fs ts : List ℕ) : Type 0 where
  pub same : length fs ≡ length ts
  pub edge : (p : ℕ) → p < length fs → Edge n (get_or fs p 0) (get_or ts p 0)
  pub risen : (p : ℕ) → suc p < length fs → Risen (get_or fs p 0) (get_or ts p 0) (get_or fs (suc p) 0) (get_or ts (suc p) 0)
  pub begins : 0 < length fs → rises count last_from last_to (get_or fs 0 0) (get_or ts 0 0) ≡ true

risen_of : (c f t f' t' : ℕ) → rises (suc c) f t f' t' ≡ true → Risen f t f' t'
unfolding rises
risen_of c f t f' t' e =
    let some : eqb (suc c) 0 ≡ false = ne_eqb (suc c) 0 (λ (z : suc c ≡ 0). omega arith) in
    let r : either (ltb f f') (both (eqb f f') (ltb t t')) ≡ true = rw some at e in
    by_test (ltb f f')
    (λ q. inl (ltb-true f f' q))
    (λ q.
    let b : both (eqb f f') (ltb t t') ≡ true = rw q at r in
    inr (eqb-true f f' (both_left (eqb f f') (ltb t t') b), ltb-true t t' (both_right (eqb f f') (ltb t t') b)))

rises_of : (c f t f' t' : ℕ) → Risen f t f' t' → rises c f t f' t' ≡ true
unfolding rises
rises_of c f t f' t' s =
    by_test (eqb c 0)
    (λ q. rw q)
    (λ q.
    ⊎_elim
    (λ (h : f < f'). rw (q, lt-ltb f f' h))
    (λ (h : (f ≡ f') × (t < t')).
    by_test (ltb f f')
    (λ r. rw (q, r))
    (λ r. rw (q, r, eq-eqb f f' h.0, lt-ltb t t' h.1)))
    s)

edge_of : (n f t : ℕ) → edge_within n (f ∷ t ∷ []) ≡ true → not (eqb f t) ≡ true → Edge n f t
unfolding edge_within
edge_of n f t w a =
    record {
      from_node = ltb-true f n (both_left (ltb f n) (ltb t n) w);
      to-node = ltb-true t n (both_right (ltb f n) (ltb t n) w);
      apart = eqb-false f t (not-true (eqb f t) a);
    }

pub edge_within_lem : (n f t : ℕ) → Edge n f t → edge_within n (f ∷ t ∷ []) ≡ true
unfolding edge_within
edge_within_lem n f t e = both_true (lt-ltb f n e.from_node) (lt-ltb t n e.to-node)

pub edge_ordered_lem : (n c lf lt f t : ℕ) → Edge n f t → rises c lf lt f t ≡ true → edge_ordered c lf lt (f ∷ t ∷ []) ≡ true
unfolding edge_ordered
edge_ordered_lem n c lf lt f t e r = rw (ne_eqb f t e.apart) r

pub rising_none : (n c lf lt : ℕ) → Rising n c lf lt [] []
rising_none n c lf lt =
    record {
      same = refl;
      edge = λ p l. absurd (not-suc-le-zero l);
      risen = λ p l. absurd (not-suc-le-zero l);
      begins = λ l. absurd (not-suc-le-zero l);
    }

module _ (n c lf lt f t : ℕ) (fs ts : List ℕ) where
  edge_more : Edge n f t → ((p : ℕ) → p < length fs → Edge n (get_or fs p 0) (get_or ts p 0)) → (p : ℕ) → p < suc (length fs) → Edge n (get_or (f ∷ fs) p 0) (get_or (t ∷ ts) p 0)
  edge_more e rest zero l = e
  edge_more e rest (suc p) l = rest p (le_of_suc-le-suc l)

  risen_more : Rising n (suc c) f t fs ts → (p : ℕ) → suc p < suc (length fs) → Risen (get_or (f ∷ fs) p 0) (get_or (t ∷ ts) p 0) (get_or fs p 0) (get_or ts p 0)
  risen_more r zero l = risen_of c f t (get_or fs 0 0) (get_or ts 0 0) (r.begins (le_of_suc-le-suc l))
  risen_more r (suc p) l = r.risen p (le_of_suc-le-suc l)

  pub rising_more : edge_within n (f ∷ t ∷ []) ≡ true → edge_ordered c lf lt (f ∷ t ∷ []) ≡ true → Rising n (suc c) f t fs ts → Rising n c lf lt (f ∷ fs) (t ∷ ts)
  unfolding edge_ordered
  rising_more w o r =
      record {
        same = ap suc r.same;
        edge = edge_more (edge_of n f t w (both_left (not (eqb f t)) (rises c lf lt f t) o)) r.edge;
        risen = risen_more r;
        begins = λ l. both_right (not (eqb f t)) (rises c lf lt f t) o;
      }

  pub rising_rest : Rising n c lf lt (f ∷ fs) (t ∷ ts) → Rising n (suc c) f t fs ts
  rising_rest r =
      record {
        same = suc_inj r.same;
        edge = λ p l. r.edge (suc p) (suc-le-suc l);
        risen = λ p l. r.risen (suc p) (suc-le-suc l);
        begins = λ l. rises_of (suc c) f t (get_or fs 0 0) (get_or ts 0 0) (r.risen 0 (suc-le-suc l));
      }

-- ---- pairs that rise and sound rows

pub rising_keys : (n c lf lt : ℕ) (fs ts : List ℕ) → Rising n c lf lt fs ts → Keys n fs
rising_keys n c lf lt fs ts r =
    record {
      order = neighbours-all leb fs
          (λ i l.
          le-leb (get_or fs i 0) (get_or fs (suc i) 0)
          (⊎_elim
          (λ (h : get_or fs i 0 < get_or fs (suc i) 0). omega arith)
          (λ (h : (get_or fs i 0 ≡ get_or fs (suc i) 0) × (get_or ts i 0 < get_or ts (suc i) 0)). omega (arith, h.0))
          (r.risen i l)));
      below = λ p l. (r.edge p l).from_node;
    }

-- what a sound row says at its places
entry_of : (n u from to : ℕ) (ts : List ℕ) → to ≤ length ts → row_sound n u (slice from to ts) ≡ true → (k : ℕ) → from ≤ k → k < to → Entry n u from ts k
entry_of n u from to ts within s k h l =
    record {
      node = ⊎_elim
          (λ (b : n ≤ get_or ts k 0). absurd (true≢false (sym s ∙ row_no_node n u from to ts within k h l b)))
          (λ (g : get_or ts k 0 < n). g)
          (le_or_lt n (get_or ts k 0));
      other = λ e. true≢false (sym s ∙ row_itself n u from to ts within k h l e);
      rises = λ m.
          ⊎_elim
          (λ (b : get_or ts k 0 ≤ get_or ts (k - 1) 0). absurd (true≢false (sym s ∙ row_no_rise n u from to ts within k m l b)))
          (λ (g : get_or ts (k - 1) 0 < get_or ts k 0). g)
          (le_or_lt (get_or ts k 0) (get_or ts (k - 1) 0));
    }

module _ (n : ℕ) (first fs ts : List ℕ) (f : Filed n first fs) (same : length fs ≡ length ts) where
  row_fits : (u : ℕ) → u < n → get_or first (u + 1) 0 ≤ length ts
  row_fits u h =
      let most : get_or first (u + 1) 0 ≤ length fs = firsts-most n (length fs) first f.sound (u + 1) (omega arith) in
      omega arith

  rising_row : (c lf lt : ℕ) → Rising n c lf lt fs ts → (u k : ℕ) → u < n → get_or first u 0 < k → k < get_or first (u + 1) 0 → get_or ts (k - 1) 0 < get_or ts k 0
  rising_row c lf lt r u zero h from to = absurd (not-suc-le-zero from)
  rising_row c lf lt r u (suc k) h from to =
      let fits : get_or first (u + 1) 0 ≤ length ts = row_fits u h in
      let last : get_or fs k 0 ≡ u = f.key_is u k h (omega arith) (omega arith) in
      let here : get_or fs (suc k) 0 ≡ u = f.key_is u (suc k) h (omega arith) to in
      simp unary_clauses
      (⊎_elim
      (λ (l : get_or fs k 0 < get_or fs (suc k) 0). absurd (omega arith))
      (λ (l : (get_or fs k 0 ≡ get_or fs (suc k) 0) × (get_or ts k 0 < get_or ts (suc k) 0)). l.1)
      (r.risen k (omega arith)))

  pub rising_rows : (c lf lt : ℕ) → Rising n c lf lt fs ts → (u : ℕ) → u < n → row_sound n u (row_of first ts u) ≡ true
  rising_rows c lf lt r u h =
      let fits : get_or first (u + 1) 0 ≤ length ts = row_fits u h in
      row-all n u (get_or first u 0) (get_or first (u + 1) 0) ts fits (get_or first (u + 1) 0) (le_refl (get_or first (u + 1) 0))
      (λ k l from.
      let here : get_or fs k 0 ≡ u = f.key_is u k h from l in
      let e : Edge n (get_or fs k 0) (get_or ts k 0) = r.edge k (omega arith) in
      record {
        node = e.to-node;
        other = λ (z : get_or ts k 0 ≡ u). e.apart (here ∙ sym z);
        rises = λ m. rising_row c lf lt r u k h m l;
      })

  module _ (rows : (u : ℕ) → u < n → row_sound n u (row_of first ts u) ≡ true) where
    row_entry : (p : ℕ) → p < length fs → Entry n (get_or fs p 0) (get_or first (get_or fs p 0) 0) ts p
    row_entry p l =
        let r : InRow n first p (get_or fs p 0) = key_row n first fs f p l in
        entry_of n (get_or fs p 0) (get_or first (get_or fs p 0) 0) (get_or first (get_or fs p 0 + 1) 0) ts (row_fits (get_or fs p 0) r.node)
        (rows (get_or fs p 0) r.node) p r.from r.to

    rows_risen : (p : ℕ) → suc p < length fs → Risen (get_or fs p 0) (get_or ts p 0) (get_or fs (suc p) 0) (get_or ts (suc p) 0)
    rows_risen p l =
        let r : InRow n first p (get_or fs p 0) = key_row n first fs f p (omega arith) in
        ⊎_elim
        (λ (e : get_or fs p 0 ≡ get_or fs (suc p) 0).
        let from : get_or first (get_or fs (suc p) 0) 0 ≤ p = rw e at r.from in
        inr (e, simp unary_clauses at ((row_entry (suc p) l).rises (suc-le-suc from))))
        (λ (h : get_or fs p 0 < get_or fs (suc p) 0). inl h)
        (eq-or-lt_of_le (leb-true (get_or fs p 0) (get_or fs (suc p) 0) (neighbours_at leb fs (filed_keys n first fs f).order p l)))

    pub rows_rising : Rising n 0 0 0 fs ts
    unfolding rises
    rows_rising =
        record {
          same = same;
          edge = λ p l.
              let e : Entry n (get_or fs p 0) (get_or first (get_or fs p 0) 0) ts p = row_entry p l in
              record {
                from_node = (key_row n first fs f p l).node;
                to-node = e.node;
                apart = λ z. e.other (sym z);
              };
          risen = rows_risen;
          begins = λ l. refl;
        }
