-- What the loops that follow predecessors keep from turn to turn.
--     trail-tree, -on, -least, -end             the path that predecessors have
--     above_most, above_more                    how many entries are at least so much
--     Following, Writing                        the loops that follow predecessors
-- Assumes nothing.
use mathlib.Core.Bool.{true, false}
use mathlib.Core.List.{List, [], ◌∷◌}
use mathlib.Core.Logic.{⊎_elim}
use mathlib.Core.Path.{◌≡◌, refl, sym, ◌∙◌, ap}
use Prim.Native.Nat.{ℕ, zero, suc, ◌+◌, ◌-◌, ◌%◌, ◌≤◌, ◌<◌}
use native.Mathlib.Nat.{not-suc-le-zero, le_of_suc-le-suc, eq-or-lt_of_le}
use native.Mathlib.Omega.{arith}
use lib.Dec.{leb}
use lib.ListN.{length, get_or, set, take, drop, length-set}
use lib.Seq.{get_or-set_same, drop-set-lt, take-set-lt, slice, slice-cons, slice_empty, length-slice}
use borrow.Author.Tests.{le-leb, lt-leb, leb-true}
use Rattle.price.specs.Test.{choose}
use Rattle.price.proofs.TestLaws.{by_test}
use Rattle.search.specs.Distance.{tree_has}
use Rattle.search.specs.Layout.{SameBut}
use Rattle.search.specs.Labels.{label_at, from_at}
use Rattle.search.specs.TurnWork.{trail, Leads, path_in}
use Rattle.search.proofs.DistanceLaws.{out_of_tree, in_the_tree}
use Rattle.search.proofs.StoreLaws.{same_none, same_store}

-- ---- the path that predecessors have

module _ (n : ℕ) (marks w : List ℕ) where
  -- it ends at a marked node
  pub trail-tree : (fuel v : ℕ) (path : List ℕ) → tree_has marks v ≡ true → trail n marks w fuel v path ≡ v ∷ path
  unfolding trail
  trail-tree zero v path t = refl
  trail-tree (suc k) v path t = rw t

  -- before any other node comes its predecessor
  pub trail-on : (fuel v : ℕ) (path : List ℕ) → tree_has marks v ≡ false → 0 < fuel → trail n marks w fuel v path ≡ trail n marks w (fuel - 1) (from_at n w v) (v ∷ path)
  unfolding trail
  trail-on zero v path t h = absurd (not-suc-le-zero h)
  trail-on (suc k) v path t h =
      let e : suc k - 1 ≡ k = omega arith in
      rw (t, e)

  pub trail-least : (fuel v : ℕ) (path : List ℕ) → length path < length (trail n marks w fuel v path)
  unfolding trail
  trail-least zero v path = omega arith
  trail-least (suc k) v path =
      by_test (tree_has marks v)
      (λ q. rw q (omega arith))
      (λ q. rw q (omega (arith, trail-least k (from_at n w v) (v ∷ path))))

  -- a trail that adds one node adds v alone
  pub trail-end : (fuel v : ℕ) (path : List ℕ) → length (trail n marks w fuel v path) ≡ length path + 1 → trail n marks w fuel v path ≡ v ∷ path
  unfolding trail
  trail-end zero v path e = refl
  trail-end (suc k) v path e =
      by_test (tree_has marks v)
      (λ q. rw q)
      (λ q. absurd (omega (arith, trail-least k (from_at n w v) (v ∷ path), rw q at e)))

-- v is the next node of the path to the sink, after which the nodes `built` come
pub record OnTrail (n : ℕ) (marks w : List ℕ) (sink v : ℕ) (built : List ℕ) : Type 0 where
  pub node : v < n
  pub near : label_at w v ≤ label_at w sink
  pub fuel : ℕ
  pub enough : label_at w v ≤ fuel
  pub rest : path_in n marks w sink ≡ trail n marks w fuel v built

pub at-sink : (n : ℕ) (marks w : List ℕ) (sink : ℕ) → sink < n → OnTrail n marks w sink sink []
at-sink n marks w sink l = record { node = l; near = omega arith; fuel = label_at w sink; enough = omega arith; rest = refl }

pub at-pred : {n : ℕ} {marks w : List ℕ} {sink v : ℕ} {built : List ℕ} → Leads n (label_at w sink) marks w → tree_has marks v ≡ false → OnTrail n marks w sink v built → OnTrail n marks w sink (from_at n w v) (v ∷ built)
at-pred {n} {marks} {w} {sink} {v} {built} leads t s =
    let nearer : label_at w (from_at n w v) < label_at w v = leads.pred-nearer v s.node s.near t in
    record {
      node = leads.pred-node v s.node s.near t;
      near = omega (arith, s.near);
      fuel = s.fuel - 1;
      enough = omega (arith, s.enough);
      rest = s.rest ∙ trail-on n marks w s.fuel v built t (omega (arith, s.enough));
    }

-- ---- how many of the first n entries are at least d

pub above : ℕ → List ℕ → ℕ → ℕ
above zero w d = zero
above (suc n) w d = choose (leb d (get_or w n 0)) 1 0 + above n w d

pub above_most : (n : ℕ) (w : List ℕ) (d : ℕ) → above n w d ≤ n
unfolding above
above_most zero w d = omega arith
above_most (suc n) w d =
    let rest = above_most n w d in
    by_test (leb d (get_or w n 0))
    (λ q. rw q (omega arith))
    (λ q. rw q (omega arith))

-- no fewer are at least as much as a lower number
above_lower : (n : ℕ) (w : List ℕ) (d e : ℕ) → e ≤ d → above n w d ≤ above n w e
unfolding above
above_lower zero w d e l = omega arith
above_lower (suc n) w d e l =
    let rest = above_lower n w d e l in
    by_test (leb d (get_or w n 0))
    (λ q. rw (q, le-leb e (get_or w n 0) (omega (arith, leb-true d (get_or w n 0) q))) (omega arith))
    (λ q. rw q (omega arith))

-- and one more, where an entry is the lower number itself
pub above_more : (n : ℕ) (w : List ℕ) (d v : ℕ) → v < n → get_or w v 0 < d → above n w d < above n w (get_or w v 0)
unfolding above
above_more zero w d v b l = absurd (not-suc-le-zero b)
above_more (suc n) w d v b l =
    ⊎_elim
    (λ (e : v ≡ n).
    let rest = above_lower n w d (get_or w n 0) (rw (← e) (omega arith)) in
    rw (e, lt-leb d (get_or w n 0) (rw (← e) l), le-leb (get_or w n 0) (get_or w n 0) (omega arith)) (omega arith))
    (λ (h : v < n).
    let rest = above_more n w d v h l in
    by_test (leb d (get_or w n 0))
    (λ q. rw (q, le-leb (get_or w v 0) (get_or w n 0) (omega (arith, leb-true d (get_or w n 0) q))) (omega arith))
    (λ q. rw q (omega arith)))
    (eq-or-lt_of_le (le_of_suc-le-suc b))

-- ---- the loops that follow predecessors

-- v is node number `count` of the path, counted from its end; each is nearer than the one before, so they are no more than the nodes at least as far as v
pub record Following (n : ℕ) (marks w : List ℕ) (sink v count : ℕ) : Type 0 where
  pub few : count ≤ above n w (label_at w v)
  pub built : List ℕ
  pub counted : length built + 1 ≡ count
  pub on : OnTrail n marks w sink v built

pub follow_none : (n : ℕ) (marks w : List ℕ) (sink : ℕ) → sink < n → Following n marks w sink sink 1
follow_none n marks w sink l = record { few = omega (arith, above_more n w (suc (label_at w sink)) sink l (omega arith)); built = []; counted = refl; on = at-sink n marks w sink l }

pub follow_few : {n : ℕ} {marks w : List ℕ} {sink v count : ℕ} → Following n marks w sink v count → count ≤ n
follow_few {n} {marks} {w} {sink} {v} s = omega (arith, s.few, above_most n w (label_at w v))

module _ {n : ℕ} {marks w : List ℕ} {sink v count : ℕ} (leads : Leads n (label_at w sink) marks w) where
  pub follow_nearer : (get_or marks v 0 ≡ 1 → ⊥) → Following n marks w sink v count → label_at w (from_at n w v) < label_at w v
  follow_nearer z s = leads.pred-nearer v s.on.node s.on.near (out_of_tree marks v z)

  pub follow_on : (get_or marks v 0 ≡ 1 → ⊥) → Following n marks w sink v count → Following n marks w sink (from_at n w v) (count + 1)
  follow_on z s = record {
    few = omega (arith, s.few, above_more n w (label_at w v) (from_at n w v) (leads.pred-node v s.on.node s.on.near (out_of_tree marks v z)) (follow_nearer z s));
    built = v ∷ s.built;
    counted = omega (arith, s.counted);
    on = at-pred leads (out_of_tree marks v z) s.on;
  }

  pub follow_end : get_or marks v 0 ≡ 1 → Following n marks w sink v count → count ≡ length (path_in n marks w sink)
  follow_end z s =
      let t : tree_has marks v ≡ true = in_the_tree marks v z in
      let e : path_in n marks w sink ≡ v ∷ s.built = s.on.rest ∙ trail-tree n marks w s.on.fuel v s.built t in
      omega (arith, s.counted, ap length e)

-- a store in front of a part of a list
slice_store : (w : List ℕ) (k i count a : ℕ) → suc k ≡ i → k < count → count ≤ length w → slice k count (set w k a) ≡ a ∷ slice i count w
slice_store w k i count a e l h =
    let here : get_or (set w k a) k 0 ≡ a = get_or-set_same w k a 0 (omega arith) in
    let after : drop (suc k) (take count (set w k a)) ≡ drop (suc k) (take count w) = rw (take-set-lt count w k a l) (drop-set-lt (suc k) (take count w) k a (omega arith)) in
    rw (← e) (slice-cons k count (set w k a) 0 l (rw (length-set w k a) h) ∙ rw (here, after))

-- the end of the path stands at the places from i to below `count`, and v comes before it
pub record Writing (n : ℕ) (marks w : List ℕ) (sink count : ℕ) (w' : List ℕ) (v i : ℕ) : Type 0 where
  pub least : 1 ≤ i
  pub most : i ≤ count
  pub same : SameBut 0 n w w'
  pub on : OnTrail n marks w sink v (slice i count w')

pub writing_none : (n : ℕ) (marks w : List ℕ) (sink count : ℕ) → sink < n → count ≡ length (path_in n marks w sink) → Writing n marks w sink count w sink count
writing_none n marks w sink count l e = record {
  least = omega (arith, trail-least n marks w (label_at w sink) sink []);
  most = omega arith;
  same = same_none 0 n w;
  on = rw (slice_empty count w) (at-sink n marks w sink l);
}

module _ {n : ℕ} {marks w : List ℕ} {sink count : ℕ} {w' : List ℕ} {v i : ℕ} (leads : Leads n (label_at w sink) marks w) (whole : count ≡ length (path_in n marks w sink)) (room : count ≤ n) (s : Writing n marks w sink count w' v i) where
  written : length (slice i count w') ≡ count - i
  written = length-slice i count w' (omega (arith, leads.long, s.same.long))

  -- while places are left, the path goes on
  writing_out : 1 < i → tree_has marks v ≡ false
  writing_out l =
      by_test (tree_has marks v)
      (λ t.
      let e : path_in n marks w sink ≡ v ∷ slice i count w' = s.on.rest ∙ trail-tree n marks w s.on.fuel v (slice i count w') t in
      absurd (omega (arith, written, ap length e, s.most)))
      (λ t. t)

  pub writing_more : 1 < i → Writing n marks w sink count (set w' (i - 1) v) (from_at n (set w' (i - 1) v) v) (i - 1)
  writing_more l =
      let same : SameBut 0 n w (set w' (i - 1) v) = same_store 0 n w w' (i - 1) v (omega arith) (omega (arith, s.most)) s.same in
      let before : from_at n (set w' (i - 1) v) v ≡ from_at n w v = ap (λ (x : ℕ). x % 65536) (same.high (n + v) (omega arith)) in
      let part : slice (i - 1) count (set w' (i - 1) v) ≡ v ∷ slice i count w' = slice_store w' (i - 1) i count v (omega arith) (omega (arith, s.most)) (omega (arith, leads.long, s.same.long)) in
      record {
        least = omega arith;
        most = omega (arith, s.most);
        same = same;
        on = rw (before, part) (at-pred leads (writing_out l) s.on);
      }

  pub writing_end : i ≤ 1 → (take count (set w' 0 v) ≡ path_in n marks w sink) × SameBut 0 n w (set w' 0 v)
  writing_end l =
      let last : i ≡ 1 = omega (arith, s.least) in
      let end : path_in n marks w sink ≡ v ∷ slice i count w' = s.on.rest ∙ trail-end n marks w s.on.fuel v (slice i count w') (omega (arith, written, ap length s.on.rest, s.most)) in
      (slice_store w' 0 i count v (sym last) (omega (arith, s.most)) (omega (arith, leads.long, s.same.long)) ∙ sym end, same_store 0 n w w' 0 v (omega arith) (omega (arith, s.most)) s.same)
