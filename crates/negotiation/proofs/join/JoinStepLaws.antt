-- Laws of the places that a net lists and of the entries at places, taken one after the other as the loops do it.
-- Assumes nothing.
use mathlib.Core.Bool.{true, false}
use mathlib.Core.List.{List, [], ◌∷◌, ◌++◌, map, map-append, append_assoc}
use mathlib.Core.Path.{◌≡◌, refl, sym, ◌∙◌, ap}
use Rattle.std.proofs.lemmas.List.{get_or_read_under}
use Prim.Native.Nat.{ℕ, suc, ◌+◌, ◌-◌, ◌≤◌, ◌<◌, zero-le}
use native.Mathlib.Nat.{le_refl}
use native.Mathlib.Numerals.{add-one}
use native.Mathlib.Omega.{arith}
use lib.Dec.{eqb}
use lib.ListN.{length, get_or, take, set, length-set}
use lib.Seq.{get_or-set_same, get_or-set_other, get_or-take, take-suc, length-take-le, take-suc-set}
use borrow.Author.Tests.{eq-eqb, ne_eqb, eqb-true, eqb-false}
use Rattle.price.specs.Test.{choose}
use Rattle.price.specs.Lists.{has}
use Rattle.price.proofs.TestLaws.{by_test, either_true, either_false}
use Rattle.job.specs.Join.{places_from, entries_at, taking}
use Rattle.negotiation.specs.JoinSteps.{PlacesTaken}
use Rattle.job.specs.Steps.{AllBelow}
use Rattle.negotiation.proofs.TakingLaws.{entries-more}

-- ---- the places that a net lists

-- At place p: whoever takes the places left makes the whole.
pub record Left (stamp : ℕ) (sinks before whole seen places : List ℕ) (count p to : ℕ) : Type 0 where
  pub taken : List ℕ
  pub has-taken : PlacesTaken stamp sinks before taken seen places count
  pub left : taking sinks taken (places_from p (to - p)) ≡ whole

-- The loop over a net's places: where it stands, and what holds of every beginning.
pub record Taking (stamp from to start : ℕ) (sinks seen₀ places₀ seen places : List ℕ) (count p : ℕ) : Type 0 where
  pub low : from ≤ p
  pub high : p ≤ to
  pub most : count ≤ start + (p - from)
  pub seen-long : length seen ≡ length seen₀
  pub places-long : length places ≡ length places₀
  pub goes :
      (before taken : List ℕ) → PlacesTaken stamp sinks before taken seen₀ places₀ start
      → Left stamp sinks before (taking sinks taken (places_from from (to - from))) seen places count p to

pub taking-none : (stamp from to start : ℕ) (sinks seen places : List ℕ) → from ≤ to → Taking stamp from to start sinks seen places seen places start from
taking-none stamp from to start sinks seen places h =
    record {
      low = le_refl from;
      high = h;
      most = omega arith;
      seen-long = refl;
      places-long = refl;
      goes = λ before taken has-taken. record { taken = taken; has-taken = has-taken; left = refl };
    }

-- the places left, of which p is the first
taking-next : (sinks taken : List ℕ) (p to : ℕ) → p < to → taking sinks taken (places_from p (to - p)) ≡ taking sinks (choose (has (get_or sinks p 0) (entries_at sinks taken)) taken (taken ++ (p ∷ []))) (places_from (p + 1) (to - (p + 1)))
unfolding taking places_from
taking-next sinks taken p to h = let e : to - p ≡ suc (to - (p + 1)) = omega arith in rw (e, add-one)

-- a place whose sink is not stamped is taken
has-taken-more :
    {stamp : ℕ} {sinks before taken seen places : List ℕ} {count : ℕ} (p : ℕ) → get_or sinks p 0 < length seen → count < length places
    → PlacesTaken stamp sinks before taken seen places count
    → PlacesTaken stamp sinks before (taken ++ (p ∷ [])) (set seen (get_or sinks p 0) stamp) (set places count p) (count + 1)
has-taken-more {stamp} {sinks} {before} {taken} {seen} {places} {count} p node room has-taken =
    let sink = get_or sinks p 0 in
    record {
      within = rw length-set (omega arith);
      placed = rw (add-one, take-suc-set places count p room, has-taken.placed) (append_assoc before taken (p ∷ []));
      stamped = λ v h.
          by_test (eqb v sink)
          (λ q.
          rw (entries-more sinks taken p v, q, either_true, eqb-true v sink q, get_or-set_same seen sink stamp 0 node) (eq-eqb stamp stamp refl))
          (λ q.
          rw (entries-more sinks taken p v, q, either_false, get_or-set_other seen sink v stamp 0 (eqb-false v sink q))
          (has-taken.stamped v (rw length-set at h)));
      stamps = λ v h.
          by_test (eqb v sink)
          (λ q. rw (eqb-true v sink q, get_or-set_same seen sink stamp 0 node) (le_refl stamp))
          (λ q. rw (get_or-set_other seen sink v stamp 0 (eqb-false v sink q)) (has-taken.stamps v (rw length-set at h)));
    }

module _ {stamp from to start : ℕ} {sinks seen₀ places₀ seen places : List ℕ} {count p : ℕ} (t : Taking stamp from to start sinks seen₀ places₀ seen places count p) (h : p < to) (node : get_or sinks p 0 < length seen) where
  pub taking-kept : get_or seen (get_or sinks p 0) 0 ≡ stamp → Taking stamp from to start sinks seen₀ places₀ seen places count (p + 1)
  taking-kept e =
      record {
        low = omega (arith, t.low);
        high = omega arith;
        most = omega (arith, t.low, t.most);
        seen-long = t.seen-long;
        places-long = t.places-long;
        goes = λ before taken has-taken.
            let l = t.goes before taken has-taken in
            let seen-it : has (get_or sinks p 0) (entries_at sinks l.taken) ≡ true =
            sym (l.has-taken.stamped (get_or sinks p 0) node) ∙ eq-eqb (get_or seen (get_or sinks p 0) 0) stamp e in
            record { taken = l.taken; has-taken = l.has-taken; left = (rw seen-it at (sym (taking-next sinks l.taken p to h))) ∙ l.left };
      }

  pub taking-more : (get_or seen (get_or sinks p 0) 0 ≡ stamp → ⊥) → count < length places → Taking stamp from to start sinks seen₀ places₀ (set seen (get_or sinks p 0) stamp) (set places count p) (count + 1) (p + 1)
  taking-more n room =
      record {
        low = omega (arith, t.low);
        high = omega arith;
        most = omega (arith, t.low, t.most);
        seen-long = length-set seen (get_or sinks p 0) stamp ∙ t.seen-long;
        places-long = length-set places count p ∙ t.places-long;
        goes = λ before taken has-taken.
            let l = t.goes before taken has-taken in
            let new : has (get_or sinks p 0) (entries_at sinks l.taken) ≡ false =
            sym (l.has-taken.stamped (get_or sinks p 0) node) ∙ ne_eqb (get_or seen (get_or sinks p 0) 0) stamp n in
            record {
              taken = l.taken ++ (p ∷ []);
              has-taken = has-taken-more p node room l.has-taken;
              left = (rw new at (sym (taking-next sinks l.taken p to h))) ∙ l.left;
            };
      }

pub taking-all :
    {stamp from to start : ℕ} {sinks seen₀ places₀ seen places : List ℕ} {count p : ℕ}
    → Taking stamp from to start sinks seen₀ places₀ seen places count p → to ≤ p
    → (before taken : List ℕ) → PlacesTaken stamp sinks before taken seen₀ places₀ start
    → PlacesTaken stamp sinks before (taking sinks taken (places_from from (to - from))) seen places count
unfolding taking places_from
taking-all {to} {p} t end before taken has-taken =
    let l = t.goes before taken has-taken in
    let e : to - p ≡ 0 = omega arith in
    rw (rw e at l.left) at l.has-taken

-- ---- the entries at places

-- the entries at the first k places stand first, whatever is read past the table's end
module _ {A : Type 0} (table : List A) (places : List ℕ) (count : ℕ) where
  pub record Gathering (old new : List A) (k : ℕ) : Type 0 where
    pub high : k ≤ count
    pub long : length new ≡ length old
    pub gathered : (other : A) → take k new ≡ map (λ p. get_or table p other) (take k places)

  pub gathering_none : (old : List A) → Gathering old old 0
  gathering_none old = record { high = zero-le; long = refl; gathered = λ other. refl }

  pub gathering_more :
      {old new : List A} {k : ℕ} {entry : A} → k < count → count ≤ length places → count ≤ length old → get_or places k 0 < length table
      → entry ≡ get_or table (get_or places k 0) entry
      → Gathering old new k → Gathering old (set new k entry) (k + 1)
  gathering_more {old} {new} {k} {entry} h few room within is g =
      let here : k < length new = omega (arith, g.long) in
      let more : take (suc k) places ≡ take k places ++ (get_or places k 0 ∷ []) = take-suc places k 0 (omega arith) in
      record {
        high = omega arith;
        long = length-set new k entry ∙ g.long;
        gathered = λ other.
            let e : entry ≡ get_or table (get_or places k 0) other = get_or_read_under table (get_or places k 0) (length table) entry other is within refl in
            rw (add-one, take-suc-set new k entry here, more, g.gathered other, map-append (λ p. get_or table p other) (take k places) (get_or places k 0 ∷ []))
            (ap (λ (x : A). map (λ p. get_or table p other) (take k places) ++ (x ∷ [])) e);
      }

  pub gathering_all : {old new : List A} {k : ℕ} → Gathering old new k → count ≤ k → (other : A) → take count new ≡ map (λ p. get_or table p other) (take count places)
  gathering_all {k = k} g end = let e : k ≡ count = omega (arith, g.high) in rw e at g.gathered

-- each of the places is one of the table
pub gather_within : (n count k : ℕ) (places : List ℕ) → AllBelow n (take count places) → k < count → count ≤ length places → get_or places k 0 < n
gather_within n count k places all h few = rw (get_or-take count places k 0 h) at (all k (rw (length-take-le count places few) h))
