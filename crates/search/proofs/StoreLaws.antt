-- What a store at one place of a list does: that place holds the stored number, the others and the length stay.
--     store_here, store_other      the place itself, another place
--     stored_other                 another place of a list that is known to be the one after the store
--     same_none, same_store        a list is as before but for a range of places, with no store yet and with one more
--     queued                       what the store of a waiting node leaves, once the queue is right again
-- Assumes nothing.
use mathlib.Core.List.{List}
use mathlib.Core.Path.{◌≡◌, refl, ◌∙◌, ap}
use Prim.Native.Nat.{ℕ, ◌+◌, ◌*◌, ◌≤◌, ◌<◌}
use native.Mathlib.Omega.{arith}
use lib.ListN.{length, get_or, set, length-set}
use lib.Seq.{get_or-set_same, get_or-set_other}
use Rattle.search.specs.Layout.{Tournament, SameBut, Queued}

pub store_here : (w : List ℕ) (i x : ℕ) → i < length w → get_or (set w i x) i 0 ≡ x
store_here w i x h = get_or-set_same w i x 0 h

pub store_other : (w : List ℕ) (i x j : ℕ) → (j ≡ i → ⊥) → get_or (set w i x) j 0 ≡ get_or w j 0
store_other w i x j h = get_or-set_other w i j x 0 h

pub stored_other : (w : List ℕ) (i x : ℕ) {w' : List ℕ} → w' ≡ set w i x → (j : ℕ) → (j ≡ i → ⊥) → get_or w' j 0 ≡ get_or w j 0
stored_other w i x e j h = ap (λ (l : List ℕ). get_or l j 0) e ∙ store_other w i x j h

pub same_none : (lo hi : ℕ) (w : List ℕ) → SameBut lo hi w w
same_none lo hi w = record { long = refl; low = λ j h. refl; high = λ j h. refl }

pub same_store : (lo hi : ℕ) (old w : List ℕ) (i x : ℕ) → lo ≤ i → i < hi → SameBut lo hi old w → SameBut lo hi old (set w i x)
same_store lo hi old w i x l h s =
    record {
      long = length-set w i x ∙ s.long;
      low = λ j p. store_other w i x j (λ e. omega arith) ∙ s.low j p;
      high = λ j p. store_other w i x j (λ e. omega arith) ∙ s.high j p;
    }

-- ---- what is left once the queue is right again

-- node v waits at this key: one store, and then the queue's inner entries
pub queued :
    {n v key : ℕ} {w w' : List ℕ} → v < n → 8 * n ≤ length w → Tournament n w' → SameBut (n + 1) (2 * n) (set w (2 * n + v) key) w' → Queued n v key w w'
queued {n} {v} {key} {w} {w'} h room queue same =
    record {
      long = same.long ∙ length-set w (2 * n + v) key;
      queue = queue;
      leaf_here = same.high (2 * n + v) (omega arith) ∙ store_here w (2 * n + v) key (omega arith);
      leaf_other = λ x l e. same.high (2 * n + x) (omega arith) ∙ store_other w (2 * n + v) key (2 * n + x) (λ q. e (omega arith));
      low = λ j l. same.low j (omega arith) ∙ store_other w (2 * n + v) key j (λ q. omega arith);
      high = λ j l. same.high j (omega arith) ∙ store_other w (2 * n + v) key j (λ q. omega arith);
    }
