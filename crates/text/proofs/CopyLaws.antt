-- Copying the first entries of one list over those of another, one at a time.
-- Assumes nothing.
use mathlib.Core.List.{List, ◌++◌}
use mathlib.Core.Path.{◌≡◌, refl, ◌∙◌}
use Prim.Native.Nat.{ℕ, ◌+◌, ◌<◌}
use native.Mathlib.Nat.{zero-add}
use native.Mathlib.Numerals.{add-one}
use native.Mathlib.Omega.{arith}
use lib.ListN.{length, get_or, take, drop, set, length-set}
use lib.Seq.{paste-suc}

-- k entries are copied
pub record Copied (from before now : List ℕ) (k : ℕ) : Type 0 where
  pub same_length : length now ≡ length before
  pub so_far : now ≡ take k from ++ drop k before

pub copied_none : (from before : List ℕ) → Copied from before before 0
copied_none from before = record { same_length = refl; so_far = refl }

pub copied_next : (from before now : List ℕ) (k : ℕ) → Copied from before now k → k < length from → k < length before → Copied from before (set now k (get_or from k 0)) (k + 1)
copied_next from before now k h l m =
    record {
      same_length = simp length-set h.same_length;
      so_far = rw (h.so_far, add-one) (simp zero-add at (paste-suc before 0 from k 0 (omega arith) l));
    }

pub copied_all : (from before now : List ℕ) (k count : ℕ) → Copied from before now k → k ≡ count → now ≡ take count from ++ drop count before
copied_all from before now k count h e = h.so_far ∙ rw e
