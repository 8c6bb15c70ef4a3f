-- Filling the work slice.
--     filled_more              a part that is being filled
--     first_tree, first_other  the first label of a node, in the tree or out of it
-- Assumes nothing.
use mathlib.Core.List.{List, ◌∷◌, ◌++◌, append_assoc}
use mathlib.Core.Path.{◌≡◌, ◌∙◌}
use Prim.Native.Nat.{ℕ, suc, ◌+◌, ◌-◌, ◌≤◌, ◌<◌}
use native.Mathlib.Numerals.{add-one}
use native.Mathlib.Omega.{arith}
use lib.ListN.{length, get_or, set, take, drop, replicate, length-append, length-take, length-replicate, replicate-append-replicate}
use lib.Seq.{drop-cons, set_at}
use Rattle.price.specs.Test.{choose}
use Rattle.search.specs.Distance.{far, tree_has}
use Rattle.search.proofs.DistanceLaws.{out_of_tree, in_the_tree}

-- w with x from `from` to below k
abbrev pub filled : List ℕ → ℕ → ℕ → ℕ → List ℕ
filled w from k x = take from w ++ (replicate (k - from) x ++ drop k w)

one_more : (w : List ℕ) (from k x : ℕ) → from ≤ k → (take from w ++ replicate (k - from) x) ++ (x ∷ drop (suc k) w) ≡ filled w from (k + 1) x
one_more w from k x l =
    let e : k + 1 - from ≡ (k - from) + 1 = omega arith in
    rw (e, ← replicate-append-replicate {A = ℕ} (k - from) 1 x, add-one k) (simp append_assoc)

pub filled_more : (w : List ℕ) (from k x : ℕ) → from ≤ k → k < length w → set (filled w from k x) k x ≡ filled w from (k + 1) x
filled_more w from k x l h =
    let long : length (take from w ++ replicate (k - from) x) ≡ k = simp (length-append, length-take, length-replicate) (omega arith) in
    rw (drop-cons w k 0 h, ← append_assoc (take from w) (replicate (k - from) x) (get_or w k 0 ∷ drop (suc k) w))
    (set_at (take from w ++ replicate (k - from) x) (get_or w k 0) (drop (suc k) w) x k long ∙ one_more w from k x l)

pub first_tree : (marks : List ℕ) (v : ℕ) {d : ℕ} → get_or marks v 0 ≡ 1 → d ≡ 0 → d ≡ choose (tree_has marks v) 0 far
first_tree marks v m e = rw (in_the_tree marks v m) e

pub first_other : (marks : List ℕ) (v : ℕ) {d : ℕ} → (get_or marks v 0 ≡ 1 → ⊥) → d ≡ far → d ≡ choose (tree_has marks v) 0 far
first_other marks v m e = rw (out_of_tree marks v m) e
