-- A refusal's three numbers and the call's own, written over zeros.
-- Assumes nothing.
use Rattle.std.proofs.Common.{◌≡◌, ℕ, [], ◌∷◌, ◌+◌, ◌-◌, ◌≤◌, List, length, take, drop, replicate, ◌++◌, refl, sym, ◌∙◌, ap, arith, append_assoc, subst}
use Rattle.std.proofs.lemmas.List.{drop-replicate, take-replicate, drop-append-le, length-replicate}
use Rattle.std.proofs.Math.Seq.{take-append_seam, drop-append_seam, take-append-add}
use borrow.Rule.Slice.PartMut.{put_mid}
use Rattle.capi.specs.Calls.{padded}

-- a list of at most k entries, then zeros
padded_is : (k : ℕ) (own : List ℕ) → length own ≤ k → padded k own ≡ own ++ replicate (k - length own) 0
padded_is k own h =
    let m = k - length own in
    let whole : length own + m ≡ k = omega arith in
    subst (λ (n : ℕ). take n (own ++ replicate k 0) ≡ own ++ replicate m 0) whole
    (take-append-add own (replicate k 0) m ∙ ap (λ (xs : List ℕ). own ++ xs) (take-replicate m k 0 (omega arith)))

-- what zeros leave behind so many entries
zeros_left : (k n : ℕ) (rest : List ℕ) → n ≤ k → drop n (replicate k 0 ++ rest) ≡ replicate (k - n) 0 ++ rest
zeros_left k n rest h =
    drop-append-le n (replicate k 0) rest (omega (arith, length-replicate {A = ℕ}))
    ∙ ap (λ (xs : List ℕ). xs ++ rest) (drop-replicate n k 0)

pub put_over :
    (k : ℕ) (three own rest : List ℕ) → length three ≡ 3 → length own ≤ k
    → put_mid 3 (3 + length own - 3) (three ++ (replicate k 0 ++ rest)) own ≡ three ++ (padded k own ++ rest)
put_over k three own rest h l =
    let zeros : List ℕ = replicate k 0 ++ rest in
    let before : take 3 (three ++ zeros) ≡ three = subst (λ (n : ℕ). take n (three ++ zeros) ≡ three) h (take-append_seam three zeros) in
    let behind : drop 3 (three ++ zeros) ≡ zeros = subst (λ (n : ℕ). drop n (three ++ zeros) ≡ zeros) h (drop-append_seam three zeros) in
    let size : 3 + length own - 3 ≡ length own = omega arith in
    ap (λ (xs : List ℕ). xs ++ (own ++ drop (3 + length own - 3) (drop 3 (three ++ zeros)))) before
    ∙ ap (λ (xs : List ℕ). three ++ (own ++ drop (3 + length own - 3) xs)) behind
    ∙ ap (λ (n : ℕ). three ++ (own ++ drop n zeros)) size
    ∙ ap (λ (xs : List ℕ). three ++ (own ++ xs)) (zeros_left k (length own) rest l)
    ∙ ap (λ (xs : List ℕ). three ++ xs)
    (sym (append_assoc own (replicate (k - length own) 0) rest) ∙ ap (λ (xs : List ℕ). xs ++ rest) (sym (padded_is k own l)))

-- of a refusal's numbers the first three are told
pub three_told : (xs : List ℕ) → padded 3 (take 3 xs) ≡ padded 3 xs
three_told [] = refl
three_told (a ∷ []) = refl
three_told (a ∷ b ∷ []) = refl
three_told (a ∷ b ∷ c ∷ rest) = refl
