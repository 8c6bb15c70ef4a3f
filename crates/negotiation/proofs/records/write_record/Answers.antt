-- `negotiation::records::write_record` meets its contract: six words are stored one after the other, and the path is copied behind them.
-- Assumes nothing.
use mathlib.Core.List.{List, [], ◌∷◌, ◌++◌, append_assoc}
use mathlib.Core.Path.{◌≡◌, sym, ◌∙◌, ap}
use Prim.Native.Nat.{ℕ, suc, ◌+◌, ◌%◌, ◌/◌, ◌^◌, ◌≤◌}
use native.Mathlib.Nat.{add_assoc}
use native.Mathlib.Omega.{arith}
use lib.ListN.{length, set, take, drop, length-append, length-set}
use lib.Seq.{length-take-le, take_at, drop-append-add, drop-drop, sets, sets-eq}
use Rattle.negotiation.specs.Records.{record_of, words}
use Rattle.negotiation.proofs.records.write_record.Goals as goal

-- six stores one after the other
six : (l : List ℕ) (at a b c d e f : ℕ) → set (set (set (set (set (set l at a) (at + 1) b) (at + 2) c) (at + 3) d) (at + 4) e) (at + 5) f ≡ sets l at (a ∷ b ∷ c ∷ d ∷ e ∷ f ∷ [])
six l at a b c d e f =
    let p₁ : at + 1 ≡ suc at = omega arith in
    let p₂ : at + 2 ≡ suc (suc at) = omega arith in
    let p₃ : at + 3 ≡ suc (suc (suc at)) = omega arith in
    let p₄ : at + 4 ≡ suc (suc (suc (suc at))) = omega arith in
    let p₅ : at + 5 ≡ suc (suc (suc (suc (suc at)))) = omega arith in
    rw (p₁, p₂, p₃, p₄, p₅)

-- a list with words at a place, and a copy behind them
module _ (l ws path : List ℕ) (at count : ℕ) (fits : at + length ws ≤ length l) where
  front_long : length (take at l ++ ws) ≡ at + length ws
  front_long = length-append (take at l) ws ∙ rw (length-take-le at l (omega arith))

  front : take (at + length ws) (sets l at ws) ≡ take at l ++ ws
  front =
      rw (sets-eq ws l at fits) (take_at (take at l ++ ws) (drop (at + length ws) l) (at + length ws) front_long)

  behind : drop (at + length ws + count) (sets l at ws) ≡ drop (at + (length ws + count)) l
  behind =
      let e : drop (length (take at l ++ ws) + count) (take at l ++ ws ++ drop (at + length ws) l) ≡ drop count (drop (at + length ws) l) =
      drop-append-add (take at l ++ ws) (drop (at + length ws) l) count in
      rw (sets-eq ws l at fits)
      (ap (λ (k : ℕ). drop (k + count) (take at l ++ ws ++ drop (at + length ws) l)) (sym front_long)
      ∙ e
      ∙ drop-drop count (at + length ws) l
      ∙ rw add_assoc)

  written : take (at + length ws) (sets l at ws) ++ (path ++ drop (at + length ws + count) (sets l at ws)) ≡ take at l ++ ((ws ++ path) ++ drop (at + (length ws + count)) l)
  written =
      rw (front, behind, append_assoc (take at l) ws, append_assoc ws path)

-- the six words of a record, and its path
record_written : {left : List ℕ} (l path : List ℕ) (at count t i s k : ℕ) → at + (6 + count) ≤ length l → length path ≡ count
    → left
    ≡ take (at + 6) (set (set (set (set (set (set l at t) (at + 1) i) (at + 2) s) (at + 3) (k % 2 ^ 32)) (at + 4) (k / 2 ^ 32)) (at + 5) count)
    ++ (path ++ drop (at + 6 + count) (set (set (set (set (set (set l at t) (at + 1) i) (at + 2) s) (at + 3) (k % 2 ^ 32)) (at + 4) (k / 2 ^ 32)) (at + 5) count))
    → left ≡ take at l ++ (words (record_of t i s k path) ++ drop (at + (6 + count)) l)
unfolding words
record_written l path at count t i s k fits long is =
    is
    ∙ rw (six l at t i s (k % 2 ^ 32) (k / 2 ^ 32) count, long)
    (written l (t ∷ i ∷ s ∷ k % 2 ^ 32 ∷ k / 2 ^ 32 ∷ count ∷ []) path at count (omega arith))

pub bounds-log-at-2 : goal.bounds-log-at-2
bounds-log-at-2 c = simp length-set (omega arith)

pub bounds-log-at-3 : goal.bounds-log-at-3
bounds-log-at-3 c = simp length-set (omega arith)

pub bounds-log-at-4 : goal.bounds-log-at-4
bounds-log-at-4 c = simp length-set (omega arith)

pub bounds-log-at-5 : goal.bounds-log-at-5
bounds-log-at-5 c = simp length-set (omega arith)

pub bounds-log-at-6 : goal.bounds-log-at-6
bounds-log-at-6 c = simp length-set (omega arith)

pub copy_path-requires : goal.copy_path-requires
copy_path-requires c = record { count_in_bounds = (omega arith, simp length-set (omega arith)); all_below = c.requires.all_below }

pub shape_of-log : goal.shape_of-log
shape_of-log c = simp length-set at c.copy_path.auto.log

pub returns : goal.returns
returns c =
    let args = c.args in
    record_written args.log.now (take args.count args.work.now) args.at args.count args.iteration args.net args.sink args.cost
    (omega arith) (length-take-le args.count args.work.now (omega arith)) c.copy_path.ensures
