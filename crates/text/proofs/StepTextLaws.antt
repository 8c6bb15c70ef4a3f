-- The lines of a path's steps, one after the other.
--     letter_any                       a line is as long with any letter
--     filled-                          a text that is counted, and written where the buffer has room
--     FilledSoFar, so-far-             one of which a beginning is passed
--     step_line, steps_left              the lines of the steps, and of those from a place on
--     PuttingSteps, putting-           going from step to step
-- Assumes nothing.
use mathlib.Core.List.{List, [], ◌∷◌, ◌++◌, append_assoc, append-nil, flat_map}
use mathlib.Core.Path.{◌≡◌, refl, sym, ◌∙◌, ap, subst}
use Prim.Native.Nat.{ℕ, suc, ◌+◌, ◌-◌, ◌^◌, ◌≤◌, ◌<◌}
use native.Mathlib.Omega.{arith}
use lib.ListN.{length, get_or, drop, length-append, length-drop}
use lib.Seq.{get_or-take, get_or-drop, drop-cons}
use Rattle.text.specs.Lines.{print_line}
use Rattle.text.specs.Routes.{Branch, branch_of, steps, capped}
use Rattle.text.specs.WriteSteps.{Put, Filled, part}
use Rattle.text.proofs.PlacedLaws.{placed-none, placed-append, put-length}

-- ---- lengths

-- a line is as long with any letter
pub letter_any : (a b : ℕ) (vs : List ℕ) → length (print_line a vs) ≡ length (print_line b vs)
unfolding print_line
letter_any a b vs = refl

-- ---- a text that is counted, and written where there is room

pub filled_none : (at : ℕ) (before : List ℕ) → at < 2 ^ 64 → Filled at [] before before at
filled_none at before small =
    record { counted = omega arith; kept = refl; written = λ s f. sym (placed-none at before) }

pub filled_then : {at p q : ℕ} {xs ys b₀ b₁ b₂ : List ℕ} → Filled at xs b₀ b₁ p → Filled p ys b₁ b₂ q → Filled at (xs ++ ys) b₀ b₂ q
filled_then {at} {p} {q} {xs} {ys} {b₀} {b₁} {b₂} f g =
    let long = length-append xs ys in
    let place = f.counted in
    let same = f.kept in
    record {
      counted = omega (arith, g.counted);
      kept = g.kept ∙ f.kept;
      written =
          λ small fits.
          let here : p ≡ at + length xs = omega arith in
          g.written (omega arith) (omega arith)
          ∙ rw (here, f.written (omega arith) (omega arith)) (placed-append at xs ys b₀ (omega arith));
    }

-- the text has room
pub filled_put : {at r next : ℕ} {bytes before after : List ℕ} → next ≡ capped (at + length bytes) → at + length bytes ≤ length before → Put at bytes before after r → Filled at bytes before after next
filled_put n fits p = record { counted = n; kept = put-length p fits; written = λ s f. p.written }

-- it has none
pub filled-over : {at next : ℕ} {bytes before : List ℕ} → next ≡ capped (at + length bytes) → length before < next → Filled at bytes before before next
filled-over n over = record { counted = n; kept = refl; written = λ small fits. absurd (omega arith) }

-- of a text that is due from a place on, all but the rest is passed
pub record FilledSoFar (start : ℕ) (whole rest before after : List ℕ) (next : ℕ) : Type 0 where
  pub done : List ℕ
  pub filled : Filled start done before after next
  pub all : done ++ rest ≡ whole

pub so_far-none : (start : ℕ) (whole before : List ℕ) → start < 2 ^ 64 → FilledSoFar start whole whole before before start
so_far-none start whole before small = record { done = []; filled = filled_none start before small; all = refl }

module _ {start next : ℕ} {whole before after : List ℕ} where
  pub so_far_more :
      {later : List ℕ} {further : ℕ} (piece rest : List ℕ) → FilledSoFar start whole (piece ++ rest) before after next
      → Filled next piece after later further → FilledSoFar start whole rest before later further
  so_far_more piece rest w p =
      record {
        done = w.done ++ piece;
        filled = filled_then w.filled p;
        all = append_assoc w.done piece rest ∙ w.all;
      }

  pub so_far-all : FilledSoFar start whole [] before after next → Filled start whole before after next
  so_far-all w =
      subst (λ (text : List ℕ). Filled start text before after next) (sym (append-nil w.done) ∙ w.all) w.filled

-- ---- the steps of a path

steps-short : (net : ℕ) (path : List ℕ) → length path ≤ 1 → steps net path ≡ []
unfolding steps
steps-short net [] h = refl
steps-short net (u ∷ []) h = refl
steps-short net (u ∷ v ∷ path) h = absurd (omega arith)

steps_cons :
    (net : ℕ) (path : List ℕ) (j : ℕ) → suc j < length path →
    steps net (drop j path) ≡ branch_of net (get_or path j 0) (get_or path (suc j) 0) ∷ steps net (drop (suc j) path)
unfolding steps
steps_cons net path j h = rw (drop-cons path j 0 (omega arith), drop-cons path (suc j) 0 h)

-- the line of the step to a place of the path
abbrev pub step_line : (Branch → List ℕ) → ℕ → List ℕ → ℕ → List ℕ
step_line line net path k = line (branch_of net (get_or path (k - 1) 0) (get_or path k 0))

-- the lines of the steps to this place and those after it
abbrev pub steps_left : (Branch → List ℕ) → ℕ → List ℕ → ℕ → List ℕ
steps_left line net path k = flat_map line (steps net (drop (k - 1) path))

left-start : (line : Branch → List ℕ) (net : ℕ) (path : List ℕ) → steps_left line net path 1 ≡ flat_map line (steps net path)
left-start line net path = refl

-- where the path is a part of a log, the step to a place of it is that to the same place of the log
step_of_log : (line : Branch → List ℕ) (net : ℕ) (log : List ℕ) (from to k : ℕ) → from + 1 ≤ k → k < to → step_line line net (part log from to) (k - from) ≡ step_line line net log k
step_of_log line net log from to k above l =
    let place : from + (k - from - 1) ≡ k - 1 = omega arith in
    let place' : from + (k - from) ≡ k = omega arith in
    let one : get_or (part log from to) (k - from - 1) 0 ≡ get_or log (k - 1) 0 =
    get_or-take (to - from) (drop from log) (k - from - 1) 0 (omega arith) ∙ get_or-drop from log (k - from - 1) 0 ∙ ap (λ (i : ℕ). get_or log i 0) place in
    let two : get_or (part log from to) (k - from) 0 ≡ get_or log k 0 =
    get_or-take (to - from) (drop from log) (k - from) 0 (omega arith) ∙ get_or-drop from log (k - from) 0 ∙ ap (λ (i : ℕ). get_or log i 0) place' in
    rw (one, two)

module _ (line : Branch → List ℕ) (net : ℕ) (path : List ℕ) (k : ℕ) (above : 1 ≤ k) where
  left-more : k < length path → steps_left line net path k ≡ step_line line net path k ++ steps_left line net path (k + 1)
  unfolding flat_map
  left-more l =
      let next : k + 1 - 1 ≡ suc (k - 1) = omega arith in
      let here : suc (k - 1) ≡ k = omega arith in
      rw (next, steps_cons net path (k - 1) (omega arith), here)

  left-none : length path ≤ k → steps_left line net path k ≡ []
  unfolding flat_map
  left-none l = rw (steps-short net (drop (k - 1) path) (rw (length-drop (k - 1) path) (omega arith)))

-- the lines of the steps before a place are passed
pub record PuttingSteps (line : Branch → List ℕ) (net : ℕ) (path : List ℕ) (start : ℕ) (before after : List ℕ) (next k : ℕ) : Type 0 where
  pub above : 1 ≤ k
  pub writing : FilledSoFar start (flat_map line (steps net path)) (steps_left line net path k) before after next

pub putting_none : (line : Branch → List ℕ) (net : ℕ) (path : List ℕ) (start : ℕ) (before : List ℕ) → start < 2 ^ 64 → PuttingSteps line net path start before before start 1
putting_none line net path start before small =
    record { above = omega arith; writing = so_far-none start (flat_map line (steps net path)) before small }

module _ {line : Branch → List ℕ} {net start next k : ℕ} {path before after : List ℕ} (p : PuttingSteps line net path start before after next k) where
  pub putting_all : length path ≤ k → Filled start (flat_map line (steps net path)) before after next
  putting_all l = so_far-all (rw (left-none line net path k p.above l) at p.writing)

  pub putting_more :
      {later : List ℕ} {further : ℕ} → k < length path → Filled next (step_line line net path k) after later further
      → PuttingSteps line net path start before later further (k + 1)
  putting_more l q =
      record {
        above = omega arith;
        writing = so_far_more (step_line line net path k) (steps_left line net path (k + 1)) (rw (left-more line net path k p.above l) at p.writing) q;
      }
