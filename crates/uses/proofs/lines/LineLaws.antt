-- The U lines: a kind's total capacity, the text's length, and what printing answers.
-- Assumes nothing.
use mathlib.Core.Bool.{true}
use mathlib.Core.List.{List, [], ◌++◌}
use mathlib.Core.Path.{◌≡◌, sym, ◌∙◌, ap}
use Prim.Native.Nat.{ℕ, ◌*◌, ◌^◌, ◌≤◌, ◌<◌}
use native.Mathlib.Nat.{mul-le-mul}
use native.Mathlib.Omega.{arith}
use Rattle.std.specs.Prelude.{Ok, Err}
use lib.ListN.{length, get_or, drop, replicate, length-append, length-drop, length-replicate, get_or-replicate, get_or-append}
use borrow.Author.Tests.{lt-ltb, le-ltb}
use Rattle.search.specs.Block.{block_of}
use Rattle.search.specs.Tables.{kinds_sound, capacities_sound}
use Rattle.search.proofs.BlockLaws.{kinds-few, capacities-long, capacity_most_lem}
use Rattle.text.specs.Printed.{concat_from}
use Rattle.text.specs.Routes.{capped, text_reply}
use Rattle.text.specs.WriteSteps.{Put}
use Rattle.text.proofs.DecimalLaws.{decimal-length, three_size}
use Rattle.text.proofs.PlacedLaws.{placed-start}
use Rattle.text.proofs.JoiningLaws.{concat_alike, concat_size}
use Rattle.uses.specs.Uses.{kind_count, logs_most, letter_u, capacity_of, use_counts_of, use_line, uses_text, print_reply_of}
use Rattle.uses.specs.declared.PrintRefusal.TheVariants as p
use Rattle.uses.specs.Steps.{tallied, total_line}
use Rattle.uses.proofs.SumLaws.{kind_sum-most, kind_nodes_most}
use Rattle.uses.proofs.TallyLaws.{tallied-at, tallied-long}

-- ---- a kind's total capacity

pub widened_long : {wide : List ℕ} (capacities : List ℕ) (n : ℕ) → wide ≡ capacities ++ drop (length capacities) (replicate 4096 0) → length capacities ≡ n → n ≤ 4096 → length wide ≡ 4096
widened_long {wide} capacities n e long few =
    rw (e, length-append capacities (drop (length capacities) (replicate 4096 0)), length-drop (length capacities) (replicate {A = ℕ} 4096 0), length-replicate 4096) (omega arith)

-- the kinds' total capacities as a list
pub record Totals (kinds capacities totals : List ℕ) : Type 0 where
  pub long : length totals ≡ kind_count
  pub each : (k : ℕ) → k < kind_count → get_or totals k 0 ≡ capacity_of (block_of kinds capacities [] []) k

module _ (kinds capacities : List ℕ) (ks : kinds_sound kinds ≡ true) (cs : capacities_sound (length kinds) capacities ≡ true) where
  pub totals_of :
      {wide totals : List ℕ} → wide ≡ capacities ++ drop (length capacities) (replicate 4096 0) → totals ≡ tallied kinds wide (replicate kind_count 0)
      → Totals kinds capacities totals
  unfolding capacity_of
  totals_of {wide} {totals} w t =
      record {
        long = rw t (tallied-long kinds wide (replicate kind_count 0));
        each = λ k l.
            rw t
            (tallied-at kinds wide (replicate kind_count 0) (λ v. get_or capacities v 0) (λ j h. get_or-replicate kind_count j 0 0 h)
            (λ v h. rw w (get_or-append capacities (drop (length capacities) (replicate 4096 0)) 0 v (let long = capacities-long (length kinds) capacities cs in omega arith))) k l);
      }

  capacity_total : (k : ℕ) → capacity_of (block_of kinds capacities [] []) k ≤ 1044480
  unfolding capacity_of
  capacity_total k =
      omega (
        arith,
        kind_sum-most kinds (λ v. get_or capacities v 0) 255 k (λ v l. capacity_most_lem (length kinds) capacities cs v l),
        kind_nodes_most kinds k,
        kinds-few kinds ks,
      )

  pub totals_fit : {totals : List ℕ} {logs : ℕ} → Totals kinds capacities totals → logs ≤ logs_most → (k : ℕ) → k < kind_count → get_or totals k 0 * logs < 2 ^ 64
  totals_fit {totals} {logs} t few k l =
      let small : get_or totals k 0 ≤ 1044480 = omega (arith, t.each k l, capacity_total k) in
      omega (arith, mul-le-mul {n₁ = get_or totals k 0} {m₁ = logs} {n₂ = 1044480} {m₂ = 65535} small few)

-- ---- the text

-- it fits the place where it is written first
pub lines_size : (uses totals : List ℕ) (logs : ℕ) → length (concat_from (total_line uses totals logs) 0 kind_count) ≤ 4096
lines_size uses totals logs =
    let most =
    concat_size (total_line uses totals logs) 65 0 kind_count
    (λ k l. omega (
      arith,
      three_size letter_u k (get_or uses k 0) (get_or totals k 0 * logs),
      decimal-length k,
      decimal-length (get_or uses k 0),
      decimal-length (get_or totals k 0 * logs),
    )) in
    omega arith

lines_are : (kinds capacities uses totals : List ℕ) (logs : ℕ) → Totals kinds capacities totals → concat_from (total_line uses totals logs) 0 kind_count ≡ uses_text (block_of kinds capacities [] []) (use_counts_of uses logs)
unfolding uses_text use_line
lines_are kinds capacities uses totals logs t =
    concat_alike (total_line uses totals logs) (use_line (block_of kinds capacities [] []) (use_counts_of uses logs)) 0 kind_count (λ k low l. rw (t.each k (omega arith)))

-- ---- the answer

module _ {kinds capacities totals : List ℕ} (uses : List ℕ) (logs : ℕ) (t : Totals kinds capacities totals) where
  abbrev text : List ℕ
  text = concat_from (total_line uses totals logs) 0 kind_count

  abbrev asked : List ℕ
  asked = uses_text (block_of kinds capacities [] []) (use_counts_of uses logs)

  pub printed-short : {trial after buffer : List ℕ} {needed : ℕ} → Put 0 text trial after needed → length buffer < needed → print_reply_of (Err (p.ShortBuffer needed)) buffer ≡ text_reply asked buffer
  unfolding text_reply
  printed-short {buffer = buffer} {needed} put short =
      let size : needed ≡ length text = put.next-is ∙ omega arith in
      let small = lines_size uses totals logs in
      let fits : capped (length text) ≡ length text = omega arith in
      rw (← lines_are kinds capacities uses totals logs t, ← size, lt-ltb (length buffer) needed short)
      (ap (λ (n : ℕ). print_reply_of (Err (p.ShortBuffer n)) buffer) (sym (rw (← size) at fits)))

  -- a buffer that is not too short has room
  pub text_fits : {trial after : List ℕ} {needed room : ℕ} → Put 0 text trial after needed → needed ≤ room → length text ≤ room
  text_fits {needed = needed} put l = omega (arith, put.next-is)

  pub printed-all : {buffer after : List ℕ} {bytes : ℕ} → Put 0 text buffer after bytes → length text ≤ length buffer → print_reply_of (Ok bytes) after ≡ text_reply asked buffer
  unfolding text_reply
  printed-all {buffer} {after} {bytes} put fits =
      let size : bytes ≡ length text = put.next-is ∙ omega arith in
      rw (← lines_are kinds capacities uses totals logs t, le-ltb (length buffer) (length text) fits, put.written, size, placed-start text buffer)
