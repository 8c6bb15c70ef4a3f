-- The test of counts: the lowest kind with too many uses, and which refusal is due.
-- Assumes nothing.
use mathlib.Core.Bool.{Bool, true, false}
use mathlib.Core.List.{List, [], ◌∷◌}
use mathlib.Core.Path.{◌≡◌, refl, sym, ◌∙◌, ap}
use Prim.Native.Nat.{ℕ, zero, suc, ◌+◌, ◌*◌, ◌≤◌, ◌<◌}
use native.Mathlib.Nat.{mul-le-mul}
use native.Mathlib.Omega.{arith}
use Rattle.std.specs.Prelude.{Result, Ok, Err}
use lib.ListN.{get_or, replicate, get_or-replicate}
use borrow.Author.Tests.{le-leb, lt-leb, lt-ltb, le-ltb}
use borrow.Author.Count.{below_more}
use Rattle.price.specs.Bounds.{nodes_most}
use Rattle.price.specs.Lists.{first_below}
use Rattle.price.proofs.BelowLaws.{first_below-is, first_below-all}
use Rattle.search.specs.Block.{Block, nodes}
use Rattle.search.specs.Replies.{tested}
use Rattle.search.specs.Tables.{faulty_table}
use Rattle.search.specs.declared.BadTable.{BadTable}
use Rattle.search.proofs.BlockLaws.{sound_of, kinds-few}
use Rattle.uses.specs.Uses.{kind_count, logs_most, nodes_of, UseCounts, too_many, counts_refusal}
use Rattle.uses.specs.Steps.{tallied, AtMost, over_nodes}
use Rattle.uses.proofs.SumLaws.{kind_nodes_most}
use Rattle.uses.proofs.TallyLaws.{tallied-at}

-- ---- the lowest kind that passes a test

-- no kind before k passes it
pub record Scanning (test : ℕ → Bool) (k : ℕ) : Type 0 where
  pub within : k ≤ kind_count
  pub none : (j : ℕ) → j < k → test j ≡ false

pub scanning_none : (test : ℕ → Bool) → Scanning test 0
scanning_none test = record { within = omega arith; none = λ j l. absurd (omega arith) }

pub scanning_more : {test : ℕ → Bool} {k : ℕ} → Scanning test k → k < kind_count → test k ≡ false → Scanning test (k + 1)
scanning_more {test} {k} s l t = record { within = omega arith; none = below_more (λ j. test j ≡ false) k s.none t }

pub scanning_over : {test : ℕ → Bool} {k : ℕ} → Scanning test k → k < kind_count → test k ≡ true → k ≡ first_below test kind_count
scanning_over {test} {k} s l t = sym (first_below-is test kind_count k l t s.none)

pub scanning_all : {test : ℕ → Bool} {k : ℕ} → Scanning test k → kind_count ≤ k → kind_count ≡ first_below test kind_count
scanning_all {test} {k} s l = sym (first_below-all test kind_count (λ j h. s.none j (omega arith)))

-- ---- the most uses

pub logs_fit : {logs : ℕ} → logs ≤ logs_most → 512 * logs ≤ 33553920
logs_fit l = omega arith

pub product_fits : {logs n : ℕ} → logs ≤ logs_most → n ≤ 4096 → 512 * logs * n ≤ 137436856320
product_fits {logs} {n} l h = mul-le-mul {n₁ = 512 * logs} {m₁ = n} {n₂ = 33553920} {m₂ = 4096} (logs_fit l) h

-- ---- a kind's nodes, counted

first_same : (s t : ℕ → Bool) (n : ℕ) → ((k : ℕ) → k < n → s k ≡ t k) → first_below s n ≡ first_below t n
unfolding first_below
first_same s t zero e = refl
first_same s t (suc n) e = rw (first_same s t n (λ k l. e k (omega arith)), e n (omega arith))

module _ (b : Block) (sound : faulty_table b ≡ 0) where
  pub few-nodes : nodes b ≤ nodes_most
  few-nodes = kinds-few b.kinds (sound_of b sound).kinds_sound_lem

  module _ {found : List ℕ} (are : found ≡ tallied b.kinds (replicate 4096 1) (replicate kind_count 0)) where
    found_at : (k : ℕ) → k < kind_count → get_or found k 0 ≡ nodes_of b k
    unfolding nodes_of
    found_at k l =
        rw are
        (tallied-at b.kinds (replicate 4096 1) (replicate kind_count 0) (λ v. 1) (λ j h. get_or-replicate kind_count j 0 0 h) (λ v h. get_or-replicate 4096 v 1 0 (let few = few-nodes in omega arith)) k l)

    pub found-most : AtMost nodes_most found
    unfolding nodes_of
    found-most k l = omega (arith, found_at k l, kind_nodes_most b.kinds k, few-nodes)

    found-over : (c : UseCounts) → first_below (over_nodes c.uses found c.logs) kind_count ≡ first_below (too_many b c) kind_count
    unfolding too_many
    found-over c = first_same (over_nodes c.uses found c.logs) (too_many b c) kind_count (λ k l. rw (found_at k l))

-- ---- which refusal is due

-- what the test of the tables answers
pub no_fault : (b : Block) → Ok tt ≡ tested (faulty_table b) → faulty_table b ≡ 0
no_fault b = passed (faulty_table b) where
  passed : (table : ℕ) → Ok tt ≡ tested table → table ≡ 0
  passed zero e = refl
  passed (suc n) e = cc e

table_of : Result (Unit {0}) BadTable → ℕ
table_of (Ok _) = 0
table_of (Err bad) = bad.table

fault : (bad : BadTable) (table : ℕ) → Err bad ≡ tested table → (bad.table ≡ table) × (1 ≤ bad.table)
unfolding table_of
fault bad zero e = cc e
fault bad (suc n) e = let is : bad.table ≡ suc n = ap table_of e in (is, omega (arith, is))

module _ (b : Block) (c : UseCounts) where
  pub refused_table : (bad : BadTable) → Err bad ≡ tested (faulty_table b) → 5 ∷ bad.table ∷ [] ≡ counts_refusal b c
  unfolding counts_refusal
  refused_table bad e = let f = fault bad (faulty_table b) e in rw (← f.0, le-leb 1 bad.table f.1)

  pub refused-logs : faulty_table b ≡ 0 → logs_most < c.logs → 13 ∷ kind_count ∷ [] ≡ counts_refusal b c
  unfolding counts_refusal
  refused-logs sound m = rw (sound, lt-ltb logs_most c.logs m)

  module _ (sound : faulty_table b ≡ 0) (few : c.logs ≤ logs_most) {nodes : List ℕ} (are : nodes ≡ tallied b.kinds (replicate 4096 1) (replicate kind_count 0)) where
    pub refused_kind : {over : ℕ} → (over ≡ first_below (over_nodes c.uses nodes c.logs) kind_count) × (over < kind_count) → 13 ∷ over ∷ [] ≡ counts_refusal b c
    unfolding counts_refusal
    refused_kind {over} found =
        let is : over ≡ first_below (too_many b c) kind_count = found.0 ∙ found-over b sound are c in
        rw (sound, le-ltb logs_most c.logs few, ← is, lt-ltb over kind_count found.1)

    pub refused_none : first_below (over_nodes c.uses nodes c.logs) kind_count ≡ kind_count → [] ≡ counts_refusal b c
    unfolding counts_refusal
    refused_none none =
        let is : first_below (too_many b c) kind_count ≡ kind_count = sym (found-over b sound are c) ∙ none in
        rw (sound, le-ltb logs_most c.logs few, is)
