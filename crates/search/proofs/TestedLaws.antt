-- A test of tables as a result (`tested`): what is refused is the lowest faulty table, and where nothing is none is faulty.
-- Assumes nothing.
use mathlib.Core.List.{List}
use mathlib.Core.Path.{◌≡◌, refl, sym, ◌∙◌, ap}
use Prim.Native.Nat.{ℕ, zero, suc, ◌≤◌}
use native.Mathlib.Omega.{arith}
use borrow.Author.Tests.{le-leb}
use Rattle.std.specs.Prelude.{Result, Ok, Err, IsErrAnd}
use Rattle.search.specs.Replies.{tested}
use Rattle.search.specs.Turn.{Congestion}
use Rattle.search.specs.Replies.{refusal_of, refusal_numbers, search_refusal}
use Rattle.search.specs.declared.BadTable.{BadTable}
use Rattle.search.specs.declared.Refusal.{Refusal}
use Rattle.search.specs.declared.Refusal.TheVariants as v

pub tested_none : (table : ℕ) {u : Unit {0}} → tested table ≡ Ok u → table ≡ 0
tested_none zero e = refl
tested_none (suc table) e = absurd (let z : ◌≡◌ {A = ℕ} 0 1 = cc in omega arith)

pub tested_bad : (table : ℕ) {bad : BadTable} → tested table ≡ Err bad → (table ≡ bad.table) × (1 ≤ table)
tested_bad zero e = absurd (let z : ◌≡◌ {A = ℕ} 0 1 = cc in omega arith)
tested_bad (suc table) {bad} e =
    let same : record { table = suc table } ≡ bad = cc in
    (ap (λ (b : BadTable). b.table) same, omega arith)

-- a refusal that is passed on
pub passed_on : (r : Result (Unit {0}) Refusal) (refusal : Refusal) → IsErrAnd r (λ x. x ≡ refusal) → search_refusal r ≡ refusal_numbers refusal
passed_on (Ok u) refusal is = absurd is
passed_on (Err x) refusal is = rw is

module _ (table n : ℕ) (c : Congestion) (marks : List ℕ) (entries : ℕ) where
  -- a faulty table is refused
  pub refused_table :
      {bad : BadTable} (r : Result (Unit {0}) Refusal) → tested table ≡ Err bad → IsErrAnd r (λ refusal. refusal ≡ v.BadTable bad.table)
      → search_refusal r ≡ refusal_of table n c marks entries
  unfolding refusal_of
  refused_table (Ok u) e is = absurd is
  refused_table (Err refusal) e is =
      let t = tested_bad table e in
      rw (is, le-leb 1 table t.1, t.0)

  -- where none is, the other tests decide
  pub tables_sound : {u : Unit {0}} {ns : List ℕ} → tested table ≡ Ok u → ns ≡ refusal_of 0 n c marks entries → ns ≡ refusal_of table n c marks entries
  tables_sound e is = is ∙ ap (λ t. refusal_of t n c marks entries) (sym (tested_none table e))
