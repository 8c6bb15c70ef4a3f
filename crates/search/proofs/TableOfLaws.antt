-- Tables 3 and 4 with exactly the edges of a test.
--     table_of        such tables are `firsts_of` and `targets_of`
--     agreed-counted  `agreed` has the edges that count, `turned` those by which estimates go
-- Assumes nothing.
use mathlib.Core.Bool.{Bool, true}
use mathlib.Core.List.{List}
use mathlib.Core.Path.{◌≡◌, sym, ◌∙◌, ap, subst}
use Prim.Native.Nat.{ℕ, ◌+◌, ◌-◌, ◌*◌, ◌/◌, ◌%◌, ◌≤◌, ◌<◌}
use native.Mathlib.Nat.{suc-mul, mul-le-mul_right, mul-add-div_right, mul-add-mod_self_right, div-eq_of_lt, mod-eq_of_lt}
use native.Mathlib.Numerals.{add-one}
use native.Mathlib.Omega.{arith}
use lib.ListN.{length, get_or}
use Rattle.price.specs.Test.{choose}
use Rattle.price.proofs.TestLaws.{by_test, test_same}
use Rattle.price.proofs.ListLaws.{length_up_to, get_or_up_to}
use Rattle.search.specs.Block.{Block, graph_of, row_start, has_edge}
use Rattle.search.specs.ByTarget.{in_both, firsts_of, targets_of, agreed, turned, Lists, Counted}
use Rattle.search.proofs.EdgeLaws.{place_edge, edge_where}

-- the next row begins n places later
row_next : (u n : ℕ) → (u + 1) * n ≡ u * n + n
row_next u n = rw add-one (suc-mul u n)

-- a place of row u is one of table 4
place_in : (n u j : ℕ) → u < n → j < n → u * n + j < n * n
place_in n u j hu hj =
    let rows : (u + 1) * n ≤ n * n = mul-le-mul_right n (omega arith) in
    omega (arith, row_next u n)

pub firsts-count : (n : ℕ) → length (firsts_of n) ≡ n + 1
unfolding firsts_of
firsts-count n = length_up_to (λ u. u * n) (n + 1)

firsts_at : (n u : ℕ) → u < n + 1 → get_or (firsts_of n) u 0 ≡ u * n
unfolding firsts_of
firsts_at n u h = get_or_up_to (λ u. u * n) (n + 1) u 0 h

targets-count : (n : ℕ) (test : ℕ → ℕ → Bool) → length (targets_of n test) ≡ n * n
unfolding targets_of
targets-count n test = length_up_to (λ k. choose (test (k / n) (k % n)) (k % n) n) (n * n)

targets-at : (n : ℕ) (test : ℕ → ℕ → Bool) (u j : ℕ) → u < n → j < n → get_or (targets_of n test) (u * n + j) 0 ≡ choose (test u j) j n
unfolding targets_of
targets-at n test u j hu hj =
    let pos : 0 < n = omega arith in
    let row : (u * n + j) / n ≡ u = mul-add-div_right pos u j ∙ omega (arith, div-eq_of_lt hj) in
    let place : (u * n + j) % n ≡ j = mul-add-mod_self_right u n j ∙ mod-eq_of_lt hj in
    get_or_up_to (λ k. choose (test (k / n) (k % n)) (k % n) n) (n * n) (u * n + j) 0 (place_in n u j hu hj) ∙ rw (row, place)

module _ (ks : List ℕ) (test : ℕ → ℕ → Bool) where
  abbrev n : ℕ
  n = length ks

  abbrev made : Block
  made = graph_of ks (firsts_of n) (targets_of n test)

  module _ (u v : ℕ) (hu : u < n) (hv : v < n) where
    begins : row_start made u ≡ u * n
    begins = firsts_at n u (omega arith)

    ends : row_start made (u + 1) ≡ u * n + n
    ends = firsts_at n (u + 1) (omega arith) ∙ row_next u n

    edge_to : test u v ≡ true → has_edge made u v ≡ true
    edge_to t =
        let is : get_or (targets_of n test) (u * n + v) 0 ≡ v = targets-at n test u v hu hv ∙ rw t in
        subst (λ (x : ℕ). has_edge made u x ≡ true) is
        (place_edge made u (u * n + v) (omega (arith, begins)) (omega (arith, ends)) (omega (arith, targets-count n test, place_in n u v hu hv)))

    -- a place of the row that holds v is v's
    edge_from : has_edge made u v ≡ true → test u v ≡ true
    edge_from e =
        let at = edge_where made u v e in
        let j : ℕ = at.0 - u * n in
        let from : row_start made u ≤ at.0 = at.1 in
        let below : at.0 < row_start made (u + 1) = at.2 in
        let near : j < n = omega (arith, begins, ends) in
        let same : at.0 ≡ u * n + j = omega (arith, begins) in
        let holds : choose (test u j) j n ≡ v = sym (targets-at n test u j hu near) ∙ ap (λ (k : ℕ). get_or (targets_of n test) k 0) (sym same) ∙ at.4 in
        by_test (test u j)
        (λ t.
        let is : j ≡ v = subst (λ (x : Bool). choose x j n ≡ v) t holds in
        subst (λ (x : ℕ). test u x ≡ true) is t)
        (λ t.
        let none : n ≡ v = subst (λ (x : Bool). choose x j n ≡ v) t holds in
        absurd (omega arith))

  pub table_of : Lists ks (firsts_of n) (targets_of n test) test
  table_of = record {
    firsts-long = firsts-count n;
    edges = λ u v hu hv. test_same (has_edge made u v) (test u v) (edge_from u v hu hv) (edge_to u v hu hv);
  }

pub agreed-counted :
    (b r : Block) → r.kinds ≡ b.kinds → Counted b r (agreed b r).first_edges (agreed b r).edge_targets (turned r).first_edges (turned r).edge_targets
agreed-counted b r same = record {
  searched = table_of b.kinds (in_both b r);
  estimated =
      subst (λ (ks : List ℕ). Lists ks (turned r).first_edges (turned r).edge_targets (λ u v. has_edge r v u)) same
      (table_of r.kinds (λ u v. has_edge r v u));
}
