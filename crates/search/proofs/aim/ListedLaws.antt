-- Whether the tables by target have the edge from u to v: row v is looked at up to a place.
-- Assumes nothing.
use mathlib.Core.Bool.{true, false}
use mathlib.Core.List.{List}
use mathlib.Core.Path.{◌≡◌, sym, subst}
use Prim.Native.Nat.{ℕ, ◌+◌, ◌≤◌, ◌<◌, min}
use native.Mathlib.Omega.{arith}
use lib.ListN.{length, get_or}
use Rattle.price.proofs.TestLaws.{never_true}
use Rattle.search.specs.Block.{graph_of, has_edge}
use Rattle.search.proofs.EdgeLaws.{place_edge, edge_where}

-- u stands at no place of row v before e
pub record NotListedSoFar (firsts sources : List ℕ) (u v e : ℕ) : Type 0 where
  pub from : min (get_or firsts v 0) (length sources) ≤ e
  pub none : (k : ℕ) → get_or firsts v 0 ≤ k → k < e → get_or sources k 0 ≡ u → ⊥

module _ {firsts sources : List ℕ} {u v e : ℕ} (r : NotListedSoFar firsts sources u v e) where
  module _ (ks : List ℕ) {to : ℕ} (is : to ≡ min (get_or firsts (v + 1) 0) (length sources)) where
    pub is-listed : e < to → get_or sources e 0 ≡ u → true ≡ has_edge (graph_of ks firsts sources) v u
    is-listed more here =
        let f = r.from in
        sym (subst (λ (x : ℕ). has_edge (graph_of ks firsts sources) v x ≡ true) here (place_edge (graph_of ks firsts sources) v e (omega arith) (omega arith) (omega arith)))

    pub not_listed : to ≤ e → false ≡ has_edge (graph_of ks firsts sources) v u
    not_listed end =
        sym
        (never_true (has_edge (graph_of ks firsts sources) v u)
        (λ t.
        let at = edge_where (graph_of ks firsts sources) v u t in
        let below : at.0 < get_or firsts (v + 1) 0 = at.2 in
        let within : at.0 < length sources = at.3 in
        r.none at.0 at.1 (omega arith) at.4))
