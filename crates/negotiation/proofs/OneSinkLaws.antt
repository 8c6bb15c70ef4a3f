-- A cheapest path to an unjoined sink passes no other unjoined sink: the way to it would cost less.
-- Assumes nothing.
use mathlib.Core.Bool.{true, false, not}
use mathlib.Core.List.{List, [], ◌∷◌}
use mathlib.Core.Logic.{⊎_elim}
use mathlib.Core.Path.{◌≡◌}
use Prim.Native.Nat.{ℕ, ◌<◌}
use native.Mathlib.Omega.{arith}
use lib.Dec.{eqb}
use borrow.Author.Tests.{eqb-false, not-true}
use Rattle.price.specs.Test.{either}
use Rattle.price.specs.Lists.{has, total}
use Rattle.price.proofs.TestLaws.{by_test, both_left, both_right}
use Rattle.search.specs.Block.{Block, nodes}
use Rattle.search.specs.Tables.{Graph}
use Rattle.search.specs.Paths.{Walk, stay, step, path_cost, CheapestPath}
use Rattle.search.proofs.BlockLaws.{edge_to}
use Rattle.search.proofs.DistinctLaws.{has_cons}
use Rattle.search.proofs.WalkLaws.{step_cost}
use Rattle.negotiation.specs.Resume.{unjoined, no_other}
use Rattle.negotiation.proofs.MemberLaws.{every_members, no_entry}

module _ (b : Block) (g : Graph b) (price : ℕ → ℕ) (pos : (v : ℕ) → v < nodes b → 0 < price v) where
  -- the way to a node before the last costs less
  shorter :
      {u v : ℕ} {path : List ℕ} → Walk b u path v → (x : ℕ) → has x path ≡ true → (x ≡ v → ⊥)
      → (front : List ℕ) × Walk b u front x × (path_cost price front < path_cost price path)
  unfolding path_cost total
  shorter (stay u) x h ne = absurd (⊎_elim (λ (e : x ≡ u). ne e) (λ q. no_entry x q) (has_cons x u [] h))
  shorter (step {u} {w} {v} {path} e r) x h ne =
      let cost = step_cost price u r in
      let one = pos w (edge_to b g u w e) in
      ⊎_elim
      (λ (q : x ≡ u). (u ∷ [], rw q (stay u), omega arith))
      (λ (q : has x path ≡ true).
      let f = shorter r x q ne in
      (u ∷ f.0, step e f.1, let more = step_cost price u f.1 in let less = f.2 in omega arith))
      (has_cons x u path h)

  pub one_sink :
      (tree sinks : List ℕ) (sink cost : ℕ) (path : List ℕ) → CheapestPath b price (λ v. has v tree) sinks sink cost path
      → no_other sinks tree sink path ≡ true
  unfolding no_other unjoined
  one_sink tree sinks sink cost path c =
      every_members (λ v. either (eqb v sink) (not (unjoined sinks tree v))) path
      (λ v h.
      by_test (eqb v sink)
      (λ q. rw q)
      (λ q.
      by_test (unjoined sinks tree v)
      (λ t.
      let f = shorter c.joins.follows v h (eqb-false v sink q) in
      let listed : has v sinks ≡ true = both_left (has v sinks) (not (has v tree)) t in
      let out : has v tree ≡ false = not-true (has v tree) (both_right (has v sinks) (not (has v tree)) t) in
      let least = c.cheapest c.joins.start v f.0 c.joins.starts_in_tree listed out f.1 in
      let is = c.joins.costs in
      absurd (omega (arith, f.2)))
      (λ t. rw (q, t))))
