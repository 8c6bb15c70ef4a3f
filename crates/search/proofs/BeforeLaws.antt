-- Laws of the node before v, on the way from the tree: its edge leads to v, v has its distance over it, and it is the lowest such node.
-- Assumes nothing.
use mathlib.Core.Bool.{Bool, true, false}
use mathlib.Core.List.{List}
use mathlib.Core.Logic.{⊎_elim}
use mathlib.Core.Path.{◌≡◌, sym, ◌∙◌}
use Prim.Native.Nat.{ℕ, ◌+◌, ◌≤◌, ◌<◌}
use native.Mathlib.Nat.{le_trans}
use native.Mathlib.Omega.{arith}
use lib.Dec.{eqb}
use borrow.Author.Tests.{eq-eqb, eqb-true}
use Rattle.price.specs.Test.{both}
use Rattle.price.specs.Lists.{first_below}
use Rattle.price.proofs.TestLaws.{true≢false, both_true, both_left, both_right, le_or_lt}
use Rattle.price.proofs.BelowLaws.{first_below-below, first_below_holds}
use Rattle.search.specs.Block.{Block, nodes, has_edge}
use Rattle.search.specs.Paths.{Fair}
use Rattle.search.specs.Distance.{far, tree_has, distances, distance}
use Rattle.search.specs.Turn.{before}
use Rattle.search.proofs.EdgeLaws.{Shaped, edge-node}
use Rattle.search.proofs.DistanceLaws.{distance-over}

-- the test by which the node before v is found
abbrev leads_to : Block → (ℕ → ℕ) → List ℕ → ℕ → ℕ → Bool
leads_to b price marks v u =
    both (has_edge b u v) (eqb (distance b price marks u + price v) (distance b price marks v))

leads : (b : Block) (price : ℕ → ℕ) (marks : List ℕ) (u v : ℕ) → has_edge b u v ≡ true → distance b price marks u + price v ≡ distance b price marks v → leads_to b price marks v u ≡ true
leads b price marks u v e s = both_true e (eq-eqb _ _ s)

module _ (b : Block) (price : ℕ → ℕ) (marks : List ℕ) (g : Shaped b) (fair : Fair b price) where
  -- the node before v
  module _ (v : ℕ) (node : v < nodes b) (out : tree_has marks v ≡ false) (near : distance b price marks v < far) where
    pub before_node : before b price (distances b price marks) v < nodes b
    unfolding before
    before_node =
        let over = distance-over b price marks g fair v node out near in
        let u : ℕ = over.0 in
        ⊎_elim
        (λ (q : nodes b ≤ first_below (leads_to b price marks v) (nodes b)).
        let lower : leads_to b price marks v u ≡ false =
        first_below-below (leads_to b price marks v) (nodes b) u (le_trans (edge-node b g u v over.1) q) in
        absurd (true≢false (sym (leads b price marks u v over.1 (sym over.2)) ∙ lower)))
        (λ q. q)
        (le_or_lt (nodes b) (first_below (leads_to b price marks v) (nodes b)))

    before_leads : leads_to b price marks v (before b price (distances b price marks) v) ≡ true
    unfolding before
    before_leads = first_below_holds (leads_to b price marks v) (nodes b) before_node

    pub before_edge : has_edge b (before b price (distances b price marks) v) v ≡ true
    before_edge = both_left _ _ before_leads

    pub before_sum : distance b price marks (before b price (distances b price marks) v) + price v ≡ distance b price marks v
    before_sum = eqb-true _ _ (both_right (has_edge b (before b price (distances b price marks) v) v) _ before_leads)

    pub before_lowest : (u : ℕ) → has_edge b u v ≡ true → distance b price marks u + price v ≡ distance b price marks v → before b price (distances b price marks) v ≤ u
    unfolding before
    before_lowest u e s =
        ⊎_elim
        (λ q. q)
        (λ (q : u < first_below (leads_to b price marks v) (nodes b)).
        absurd (true≢false (sym (leads b price marks u v e s) ∙ first_below-below (leads_to b price marks v) (nodes b) u q)))
        (le_or_lt (first_below (leads_to b price marks v) (nodes b)) u)

    pub before_near : distance b price marks (before b price (distances b price marks) v) < distance b price marks v
    before_near = omega (arith, before_sum, fair.pos v node)
