-- The steps of a path in one pass, with marks for the nodes of the tree and those passed.
--     Marks, mark_in, mark_out           marks that say which nodes a list has
--     Steps, steps_pass, steps_of        steps that pass, and what the pass over them gives
--     steps-edges, -new, -once           they go along edges, over nodes that are new and distinct
--     final, steps_goal, -others         to the only goal on the path
--     Ends, steps_from                   and a path of which this is so has such steps
-- Assumes nothing.
use mathlib.Core.Bool.{Bool, true, false}
use mathlib.Core.List.{List, [], ◌∷◌}
use mathlib.Core.Logic.{◌⊎◌, ⊎_elim, inl, inr}
use mathlib.Core.Path.{◌≡◌, refl, sym, ◌∙◌, ap}
use Prim.Native.Nat.{ℕ, suc, ◌+◌, ◌-◌, ◌≤◌, ◌<◌}
use native.Mathlib.Omega.{arith}
use lib.Dec.{eqb}
use lib.ListN.{length, get_or, set, length-set}
use lib.Seq.{get_or-set_same, get_or-set_other}
use borrow.Author.Tests.{eqb-true, eqb-false, eq-eqb}
use Rattle.price.specs.Test.{choose, both}
use Rattle.price.specs.Lists.{neighbours, has, distinct, total}
use Rattle.price.proofs.TestLaws.{by_test, true≢false, both_left, both_right}
use Rattle.search.specs.Block.{Block, has_edge}
use Rattle.search.specs.Block as block
use Rattle.search.specs.Tables.{Graph}
use Rattle.search.proofs.BlockLaws.{edge_to}
use Rattle.search.proofs.DistinctLaws.{has_first, has_rest, has_cons, lacks, distinct_cons, distinct_first, distinct_rest}
use Rattle.negotiation.specs.ResumeSteps.{last_mark, step_passes, steps_cost}
use Rattle.negotiation.proofs.MemberLaws.{no_entry}

-- ---- marks

-- the marks say which nodes a list has
abbrev pub Marks : List ℕ → List ℕ → Type 0
Marks xs marks = (v : ℕ) → get_or marks v 0 ≡ choose (has v xs) 1 0

pub mark_out : (t : Bool) → ◌≡◌ {A = ℕ} (choose t 1 0) 0 → t ≡ false
mark_out true e = absurd (omega arith)
mark_out false e = refl

pub mark_in : (t : Bool) → ◌≡◌ {A = ℕ} (choose t 1 0) 1 → t ≡ true
mark_in true e = refl
mark_in false e = absurd (omega arith)

-- a node more
marks_more : (xs marks : List ℕ) (v : ℕ) → v < length marks → Marks xs marks → Marks (v ∷ xs) (set marks v 1)
unfolding has
marks_more xs marks v l m x =
    by_test (eqb x v)
    (λ q. rw (q, eqb-true x v q) (get_or-set_same marks v 1 0 l))
    (λ q. rw q (get_or-set_other marks v x 1 0 (eqb-false x v q) ∙ m x))

-- ---- steps that pass

-- the steps from node u on, after these nodes
pub data Steps (b : Block) (goals : List ℕ) : List ℕ → ℕ → List ℕ → Type 0 where
  end : {seen : List ℕ} {u : ℕ} → Steps b goals seen u []
  step : {seen rest : List ℕ} {u v : ℕ} → has_edge b u v ≡ true → has v seen ≡ false → get_or goals v 0 ≡ last_mark rest → Steps b goals (v ∷ seen) v rest
      → Steps b goals seen u (v ∷ rest)

module _ (b : Block) (g : Graph b) (price : ℕ → ℕ) (goals : List ℕ) where
  pub steps_pass :
      {seen rest : List ℕ} {u : ℕ} → Steps b goals seen u rest → (marks : List ℕ) → length marks ≡ block.nodes b → Marks seen marks → (cost : ℕ)
      → steps_cost b price goals marks u cost rest ≡ (cost + total price rest) ∷ []
  unfolding steps_cost step_passes total
  steps_pass end marks long m cost = let z : cost ≡ cost + 0 = omega arith in ap (λ (c : ℕ). c ∷ []) z
  steps_pass (step {seen = seen} {rest = rest} {u = u} {v = v} e out last r) marks long m cost =
      let node = edge_to b g u v e in
      let free : get_or marks v 0 ≡ 0 = m v ∙ rw out in
      let sum : (cost + price v) + total price rest ≡ cost + (price v + total price rest) = omega arith in
      rw (e, eq-eqb (get_or marks v 0) 0 free, eq-eqb (get_or goals v 0) (last_mark rest) last, ← sum)
      (steps_pass r (set marks v 1) (length-set marks v 1 ∙ long) (marks_more seen marks v (omega arith) m) (cost + price v))

  pub steps_of :
      (rest seen marks : List ℕ) (u cost : ℕ) → length marks ≡ block.nodes b → Marks seen marks → (steps_cost b price goals marks u cost rest ≡ [] → ⊥)
      → Steps b goals seen u rest
  unfolding steps_cost step_passes
  steps_of [] seen marks u cost long m some = end
  steps_of (v ∷ rest) seen marks u cost long m some =
      let edge : Bool = has_edge b u v in
      let free : Bool = eqb (get_or marks v 0) 0 in
      let last : Bool = eqb (get_or goals v 0) (last_mark rest) in
      by_test (both edge (both free last))
      (λ t.
      let e : has_edge b u v ≡ true = both_left edge (both free last) t in
      let others : both free last ≡ true = both_right edge (both free last) t in
      let out : has v seen ≡ false = mark_out (has v seen) (sym (m v) ∙ eqb-true (get_or marks v 0) 0 (both_left free last others)) in
      let node = edge_to b g u v e in
      step e out (eqb-true (get_or goals v 0) (last_mark rest) (both_right free last others))
      (steps_of rest (v ∷ seen) (set marks v 1) v (cost + price v) (length-set marks v 1 ∙ long) (marks_more seen marks v (omega arith) m)
      (λ none. some (rw t none))))
      (λ t. absurd (some (rw t)))

-- ---- what they say of the path

-- the last node of a path that goes on from u
abbrev pub final : ℕ → List ℕ → ℕ
final u [] = u
final u (v ∷ rest) = final v rest

pub final_is : (u : ℕ) (rest : List ℕ) → get_or (u ∷ rest) (length (u ∷ rest) - 1) 0 ≡ final u rest
final_is u [] = refl
final_is u (v ∷ rest) =
    let n : suc (suc (length rest)) - 1 ≡ suc (suc (length rest) - 1) = omega arith in
    rw n (final_is v rest)

pub final_on : (v : ℕ) (rest : List ℕ) → has (final v rest) (v ∷ rest) ≡ true
final_on v [] = has_first v []
final_on v (w ∷ rest) = has_rest (final w rest) v (w ∷ rest) (final_on w rest)

module _ {b : Block} {goals : List ℕ} where
  pub steps-edges : {seen rest : List ℕ} {u : ℕ} → Steps b goals seen u rest → neighbours (has_edge b) (u ∷ rest) ≡ true
  unfolding neighbours
  steps-edges end = refl
  steps-edges (step e out last r) = rw e (steps-edges r)

  pub steps-new : {seen rest : List ℕ} {u : ℕ} → Steps b goals seen u rest → (x : ℕ) → has x rest ≡ true → has x seen ≡ false
  steps-new end x h = absurd (no_entry x h)
  steps-new (step {seen = seen} {rest = rest} {v = v} e out last r) x h =
      ⊎_elim
      (λ (q : x ≡ v). rw q out)
      (λ (q : has x rest ≡ true). lacks x seen (λ on. true≢false (sym (has_rest x v seen on) ∙ steps-new r x q)))
      (has_cons x v rest h)

  pub steps-once : {seen rest : List ℕ} {u : ℕ} → Steps b goals seen u rest → distinct rest ≡ true
  unfolding distinct
  steps-once end = refl
  steps-once (step {seen = seen} {rest = rest} {v = v} e out last r) =
      distinct_cons v rest (lacks v rest (λ h. true≢false (sym (has_first v seen) ∙ steps-new r v h))) (steps-once r)

  -- the last node is a goal
  pub steps_goal : {seen rest : List ℕ} {u v : ℕ} → Steps b goals seen u (v ∷ rest) → get_or goals (final v rest) 0 ≡ 1
  steps_goal (step {rest = []} e out last r) = last
  steps_goal (step {rest = w ∷ rest} e out last r) = steps_goal r

  -- and no other is
  pub steps-others : {seen rest : List ℕ} {u : ℕ} → Steps b goals seen u rest → (x : ℕ) → has x rest ≡ true → (x ≡ final u rest) ⊎ (get_or goals x 0 ≡ 0)
  steps-others end x h = absurd (no_entry x h)
  steps-others (step {rest = []} {v = v} e out last r) x h = inl (⊎_elim (λ q. q) (λ q. absurd (no_entry x q)) (has_cons x v [] h))
  steps-others (step {rest = w ∷ rest} {v = v} e out last r) x h =
      ⊎_elim
      (λ (q : x ≡ v). inr (rw q last))
      (λ (q : has x (w ∷ rest) ≡ true). steps-others r x q)
      (has_cons x v (w ∷ rest) h)

-- ---- a path of which this is so

-- the rest of a path from node u on: the last of its nodes alone is a goal
pub record Ends (goals : List ℕ) (u : ℕ) (rest : List ℕ) : Type 0 where
  pub goal : 1 ≤ length rest → get_or goals (final u rest) 0 ≡ 1
  pub others : (x : ℕ) → has x rest ≡ true → (x ≡ final u rest → ⊥) → get_or goals x 0 ≡ 0

-- what the first step of it finds
first_goal : (goals : List ℕ) (u v : ℕ) (rest : List ℕ) → distinct (v ∷ rest) ≡ true → Ends goals u (v ∷ rest) → get_or goals v 0 ≡ last_mark rest
first_goal goals u v [] d g = g.goal (omega arith)
first_goal goals u v (w ∷ rest) d g =
    g.others v (has_first v (w ∷ rest))
    (λ e. true≢false (sym (final_on w rest) ∙ sym (ap (λ (x : ℕ). has x (w ∷ rest)) e) ∙ distinct_first v (w ∷ rest) d))

-- and what is left of it after that
rest_ends : (goals : List ℕ) (u v : ℕ) (rest : List ℕ) → Ends goals u (v ∷ rest) → Ends goals v rest
rest_ends goals u v rest g = record { goal = λ l. g.goal (omega arith); others = λ x h. g.others x (has_rest x v rest h) }

edge_first : (t : ℕ → ℕ → Bool) (u v : ℕ) (rest : List ℕ) → neighbours t (u ∷ v ∷ rest) ≡ true → (t u v ≡ true) × (neighbours t (v ∷ rest) ≡ true)
unfolding neighbours
edge_first t u v rest e = (both_left (t u v) (neighbours t (v ∷ rest)) e, both_right (t u v) (neighbours t (v ∷ rest)) e)

pub steps_from :
    (b : Block) (goals seen : List ℕ) (u : ℕ) (rest : List ℕ) → neighbours (has_edge b) (u ∷ rest) ≡ true → distinct rest ≡ true
    → ((x : ℕ) → has x rest ≡ true → has x seen ≡ false) → Ends goals u rest → Steps b goals seen u rest
steps_from b goals seen u [] edges once new g = end
steps_from b goals seen u (v ∷ rest) edges once new g =
    let first = edge_first (has_edge b) u v rest edges in
    step first.0 (new v (has_first v rest)) (first_goal goals u v rest once g)
    (steps_from b goals (v ∷ seen) v rest first.1 (distinct_rest v rest once)
    (λ x h.
    lacks x (v ∷ seen)
    (λ on.
    ⊎_elim
    (λ (q : x ≡ v). true≢false (sym h ∙ ap (λ (y : ℕ). has y rest) q ∙ distinct_first v rest once))
    (λ (q : has x seen ≡ true). true≢false (sym q ∙ new x (has_rest x v rest h)))
    (has_cons x v seen on)))
    (rest_ends goals u v rest g))
