-- The loops that test a lent record: over the row of a node, and over the words of a path.
--     RowLeft, row_first, -here, -next, -none     the row that is left has the target or not
--     step_answer                                 the tests of one step
--     price-found, price-block                    the price of the node that it goes to
--     Passing, pass_first, -off, -out             the pass over the words, at first
--     step_strays, step_node, cost-fits, step_on  a step more
--     pass_done, pass_marked                      and at the end
-- Assumes nothing.
use mathlib.Core.Bool.{Bool, true, false}
use mathlib.Core.List.{List, [], ◌∷◌}
use mathlib.Core.Logic.{⊎_elim}
use mathlib.Core.Path.{◌≡◌, refl, sym, ◌∙◌}
use Prim.Native.Nat.{ℕ, suc, ◌+◌, ◌-◌, ◌*◌, ◌≤◌, ◌<◌, zero-le}
use native.Mathlib.Nat.{le_refl, eq-or-lt_of_le, mul-le-mul, suc-mul}
use native.Mathlib.Omega.{arith}
use lib.Dec.{eqb, ltb}
use lib.ListN.{length, get_or, set, length-set, get_or-eq_default}
use lib.Seq.{slice, slice-cons, slice_empty}
use borrow.Author.Tests.{eqb-true, eq-eqb, ne_eqb, lt-ltb, le-ltb}
use Rattle.price.specs.Test.{choose}
use Rattle.price.specs.Bounds.{path_most}
use Rattle.price.specs.Lists.{has}
use Rattle.price.specs.Replies.{price_reply_of}
use Rattle.price.specs.Timed.{weighed_reply, weighed_most}
use Rattle.std.specs.Prelude.{Result, Ok}
use Rattle.price.specs.declared.BadNumber.{BadNumber}
use Rattle.price.proofs.TestLaws.{by_test, both_left}
use Rattle.price.proofs.TimedLaws.{weighed_most_lem, weighed-path}
use Rattle.search.specs.Block.{Block, block_of, graph_of, nodes, row_start, row, has_edge}
use Rattle.search.specs.Tables.{Graph}
use Rattle.search.specs.Turn.{Congestion, congested_at, price_at}
use Rattle.search.specs.Priceable.{PriceReady}
use Rattle.search.proofs.BlockLaws.{graph_of_lem, row-order, row-end, edge_to, kinds-few}
use Rattle.search.proofs.PriceableLaws.{answered-price}
use Rattle.job.specs.Steps.{Stored}
use Rattle.negotiation.specs.ResumeSteps.{last_mark, step_passes, steps_cost, pass_cost, PassReady}
use Rattle.job.proofs.MarkLaws.{slice-more, stored_one, stored_append}

-- ---- the row of a node

-- from place e on the row has the target or not, as the whole row
pub record RowLeft (b : Block) (u v e : ℕ) : Type 0 where
  pub most : e ≤ row_start b (u + 1)
  pub left_is : has_edge b u v ≡ has v (slice e (row_start b (u + 1)) b.edge_targets)

module _ {b : Block} {u : ℕ} (g : Graph b) (node : u < nodes b) where
  pub row_first : (v : ℕ) → RowLeft b u v (row_start b u)
  unfolding has_edge row
  row_first v = record { most = row-order b g u node; left_is = refl }

  row_within : row_start b (u + 1) ≤ length b.edge_targets
  row_within = row-end b g (u + 1) (omega arith)

  module _ {v e : ℕ} (left : RowLeft b u v e) (l : e < row_start b (u + 1)) where
    -- the next target is v
    pub row_here : get_or b.edge_targets e 0 ≡ v → has_edge b u v ≡ true
    unfolding has
    row_here is = left.left_is ∙ rw (slice-cons e (row_start b (u + 1)) b.edge_targets 0 l row_within, eq-eqb v (get_or b.edge_targets e 0) (sym is))

    -- or it is another one
    pub row_next : (get_or b.edge_targets e 0 ≡ v → ⊥) → RowLeft b u v (e + 1)
    unfolding has
    row_next other =
        let one : e + 1 ≡ suc e = omega arith in
        record {
          most = omega arith;
          left_is =
              left.left_is
              ∙ rw (slice-cons e (row_start b (u + 1)) b.edge_targets 0 l row_within, ne_eqb v (get_or b.edge_targets e 0) (λ q. other (sym q)), one);
        }

-- nothing is left
pub row-none : {b : Block} {u v e : ℕ} → RowLeft b u v e → row_start b (u + 1) ≤ e → has_edge b u v ≡ false
unfolding has
row-none {b} {u} {v} {e} left l =
    let most = left.most in
    let same : e ≡ row_start b (u + 1) = omega arith in
    left.left_is ∙ rw (same, slice_empty (row_start b (u + 1)) b.edge_targets)

-- ---- one step of a path

-- capacities don't matter: what is said of the graph is said of the block
module _ (ks cs fs ts goals marks : List ℕ) (u v next to : ℕ) where
  pub step_answer :
      {r : Bool} {last : ℕ} → r ≡ step_passes (graph_of ks fs ts) goals marks u v last → last ≡ choose (ltb next to) 0 1
      → r ≡ step_passes (block_of ks cs fs ts) goals marks u v (choose (ltb next to) 0 1)
  unfolding step_passes has_edge row
  step_answer e is = rw is at e

-- ---- the price of a node

-- the price's answer to a node that is ready to be priced, within its bound
pub price-found :
    {kinds capacities : List ℕ} {c : Congestion} {v : ℕ} → PriceReady kinds capacities c v → {d : ℕ} → (c.weighting.timed ≡ true → d ≡ get_or c.delays v 0)
    → {r : Result ℕ BadNumber} {p : ℕ} → r ≡ Ok p
    → price_reply_of r ≡ weighed_reply c.weighting (get_or kinds v 0) c.factor (get_or c.others v 0) (get_or capacities v 0) (get_or c.histories v 0) d
    → (p ≡ price_at (block_of kinds capacities [] []) c v) × (p ≤ weighed_most c.weighting)
unfolding price_at congested_at
price-found ready read q e = let is = answered-price ready read q e in (is, rw is (weighed_most_lem ready.bounds))

-- tables 3 and 4 don't matter to it
pub price-block :
    (ks cs fs ts : List ℕ) (c : Congestion) (v : ℕ) {p : ℕ} → p ≡ price_at (block_of ks cs [] []) c v → p ≡ price_at (block_of ks cs fs ts) c v
unfolding price_at congested_at
price-block ks cs fs ts c v e = e

-- ---- the words of a path

-- the pass stands at node u, which is the word before place k, and over what is left it gives what the whole pass does
pub record Passing (b : Block) (c : Congestion) (goals marks₀ log : List ℕ) (from to : ℕ) (marks : List ℕ) (u cost k : ℕ) : Type 0 where
  pub least : from < k
  pub most : k ≤ to
  pub node : u < nodes b
  pub marks_long : length marks ≡ nodes b
  pub left_is : pass_cost b (price_at b c) goals marks₀ (slice from to log) ≡ steps_cost b (price_at b c) goals marks u cost (slice k to log)
  pub cost-most : cost ≤ (k - from) * weighed_most c.weighting
  pub marked : Stored 1 (slice from k log) marks₀ marks

-- the mark of a step by the place after it: that of the last one where no word is left
last-is : (k to : ℕ) (log : List ℕ) → k ≤ to → to ≤ length log → choose (ltb k to) 0 1 ≡ last_mark (slice k to log)
last-is k to log most h =
    ⊎_elim
    (λ (e : k ≡ to). rw (e, le-ltb to to (le_refl to), slice_empty to log))
    (λ (l : k < to). rw (lt-ltb k to l, slice-cons k to log 0 l h))
    (eq-or-lt_of_le most)

-- a node that has its mark already
stored_same : (y : ℕ) (marks : List ℕ) → get_or marks y 0 ≡ 1 → Stored 1 (y ∷ []) marks marks
unfolding has
stored_same y marks is = record {
  long = refl;
  at = λ v.
      by_test (eqb v y)
      (λ q. rw (q, eqb-true v y q) is)
      (λ q. rw q);
}

module _ {b : Block} {c : Congestion} {goals marks₀ log : List ℕ} {from to : ℕ} (ready : PassReady b c goals marks₀ log from to) where
  abbrev first : ℕ
  first = get_or log from 0

  path_whole : slice from to log ≡ first ∷ slice (suc from) to log
  path_whole = slice-cons from to log 0 ready.some ready.turn.within

  -- a path whose first node has no mark strays
  pub pass_off : (get_or marks₀ first 0 ≡ 1 → ⊥) → [] ≡ pass_cost b (price_at b c) goals marks₀ (slice from to log)
  unfolding pass_cost
  pass_off off = rw (path_whole, ne_eqb (get_or marks₀ first 0) 1 off)

  -- so does one whose first is no node
  pub pass_out : nodes b ≤ first → [] ≡ pass_cost b (price_at b c) goals marks₀ (slice from to log)
  pass_out far =
      let none : get_or marks₀ first 0 ≡ 0 = get_or-eq_default marks₀ 0 (rw ready.turn.marks_long far) in
      pass_off (λ e. omega arith)

  pub pass_first : first < nodes b → get_or marks₀ first 0 ≡ 1 → Passing b c goals marks₀ log from to marks₀ first 0 (from + 1)
  unfolding pass_cost
  pass_first node is =
      let one : from + 1 ≡ suc from = omega arith in
      let some = ready.some in
      record {
        least = omega arith;
        most = omega arith;
        node = node;
        marks_long = ready.turn.marks_long;
        left_is = rw (path_whole, eq-eqb (get_or marks₀ first 0) 1 is, one);
        cost-most = zero-le;
        marked = rw (slice-more from to from log (le_refl from) ready.turn.within some, slice_empty from log) (stored_same first marks₀ is);
      }

  module _ {marks : List ℕ} {u cost k : ℕ} (s : Passing b c goals marks₀ log from to marks u cost k) where
    abbrev next : ℕ
    next = get_or log k 0

    module _ (l : k < to) where
      path-left : slice k to log ≡ next ∷ slice (k + 1) to log
      path-left = let one : k + 1 ≡ suc k = omega arith in rw one (slice-cons k to log 0 l ready.turn.within)

      abbrev last : ℕ
      last = choose (ltb (k + 1) to) 0 1

      -- a step that strays
      pub step_strays : step_passes b goals marks u next last ≡ false → [] ≡ pass_cost b (price_at b c) goals marks₀ (slice from to log)
      unfolding steps_cost
      step_strays off =
          let same : last ≡ last_mark (slice (k + 1) to log) = last-is (k + 1) to log (omega arith) ready.turn.within in
          let test : step_passes b goals marks u next (last_mark (slice (k + 1) to log)) ≡ false = rw same at off in
          sym (s.left_is ∙ rw (path-left, test))

      -- a step that passes goes to a node
      pub step_node : step_passes b goals marks u next last ≡ true → next < nodes b
      unfolding step_passes
      step_node on = edge_to b (graph_of_lem b ready.turn.sound) u next (both_left (has_edge b u next) _ on)

      -- a price more is within the bound of one node more
      cost-more : (p : ℕ) → p ≤ weighed_most c.weighting → cost + p ≤ (k + 1 - from) * weighed_most c.weighting
      cost-more p low =
          let least = s.least in
          let one : k + 1 - from ≡ suc (k - from) = omega arith in
          rw (one, suc-mul (k - from) (weighed_most c.weighting)) (omega (arith, s.cost-most))

      -- so the cost of a path fits
      pub cost-fits : (p : ℕ) → p ≤ weighed_most c.weighting → cost + p < path_most
      cost-fits p low =
          let most = ready.few in
          let few : k + 1 - from ≤ nodes b = omega arith in
          let all : (k + 1 - from) * weighed_most c.weighting ≤ nodes b * weighed_most c.weighting = mul-le-mul few (le_refl (weighed_most c.weighting)) in
          omega (arith, cost-more p low, weighed-path c.weighting (nodes b) (kinds-few _ ready.turn.sound.kinds_sound_lem) ready.turn.nodes-few)

      pub step_on :
          (p : ℕ) → step_passes b goals marks u next last ≡ true → p ≡ price_at b c next → p ≤ weighed_most c.weighting
          → Passing b c goals marks₀ log from to (set marks next 1) next (cost + p) (k + 1)
      unfolding steps_cost
      step_on p on is low =
          let same : last ≡ last_mark (slice (k + 1) to log) = last-is (k + 1) to log (omega arith) ready.turn.within in
          let test : step_passes b goals marks u next (last_mark (slice (k + 1) to log)) ≡ true = rw same at on in
          let node : next < nodes b = step_node on in
          let least = s.least in
          let long = s.marks_long in
          record {
            least = omega arith;
            most = omega arith;
            node = node;
            marks_long = length-set marks next 1 ∙ long;
            left_is = s.left_is ∙ rw (path-left, test, is);
            cost-most = cost-more p low;
            marked =
                rw (slice-more from to k log (omega arith) ready.turn.within l)
                (stored_append s.marked (stored_one 1 next marks (omega arith)));
          }

    -- no word is left
    module _ (l : to ≤ k) where
      ended : k ≡ to
      ended = let most = s.most in omega arith

      pub pass_done : cost ∷ [] ≡ pass_cost b (price_at b c) goals marks₀ (slice from to log)
      unfolding steps_cost
      pass_done = sym (s.left_is ∙ rw (ended, slice_empty to log))

      pub pass_marked : Stored 1 (slice from to log) marks₀ marks
      pass_marked = rw ended at s.marked
