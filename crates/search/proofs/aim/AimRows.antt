-- The edges of a node are looked at one after the other by the search that aims.
--     over_some, over_passed                one edge, as its code has it
--     some_then, still_passed, now_passed   what edges have done after others
--     AimRowSoFar, aim-row-..               the loop over a row
--     expand_ready, expanded                the node leaves the queue first
-- Assumes nothing.
use mathlib.Core.Bool.{Bool, true}
use mathlib.Core.List.{List}
use mathlib.Core.Logic.{⊎_elim, inr}
use mathlib.Core.Path.{◌≡◌, refl, sym, ◌∙◌, ap, subst}
use Prim.Native.Nat.{ℕ, ◌+◌, ◌*◌, ◌≤◌, ◌<◌, min}
use native.Mathlib.Omega.{arith}
use lib.Dec.{eqb}
use lib.ListN.{length, get_or, set, length-set}
use borrow.Author.Count.{below_more}
use Rattle.price.specs.Test.{choose}
use Rattle.price.proofs.TestLaws.{same_or_not, both_true, both_left, both_right, true≢false}
use Rattle.search.specs.declared.aim.Reach.{Reach}
use Rattle.search.specs.Block.{Block, nodes, row_start, has_edge}
use Rattle.search.specs.Distance.{far}
use Rattle.search.specs.ByTarget.{in_both}
use Rattle.search.specs.Layout.{dist_at, entry_at, leaf_at, pred_at, estimate_at, Tournament, Queued}
use Rattle.search.specs.Aiming.{Shortened, AimedOver, over_unlisted, over-shorter, over_lower, over-kept, AimedAt, at-kept, at-shorter, at_lower, AimedSome, EdgePassed, AimedRow, AimRowReady, BestAim, LowAim, Expanded, ExpandReady}
use Rattle.search.proofs.EdgeLaws.{place_edge, edge_where}
use Rattle.search.proofs.StoreLaws.{store_here, store_other}
use Rattle.search.proofs.QueueLaws.{queue_aside}
use Rattle.search.proofs.aim.BestLaws.{best_kept, low-kept}

-- nothing has been looked at yet
pub some_none : (n : ℕ) (edge : ℕ → ℕ → Bool) (price : ℕ → ℕ) (u : ℕ) (w : List ℕ) → Tournament n w → AimedSome n edge price u w w
some_none n edge price u w queue =
    record {
      long = refl;
      queue = queue;
      each = λ x h. at-kept refl refl refl;
      link_same = λ x h. refl;
      high = λ j h. refl;
    }

-- ---- one edge

module _ (n : ℕ) (edge : ℕ → ℕ → Bool) (price : ℕ → ℕ) (u v d : ℕ) (w w' : List ℕ) (hv : v < n) (room : 8 * n ≤ length w) (queue : Tournament n w)
    (way : d ≡ dist_at w u + price v) where
  shorter_some : edge u v ≡ true → d < dist_at w v → Shortened n u v d w w' → AimedSome n edge price u w w'
  shorter_some e less t =
      let here = t.dist-here in
      record {
        long = t.long;
        queue = t.queue;
        each = λ x h.
            ⊎_elim
            (λ (q : x ≡ v).
            subst (AimedAt n edge price u w w') (sym q)
            (at-shorter e (omega arith) (omega arith) t.pred-here
            (t.leaf_here ∙ ap (λ (k : ℕ). choose (eqb (estimate_at n w v) far) (leaf_at n w v) (k + estimate_at n w v)) way)))
            (λ (ne : x ≡ v → ⊥). at-kept (t.dist_other x h ne) (t.pred_other x h ne) (t.leaf_other x h ne))
            (same_or_not x v);
        link_same = t.link_same;
        high = t.high;
      }

  -- only the predecessor of v is written
  lower_some : edge u v ≡ true → d ≡ dist_at w v → u < pred_at n w v → AimedSome n edge price u w (set w (4 * n + v) u)
  lower_some e same low =
      let after : List ℕ = set w (4 * n + v) u in
      let other : (j : ℕ) → (j ≡ 4 * n + v → ⊥) → get_or after j 0 ≡ get_or w j 0 = store_other w (4 * n + v) u in
      record {
        long = length-set w (4 * n + v) u;
        queue = queue_aside n w (4 * n + v) u (inr (omega arith)) queue;
        each = λ x h.
            ⊎_elim
            (λ (q : x ≡ v).
            subst (AimedAt n edge price u w after) (sym q)
            (at_lower e (omega arith) low (other v (λ p. omega arith)) (store_here w (4 * n + v) u (omega arith)) (other (2 * n + v) (λ p. omega arith))))
            (λ (ne : x ≡ v → ⊥). at-kept (other x (λ q. omega arith)) (other (4 * n + x) (λ q. ne (omega arith))) (other (2 * n + x) (λ q. omega arith)))
            (same_or_not x v);
        link_same = λ x h. other (3 * n + x) (λ q. omega arith);
        high = λ j h. other j (λ q. omega arith);
      }

  pub over_some : {listed : Bool} → (listed ≡ true → edge u v ≡ true) → AimedOver n u v d listed w w' → AimedSome n edge price u w w'
  over_some e (over_unlisted none is) = subst (AimedSome n edge price u w) (sym is) (some_none n edge price u w queue)
  over_some e (over-shorter l less t) = shorter_some (e l) less t
  over_some e (over_lower l same low is) = subst (AimedSome n edge price u w) (sym is) (lower_some (e l) same low)
  over_some e (over-kept no-shorter no_lower is) = subst (AimedSome n edge price u w) (sym is) (some_none n edge price u w queue)

  pub over_passed : {listed : Bool} → listed ≡ true → AimedOver n u v d listed w w' → EdgePassed n price u w w' v
  over_passed l (over_unlisted none is) = absurd (true≢false (sym l ∙ none))
  over_passed l (over-shorter k less t) = let here = t.dist-here in let p = t.pred-here in record { least = omega arith; lowest = λ e. omega arith }
  over_passed l (over_lower k same low is) =
      let here : dist_at w' v ≡ dist_at w v = ap (λ (l : List ℕ). get_or l v 0) is ∙ store_other w (4 * n + v) u v (λ q. omega arith) in
      let p : pred_at n w' v ≡ u = ap (λ (l : List ℕ). get_or l (4 * n + v) 0) is ∙ store_here w (4 * n + v) u (omega arith) in
      record { least = omega arith; lowest = λ e. omega arith }
  over_passed l (over-kept no-shorter no_lower is) =
      subst (λ (l : List ℕ). EdgePassed n price u w l v) (sym is) (record { least = omega arith; lowest = λ e. no_lower (way ∙ e) })

-- ---- edges after others

module _ {n : ℕ} {edge : ℕ → ℕ → Bool} {price : ℕ → ℕ} {u : ℕ} {w₀ w : List ℕ} (hu : u < n) (first : AimedSome n edge price u w₀ w) where
  -- u's own distance stays: a way over itself is no shorter
  pub own_same : dist_at w u ≡ dist_at w₀ u
  own_same = by (first.each u hu)
    where
      by : AimedAt n edge price u w₀ w u → dist_at w u ≡ dist_at w₀ u
      by (at-kept d p l) = d
      by (at-shorter e less d p l) = absurd (omega arith)
      by (at_lower e same low d p l) = d

  pub estimate-same : (x : ℕ) → estimate_at n w x ≡ estimate_at n w₀ x
  estimate-same x = first.high (6 * n + x) (omega arith)

  module _ (w' : List ℕ) where
    leaf_then :
        (x : ℕ) → leaf_at n w x ≡ leaf_at n w₀ x
        → leaf_at n w' x ≡ choose (eqb (estimate_at n w x) far) (leaf_at n w x) (dist_at w u + price x + estimate_at n w x)
        → leaf_at n w' x ≡ choose (eqb (estimate_at n w₀ x) far) (leaf_at n w₀ x) (dist_at w₀ u + price x + estimate_at n w₀ x)
    leaf_then x l l' =
        l'
        ∙ ap (λ (k : ℕ). choose (eqb k far) (leaf_at n w x) (dist_at w u + price x + k)) (estimate-same x)
        ∙ ap (λ (k : ℕ). choose (eqb (estimate_at n w₀ x) far) k (dist_at w u + price x + estimate_at n w₀ x)) l
        ∙ ap (λ (k : ℕ). choose (eqb (estimate_at n w₀ x) far) (leaf_at n w₀ x) (k + price x + estimate_at n w₀ x)) own_same

    at_then : (x : ℕ) → AimedAt n edge price u w₀ w x → AimedAt n edge price u w w' x → AimedAt n edge price u w₀ w' x
    at_then x (at-kept d p l) (at-kept d' p' l') = at-kept (d' ∙ d) (p' ∙ p) (l' ∙ l)
    at_then x (at-kept d p l) (at-shorter e less d' p' l') =
        let s = own_same in
        at-shorter e (omega arith) (omega arith) p' (leaf_then x l l')
    at_then x (at-kept d p l) (at_lower e same low d' p' l') =
        let s = own_same in
        at_lower e (omega arith) (omega arith) (d' ∙ d) p' (l' ∙ l)
    at_then x (at-shorter e less d p l) (at-kept d' p' l') = at-shorter e less (d' ∙ d) (p' ∙ p) (l' ∙ l)
    at_then x (at-shorter e less d p l) (at-shorter e' less' d' p' l') = let s = own_same in absurd (omega arith)
    at_then x (at-shorter e less d p l) (at_lower e' same low d' p' l') = absurd (omega arith)
    at_then x (at_lower e same low d p l) (at-kept d' p' l') = at_lower e same low (d' ∙ d) (p' ∙ p) (l' ∙ l)
    at_then x (at_lower e same low d p l) (at-shorter e' less' d' p' l') = let s = own_same in absurd (omega arith)
    at_then x (at_lower e same low d p l) (at_lower e' same' low' d' p' l') = absurd (omega arith)

    pub some_then : AimedSome n edge price u w w' → AimedSome n edge price u w₀ w'
    some_then next =
        record {
          long = next.long ∙ first.long;
          queue = next.queue;
          each = λ x h. at_then x (first.each x h) (next.each x h);
          link_same = λ x h. next.link_same x h ∙ first.link_same x h;
          high = λ j h. next.high j h ∙ first.high j h;
        }

    -- an edge that has been looked at stays so
    pub still_passed : (x : ℕ) → EdgePassed n price u w₀ w x → AimedAt n edge price u w w' x → EdgePassed n price u w₀ w' x
    still_passed x pass (at-kept d p l) =
        let least = pass.least in
        record { least = omega arith; lowest = λ e. let low = pass.lowest (e ∙ d) in omega arith }
    still_passed x pass (at-shorter e less d p l) = let s = own_same in record { least = omega arith; lowest = λ q. omega arith }
    still_passed x pass (at_lower e same low d p l) =
        let least = pass.least in
        record { least = omega arith; lowest = λ q. omega arith }

    -- and one that is looked at now has been looked at
    pub now_passed : (x : ℕ) → EdgePassed n price u w w' x → EdgePassed n price u w₀ w' x
    now_passed x pass =
        let s = own_same in
        let least = pass.least in
        record { least = omega arith; lowest = λ q. pass.lowest (omega arith) }

-- ---- the loop over a row

-- the places of u's row before e have been passed; r was r₀ when the row began
pub record AimRowSoFar (b back : Block) (price : ℕ → ℕ) (u e : ℕ) (r₀ r : Reach) (w₀ w : List ℕ) : Type 0 where
  pub some : AimedSome (nodes b) (in_both b back) price u w₀ w
  pub passed :
      (k : ℕ) → k < e → row_start b u ≤ k → get_or b.edge_targets k 0 < nodes b → has_edge back (get_or b.edge_targets k 0) u ≡ true
      → EdgePassed (nodes b) price u w₀ w (get_or b.edge_targets k 0)
  pub from : min (row_start b u) (length b.edge_targets) ≤ e
  pub best_aim : BestAim (nodes b) r₀.best w₀ → BestAim (nodes b) r.best w
  pub low_aim : LowAim (nodes b) r₀.low w₀ → LowAim (nodes b) r.low w

-- the same by names that are known to stand for it
pub row_as :
    {b back : Block} {price : ℕ → ℕ} {u e : ℕ} {r₀ r r' : Reach} {w₀ w w' : List ℕ} → w' ≡ w → r' ≡ r → AimRowSoFar b back price u e r₀ r w₀ w
    → AimRowSoFar b back price u e r₀ r' w₀ w'
row_as {b} {back} {price} {u} {e} {r₀} {r} {r'} {w₀} {w} {w'} same so t =
    subst (λ (q : Reach). AimRowSoFar b back price u e r₀ q w₀ w') (sym so) (subst (AimRowSoFar b back price u e r₀ r w₀) (sym same) t)

module _ {b back : Block} {price : ℕ → ℕ} {u : ℕ} {r₀ : Reach} {w₀ : List ℕ} (ready : AimRowReady (nodes b) w₀ u) where
  pub aim_row-none : {e : ℕ} → e ≡ min (row_start b u) (length b.edge_targets) → AimRowSoFar b back price u e r₀ r₀ w₀ w₀
  aim_row-none is =
      record {
        some = some_none (nodes b) (in_both b back) price u w₀ ready.queue;
        passed = λ k l m t. absurd (omega arith);
        from = omega arith;
        best_aim = λ s. s;
        low_aim = λ s. s;
      }

  module _ {e : ℕ} {r : Reach} {w : List ℕ} (done : AimRowSoFar b back price u e r₀ r w₀ w) {to : ℕ}
      (is : to ≡ min (row_start b (u + 1)) (length b.edge_targets)) where
    pub row_room : 8 * nodes b ≤ length w
    row_room = let l = done.some.long in let o = ready.long in omega arith

    -- past its last place every edge has been looked at
    pub aim_row-all : to ≤ e → AimedRow (nodes b) (in_both b back) price u w₀ w
    aim_row-all past =
        record {
          some = done.some;
          all = λ x h edge.
              let at = edge_where b u x (both_left (has_edge b u x) (has_edge back x u) edge) in
              let below : at.0 < row_start b (u + 1) = at.2 in
              let within : at.0 < length b.edge_targets = at.3 in
              let node : get_or b.edge_targets at.0 0 < nodes b = subst (λ (y : ℕ). y < nodes b) (sym at.4) h in
              let listed : has_edge back (get_or b.edge_targets at.0 0) u ≡ true =
              subst (λ (y : ℕ). has_edge back y u ≡ true) (sym at.4) (both_right (has_edge b u x) (has_edge back x u) edge) in
              subst (EdgePassed (nodes b) price u w₀ w) at.4 (done.passed at.0 (omega arith) at.1 node listed);
        }

    module _ (more : e < to) where
      abbrev target : ℕ
      target = get_or b.edge_targets e 0

      -- what is left to show of a place that is passed: that its edge has been looked at, where it leads to a node and both pairs have it
      next_place :
          {r' : Reach} {w' : List ℕ} → AimedSome (nodes b) (in_both b back) price u w w'
          → (target < nodes b → has_edge back target u ≡ true → EdgePassed (nodes b) price u w w' target)
          → (BestAim (nodes b) r.best w → BestAim (nodes b) r'.best w') → (LowAim (nodes b) r.low w → LowAim (nodes b) r'.low w')
          → AimRowSoFar b back price u (e + 1) r₀ r' w₀ w'
      next_place {r'} {w'} next pass goes falls =
          record {
            some = some_then ready.node done.some w' next;
            passed =
                below_more
                (λ k.
                row_start b u ≤ k → get_or b.edge_targets k 0 < nodes b → has_edge back (get_or b.edge_targets k 0) u ≡ true
                → EdgePassed (nodes b) price u w₀ w' (get_or b.edge_targets k 0))
                e
                (λ k l m h t. still_passed ready.node done.some w' _ (done.passed k l m h t) (next.each _ h))
                (λ m h t. now_passed ready.node done.some w' _ (pass h t));
            from = let f = done.from in omega arith;
            best_aim = λ s. goes (done.best_aim s);
            low_aim = λ s. falls (done.low_aim s);
          }

      -- the edge leads to no node
      pub aim_row-beyond : nodes b ≤ target → AimRowSoFar b back price u (e + 1) r₀ r w₀ w
      aim_row-beyond beyond =
          next_place (some_none (nodes b) (in_both b back) price u w done.some.queue) (λ h t. absurd (omega arith)) (λ s. s) (λ s. s)

      -- or to one that is no farther away
      pub aim_row-nearer : 0 < price target → dist_at w target ≤ dist_at w₀ u → AimRowSoFar b back price u (e + 1) r₀ r w₀ w
      aim_row-nearer pos near =
          let s = own_same ready.node done.some in
          next_place (some_none (nodes b) (in_both b back) price u w done.some.queue)
          (λ h t. record { least = omega arith; lowest = λ q. omega arith }) (λ s. s) (λ s. s)

      -- or it is looked at
      pub aim_row-more :
          {p : ℕ} {r' : Reach} {w' : List ℕ} → target < nodes b → p ≡ price target
          → AimedOver (nodes b) u target (dist_at w₀ u + p) (has_edge back target u) w w'
          → (BestAim (nodes b) r.best w → BestAim (nodes b) r'.best w') → (LowAim (nodes b) r.low w → LowAim (nodes b) r'.low w')
          → AimRowSoFar b back price u (e + 1) r₀ r' w₀ w'
      aim_row-more {p} {r'} {w'} h cost over =
          let s = own_same ready.node done.some in
          let f = done.from in
          let way : dist_at w₀ u + p ≡ dist_at w u + price target = omega arith in
          let there : has_edge b u target ≡ true = place_edge b u e (omega arith) (omega arith) (omega arith) in
          next_place
          (over_some (nodes b) (in_both b back) price u target (dist_at w₀ u + p) w w' h row_room done.some.queue way (λ l. both_true there l) over)
          (λ _ l. over_passed (nodes b) (in_both b back) price u target (dist_at w₀ u + p) w w' h row_room done.some.queue way l over)

-- ---- the node of least key leaves the queue

module _ {n u : ℕ} {w taken : List ℕ} (ready : ExpandReady n w) (node : u < n) (first : leaf_at n w u ≡ entry_at n w 1) (out : Queued n u far w taken) where
  pub expand_ready : AimRowReady n taken u
  expand_ready =
      record {
        node = node;
        long = let l = out.long in let o = ready.long in omega arith;
        queue = out.queue;
        near = let d = out.low u node in let near = ready.near u node first in omega arith;
        estimates = λ v h known.
            let e : estimate_at n taken v ≡ estimate_at n w v = out.high (6 * n + v) (omega arith) in
            let few = ready.estimates v h (λ none. known (e ∙ none)) in
            omega arith;
      }

  pub expanded : {edge : ℕ → ℕ → Bool} {price : ℕ → ℕ} {w' : List ℕ} → AimedRow n edge price u taken w' → Expanded n edge price w w' u
  expanded row = record { is-node = node; first = first; taken = taken; out = out; row = row }

-- distances and estimates stay
module _ {n u key : ℕ} {w taken : List ℕ} (out : Queued n u key w taken) where
  pub best_out : {best : ℕ} → BestAim n best w → BestAim n best taken
  best_out = best_kept (λ x h. out.low x h) (λ x h. out.high (6 * n + x) (omega arith))

  pub low-out : {low : ℕ} → LowAim n low w → LowAim n low taken
  low-out = low-kept (λ x h. out.low x h) (λ x h. out.high (6 * n + x) (omega arith))
