-- The estimates at the beginning: none stands, then the unjoined sinks have theirs.
-- Assumes nothing.
use mathlib.Core.Bool.{true, false}
use mathlib.Core.List.{List, []}
use mathlib.Core.Logic.{◌⊎◌, ⊎_elim, inl, inr}
use mathlib.Core.Path.{◌≡◌, refl, sym, ◌∙◌, ap, subst}
use Prim.Native.Nat.{ℕ, ◌+◌, ◌*◌, ◌≤◌, ◌<◌}
use native.Mathlib.Omega.{arith}
use lib.ListN.{length, get_or}
use borrow.Author.Tests.{eq-eqb}
use Rattle.price.specs.Bounds.{base_most}
use Rattle.price.specs.Lists.{has, distinct}
use Rattle.price.proofs.TestLaws.{same_or_not, true≢false}
use Rattle.price.proofs.BelowLaws.{count_zero}
use Rattle.price.proofs.ListLaws.{has-at}
use Rattle.search.specs.Block.{Block, nodes}
use Rattle.search.specs.Distance.{far, tree_has}
use Rattle.search.specs.Layout.{dist_at, leaf_at, estimate_at, Tournament}
use Rattle.search.specs.Buckets.{buckets, ends, Lined, waits}
use Rattle.search.specs.Estimates.{Given, WaitsToSpread, NoneGiven, SinkGiven, SinksGiven}
use Rattle.search.proofs.DistanceLaws.{out_of_tree}
use Rattle.search.proofs.estimate.EstimateSteps.{beside_none, beside-more, no_edge-to, LinedUp, lines}

has_nothing : (x : ℕ) → has x [] ≡ false
unfolding has
has_nothing x = refl

once_nothing : distinct [] ≡ true
unfolding distinct
once_nothing = refl

-- nobody waits
abbrev lined_empty : {n : ℕ} {base : ℕ → ℕ} {scale : ℕ} {w head : List ℕ} → length head ≡ buckets → ((b : ℕ) → b < buckets → get_or head b 0 ≡ 0) → Lined n base scale w head 0 0
lined_empty {n} long none =
    record {
      level = λ v. 0;
      inside = λ b. [];
      waiting =
          record {
            heads = long;
            chains = λ b h. ends (none b h);
            once = λ b h. once_nothing;
            placed = λ b v h m. absurd (true≢false (sym m ∙ has_nothing v));
          };
      at_level = λ v m. absurd (true≢false (sym m ∙ has_nothing v));
      counted = sym (count_zero (λ v. has v []) n (λ v h. has_nothing v));
    }

module _ {r : Block} {base : ℕ → ℕ} {scale : ℕ} {marks sinks w : List ℕ} where
  pub sinks-none :
      {head : List ℕ} → NoneGiven (nodes r) w → Tournament (nodes r) w → length head ≡ buckets → ((b : ℕ) → b < buckets → get_or head b 0 ≡ 0)
      → SinksGiven r base scale marks sinks w w head 0 0
  sinks-none g queue long none =
      record {
        same = beside_none _ _;
        queue = queue;
        leaves = λ v h. refl;
        lined = lined_empty long none;
        each = λ v h. inl (g.estimates v h, has_nothing v);
        goals = λ j l. absurd (omega arith);
      }

  module _ {w' head' : List ℕ} {count' i : ℕ} (s : SinksGiven r base scale marks sinks w w' head' count' i) where
    -- a sink that is no node, is joined or has its estimate is left out
    pub sinks_passed :
        (get_or sinks i 0 < nodes r → tree_has marks (get_or sinks i 0) ≡ false → estimate_at (nodes r) w' (get_or sinks i 0) ≡ 0)
        → SinksGiven r base scale marks sinks w w' head' count' (i + 1)
    sinks_passed here =
        record {
          same = s.same;
          queue = s.queue;
          leaves = s.leaves;
          lined = s.lined;
          each = s.each;
          goals = λ j l.
              ⊎_elim
              (λ (e : j ≡ i). subst (λ (k : ℕ). get_or sinks k 0 < nodes r → tree_has marks (get_or sinks k 0) ≡ false → estimate_at (nodes r) w' (get_or sinks k 0) ≡ 0) (sym e) here)
              (λ (d : j ≡ i → ⊥). s.goals j (omega arith))
              (same_or_not j i);
        }

    -- an estimate that stands is 0
    pub stands_zero : (v : ℕ) → v < nodes r → (estimate_at (nodes r) w' v ≡ far → ⊥) → estimate_at (nodes r) w' v ≡ 0
    stands_zero v h some = ⊎_elim (λ p. absurd (some p.0)) (λ p. p.estimate-here) (s.each v h)

    -- another gets estimate 0
    module _
        {w'' head'' : List ℕ} {count'' : ℕ} (i-in : i < length sinks) (h : get_or sinks i 0 < nodes r) (out : get_or marks (get_or sinks i 0) 0 ≡ 1 → ⊥)
        (blank : estimate_at (nodes r) w' (get_or sinks i 0) ≡ far) (light : base (get_or sinks i 0) ≤ base_most) (off : dist_at w (get_or sinks i 0) ≡ far)
        (g : Given (nodes r) (get_or sinks i 0) (scale * 0) w' w'')
        (lines_of : WaitsToSpread (nodes r) r.first_edges (get_or sinks i 0) (0 + base (get_or sinks i 0)) w' w'' head' head'' count' count'') where
      abbrev sink : ℕ
      sink = get_or sinks i 0

      zero_here : estimate_at (nodes r) w'' sink ≡ 0
      zero_here = g.estimate-here ∙ omega arith

      lined-sink : LinedUp (nodes r) base scale r.first_edges sink 0 w' w'' head' head'' count' count'' s.lined
      lined-sink = lines s.lined h blank (omega arith) light g lines_of

      leaf_sink : leaf_at (nodes r) w'' sink ≡ leaf_at (nodes r) w sink
      leaf_sink = g.leaf_here ∙ rw (eq-eqb (dist_at w' sink) far (s.same.dist sink h ∙ off)) (s.leaves sink h)

      sink-here : SinkGiven r marks sinks w'' (waits lined-sink.lined) sink
      sink-here =
          record {
            listed = has-at sinks i i-in;
            out = out_of_tree marks sink out;
            estimate-here = zero_here;
            spreads = ⊎_elim inl (λ z. inr (no_edge-to r sink z)) lined-sink.here;
          }

      sink-still :
          (v : ℕ) → v < nodes r → (v ≡ sink → ⊥) → ((estimate_at (nodes r) w' v ≡ far) × (waits s.lined v ≡ false)) ⊎ SinkGiven r marks sinks w' (waits s.lined) v
          → ((estimate_at (nodes r) w'' v ≡ far) × (waits lined-sink.lined v ≡ false)) ⊎ SinkGiven r marks sinks w'' (waits lined-sink.lined) v
      sink-still v l d =
          ⊎_elim
          (λ (q : (estimate_at (nodes r) w' v ≡ far) × (waits s.lined v ≡ false)). inl (g.estimate_other v l d ∙ q.0, lined-sink.others v d ∙ q.1))
          (λ (q : SinkGiven r marks sinks w' (waits s.lined) v).
          inr
          (record {
            listed = q.listed;
            out = q.out;
            estimate-here = g.estimate_other v l d ∙ q.estimate-here;
            spreads = ⊎_elim (λ z. inl (lined-sink.others v d ∙ z)) inr q.spreads;
          }))

      at_or_below : (j : ℕ) → (get_or sinks j 0 ≡ sink → ⊥) → j < i + 1 → j < i
      at_or_below j d l = ⊎_elim (λ (e : j ≡ i). absurd (d (ap (λ (k : ℕ). get_or sinks k 0) e))) (λ (q : j ≡ i → ⊥). omega arith) (same_or_not j i)

      pub sinks-more : SinksGiven r base scale marks sinks w w'' head'' count'' (i + 1)
      sinks-more =
          record {
            same = beside-more s.same g.same;
            queue = g.queue;
            leaves = λ v l.
                ⊎_elim
                (λ (e : v ≡ sink). subst (λ (x : ℕ). leaf_at (nodes r) w'' x ≡ leaf_at (nodes r) w x) (sym e) leaf_sink)
                (λ (d : v ≡ sink → ⊥). g.leaf_other v l d ∙ s.leaves v l)
                (same_or_not v sink);
            lined = lined-sink.lined;
            each = λ v l.
                ⊎_elim
                (λ (e : v ≡ sink). inr (subst (SinkGiven r marks sinks w'' (waits lined-sink.lined)) (sym e) sink-here))
                (λ (d : v ≡ sink → ⊥). sink-still v l d (s.each v l))
                (same_or_not v sink);
            goals = λ j l n o.
                ⊎_elim
                (λ (e : get_or sinks j 0 ≡ sink). subst (λ (x : ℕ). estimate_at (nodes r) w'' x ≡ 0) (sym e) zero_here)
                (λ (d : get_or sinks j 0 ≡ sink → ⊥). g.estimate_other (get_or sinks j 0) n d ∙ s.goals j (at_or_below j d l) n o)
                (same_or_not (get_or sinks j 0) sink);
          }

    pub sinks-all : length sinks ≤ i → SinksGiven r base scale marks sinks w w' head' count' (length sinks)
    sinks-all l =
        record {
          same = s.same;
          queue = s.queue;
          leaves = s.leaves;
          lined = s.lined;
          each = s.each;
          goals = λ j h. s.goals j (omega arith);
        }
