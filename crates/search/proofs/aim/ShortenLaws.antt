-- Node v gets a shorter way, over u, at distance d: two stores, and then it waits if it has an estimate.
-- Assumes nothing.
use mathlib.Core.List.{List}
use mathlib.Core.Path.{◌≡◌, ◌∙◌}
use Prim.Native.Nat.{ℕ, ◌+◌, ◌*◌, ◌≤◌, ◌<◌}
use native.Mathlib.Omega.{arith}
use lib.ListN.{length, get_or, set, length-set}
use borrow.Author.Tests.{ne_eqb}
use Rattle.search.specs.Distance.{far}
use Rattle.search.specs.Layout.{estimate_at, Queued}
use Rattle.search.specs.Aiming.{Shortened}
use Rattle.search.proofs.StoreLaws.{store_here, store_other}

module _ (n u v d : ℕ) (w : List ℕ) (h : v < n) (room : 8 * n ≤ length w) where
  -- after the two stores
  abbrev stored : List ℕ
  stored = set (set w v d) (4 * n + v) u

  pub stored_long : length stored ≡ length w
  stored_long = length-set (set w v d) (4 * n + v) u ∙ length-set w v d

  elsewhere : (j : ℕ) → (j ≡ v → ⊥) → (j ≡ 4 * n + v → ⊥) → get_or stored j 0 ≡ get_or w j 0
  elsewhere j a b = store_other (set w v d) (4 * n + v) u j b ∙ store_other w v d j a

  here-dist : get_or stored v 0 ≡ d
  here-dist = store_other (set w v d) (4 * n + v) u v (λ e. omega arith) ∙ store_here w v d (omega arith)

  here-pred : get_or stored (4 * n + v) 0 ≡ u
  here-pred = store_here (set w v d) (4 * n + v) u (omega (arith, length-set w v d))

  -- the estimate is read after them
  pub same-estimate : estimate_at n stored v ≡ estimate_at n w v
  same-estimate = elsewhere (6 * n + v) (λ e. omega arith) (λ e. omega arith)

  pub shortened_waits : {w' : List ℕ} → (estimate_at n stored v ≡ far → ⊥) → Queued n v (d + estimate_at n stored v) stored w' → Shortened n u v d w w'
  shortened_waits {w'} known q =
      record {
        long = q.long ∙ stored_long;
        queue = q.queue;
        dist-here = q.low v h ∙ here-dist;
        leaf_here =
            rw (ne_eqb (estimate_at n w v) far (λ e. known (same-estimate ∙ e)))
            (let k = q.leaf_here in omega (arith, same-estimate));
        pred-here = q.high (4 * n + v) (omega arith) ∙ here-pred;
        dist_other = λ x l ne. q.low x l ∙ elsewhere x ne (λ e. omega arith);
        leaf_other = λ x l ne. q.leaf_other x l ne ∙ elsewhere (2 * n + x) (λ e. omega arith) (λ e. omega arith);
        pred_other = λ x l ne. q.high (4 * n + x) (omega arith) ∙ elsewhere (4 * n + x) (λ e. omega arith) (λ e. ne (omega arith));
        link_same = λ x l. q.high (3 * n + x) (omega arith) ∙ elsewhere (3 * n + x) (λ e. omega arith) (λ e. omega arith);
        high = λ j l. q.high j (omega arith) ∙ elsewhere j (λ e. omega arith) (λ e. omega arith);
      }
