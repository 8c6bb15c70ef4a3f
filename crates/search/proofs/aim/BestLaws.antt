-- The least distance that an unjoined sink has so far, and the least of a node that lacks an estimate: what keeps them, and where a shorter way
-- makes them less.
-- Assumes nothing.
use mathlib.Core.List.{List}
use mathlib.Core.Logic.{⊎_elim, inl, inr}
use mathlib.Core.Path.{◌≡◌, sym, ◌∙◌, subst}
use Prim.Native.Nat.{ℕ, ◌+◌, ◌*◌, ◌≤◌, ◌<◌, min}
use native.Mathlib.Omega.{arith}
use lib.ListN.{get_or, set}
use Rattle.price.proofs.TestLaws.{same_or_not, le_or_lt}
use Rattle.search.specs.Distance.{far}
use Rattle.search.specs.Layout.{dist_at, estimate_at}
use Rattle.search.specs.Aiming.{Shortened, BestAim, LowAim}
use Rattle.search.proofs.StoreLaws.{stored_other}

-- ---- distances and estimates are as they were

module _ {n : ℕ} {w w' : List ℕ} (dist : (x : ℕ) → x < n → dist_at w' x ≡ dist_at w x) (estimates : (x : ℕ) → x < n → estimate_at n w' x ≡ estimate_at n w x) where
  pub best_kept : {best : ℕ} → BestAim n best w → BestAim n best w'
  best_kept {best} s =
      record {
        most = s.most;
        least = λ x h g. let l = s.least x h (sym (estimates x h) ∙ g) in omega (arith, dist x h);
        some =
            ⊎_elim
            (λ e. inl e)
            (λ (x : (v : ℕ) × (v < n) × (estimate_at n w v ≡ 0) × (dist_at w v ≡ best)).
            inr (x.0, x.1, estimates x.0 x.1 ∙ x.2, dist x.0 x.1 ∙ x.3))
            s.some;
      }

  pub low-kept : {low : ℕ} → LowAim n low w → LowAim n low w'
  low-kept s =
      record {
        most = s.most;
        least = λ x h g p. let q = dist x h in let l = s.least x h (sym (estimates x h) ∙ g) (omega arith) in omega arith;
      }

-- another predecessor changes neither
module _ {n : ℕ} (v u : ℕ) (w : List ℕ) {w' : List ℕ} (h : v < n) (e : w' ≡ set w (4 * n + v) u) where
  other : (j : ℕ) → (j ≡ 4 * n + v → ⊥) → get_or w' j 0 ≡ get_or w j 0
  other = stored_other w (4 * n + v) u e

  pub best_pred : {best : ℕ} → BestAim n best w → BestAim n best w'
  best_pred = best_kept (λ x hx. other x (λ q. omega arith)) (λ x hx. other (6 * n + x) (λ q. omega arith))

  pub low-pred : {low : ℕ} → LowAim n low w → LowAim n low w'
  low-pred = low-kept (λ x hx. other x (λ q. omega arith)) (λ x hx. other (6 * n + x) (λ q. omega arith))

-- ---- v has a shorter way

module _ {n u v d : ℕ} {w w' : List ℕ} (h : v < n) (t : Shortened n u v d w w') where
  estimate-same : (x : ℕ) → estimate_at n w' x ≡ estimate_at n w x
  estimate-same x = t.high (6 * n + x) (omega arith)

  module _ {best : ℕ} (s : BestAim n best w) where
    -- at most v's distance and at most what was the least is at most every unjoined sink's distance
    least_of : (k : ℕ) → k ≤ best → (estimate_at n w v ≡ 0 → k ≤ d) → (x : ℕ) → x < n → estimate_at n w' x ≡ 0 → k ≤ dist_at w' x
    least_of k le here x hx g =
        ⊎_elim
        (λ (e : x ≡ v).
        let low : k ≤ d = here (subst (λ (j : ℕ). estimate_at n w j ≡ 0) e (sym (estimate-same x) ∙ g)) in
        subst (λ (j : ℕ). k ≤ dist_at w' j) (sym e) (omega (arith, t.dist-here)))
        (λ (ne : x ≡ v → ⊥).
        let low = s.least x hx (sym (estimate-same x) ∙ g) in
        omega (arith, t.dist_other x hx ne))
        (same_or_not x v)

    -- v is an unjoined sink, and nearer than every one was
    best_nearer : estimate_at n w v ≡ 0 → d < best → BestAim n d w'
    best_nearer g less =
        record {
          most = omega (arith, s.most);
          least = least_of d (omega arith) (λ _. omega arith);
          some = inr (v, h, estimate-same v ∙ g, t.dist-here);
        }

    -- v is none, or one was as near
    best_as_near : d < dist_at w v → (estimate_at n w v ≡ 0 → best ≤ d) → BestAim n best w'
    best_as_near less none =
        record {
          most = s.most;
          least = least_of best (omega arith) none;
          some =
              ⊎_elim
              (λ e. inl e)
              (λ (x : (v : ℕ) × (v < n) × (estimate_at n w v ≡ 0) × (dist_at w v ≡ best)).
              inr (x.0, x.1, estimate-same x.0 ∙ x.2, t.dist_other x.0 x.1 (apart x.0 x.2 x.3) ∙ x.3))
              s.some;
        }
      where
        apart : (x : ℕ) → estimate_at n w x ≡ 0 → dist_at w x ≡ best → x ≡ v → ⊥
        apart x g is e =
            let low = none (subst (λ (j : ℕ). estimate_at n w j ≡ 0) e g) in
            let there : dist_at w v ≡ best = subst (λ (j : ℕ). dist_at w j ≡ best) e is in
            omega arith

    pub best_other : d < dist_at w v → (estimate_at n w v ≡ 0 → ⊥) → BestAim n best w'
    best_other less none = best_as_near less (λ g. absurd (none g))

    pub best_sink : {best' : ℕ} → d < dist_at w v → estimate_at n w v ≡ 0 → best' ≡ min d best → BestAim n best' w'
    best_sink {best'} less g is =
        ⊎_elim
        (λ (q : best ≤ d). let e : best ≡ best' = omega arith in subst (λ (k : ℕ). BestAim n k w') e (best_as_near less (λ _. q)))
        (λ (q : d < best). let e : d ≡ best' = omega arith in subst (λ (k : ℕ). BestAim n k w') e (best_nearer g q))
        (le_or_lt best d)

  module _ {low : ℕ} (s : LowAim n low w) where
    low_of :
        (k : ℕ) → k ≤ low → (estimate_at n w v ≡ far → k ≤ d) → (x : ℕ) → x < n → estimate_at n w' x ≡ far → 0 < dist_at w' x → k ≤ dist_at w' x
    low_of k le here x hx g p =
        ⊎_elim
        (λ (e : x ≡ v).
        let low : k ≤ d = here (subst (λ (j : ℕ). estimate_at n w j ≡ far) e (sym (estimate-same x) ∙ g)) in
        subst (λ (j : ℕ). k ≤ dist_at w' j) (sym e) (omega (arith, t.dist-here)))
        (λ (ne : x ≡ v → ⊥).
        let q = t.dist_other x hx ne in
        let l = s.least x hx (sym (estimate-same x) ∙ g) (omega arith) in
        omega arith)
        (same_or_not x v)

    -- v has an estimate
    pub low_other : (estimate_at n w v ≡ far → ⊥) → LowAim n low w'
    low_other known = record { most = s.most; least = low_of low (omega arith) (λ g. absurd (known g)) }
