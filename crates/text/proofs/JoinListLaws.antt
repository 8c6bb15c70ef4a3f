-- The nets that are joined into another, as a list and net by net.
--     joins_only, joins-all         a net is among them exactly where another is the first of its source
--     join_printable                a line gives it back
-- Assumes nothing.
use mathlib.Core.Bool.{false}
use mathlib.Core.List.Memᴰ
use mathlib.Core.List.{List, [], ◌∷◌, Memᴰ}
use mathlib.Core.Logic.{⊎_elim}
use mathlib.Core.Path.{◌≡◌, refl, sym, ap}
use Prim.Native.Nat.{ℕ, zero, suc, ◌^◌, ◌≤◌, ◌<◌}
use native.Mathlib.Nat.{not-suc-le-zero, le_of_suc-le-suc, eq-or-lt_of_le}
use native.Mathlib.Omega.{arith}
use lib.ListN.{length, get_or}
use borrow.Author.Tests.{lt-ltb, ne_eqb, eqb-false}
use Rattle.price.specs.Test.{choose}
use Rattle.price.specs.Lists.{every}
use Rattle.price.proofs.TestLaws.{by_test, both_true}
use Rattle.price.proofs.EntryLaws.{place_of-is, place_of-most}
use Rattle.job.specs.Join.{first_of, leads}
use Rattle.job.specs.Tables.{nets_most}
use Rattle.job.proofs.FirstNetLaws.{first_below_lem, first_source}
use Rattle.text.specs.Routes.{Join, joins_before, route_joins}
use Rattle.text.specs.Listed.{JoinOf}
use Rattle.text.proofs.RouteLineLaws.{join_fields, Printable}

module _ (sources : List ℕ) where
  -- one of the first n nets that isn't the first of its source
  record Later (n : ℕ) (p : Join) : Type 0 where
    below : p.net < n
    not_first : leads sources p.net ≡ false
    first_is : p.first ≡ first_of sources p.net

  abbrev join_at : ℕ → Join
  join_at i = record { net = i; first = first_of sources i }

  before_only : (n : ℕ) (p : Join) → Memᴰ p (joins_before sources n) → Later n p
  unfolding joins_before
  before_only zero p m = absurd (Memᴰ.not-nil m)
  before_only (suc n) p m =
      ⊎_elim
      (λ (h : Memᴰ p (joins_before sources n)).
      let r = before_only n p h in
      record { below = omega (arith, r.below); not_first = r.not_first; first_is = r.first_is })
      (λ (h : Memᴰ p (choose (leads sources n) [] (join_at n ∷ []))).
      by_test (leads sources n)
      (λ q. absurd (Memᴰ.not-nil (rw q at h)))
      (λ q.
      ⊎_elim
      (λ (e : p ≡ join_at n). rw e (record { below = omega arith; not_first = q; first_is = refl }))
      (λ (none : Memᴰ p []). absurd (Memᴰ.not-nil none))
      (Memᴰ.cases_cons (rw q at h))))
      (Memᴰ.append_cases (joins_before sources n) m)

  before_all : (n i : ℕ) → i < n → leads sources i ≡ false → Memᴰ (join_at i) (joins_before sources n)
  unfolding joins_before
  before_all zero i l q = absurd (not-suc-le-zero l)
  before_all (suc n) i l q =
      ⊎_elim
      (λ (e : i ≡ n).
      let here : leads sources n ≡ false = rw e at q in
      Memᴰ.append_right (joins_before sources n) (rw here (Memᴰ.head (ap join_at e))))
      (λ (h : i < n). Memᴰ.append_left (choose (leads sources n) [] (join_at n ∷ [])) (before_all n i h q))
      (eq-or-lt_of_le (le_of_suc-le-suc l))

  -- no net before the first of a source has that source
  first_least : (i : ℕ) → i < length sources → (k : ℕ) → k < first_of sources i → get_or sources k 0 ≡ get_or sources i 0 → ⊥
  unfolding first_of
  first_least i l k h e =
      let within = first_below_lem sources i l in
      let most = place_of-most (get_or sources i 0) sources k (omega arith) e in
      omega arith

  pub joins_only : (p : Join) → Memᴰ p (route_joins sources) → JoinOf sources p
  unfolding route_joins leads first_of
  joins_only p m =
      let r = before_only (length sources) p m in
      let i : ℕ = p.net in
      let is : p.first ≡ first_of sources i = r.first_is in
      let other = eqb-false (first_of sources i) i r.not_first in
      record {
        within = r.below;
        earlier = rw is (let most = place_of-most (get_or sources i 0) sources i r.below refl in omega arith);
        same_source = rw is (first_source sources i r.below);
        none_before = λ k (l : k < p.first). first_least i r.below k (rw is at l);
      }

  pub joins-all : (p : Join) → JoinOf sources p → Memᴰ p (route_joins sources)
  unfolding route_joins leads first_of
  joins-all p o =
      let is : first_of sources p.net ≡ p.first =
      place_of-is (get_or sources p.net 0) sources p.first (omega (arith, o.earlier, o.within)) o.same_source o.none_before in
      let other : leads sources p.net ≡ false =
      ne_eqb (first_of sources p.net) p.net (λ e. omega (arith, o.earlier)) in
      Memᴰ.cast (ap (λ (f : ℕ). record { net = p.net; first = f }) (sym is)) (before_all (length sources) p.net o.within other)

-- a line gives it back
pub join_printable : {sources : List ℕ} (p : Join) → JoinOf sources p → length sources ≤ nets_most → Printable (join_fields p)
unfolding every
join_printable p o few =
    both_true (lt-ltb p.net (10 ^ 6) (omega (arith, o.within)))
    (both_true (lt-ltb p.first (10 ^ 6) (omega (arith, o.within, o.earlier))) refl)
