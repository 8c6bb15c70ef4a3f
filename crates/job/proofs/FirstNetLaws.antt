-- The first net of a source.
-- Assumes nothing.
use mathlib.Core.Bool.{true}
use mathlib.Core.List.{List}
use mathlib.Core.Path.{◌≡◌, refl, ap}
use Prim.Native.Nat.{ℕ, ◌<◌}
use lib.ListN.{length, get_or}
use borrow.Author.Tests.{eq-eqb}
use Rattle.price.specs.Lists.{place_of}
use Rattle.price.proofs.EntryLaws.{place_of-is, place_of-none, place_of-at, place_of-lt}
use Rattle.job.specs.Join.{first_of, leads}

pub first_found : (sources : List ℕ) (net node i : ℕ) → node ≡ get_or sources net 0 → i < length sources → get_or sources i 0 ≡ node → ((k : ℕ) → k < i → get_or sources k 0 ≡ node → ⊥) → first_of sources net ≡ i
unfolding first_of
first_found sources net node i e h here none = rw (← e) (place_of-is node sources i h here none)

pub first_none : (sources : List ℕ) (net node i : ℕ) → node ≡ get_or sources net 0 → i ≡ length sources → ((k : ℕ) → k < i → get_or sources k 0 ≡ node → ⊥) → first_of sources net ≡ length sources
unfolding first_of
first_none sources net node i e long none = rw (← e) (place_of-none node sources (rw long at none))

module _ (sources : List ℕ) (k : ℕ) (h : k < length sources) where
  pub first_below_lem : first_of sources k < length sources
  unfolding first_of
  first_below_lem = place_of-lt (get_or sources k 0) sources k h refl

  pub first_source : get_or sources (first_of sources k) 0 ≡ get_or sources k 0
  unfolding first_of
  first_source = place_of-at (get_or sources k 0) sources (place_of-lt (get_or sources k 0) sources k h refl)

  pub first_leads : leads sources (first_of sources k) ≡ true
  unfolding leads first_of
  first_leads = eq-eqb (first_of sources (first_of sources k)) (first_of sources k) (ap (λ (x : ℕ). place_of x sources) first_source)
