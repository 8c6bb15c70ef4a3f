-- Laws of the sinks that are still to be joined: their distances, the least of them, its first place, and the turn by it.
-- Assumes nothing.
use mathlib.Core.Bool.{true, false}
use mathlib.Core.List.{List, [], ◌∷◌, map}
use mathlib.Core.Logic.{⊎_elim}
use mathlib.Core.Path.{◌≡◌, refl, sym, ◌∙◌, ap}
use Prim.Native.Nat.{ℕ, zero, suc, ◌≤◌, ◌<◌}
use native.Mathlib.Nat.{not-suc-le-zero, le_of_suc-le-suc, eq-or-lt_of_le}
use lib.ListN.{length, get_or, length-map}
use borrow.Author.Tests.{eq-eqb, ne_eqb}
use Rattle.price.specs.Lists.{has}
use Rattle.price.proofs.TestLaws.{by_test, never_true}
use Rattle.price.proofs.ListLaws.{has_place}
use Rattle.price.proofs.EntryLaws.{least_top, least-le, least-is, least_above, place_of-at, place_of-lt}
use Rattle.search.specs.Block.{Block}
use Rattle.search.specs.Distance.{far, tree_has, distances, distance}
use Rattle.search.specs.Turn.{stuck, open_distance, open_distances, join_at, nearest_distance, nearest_place, turn}

-- the place of an unjoined sink that has a distance, the least
pub record Nearest (b : Block) (price : ℕ → ℕ) (marks sinks : List ℕ) (place : ℕ) : Type 0 where
  pub within : place < length sinks
  pub out : tree_has marks (get_or sinks place 0) ≡ false
  pub near : distance b price marks (get_or sinks place 0) < far
  pub here : distance b price marks (get_or sinks place 0) ≡ nearest_distance b price marks sinks

-- an entry of a mapped list
pub get_or-map-lt : (f : ℕ → ℕ) (xs : List ℕ) (i : ℕ) → i < length xs → get_or (map f xs) i 0 ≡ f (get_or xs i 0)
get_or-map-lt f [] i l = absurd (not-suc-le-zero l)
get_or-map-lt f (x ∷ xs) zero l = refl
get_or-map-lt f (x ∷ xs) (suc i) l = get_or-map-lt f xs i (le_of_suc-le-suc l)

-- the distances of the sinks that are still to be joined, and the turn by the least of them
module _ (b : Block) (price : ℕ → ℕ) (marks sinks : List ℕ) where
  pub open_long : length (open_distances b price marks sinks) ≡ length sinks
  unfolding open_distances
  open_long = length-map sinks (open_distance marks (distances b price marks))

  pub open_out : (j : ℕ) → j < length sinks → tree_has marks (get_or sinks j 0) ≡ false → get_or (open_distances b price marks sinks) j 0 ≡ distance b price marks (get_or sinks j 0)
  unfolding open_distances open_distance
  open_out j l q = get_or-map-lt (open_distance marks (distances b price marks)) sinks j l ∙ rw q

  pub open_in : (j : ℕ) → j < length sinks → tree_has marks (get_or sinks j 0) ≡ true → get_or (open_distances b price marks sinks) j 0 ≡ far
  unfolding open_distances open_distance
  open_in j l q = get_or-map-lt (open_distance marks (distances b price marks)) sinks j l ∙ rw q

  -- the least is at most every unjoined sink's distance
  pub open_least : (s : ℕ) → has s sinks ≡ true → tree_has marks s ≡ false → nearest_distance b price marks sinks ≤ distance b price marks s
  open_least s l o =
      let at = has_place s sinks l in
      let here : get_or (open_distances b price marks sinks) at.0 0 ≡ distance b price marks s =
      open_out at.0 at.1 (rw at.2 o) ∙ ap (distance b price marks) at.2 in
      rw here at (least-le far (open_distances b price marks sinks) at.0 (rw open_long at.1))

  -- what is at most every unjoined sink's distance is at most the least
  pub open_above : (k : ℕ) → k ≤ far → ((j : ℕ) → j < length sinks → tree_has marks (get_or sinks j 0) ≡ false → k ≤ distance b price marks (get_or sinks j 0)) → k ≤ nearest_distance b price marks sinks
  open_above k top h =
      least_above far k (open_distances b price marks sinks) top
      (λ j l.
      let within : j < length sinks = rw open_long at l in
      by_test (tree_has marks (get_or sinks j 0))
      (λ q. rw (open_in j within q) top)
      (λ q. rw (open_out j within q) (h j within q)))

  pub turn-far : nearest_distance b price marks sinks ≡ far → turn b price marks sinks ≡ stuck
  unfolding turn
  turn-far e = rw (eq-eqb (nearest_distance b price marks sinks) far e)

  module _ (some : nearest_distance b price marks sinks ≡ far → ⊥) where
    pub turn_near : turn b price marks sinks ≡ join_at b price marks sinks (nearest_place b price marks sinks)
    unfolding turn
    turn_near = rw (ne_eqb (nearest_distance b price marks sinks) far some)

    -- the least distance stands at some place
    nearest_entry : (nearest_place b price marks sinks < length sinks) × (get_or (open_distances b price marks sinks) (nearest_place b price marks sinks) 0 ≡ nearest_distance b price marks sinks)
    nearest_entry =
        let os : List ℕ = open_distances b price marks sinks in
        let m : ℕ = nearest_distance b price marks sinks in
        ⊎_elim
        (λ e. absurd (some e))
        (λ r.
        let within = place_of-lt m os r.0 r.1 r.2 in
        (rw open_long at within, place_of-at m os within))
        (least-is far os)

    nearest_out : tree_has marks (get_or sinks (nearest_place b price marks sinks) 0) ≡ false
    nearest_out =
        never_true (tree_has marks (get_or sinks (nearest_place b price marks sinks) 0))
        (λ q. some (sym nearest_entry.1 ∙ open_in (nearest_place b price marks sinks) nearest_entry.0 q))

    nearest_distance_lem : distance b price marks (get_or sinks (nearest_place b price marks sinks) 0) ≡ nearest_distance b price marks sinks
    nearest_distance_lem =
        sym (open_out (nearest_place b price marks sinks) nearest_entry.0 nearest_out) ∙ nearest_entry.1

    pub nearest : Nearest b price marks sinks (nearest_place b price marks sinks)
    nearest =
        record {
          within = nearest_entry.0;
          out = nearest_out;
          near =
              rw nearest_distance_lem
              (⊎_elim (λ e. absurd (some e)) (λ h. h) (eq-or-lt_of_le (least_top far (open_distances b price marks sinks))));
          here = nearest_distance_lem;
        }
