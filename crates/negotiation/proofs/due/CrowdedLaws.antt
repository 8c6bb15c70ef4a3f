-- The loops that look for an overfull node among a net's nodes in the log.
--     over_none, room-node, over-node   the nodes of one path
--     room_record, over_record          the paths of the net's records, one after the other
-- Assumes nothing.
use mathlib.Core.Bool.{true, false}
use mathlib.Core.List.{List, [], ◌∷◌, ◌++◌}
use mathlib.Core.Path.{◌≡◌, refl, ◌∙◌}
use Prim.Native.Nat.{ℕ, ◌+◌, ◌≤◌, ◌<◌}
use lib.ListN.{length, get_or}
use lib.Seq.{slice, slice-cons}
use borrow.Author.Tests.{lt-ltb, le-ltb, not-true, not-false}
use Rattle.price.specs.Lists.{every}
use Rattle.negotiation.specs.Records.{decode, path_nodes}
use Rattle.negotiation.specs.Steps.{roomy, some_over}
use Rattle.negotiation.proofs.MemberLaws.{every_append}
use Rattle.job.proofs.MarkLaws.{Between, passed_more, slice_parts}
use Rattle.negotiation.proofs.RegionLaws.{Walking, walking_nodes, walking_more, passing-next}

module _ (capacities users : List ℕ) where
  pub over_none : some_over capacities users [] ≡ false
  unfolding some_over every
  over_none = refl

  -- two lists after each other, of which the first has no overfull node
  over-append : (xs ys : List ℕ) → some_over capacities users xs ≡ false → some_over capacities users (xs ++ ys) ≡ some_over capacities users ys
  unfolding some_over
  over-append xs ys none = rw (every_append (roomy capacities users) xs ys, not-false (every (roomy capacities users) xs) none)

  -- or of which the first has one
  over-left : (xs ys : List ℕ) → some_over capacities users xs ≡ true → some_over capacities users (xs ++ ys) ≡ true
  unfolding some_over
  over-left xs ys some = rw (every_append (roomy capacities users) xs ys, not-true (every (roomy capacities users) xs) some)

-- ---- the nodes of one path

module _ (capacities users : List ℕ) {log : List ℕ} {from to k : ℕ} (l : k < to) (w : Between from to k log)
    (none : some_over capacities users (slice from k log) ≡ false) where
  -- a node more has room
  pub room-node : get_or users (get_or log k 0) 0 ≤ get_or capacities (get_or log k 0) 0 → some_over capacities users (slice from (k + 1) log) ≡ false
  unfolding some_over every
  room-node h =
      rw (passed_more l w)
      (over-append capacities users (slice from k log) (get_or log k 0 ∷ []) none
      ∙ rw (le-ltb (get_or capacities (get_or log k 0) 0) (get_or users (get_or log k 0) 0) h))

  -- a node has none
  pub over-node : get_or capacities (get_or log k 0) 0 < get_or users (get_or log k 0) 0 → some_over capacities users (slice from to log) ≡ true
  unfolding some_over every
  over-node h =
      rw (slice_parts from to k log w.least w.short w.most)
      (over-append capacities users (slice from k log) (slice k to log) none
      ∙ rw (slice-cons k to log 0 l w.short, lt-ltb (get_or capacities (get_or log k 0) 0) (get_or users (get_or log k 0) 0) h))

-- ---- the paths of records

module _ (capacities users : List ℕ) {log : List ℕ} {from until at : ℕ}
    (s : Walking (length users) from until log at (λ xs. some_over capacities users xs ≡ false)) (l : at < until) where
  pub room_record :
      some_over capacities users (slice (at + 6) (at + 6 + get_or log (at + 5) 0) log) ≡ false
      → Walking (length users) from until log (at + 6 + get_or log (at + 5) 0) (λ xs. some_over capacities users xs ≡ false)
  room_record h =
      walking_more s l (λ xs none. over-append capacities users xs (slice (at + 6) (at + 6 + get_or log (at + 5) 0) log) none ∙ h)

  pub over_record :
      some_over capacities users (slice (at + 6) (at + 6 + get_or log (at + 5) 0) log) ≡ true
      → some_over capacities users (path_nodes (decode (slice from until log))) ≡ true
  over_record h =
      let path : List ℕ = slice (at + 6) (at + 6 + get_or log (at + 5) 0) log in
      let later : List ℕ = path_nodes (passing-next s.rest l s.walk).later in
      rw (walking_nodes s l)
      (over-append capacities users (path_nodes s.passed) (path ++ later) s.done ∙ over-left capacities users path later h)
