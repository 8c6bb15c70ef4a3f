-- The tests of a path and of a record at a place of the log, and what a record that passes them has.
-- Assumes nothing.
use mathlib.Core.Bool.{Bool, true, false}
use mathlib.Core.List.{List, [], ◌∷◌}
use mathlib.Core.Path.{◌≡◌, refl}
use Prim.Native.Nat.{ℕ, ◌+◌, ◌≤◌}
use native.Mathlib.Omega.{arith}
use lib.Dec.{leb, ltb, eqb}
use lib.ListN.{length, get_or, get_or-eq_default}
use borrow.Author.Tests.{le-leb, leb-true}
use Rattle.price.specs.Test.{both}
use Rattle.price.specs.Bounds.{nodes_most, limit_most}
use Rattle.price.specs.Lists.{every}
use Rattle.price.proofs.TestLaws.{by_test, both_left, both_right, both_true}
use Rattle.std.specs.List.{list_all}
use Rattle.text.specs.JobText.{between}
use Rattle.text.specs.Routes.{Named, path_words, path_sound, record_sound}
use Rattle.text.specs.WriteSteps.{net_marked}

-- ---- the tests of a path

abbrev pub node_sound : ℕ → ℕ → Bool
node_sound nodes v = ltb v nodes

-- `all` of the library is `every`
pub all_every : (test : ℕ → Bool) (xs : List ℕ) → list_all test xs ≡ every test xs
unfolding every
all_every test [] = refl
all_every test (x ∷ xs) = by_test (test x) (λ t. rw (t, all_every test xs)) (λ t. rw t)

-- ---- the tests of a record

-- a net beyond the marks has none
pub marked_none : (marks : List Bool) (i : ℕ) → length marks ≤ i → net_marked marks i ≡ false
unfolding net_marked
marked_none marks i l = get_or-eq_default marks false l

-- ---- what a sound record has

-- the words of the first record
abbrev pub record_length : List ℕ → ℕ
record_length ws = 6 + get_or ws 5 0

path_most_lem : (nodes n sink : ℕ) (ws : List ℕ) → path_sound nodes n sink ws ≡ true → n ≤ 4096
unfolding path_sound
path_most_lem nodes n sink ws e =
    leb-true n 4096
    (both_right (leb 2 n) (leb n 4096)
    (both_left (between 2 nodes_most n) (leb (6 + n) (length ws))
    (both_left (both (between 2 nodes_most n) (leb (6 + n) (length ws)))
    (both (every (node_sound nodes) (path_words n ws)) (eqb (get_or ws (5 + n) 0) sink)) e)))

path-fits : (nodes n sink : ℕ) (ws : List ℕ) → path_sound nodes n sink ws ≡ true → 6 + n ≤ length ws
unfolding path_sound
path-fits nodes n sink ws e =
    leb-true (6 + n) (length ws)
    (both_right (between 2 nodes_most n) (leb (6 + n) (length ws))
    (both_left (both (between 2 nodes_most n) (leb (6 + n) (length ws)))
    (both (every (node_sound nodes) (path_words n ws)) (eqb (get_or ws (5 + n) 0) sink)) e))

module _ (named : Named) (last : ℕ) (ws : List ℕ) (e : record_sound named last ws ≡ true) where
  sound_tests : both (both (between 1 limit_most (get_or ws 0 0)) (leb last (get_or ws 0 0))) (both (named.net (get_or ws 1 0)) (path_sound named.nodes (get_or ws 5 0) (get_or ws 2 0) ws)) ≡ true
  unfolding record_sound
  sound_tests =
      both_right (leb 6 (length ws))
      (both (both (between 1 limit_most (get_or ws 0 0)) (leb last (get_or ws 0 0)))
      (both (named.net (get_or ws 1 0)) (path_sound named.nodes (get_or ws 5 0) (get_or ws 2 0) ws))) e

  sound-iteration : both (between 1 limit_most (get_or ws 0 0)) (leb last (get_or ws 0 0)) ≡ true
  sound-iteration =
      both_left (both (between 1 limit_most (get_or ws 0 0)) (leb last (get_or ws 0 0)))
      (both (named.net (get_or ws 1 0)) (path_sound named.nodes (get_or ws 5 0) (get_or ws 2 0) ws)) sound_tests

  sound-turn : both (named.net (get_or ws 1 0)) (path_sound named.nodes (get_or ws 5 0) (get_or ws 2 0) ws) ≡ true
  sound-turn =
      both_right (both (between 1 limit_most (get_or ws 0 0)) (leb last (get_or ws 0 0)))
      (both (named.net (get_or ws 1 0)) (path_sound named.nodes (get_or ws 5 0) (get_or ws 2 0) ws)) sound_tests

  pub sound-path : path_sound named.nodes (get_or ws 5 0) (get_or ws 2 0) ws ≡ true
  sound-path = both_right (named.net (get_or ws 1 0)) (path_sound named.nodes (get_or ws 5 0) (get_or ws 2 0) ws) sound-turn

  pub sound-net : named.net (get_or ws 1 0) ≡ true
  sound-net = both_left (named.net (get_or ws 1 0)) (path_sound named.nodes (get_or ws 5 0) (get_or ws 2 0) ws) sound-turn

  pub sound_some : 1 ≤ get_or ws 0 0
  sound_some =
      leb-true 1 (get_or ws 0 0)
      (both_left (leb 1 (get_or ws 0 0)) (leb (get_or ws 0 0) limit_most)
      (both_left (between 1 limit_most (get_or ws 0 0)) (leb last (get_or ws 0 0)) sound-iteration))

  pub sound-rises : last ≤ get_or ws 0 0
  sound-rises = leb-true last (get_or ws 0 0) (both_right (between 1 limit_most (get_or ws 0 0)) (leb last (get_or ws 0 0)) sound-iteration)

  -- after any earlier iteration too
  pub sound_lower : record_sound named 0 ws ≡ true
  unfolding record_sound
  sound_lower =
      both_true (both_left (leb 6 (length ws)) (both (both (between 1 limit_most (get_or ws 0 0)) (leb last (get_or ws 0 0))) (both (named.net (get_or ws 1 0)) (path_sound named.nodes (get_or ws 5 0) (get_or ws 2 0) ws))) e)
      (both_true
      (both_true (both_left (between 1 limit_most (get_or ws 0 0)) (leb last (get_or ws 0 0)) sound-iteration) (le-leb 0 (get_or ws 0 0) (omega arith)))
      sound-turn)

  pub sound-fits : record_length ws ≤ length ws
  sound-fits = path-fits named.nodes (get_or ws 5 0) (get_or ws 2 0) ws sound-path
