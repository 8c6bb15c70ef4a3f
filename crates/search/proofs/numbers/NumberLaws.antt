-- How the tests of the numbers that price a turn decide row 13, and which refusal is due first.
--     history-, others-, mark-          a node's numbers
--     refusal-                          the first refusal
-- Assumes nothing.
use mathlib.Core.Bool.{true, false}
use mathlib.Core.List.{List, [], ◌∷◌}
use mathlib.Core.Path.{◌≡◌, sym}
use Prim.Native.Nat.{ℕ, ◌+◌, ◌*◌, ◌≤◌, ◌<◌}
use lib.Dec.{leb, ltb}
use lib.ListN.{length, get_or}
use borrow.Author.Tests.{le-leb, lt-leb, lt-ltb, le-ltb}
use Rattle.price.specs.Test.{both}
use Rattle.price.specs.Bounds.{others_most, factor_most}
use Rattle.price.specs.Timed.{history_bound}
use Rattle.price.proofs.TestLaws.{both_false_left, both_false_right}
use Rattle.search.specs.Replies.{bounded, history_bounded, node_sound, bad_node, too_many, bad_criticality, refusal_of}
use Rattle.search.specs.Turn.{Congestion, weighed_congestion}

-- ---- row 13 for a node: its three parts

module _ (c : Congestion) (marks : List ℕ) (v : ℕ) where
  history_bad : history_bounded (history_bound c.weighting) c.histories v ≡ false → node_sound c marks v ≡ false
  unfolding node_sound
  history_bad e = both_false_left (history_bounded (history_bound c.weighting) c.histories v) (both (bounded others_most c.others v) (bounded 1 marks v)) e

  others_bad : bounded others_most c.others v ≡ false → node_sound c marks v ≡ false
  unfolding node_sound
  others_bad e =
      both_false_right (history_bounded (history_bound c.weighting) c.histories v) (both (bounded others_most c.others v) (bounded 1 marks v))
      (both_false_left (bounded others_most c.others v) (bounded 1 marks v) e)

  mark_bad : bounded 1 marks v ≡ false → node_sound c marks v ≡ false
  unfolding node_sound
  mark_bad e =
      both_false_right (history_bounded (history_bound c.weighting) c.histories v) (both (bounded others_most c.others v) (bounded 1 marks v))
      (both_false_right (bounded others_most c.others v) (bounded 1 marks v) e)

  pub history_missing : length c.histories ≤ v → node_sound c marks v ≡ false
  history_missing h = history_bad (rw (le-ltb v (length c.histories) h))

  pub history_low : get_or c.histories v 0 < 1 → node_sound c marks v ≡ false
  history_low h =
      history_bad (both_false_right (ltb v (length c.histories)) _ (rw (lt-leb 1 (get_or c.histories v 0) h)))

  pub history_high : history_bound c.weighting < get_or c.histories v 0 → node_sound c marks v ≡ false
  history_high h =
      history_bad
      (both_false_right (ltb v (length c.histories)) _
      (both_false_right (leb 1 (get_or c.histories v 0)) _ (lt-leb (get_or c.histories v 0) (history_bound c.weighting) h)))

  pub others-missing : length c.others ≤ v → node_sound c marks v ≡ false
  others-missing h = others_bad (rw (le-ltb v (length c.others) h))

  pub others-high : others_most < get_or c.others v 0 → node_sound c marks v ≡ false
  others-high h =
      others_bad (both_false_right (ltb v (length c.others)) _ (lt-leb (get_or c.others v 0) others_most h))

  pub mark_missing : length marks ≤ v → node_sound c marks v ≡ false
  mark_missing h = mark_bad (rw (le-ltb v (length marks) h))

  -- all but the mark itself
  pub mark_last :
      v < length c.histories → 1 ≤ get_or c.histories v 0 → get_or c.histories v 0 ≤ history_bound c.weighting
      → v < length c.others → get_or c.others v 0 ≤ others_most
      → v < length marks → node_sound c marks v ≡ leb (get_or marks v 0) 1
  unfolding node_sound
  mark_last h₁ h₂ h₃ h₄ h₅ h₆ =
      rw (lt-ltb v (length c.histories) h₁, le-leb 1 (get_or c.histories v 0) h₂, le-leb (get_or c.histories v 0) (history_bound c.weighting) h₃, lt-ltb v (length c.others) h₄, le-leb (get_or c.others v 0) others_most h₅, lt-ltb v (length marks) h₆)

-- ---- the first refusal

module _ (table n : ℕ) (c : Congestion) (marks : List ℕ) (work : ℕ) where
  pub refusal_table : 1 ≤ table → refusal_of table n c marks work ≡ 5 ∷ table ∷ []
  unfolding refusal_of
  refusal_table h = rw (le-leb 1 table h)

  module _ (sound : table < 1) where
    pub refusal_many : too_many c.weighting n ≡ true → refusal_of table n c marks work ≡ 15 ∷ n ∷ 0 ∷ []
    unfolding refusal_of
    refusal_many h = rw (lt-leb 1 table sound, h)

    module _ (few : too_many c.weighting n ≡ false) where
      pub refusal-work : work < 8 * n → refusal_of table n c marks work ≡ 6 ∷ 8 * n ∷ []
      unfolding refusal_of
      refusal-work h = rw (lt-leb 1 table sound, few, lt-ltb work (8 * n) h)

      -- neither factor nor delays say anything of a node, so a node is tested beside any
      module _ (enough : 8 * n ≤ work) (bad : ℕ) (lowest : bad ≡ bad_node n (weighed_congestion c.weighting [] 0 c.histories c.others) marks) where
        lowest-here : bad_node n c marks ≡ bad
        unfolding bad_node node_sound
        lowest-here = sym lowest

        pub refusal-node : bad < n → refusal_of table n c marks work ≡ 13 ∷ bad ∷ []
        unfolding refusal_of
        refusal-node h = rw (lt-leb 1 table sound, few, le-ltb work (8 * n) enough, lowest-here, lt-ltb bad n h)

        pub refusal-factor : n ≤ bad → factor_most < c.factor → refusal_of table n c marks work ≡ 13 ∷ n ∷ []
        unfolding refusal_of
        refusal-factor h f = rw (lt-leb 1 table sound, few, le-ltb work (8 * n) enough, lowest-here, le-ltb bad n h, lt-ltb factor_most c.factor f)

        module _ (all : n ≤ bad) (low : c.factor ≤ factor_most) where
          pub refusal_criticality : bad_criticality c.weighting ≡ true → refusal_of table n c marks work ≡ 13 ∷ (n + 1) ∷ []
          unfolding refusal_of
          refusal_criticality h = rw (lt-leb 1 table sound, few, le-ltb work (8 * n) enough, lowest-here, le-ltb bad n all, le-ltb factor_most c.factor low, h)

          pub refusal-none : bad_criticality c.weighting ≡ false → refusal_of table n c marks work ≡ []
          unfolding refusal_of
          refusal-none h = rw (lt-leb 1 table sound, few, le-ltb work (8 * n) enough, lowest-here, le-ltb bad n all, le-ltb factor_most c.factor low, h)
