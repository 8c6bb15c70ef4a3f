-- The test of one record at a place of the log: its frame, then one pass over its path, then the two words of its cost.
--     cost_named                            the cost that a record's words name
--     turn_unframed                         the frame doesn't follow
--     turn-ready                            the pass can be made
--     turn_strays, turn_dear                the path strays, or costs something else
--     turn_on, turn-marked                  the record follows, and its path is marked
-- Assumes nothing.
use mathlib.Core.Bool.{Bool, true, false}
use mathlib.Core.List.{List, [], ◌∷◌}
use mathlib.Core.Path.{◌≡◌, sym, ◌∙◌, ap, subst}
use Prim.Native.Nat.{ℕ, ◌+◌, ◌*◌, ◌-◌, ◌^◌}
use native.Mathlib.Omega.{arith}
use lib.ListN.{get_or, drop}
use lib.Seq.{slice, get_or-drop}
use Rattle.std.specs.Prelude.{Option, Some, None}
use Rattle.price.specs.Test.{choose}
use Rattle.search.specs.Block.{Block, nodes}
use Rattle.search.specs.Turn.{Congestion, price_at}
use Rattle.negotiation.specs.Resume.{record_path}
use Rattle.job.specs.Steps.{Stored}
use Rattle.negotiation.specs.ResumeSteps.{pass_cost, RecordReady, PassReady, costs_of, PathMarked, cost_is, named_cost, frame_follows, turn_passes}
use Rattle.negotiation.proofs.FrameLaws.{path_count, path_read, frame_at}

-- ---- the words of a cost

pub cost_named : (log : List ℕ) (at : ℕ) → get_or log (at + 3) 0 + get_or log (at + 4) 0 * 2 ^ 32 ≡ named_cost (drop at log)
cost_named log at = rw (get_or-drop at log 3 0, get_or-drop at log 4 0)

-- ---- the record

module _ {b : Block} {c : Congestion} {goals marks log : List ℕ} {at : ℕ} (ready : RecordReady b c goals marks log at) (iteration net : ℕ) where
  abbrev passes : Bool
  passes = turn_passes b (price_at b c) goals marks iteration net (drop at log)

  -- its words, none where it doesn't follow
  abbrev count : Option ℕ
  count = choose passes (Some (6 + get_or (drop at log) 5 0)) None

  pub turn_unframed : frame_follows (nodes b) iteration net (drop at log) ≡ false → None ≡ count
  unfolding turn_passes
  turn_unframed e = rw e

  module _ (t : frame_follows (nodes b) iteration net (drop at log) ≡ true) where
    abbrev to : ℕ
    to = at + 6 + path_count log at

    pub turn-ready : PassReady b c goals marks log (at + 6) to
    turn-ready =
        let f = frame_at (nodes b) iteration net log at t in
        let long = f.long in
        let two = f.two in
        let few = f.few in
        record {
          turn =
              record {
                sound = ready.sound;
                prices = ready.prices;
                nodes-few = ready.nodes-few;
                marks_long = ready.marks_long;
                goals-long = ready.goals-long;
                within = long;
              };
          some = omega arith;
          few = omega arith;
        }

    module _ {r : Option ℕ} (e : costs_of r ≡ pass_cost b (price_at b c) goals marks (slice (at + 6) to log)) where
      -- the pass decides, and its cost
      passes_is : (r' : Option ℕ) → r ≡ r' → passes ≡ cost_is (drop at log) (costs_of r')
      unfolding turn_passes
      passes_is r' q =
          let same : pass_cost b (price_at b c) goals marks (record_path (drop at log)) ≡ costs_of r' =
          ap (pass_cost b (price_at b c) goals marks) (path_read log at) ∙ sym e ∙ ap costs_of q in
          rw (t, same)

      pub turn_strays : r ≡ None → None ≡ count
      turn_strays q = rw (passes_is None q)

      module _ {cost : ℕ} (q : r ≡ Some cost) where
        pub turn_dear : cost_is (drop at log) (cost ∷ []) ≡ false → None ≡ count
        turn_dear off = rw (passes_is (Some cost) q ∙ off)

        pub turn_on : cost_is (drop at log) (cost ∷ []) ≡ true → Some (to - at) ≡ count
        turn_on on =
            let five = get_or-drop at log 5 0 in
            let words : to - at ≡ 6 + get_or (drop at log) 5 0 = omega arith in
            rw (passes_is (Some cost) q ∙ on) (ap Some words)

    pub turn-marked :
        {r : Option ℕ} {cost : ℕ} {marks' : List ℕ} → r ≡ Some cost → PathMarked r (slice (at + 6) to log) marks marks'
        → Stored 1 (record_path (drop at log)) marks marks'
    turn-marked {marks' = marks'} q m =
        rw (path_read log at) (subst (λ (r : Option ℕ). PathMarked r (slice (at + 6) to log) marks marks') q m)
