-- `negotiation::follow::follow_turn` meets its contract: the frame, the pass over the path and the cost, one after the other.
-- Assumes nothing.
use mathlib.Core.Bool.{not}
use Rattle.std.proofs.Common.{ap}
use mathlib.Core.Bool.{true}
use mathlib.Core.Path.{◌≡◌, refl, sym, ◌∙◌}
use Prim.Native.Nat.{◌+◌}
use native.Mathlib.Omega.{arith}
use lib.ListN.{length, drop}
use Rattle.search.proofs.KeptLaws.{refused, passed}
use Rattle.negotiation.specs.ResumeSteps.{frame_follows}
use Rattle.negotiation.proofs.FrameLaws.{FrameAt, frame_at}
use Rattle.negotiation.proofs.follow.TurnTestLaws.{turn_unframed, turn-ready, turn_strays, turn_dear, turn_on, turn-marked}
use Rattle.negotiation.proofs.follow.follow_turn.Goals.{Else-not-frame_follows}
use Rattle.negotiation.proofs.follow.follow_turn.Goals as goal

-- the frame follows
follows :
    (c : Else-not-frame_follows)
    → frame_follows (length c.args.tables.now.kind.now) c.args.tariff.iteration c.args.net (drop c.args.tariff.words c.args.log.now) ≡ true
follows c = passed c.frame_follows.ensures (ap not c.if-not-frame_follows.false)

-- so the log has it
frame : (c : Else-not-frame_follows) → FrameAt (length c.args.tables.now.kind.now) c.args.tariff.iteration c.args.net c.args.log.now c.args.tariff.words
frame c = frame_at _ _ _ c.args.log.now c.args.tariff.words (follows c)

pub returns-then-not-frame_follows : goal.returns-then-not-frame_follows
returns-then-not-frame_follows c = record { value = turn_unframed c.requires _ _ (refused c.frame_follows.ensures (ap not c.if-not-frame_follows.true)); stored = λ some. absurd (some refl) }

pub bounds-log-at : goal.bounds-log-at
bounds-log-at c = let long = (frame (goal.at.bounds-log-at c).Else-not-frame_follows).long in omega arith

pub overflow_cast-to : goal.overflow_cast-to
overflow_cast-to c = omega (arith, c.type_inv.log (c.args.tariff.words + 5))

pub overflow_add-to-3 : goal.overflow_add-to-3
overflow_add-to-3 c = let long = (frame (goal.at.overflow_add-to-3 c).Else-not-frame_follows).long in omega arith

pub path_cost-requires : goal.path_cost-requires
path_cost-requires c = turn-ready c.requires _ _ (follows (goal.at.path_cost-requires c).Else-not-frame_follows)

pub cost_is-requires : goal.cost_is-requires
cost_is-requires c = let long = (frame (goal.at.cost_is-requires c).Else-not-frame_follows).long in omega arith

pub returns-in_err-cost : goal.returns-in_err-cost
returns-in_err-cost c = record {
  value = c.from_residual.ensures
      ∙ turn_strays c.requires _ _ (follows (goal.at.returns-in_err-cost c).Else-not-frame_follows) c.path_cost.ensures.value c.in_err-cost.was;
  stored = λ some. absurd (some c.from_residual.ensures);
}

pub returns-then-cost_is : goal.returns-then-cost_is
returns-then-cost_is c = record {
  value = turn_on c.requires _ _ (follows (goal.at.returns-then-cost_is c).Else-not-frame_follows) c.path_cost.ensures.value c.in_ok-cost.was
      (sym c.cost_is.ensures ∙ c.if-cost_is.true);
  stored = λ some. turn-marked c.requires _ _ (follows (goal.at.returns-then-cost_is c).Else-not-frame_follows) c.in_ok-cost.was c.path_cost.ensures.path_marked;
}

pub returns-else-cost_is : goal.returns-else-cost_is
returns-else-cost_is c = record {
  value = turn_dear c.requires _ _ (follows (goal.at.returns-else-cost_is c).Else-not-frame_follows) c.path_cost.ensures.value c.in_ok-cost.was
      (sym c.cost_is.ensures ∙ c.if-cost_is.false);
  stored = λ some. absurd (some refl);
}
