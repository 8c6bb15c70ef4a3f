-- `negotiation::take_up::follow_tried` meets its contract: the sinks that are tried are the goals of an array without any, the record is tested with them, and its cost
-- is held against that of the search for them (`TriedLaws`).
-- Assumes nothing.
use lib.Seq.{length-take-le}
use mathlib.Core.Path.{refl, sym}
use Rattle.negotiation.proofs.take_up.JudgedLaws.{not_both, judged_some, said_ended}
use Rattle.negotiation.proofs.take_up.TriedLaws.{goals-enough, goals-asked, goals_fit, least_asks, least_said, tried-tested, judge_asks, tried_said}
use Rattle.negotiation.proofs.take_up.follow_tried.Goals as goal

pub returns-then-ends_here : goal.returns-then-ends_here
returns-then-ends_here c =
    record {
      value = said_ended _ _ _ _ _ _ c.ends_here.ensures c.if-ends_here.true c.came_to.ensures;
      stored = λ count e. absurd (not_both refl e);
      same_from = record { long = refl; high = λ k l. refl };
    }

pub slice_bounds-goals-end : goal.slice_bounds-goals-end
slice_bounds-goals-end c = goals-enough c.requires.ready c.next_tried-tried.ensures

pub slice_bounds-set_goals-end : goal.slice_bounds-set_goals-end
slice_bounds-set_goals-end c = sym (length-take-le _ _ (goals-enough c.requires.ready c.next_tried-tried.ensures))

pub set_goals-requires : goal.set_goals-requires
set_goals-requires c = goals-asked c.requires.ready c.next_tried-tried.ensures

pub least_cost-least-requires : goal.least_cost-least-requires
least_cost-least-requires c = least_asks c.requires.ready c.next_tried-tried.ensures

pub slice_bounds-goals-end-2 : goal.slice_bounds-goals-end-2
slice_bounds-goals-end-2 c = goals_fit c.requires.ready c.next_tried-tried.ensures c.set_goals.ensures

pub slice_bounds-follow_turn-end : goal.slice_bounds-follow_turn-end
slice_bounds-follow_turn-end c =
    sym (length-take-le _ _ (goals_fit c.requires.ready c.next_tried-tried.ensures c.set_goals.ensures))

pub follow_turn-count-requires : goal.follow_turn-count-requires
follow_turn-count-requires c =
    tried-tested c.requires.ready c.next_tried-tried.ensures c.set_goals.ensures

pub judged-requires : goal.judged-requires
judged-requires c = record {
  begun = c.requires.begun;
  whole = judge_asks c.requires.ready c.next_tried-tried.ensures c.set_goals.ensures _ c.follow_turn-count.ensures.value;
}

pub returns : goal.returns
returns c =
    let answer =
    tried_said c.requires.ready c.next_tried-tried.ensures c.set_goals.ensures _ c.follow_turn-count.ensures.value _ c.ends_here.ensures
    c.if-ends_here.false (least_said c.requires.ready c.next_tried-tried.ensures _ c.least_cost-least.ensures.value) c.judged.ensures in
    record {
      value = answer;
      stored = λ count e. c.follow_turn-count.ensures.stored (judged_some _ _ _ _ _ c.judged.ensures e);
      same_from = c.least_cost-least.ensures.same_from;
    }
