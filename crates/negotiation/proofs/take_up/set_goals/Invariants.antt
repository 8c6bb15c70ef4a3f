-- `negotiation::take_up::set_goals` meets its contract. The loop's invariant: the entries at the sinks passed are 1, the others are as before.
-- Assumes nothing.
use lib.ListN.{take}
use Rattle.job.specs.Steps.{Stored}
use Rattle.negotiation.proofs.take_up.set_goals.Given as goal

abbrev pub invariant-loop-s : goal.invariant-loop-s
invariant-loop-s l = Stored 1 (take l.s-index l.sinks) l.initial.goals l.goals
