-- `text::branches::fill_steps` meets its contract. The loop's invariant: the lines of the steps passed are counted, and written where there is room.
-- Assumes nothing.
use Rattle.text.specs.Dot.{style_line}
use Rattle.text.proofs.StepTextLaws.{PuttingSteps}
use Rattle.text.proofs.branches.fill_steps.Given as goal

abbrev pub invariant-loop-k : goal.invariant-loop-k
invariant-loop-k l = PuttingSteps (style_line l.style) l.net l.path l.start l.initial.buffer l.buffer l.next l.k
