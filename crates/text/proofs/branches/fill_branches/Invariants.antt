-- `text::branches::fill_branches` meets its contract. The loop's invariant: the branches of the nets passed are counted, and written where there is room.
-- Assumes nothing.
use Rattle.text.specs.Dot.{style_line}
use Rattle.text.proofs.BranchLaws.{PuttingNets}
use Rattle.text.proofs.branches.fill_branches.Given as goal

abbrev pub invariant-loop-net : goal.invariant-loop-net
invariant-loop-net l = PuttingNets (style_line l.style) l.log l.nets l.start l.initial.buffer l.buffer l.next l.net
