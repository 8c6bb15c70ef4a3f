-- `text::joins::fill_joins` meets its contract. The loop's invariant: the lines of the nets passed are counted, and written where there is room.
-- Assumes nothing.
use Rattle.text.proofs.joins.JoinTextLaws.{JoinsPassed}
use Rattle.text.proofs.joins.fill_joins.Given as goal

abbrev pub invariant-loop-net : goal.invariant-loop-net
invariant-loop-net l = JoinsPassed l.source l.start l.initial.buffer l.buffer l.next l.net
