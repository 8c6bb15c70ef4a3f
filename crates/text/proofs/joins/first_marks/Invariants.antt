-- `text::joins::first_marks` meets its contract. The loop's invariant: of the nets passed, those that are the first of their source are marked.
-- Assumes nothing.
use Rattle.text.proofs.joins.JoinTextLaws.{FirstMarks}
use Rattle.text.proofs.joins.first_marks.Given as goal

abbrev pub invariant-loop-net : goal.invariant-loop-net
invariant-loop-net l = FirstMarks l.source l.marks l.net
