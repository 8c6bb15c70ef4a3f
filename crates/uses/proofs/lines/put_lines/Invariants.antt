-- `lines::put_lines` meets its contract. The loop's invariant: the lines of the kinds passed stand in the buffer.
-- Assumes nothing.
use Rattle.text.proofs.JoiningLaws.{Joining}
use Rattle.uses.specs.Uses.{kind_count}
use Rattle.uses.specs.Steps.{total_line}
use Rattle.uses.proofs.lines.put_lines.Given as goal

abbrev pub invariant-loop-k : goal.invariant-loop-k
invariant-loop-k l = Joining (total_line l.uses l.totals l.logs) 0 kind_count 0 l.initial.buffer l.buffer l.at l.k
