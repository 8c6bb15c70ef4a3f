-- `text::nets::read_nets` meets its contract: the lines that are left give with the lists so far what all of them give.
-- Assumes nothing.
use mathlib.Core.List.{[]}
use Prim.Native.Nat.{◌-◌}
use lib.ListN.{length, drop}
use Rattle.text.specs.JobText.{net_lists, net_lines}
use Rattle.text.proofs.nets.NetLoopLaws.{Going}
use Rattle.text.proofs.nets.read_nets.Given as goal

abbrev pub invariant-loop-c : goal.invariant-loop-c
invariant-loop-c l =
    Going l.counts.terms.timed l.kind l.counts.nodes l.counts.nets l.text (net_lines (length (drop l.fn.from.at l.text)) l.counts.terms.timed l.kind l.counts.nodes l.counts.nets (net_lists [] [] [] []) l.fn.from.line (drop l.fn.from.at l.text)) l.c l.source l.first_sink l.sink l.criticality l.seen

abbrev pub decreases-loop-c : goal.decreases-loop-c
decreases-loop-c l =
    length l.text - l.c.at
