-- `text::joins::fill_joins` meets its contract. The loop's invariant: the lines of the nets passed are counted, and written where there is room.
-- Assumes nothing.
use Rattle.std.proofs.Common.{rules}
use Rattle.text.proofs.joins.JoinTextLaws.{joins-none, joins-all, joins_first, joins-more}
use Rattle.text.proofs.joins.fill_joins.Goals.{else-first-net, then-first-net}
use Rattle.text.proofs.joins.fill_joins.Goals as goal

pub loop-net-init : goal.loop-net-init
loop-net-init c = joins-none _ _ _ (search rules)

pub loop-net-preserved : goal.loop-net-preserved
loop-net-preserved c =
    elim c.if-first-net.branch [
      | then-first-net w ↦
          rw (w.buffer-is, w.next-is) (joins-more c.loop-net.invariant (search rules) c.first_of-first.ensures w.if-first-net.true w.fill_join-next.ensures)
      | else-first-net w ↦ rw (w.buffer-is, w.next-is) (joins_first c.loop-net.invariant (search rules) c.first_of-first.ensures w.if-first-net.false)
    ]

pub returns : goal.returns
returns c = joins-all c.loop-net.invariant (search rules)
