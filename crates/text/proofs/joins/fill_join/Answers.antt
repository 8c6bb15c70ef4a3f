-- `text::joins::fill_join` meets its contract: there is room for any such line, or this one is counted and has room, or is only counted.
-- Assumes nothing.
use native.Mathlib.Omega.{arith}
use Rattle.text.specs.Lines.{letter_j}
use Rattle.text.proofs.DecimalLaws.{decimal-length, two_size}
use Rattle.text.proofs.StepTextLaws.{filled-over}
use Rattle.text.proofs.joins.fill_join.Goals.{then-room-lt44+else-buffer-next, else-room-lt44}
use Rattle.text.proofs.joins.fill_join.Goals as goal

pub returns-then-buffer-next : goal.returns-then-buffer-next
returns-then-buffer-next c = filled-over (omega (arith, two_size letter_j c.args.net c.args.first, c.saturating_add-next.ensures)) c.if-buffer-next.true

pub put_line-requires : goal.put_line-requires
put_line-requires c =
    let size = two_size letter_j c.args.net c.args.first in
    elim c.if-room-lt44.branch [
      | then-room-lt44+else-buffer-next w ↦ omega (arith, w.saturating_add-next.ensures, w.if-buffer-next.false, c.well_formed)
      | else-room-lt44 w ↦ omega (arith, decimal-length c.args.net, decimal-length c.args.first, c.saturating_sub-room.ensures, w.if-room-lt44.false)
    ]
