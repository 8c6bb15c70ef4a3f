-- `text::printing::fill_line` meets its contract: the line has room, or it is only counted.
-- Assumes nothing.
use mathlib.Core.Path.{◌≡◌}
use Prim.Native.Nat.{◌+◌, ◌≤◌}
use native.Mathlib.Omega.{arith}
use lib.ListN.{length}
use Rattle.text.specs.Routes.{capped}
use Rattle.text.specs.Lines.{print_line}
use Rattle.text.proofs.StepTextLaws.{letter_any, filled_put, filled-over}
use Rattle.text.proofs.printing.fill_line.Goals.{After-saturating_add-next, Then-next-buffer}
use Rattle.text.proofs.printing.fill_line.Goals as goal

-- the place behind it
counted : (c : After-saturating_add-next) → c.saturating_add-next.result ≡ capped (c.args.at + length (print_line c.args.letter c.args.fields.now))
counted c = omega (arith, c.line_length.ensures, letter_any c.args.letter 0 c.args.fields.now, c.saturating_add-next.ensures)

-- the buffer has room
fits : (c : Then-next-buffer) → c.args.at + length (print_line c.args.letter c.args.fields.now) ≤ length c.args.buffer.now
fits c = omega (arith, c.line_length.ensures, letter_any c.args.letter 0 c.args.fields.now, c.saturating_add-next.ensures, c.if-next-buffer.true, c.well_formed)

pub put_line-requires : goal.put_line-requires
put_line-requires c = fits (goal.at.put_line-requires c).Then-next-buffer

pub returns-then-next-buffer : goal.returns-then-next-buffer
returns-then-next-buffer c =
    filled_put (counted (goal.at.returns-then-next-buffer c).After-saturating_add-next) (fits (goal.at.returns-then-next-buffer c).Then-next-buffer) c.put_line.ensures

pub returns-else-next-buffer : goal.returns-else-next-buffer
returns-else-next-buffer c = filled-over (counted (goal.at.returns-else-next-buffer c).After-saturating_add-next) c.if-next-buffer.false
