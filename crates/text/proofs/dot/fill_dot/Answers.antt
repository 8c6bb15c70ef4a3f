-- `text::dot::fill_dot` meets its contract: the line has room, or it is only counted.
-- Assumes nothing.
use mathlib.Core.Path.{◌≡◌}
use Prim.Native.Nat.{◌+◌, ◌≤◌}
use native.Mathlib.Omega.{arith}
use lib.ListN.{length}
use Rattle.text.specs.Routes.{branch_of, capped}
use Rattle.text.specs.Dot.{dot_line}
use Rattle.text.proofs.StepTextLaws.{filled_put, filled-over}
use Rattle.text.proofs.dot.fill_dot.Goals.{After-saturating_add-next, Then-next-buffer}
use Rattle.text.proofs.dot.fill_dot.Goals as goal

-- the place behind it
counted : (c : After-saturating_add-next) → c.saturating_add-next.result ≡ capped (c.args.at + length (dot_line (branch_of c.args.net c.args.from c.args.to)))
counted c = omega (arith, c.dot_length.ensures, c.saturating_add-next.ensures)

-- the buffer has room
fits : (c : Then-next-buffer) → c.args.at + length (dot_line (branch_of c.args.net c.args.from c.args.to)) ≤ length c.args.buffer.now
fits c = omega (arith, c.dot_length.ensures, c.saturating_add-next.ensures, c.if-next-buffer.true, c.well_formed)

pub put_dot-requires : goal.put_dot-requires
put_dot-requires c = fits (goal.at.put_dot-requires c).Then-next-buffer

pub returns-then-next-buffer : goal.returns-then-next-buffer
returns-then-next-buffer c =
    filled_put (counted (goal.at.returns-then-next-buffer c).After-saturating_add-next) (fits (goal.at.returns-then-next-buffer c).Then-next-buffer) c.put_dot.ensures

pub returns-else-next-buffer : goal.returns-else-next-buffer
returns-else-next-buffer c = filled-over (counted (goal.at.returns-else-next-buffer c).After-saturating_add-next) c.if-next-buffer.false
