-- `text::parts::fill_branch` meets its contract in each style.
-- Assumes nothing.
use Rattle.text.specs.Routes.{branch_line}
use Rattle.text.proofs.parts.fill_branch.Goals as goal

pub returns-in-Lines : goal.returns-in-Lines
unfolding branch_line
returns-in-Lines c = rw c.in-Lines.is c.fill_line.ensures
