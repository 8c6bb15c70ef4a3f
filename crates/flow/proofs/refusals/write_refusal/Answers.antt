-- `refusals::write_refusal` meets its contract: the line is printed at the buffer's start where it fits.
-- Assumes nothing.
use Rattle.flow.proofs.refusals.write_refusal.Goals as goal

pub returns-in-Some : goal.returns-in-Some
returns-in-Some c = rw c.in-Some.is c.print_line.ensures.answers

pub returns-in-None : goal.returns-in-None
returns-in-None c = rw c.in-None.is c.print_line-in-None.ensures.answers
