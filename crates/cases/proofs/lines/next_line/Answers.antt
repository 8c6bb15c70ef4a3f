-- `cases::lines::next_line` meets its contract: it goes on to the first LF.
-- Assumes nothing.
use Rattle.cases.proofs.LineLaws.{in_line, lf-found, in_line-on, text_ends}
use Rattle.cases.proofs.lines.next_line.Goals as goal

pub loop-k-init : goal.loop-k-init
loop-k-init c = in_line c.requires

pub returns-then-text-k-eq10 : goal.returns-then-text-k-eq10
returns-then-text-k-eq10 c =
    let found = lf-found c.loop-k.invariant c.loop-k-test.true c.if-text-k-eq10.true in
    record { value = found.0; lower_bound = found.1 }

pub loop-k-preserved : goal.loop-k-preserved
loop-k-preserved c = in_line-on c.loop-k.invariant c.loop-k-test.true c.if-text-k-eq10.false

pub returns : goal.returns
returns c = record { value = text_ends c.loop-k.invariant c.loop-k-test.false; lower_bound = c.requires }
