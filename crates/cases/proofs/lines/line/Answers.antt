-- `cases::lines::line` meets its contract: the line wanted is so many lines on from where it is.
-- Assumes nothing.
use Rattle.std.proofs.Common.{◌≡◌, ◌<◌, ℕ, ◌-◌, ◌+◌, sym, ap, ◌∙◌, arith}
use Rattle.cases.specs.Lines.{line_from}
use Rattle.cases.proofs.LineLaws.{from_past, from_next, from_here}
use Rattle.cases.proofs.lines.line.Goals as goal

pub loop-init : goal.loop-init
loop-init c = ap (λ (n : ℕ). line_from c.args.case.now 0 n) (omega arith)

pub returns-then-case-at : goal.returns-then-case-at
returns-then-case-at c =
    sym (from_past c.args.case.now c.loop.at (c.args.number - c.loop.counter) c.if-case-at.true) ∙ c.loop.invariant

pub loop-preserved : goal.loop-preserved
loop-preserved c =
    let text = c.args.case.now in
    let left = c.args.number - c.loop.counter in
    let more : c.args.number - (c.loop.counter + 1) ≡ left - 1 = omega arith in
    let some : 0 < left = omega (arith, c.loop-test.true) in
    rw (more, c.next_line-at.ensures.value) (sym (from_next text c.loop.at left some) ∙ c.loop.invariant)

pub returns : goal.returns
returns c =
    let none : c.args.number - c.loop.counter ≡ 0 = omega (arith, c.loop-test.false) in
    from_here c.args.case.now c.loop.at (c.args.number - c.loop.counter) none ∙ c.loop.invariant
