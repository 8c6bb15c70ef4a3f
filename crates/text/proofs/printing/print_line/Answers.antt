-- `printing::print_line` meets its contract: the line is measured first, and written where it fits.
-- Assumes nothing.
use Prim.Native.Nat.{◌+◌, ◌≤◌}
use native.Mathlib.Omega.{arith}
use lib.ListN.{length}
use Rattle.text.specs.Lines.{print_line}
use Rattle.text.proofs.LineReplyLaws.{line_size, line-short, line-written}
use Rattle.text.proofs.printing.print_line.Goals.{Else-buffer-at-2, then-buffer-at-via-then-buffer-at, then-buffer-at-via-else-buffer-at+then-buffer-at-2}
use Rattle.text.proofs.printing.print_line.Goals as goal

-- the line fits
fits : (c : Else-buffer-at-2) → c.args.at + length (print_line c.args.letter c.args.fields.now) ≤ length c.args.buffer.now
fits c =
    let size = line_size c.args.letter c.args.fields.now in
    let counted = line_size 0 c.args.fields.now in
    omega (arith, c.well_formed)

pub returns-then-buffer-at : goal.returns-then-buffer-at
returns-then-buffer-at c =
    let a = c.args in
    let size = line_size a.letter a.fields.now in
    let counted = line_size 0 a.fields.now in
    elim c.then-buffer-at.branch [
      | then-buffer-at-via-then-buffer-at w ↦ record { answers = line-short _ _ _ _ (omega (arith, w.if-buffer-at.true)) }
      | then-buffer-at-via-else-buffer-at+then-buffer-at-2 w ↦ record { answers = line-short _ _ _ _ (omega (arith, w.if-buffer-at.false, w.line_length.ensures, w.if-buffer-at-2.true)) }
    ]

pub put_line-requires : goal.put_line-requires
put_line-requires c = fits (goal.at.put_line-requires c).Else-buffer-at-2

pub returns : goal.returns
returns c = record { answers = line-written _ _ _ _ (fits (goal.at.returns c).Else-buffer-at-2) c.put_line.ensures }
