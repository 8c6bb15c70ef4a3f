-- `optional::optional_line` meets its contract: the letter's test, then the line's fields.
-- Assumes nothing.
use mathlib.Core.Bool.{not}
use mathlib.Core.Path.{refl}
use Prim.Native.Nat.{◌+◌}
use Rattle.std.proofs.Common.{ap}
use Rattle.search.proofs.KeptLaws.{refused, passed}
use Rattle.text.proofs.JudgedLaws.{line-malformed, line_taken, line_place}
use Rattle.text.proofs.optional.optional_line.Goals as goal

pub returns-then-not-byte_is : goal.returns-then-not-byte_is
returns-then-not-byte_is c = refused c.byte_is.ensures (ap not c.if-not-byte_is.true)

pub returns-in_default : goal.returns-in_default
returns-in_default c =
    let a = c.args in
    (refl, refl, passed c.byte_is.ensures (ap not c.if-not-byte_is.false), line-malformed a.count a.text.now c.line_fields.ensures.value c.in_default.is)

pub returns : goal.returns
returns c =
    let a = c.args in
    let known = c.in-Some.is in (
      passed c.byte_is.ensures (ap not c.if-not-byte_is.false),
      line_taken a.count a.text.now c.line_fields.ensures.value known,
      line_place (a.from.at + 1) a.text.now known c.line_fields.ensures.fields_place,
    )
