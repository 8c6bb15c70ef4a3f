-- `fields::line_fields` meets its contract: the letter, then the fields.
-- Assumes nothing.
use mathlib.Core.Bool.{not}
use mathlib.Core.Path.{sym}
use native.Mathlib.Omega.{arith}
use lib.ListN.{drop}
use Rattle.std.proofs.Common.{ap}
use Rattle.search.proofs.KeptLaws.{refused, passed}
use Rattle.text.proofs.FieldLaws.{begins-within}
use Rattle.text.proofs.JudgedLaws.{line_other, line-is}
use Rattle.text.proofs.fields.line_fields.Goals as goal

pub returns-then-not-byte_is : goal.returns-then-not-byte_is
returns-then-not-byte_is c =
    let a = c.args in record { value = sym (line_other a.letter a.count (drop a.at a.text.now) (refused c.byte_is.ensures (ap not c.if-not-byte_is.true))); fields_place = tt }

pub overflow_add-at : goal.overflow_add-at
overflow_add-at c =
    let a = c.args in
    omega (arith, begins-within a.letter a.at a.text.now (passed c.byte_is.ensures (ap not c.if-not-byte_is.false)))

pub returns : goal.returns
returns c =
    let a = c.args in record {
      value = sym (line-is a.letter a.count a.at a.text.now (passed c.byte_is.ensures (ap not c.if-not-byte_is.false)) c.read_fields.ensures.value);
      fields_place = c.read_fields.ensures.fields_place;
    }
