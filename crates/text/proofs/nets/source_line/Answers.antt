-- `text::nets::source_line` meets its contract: each answer follows from the tests before it.
-- Assumes nothing.
use mathlib.Core.Bool.{not}
use Rattle.std.proofs.Common.{ap}
use Prim.Native.Nat.{◌+◌}
use Rattle.search.proofs.KeptLaws.{refused, passed}
use Rattle.job.specs.Tables.{source_kind}
use Rattle.text.proofs.JudgedLaws.{line_place}
use Rattle.text.proofs.NetLineLaws.{source-fault, source-net, source-node, source-order, source_pin, of_refused, of_none, of_one}
use Rattle.text.proofs.nets.source_line.Goals.{then-nets-first-via-then-nets-first, then-nets-first-via-else-nets-first+then-nodes-second}
use Rattle.text.proofs.nets.source_line.Goals.{then-first-i-via-then-first-i, then-first-i-via-else-first-i+then-not-source_kind}
use Rattle.text.proofs.nets.source_line.Goals as goal

pub returns-in_default : goal.returns-in_default
returns-in_default c =
    let a = c.args in record { value = of_refused source_kind a.kind.now (source-fault _ _ _ a.at a.text.now _ c.line_fields.ensures.value c.in_default.is); pin_place = tt }

pub returns-then-nets-first : goal.returns-then-nets-first
returns-then-nets-first c =
    let a = c.args in record {
      value = elim c.then-nets-first.branch [
        | then-nets-first-via-then-nets-first w ↦
            of_refused source_kind a.kind.now (source-net _ _ _ a.at a.text.now _ c.line_fields.ensures.value c.in-Some.is w.if-nets-first.true)
        | then-nets-first-via-else-nets-first+then-nodes-second w ↦
            of_refused source_kind a.kind.now (source-node _ _ _ a.at a.text.now _ c.line_fields.ensures.value c.in-Some.is w.if-nodes-second.true)
      ];
      pin_place = tt;
    }

pub returns-then-first-i : goal.returns-then-first-i
returns-then-first-i c =
    let a = c.args in record {
      value = elim c.then-first-i.branch [
        | then-first-i-via-then-first-i w ↦
            of_refused source_kind a.kind.now
            (source-order _ _ _ a.at a.text.now _ c.line_fields.ensures.value c.in-Some.is c.if-nets-first.false c.if-nodes-second.false w.if-first-i.true)
        | then-first-i-via-else-first-i+then-not-source_kind w ↦
            of_none source_kind a.kind.now
            (source_pin _ _ _ a.at a.text.now _ c.line_fields.ensures.value c.in-Some.is c.if-nets-first.false c.if-nodes-second.false w.if-first-i.false)
            (refused w.source_kind.ensures (ap not w.if-not-source_kind.true))
      ];
      pin_place = tt;
    }

pub returns : goal.returns
returns c =
    let a = c.args in record {
      value = of_one source_kind a.kind.now (source_pin _ _ _ a.at a.text.now _ c.line_fields.ensures.value c.in-Some.is c.if-nets-first.false
          c.if-nodes-second.false c.if-first-i.false) (passed c.source_kind.ensures (ap not c.if-not-source_kind.false));
      pin_place = (
        line_place (a.at + 1) a.text.now c.in-Some.is
            c.line_fields.ensures.fields_place,
        c.if-nodes-second.false,
      );
    }
