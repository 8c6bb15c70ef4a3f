-- `head::head_line` meets its contract: each return by the law of the line that was read.
-- Assumes nothing.
use mathlib.Core.Bool.{not}
use Rattle.std.proofs.Common.{ap}
use Rattle.search.proofs.KeptLaws.{refused, passed}
use Rattle.text.proofs.JudgedLaws.{line_place}
use Rattle.text.proofs.head.HeadLineLaws.{head_malformed, head_beyond, head_read}
use Rattle.text.proofs.head.head_line.Goals as goal

pub returns-in_default : goal.returns-in_default
returns-in_default c = record { value = head_malformed c.args.text.now c.line_fields.ensures.value c.in_default.is; head_place = tt }

pub returns-then-not-head_within : goal.returns-then-not-head_within
returns-then-not-head_within c = record { value = head_beyond c.args.text.now c.line_fields.ensures.value c.in-Some.is (refused c.head_within.ensures (ap not c.if-not-head_within.true)); head_place = tt }

pub returns : goal.returns
returns c = record { value = head_read c.args.text.now c.line_fields.ensures.value c.in-Some.is (passed c.head_within.ensures (ap not c.if-not-head_within.false)); head_place = line_place 1 c.args.text.now c.in-Some.is c.line_fields.ensures.fields_place }
