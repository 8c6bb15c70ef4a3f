-- `lines::put_lines` meets its contract. The loop's invariant: the lines of the kinds passed stand in the buffer.
-- Assumes nothing.
use Prim.Native.Nat.{◌+◌, ◌-◌, ◌≤◌}
use native.Mathlib.Omega.{arith}
use lib.ListN.{length}
use Rattle.std.proofs.Common.{rules}
use Rattle.text.specs.Printed.{concat_from}
use Rattle.text.proofs.LineReplyLaws.{line-put}
use Rattle.text.proofs.JoiningLaws.{joining_none, joining_room, joining_more, joining_all, joining_same, from_first}
use Rattle.uses.specs.Uses.{kind_count, letter_u}
use Rattle.uses.specs.Steps.{total_line}
use Rattle.uses.proofs.lines.put_lines.Goals.{Start}
use Rattle.uses.proofs.lines.put_lines.Goals as goal

-- the text has room
room : (c : Start) → 0 + length (concat_from (total_line c.args.uses.now c.args.totals.now c.args.logs) 0 (kind_count - 0)) ≤ length c.args.buffer.now
room c = from_first (total_line c.args.uses.now c.args.totals.now c.args.logs) kind_count 0 (length c.args.buffer.now) (omega (arith, c.requires.kind_count_in_bounds))

pub loop-k-init : goal.loop-k-init
loop-k-init c = joining_none _ _ _ _ _ (room (goal.at.loop-k-init c).Start) (search rules)

pub overflow_mul-fields : goal.overflow_mul-fields
overflow_mul-fields c = record { fits = c.requires.by_index c.loop-k.k (search rules) }

pub loop-k-preserved : goal.loop-k-preserved
loop-k-preserved c =
    let fits = room (goal.at.loop-k-preserved c).Start in
    let inv = c.loop-k.invariant in
    joining_more _ _ _ _ _ fits inv (search rules) (line-put letter_u _ c.print_line-at.ensures.answers (joining_room _ _ _ _ _ fits inv (search rules)))

pub shape_of-buffer : goal.shape_of-buffer
shape_of-buffer c = joining_same _ _ _ _ _ (room (goal.at.shape_of-buffer c).Start) c.loop-k.invariant

pub returns : goal.returns
returns c = joining_all _ _ _ _ _ (room (goal.at.returns c).Start) c.loop-k.invariant (search rules)
