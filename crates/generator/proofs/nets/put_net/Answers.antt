-- `nets::put_net` meets its contract: one line behind the other.
-- Assumes nothing.
use Rattle.std.proofs.Common.{ℕ, ◌+◌, ◌≤◌, List, [], ◌∷◌, ◌++◌, length}
use Rattle.text.specs.Lines.{letter_s, letter_t, print_line}
use Rattle.text.proofs.LineReplyLaws.{line-put}
use Rattle.text.proofs.JoiningLaws.{part_first, part_rest, part-both}
use Rattle.generator.proofs.nets.put_net.Goals as goal

pub returns : goal.returns
returns c =
    let a = c.args in
    let from : List ℕ = print_line letter_s (a.net ∷ a.source ∷ []) in
    let to : List ℕ = print_line letter_t (a.net ∷ a.sink ∷ []) in
    let fits : a.start + length (from ++ to) ≤ length a.buffer.now = c.requires in
    let one = line-put 83 _ c.print_line-at.ensures.answers (part_first a.start from to a.buffer.now fits) in
    part-both from to fits one (line-put 84 _ c.print_line.ensures.answers (part_rest from to fits one))
