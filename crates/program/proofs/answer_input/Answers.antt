-- `program::answer_input` meets its contract: what is printed lies within the routes buffer.
-- Assumes nothing.
use mathlib.Core.Path.{sym}
use lib.Seq.{length-take-le}
use Rattle.flow.proofs.ResponseLaws.{shown_fits}
use Rattle.program.proofs.answer_input.Goals as goal

pub slice_bounds-routes-end : goal.slice_bounds-routes-end
slice_bounds-routes-end c = shown_fits _ _ _ _ _ c.answer-bytes.ensures.answers

pub slice_bounds-write_all-end : goal.slice_bounds-write_all-end
slice_bounds-write_all-end c =
    let r = c.answer-bytes in
    sym (length-take-le r.result r.new.routes (shown_fits _ _ _ _ _ r.ensures.answers))
