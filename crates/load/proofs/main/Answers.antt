-- `load::main` meets its contract: what is printed lies within the buffer.
-- Assumes nothing.
use mathlib.Core.Path.{sym}
use lib.Seq.{length-take-le}
use Rattle.generator.proofs.AnswerLaws.{bytes_fit}
use Rattle.load.proofs.main.Goals as goal

pub slice_bounds-text-end : goal.slice_bounds-text-end
slice_bounds-text-end c = bytes_fit _ _ c.load_text-bytes.ensures.answers

pub slice_bounds-write_all-end : goal.slice_bounds-write_all-end
slice_bounds-write_all-end c =
    let r = c.load_text-bytes in
    sym (length-take-le r.result r.new.buffer (bytes_fit _ _ r.ensures.answers))
