-- `text::write_text` meets its contract: the text is counted, and written where it fits.
-- Assumes nothing.
use native.Mathlib.Omega.{arith}
use Rattle.text.proofs.RouteTextLaws.{text_short, text_done}
use Rattle.text.proofs.write_text.Goals as goal

pub returns-then-buffer-needed : goal.returns-then-buffer-needed
returns-then-buffer-needed c = text_short _ _ c.fill_text-needed.ensures c.if-buffer-needed.true

pub returns : goal.returns
returns c = text_done _ _ c.fill_text-needed.ensures c.if-buffer-needed.false (omega (arith, c.well_formed)) c.fill_text.ensures
