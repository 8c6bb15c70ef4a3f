-- `capi::write_style` meets its contract: a short `out` is left, else the answer's numbers are written.
-- Assumes nothing.
use Rattle.capi.proofs.CallLaws.{write_short, write_called}
use Rattle.capi.proofs.write_style.Goals as goal

pub returns-then-out-lt-OUT_ENTRIES : goal.returns-then-out-lt-OUT_ENTRIES
returns-then-out-lt-OUT_ENTRIES c = write_short _ _ _ c.if-out-lt-OUT_ENTRIES.true

pub returns : goal.returns
returns c =
    write_called _ _ _ _ _ c.if-out-lt-OUT_ENTRIES.false c.write_style.ensures.answers c.put_written.ensures
