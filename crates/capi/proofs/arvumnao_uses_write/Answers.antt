-- `capi::arvumnao_uses_write` meets its contract: short `counts` or a short `out` are left, else the answer's numbers are written.
-- Assumes nothing.
use Rattle.capi.proofs.CallLaws.{write_called, uses_called}
use Rattle.capi.proofs.arvumnao_uses_write.Goals as goal

pub returns : goal.returns
returns c =
    uses_called _ _ _ _ _ c.if-counts-lt-KINDS.false (write_called _ _ _ _ _ c.if-out-lt-OUT_ENTRIES.false c.write_uses.ensures c.put_printed.ensures)
