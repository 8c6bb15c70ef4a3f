-- `capi::arvumnao_uses_add` meets its contract: short `counts` or a short `out` are left, else the answer's numbers are written.
-- Assumes nothing.
use Rattle.capi.proofs.CallLaws.{add_called}
use Rattle.capi.proofs.arvumnao_uses_add.Goals as goal

pub returns : goal.returns
returns c =
    add_called _ _ _ _ _ c.if-counts-lt-KINDS.false _ _ c.add_log.result c.if-out-lt-OUT_ENTRIES.false c.add_log.ensures c.put_added.ensures
