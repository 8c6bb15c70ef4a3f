-- `capi::arvumnao_timed_price` meets its contract: a short `out` is left, else the answer's numbers are written.
-- Assumes nothing.
use Rattle.capi.proofs.CallLaws.{price-short, price_called}
use Rattle.capi.proofs.arvumnao_timed_price.Goals as goal

pub returns-then-out-lt-OUT_ENTRIES : goal.returns-then-out-lt-OUT_ENTRIES
returns-then-out-lt-OUT_ENTRIES c = price-short _ _ c.if-out-lt-OUT_ENTRIES.true

pub returns : goal.returns
returns c =
    price_called _ _ _ c.timed_price.result c.if-out-lt-OUT_ENTRIES.false c.timed_price.ensures c.put_price.ensures
