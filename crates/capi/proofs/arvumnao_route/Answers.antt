-- `capi::arvumnao_route` meets its contract: what `route_by` leaves by the plain search, which counts nothing.
-- Assumes nothing.
use Rattle.capi.proofs.CallLaws.{plain_called}
use Rattle.capi.proofs.arvumnao_route.Goals as goal

pub returns : goal.returns
returns c = plain_called _ _ _ _ _ _ (rw c.terms_of.ensures at c.route_by.ensures)
