-- `capi::arvumnao_route_aimed` meets its contract: what `route_by` leaves by the search that aims.
-- Assumes nothing.
use Rattle.capi.proofs.arvumnao_route_aimed.Goals as goal

pub returns : goal.returns
returns c = rw c.terms_of.ensures at c.route_by.ensures
