-- `capi::arvumnao_resume_aimed` meets its contract: what `resume_by` leaves by the search that aims.
-- Assumes nothing.
use Rattle.capi.proofs.arvumnao_resume_aimed.Goals as goal

pub returns : goal.returns
returns c = rw c.terms_of.ensures at c.resume_by.ensures
