-- `capi::arvumnao_resume` meets its contract: what `resume_by` leaves by the plain search, which counts nothing.
-- Assumes nothing.
use Rattle.capi.proofs.CallLaws.{plain_called}
use Rattle.capi.proofs.arvumnao_resume.Goals as goal

pub returns : goal.returns
returns c = plain_called _ _ _ _ _ _ (rw c.terms_of.ensures at c.resume_by.ensures)
