-- Laws by subject.
--     CallLaws          what each call leaves in `out`, where it is too short and for every answer
--     PutLaws           a refusal's numbers and the call's own, written over zeros
-- Assumes nothing.
pub mod CallLaws
pub mod PutLaws
