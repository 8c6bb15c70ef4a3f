-- Laws that the proofs of `search::labels` alone cite.
--     RelaxLaws         an edge, as its code has it
-- Assumes nothing.
pub mod RelaxLaws
