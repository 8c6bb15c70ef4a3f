-- Laws that the proofs of `generator::ask` alone cite.
--     AskLaws           the line, byte by byte
-- Assumes nothing.
pub mod AskLaws
