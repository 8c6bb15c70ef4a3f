-- Laws that the proofs of `text::joins` alone cite.
--     JoinTextLaws      the marks of first nets, and the J lines
-- Assumes nothing.
pub mod JoinTextLaws
