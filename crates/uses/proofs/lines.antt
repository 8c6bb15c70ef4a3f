-- Laws that the proofs of `uses::lines` alone cite.
--     LineLaws          the U lines, their length, and what printing answers
-- Assumes nothing.
pub mod LineLaws
