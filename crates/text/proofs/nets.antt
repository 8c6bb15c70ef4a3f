-- Laws that the proofs of `text::nets` alone cite.
--     NetStepLaws       what such a line does to tables and stamps
--     NetLoopLaws       the loop over these lines
-- Assumes nothing.
pub mod NetStepLaws
pub mod NetLoopLaws
