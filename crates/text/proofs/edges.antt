-- Laws that the proofs of `text::edges` alone cite.
--     EdgeLineLaws      an E line, and the loop over them
-- Assumes nothing.
pub mod EdgeLineLaws
