-- Laws that the proofs of `text::nodes` alone cite.
--     NodeLineLaws      an N line, and the loop over them
-- Assumes nothing.
pub mod NodeLineLaws
