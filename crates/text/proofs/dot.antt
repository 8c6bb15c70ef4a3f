-- Laws that the proofs of `text::dot` alone cite.
--     DotLaws           the line of a branch in a picture
-- Assumes nothing.
pub mod DotLaws
