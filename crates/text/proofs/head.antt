-- Laws that the proofs of `text::head` alone cite.
--     HeadLineLaws      the F line, and the lines before the nodes
-- Assumes nothing.
pub mod HeadLineLaws
