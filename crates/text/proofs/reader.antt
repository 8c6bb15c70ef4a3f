-- Laws that the proofs of `text::reader` alone cite.
--     ReaderLaws        stage after stage is the whole text
-- Assumes nothing.
pub mod ReaderLaws
