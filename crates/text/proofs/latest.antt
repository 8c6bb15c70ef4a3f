-- Laws that the proofs of `text::latest` alone cite.
--     LatestLaws        where the latest records of each net stand
-- Assumes nothing.
pub mod LatestLaws
