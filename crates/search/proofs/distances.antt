-- Laws that the proofs of `search::distances` alone cite.
--     SearchLaws        a search: the tree is marked, the labels spread, and they are the distances
-- Assumes nothing.
pub mod SearchLaws
