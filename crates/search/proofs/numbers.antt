-- Laws beside the proofs of `search::numbers`.
--     NumberLaws        how the tests of row 13 decide, and which refusal is due first: stated for their own sake
-- Assumes nothing.
pub mod NumberLaws
