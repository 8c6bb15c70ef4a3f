-- Laws that the proofs of `search::tables` alone cite.
--     RisingRowLaws     a row in one pass, by the least target that may come next
-- Assumes nothing.
pub mod RisingRowLaws
