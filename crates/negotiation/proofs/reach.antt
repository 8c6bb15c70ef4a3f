-- Laws that the proofs of `negotiation::reach` alone cite.
--     TestedLaws        net after net, the first sink without a path
-- Assumes nothing.
pub mod TestedLaws
