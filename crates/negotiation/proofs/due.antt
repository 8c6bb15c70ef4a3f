-- Laws that the proofs of `negotiation::due` alone cite.
--     CrowdedLaws       the loops that look for an overfull node
-- Assumes nothing.
pub mod CrowdedLaws
