-- Laws that the proofs of `negotiation::join` alone cite.
--     JoinStepLaws      a net's places, and the entries at places, as the loops take them
-- Assumes nothing.
pub mod JoinStepLaws
