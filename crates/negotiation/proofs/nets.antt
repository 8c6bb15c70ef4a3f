-- Laws that the proofs of `negotiation::nets` alone cite.
--     RipLaws           a net's old tree dropped, its new one counted
-- Assumes nothing.
pub mod RipLaws
