-- Laws that the proofs of `negotiation::follow` alone cite.
--     PassLoopLaws      the loops that make it: over a node's row, and over the words of a path
--     TurnTestLaws      the test of one record at a place of the log: frame, path and cost
-- Assumes nothing.
pub mod PassLoopLaws
pub mod TurnTestLaws
