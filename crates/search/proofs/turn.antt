-- Laws that the proofs of `search::turn` alone cite.
--     TurnMarkLaws      loops that pass over marks, mark the tree and the goals, and look for a label
--     FollowLaws        loops that follow predecessors
--     FoundLaws         the path is read off the work slice
-- Assumes nothing.
pub mod TurnMarkLaws
pub mod FollowLaws
pub mod FoundLaws
