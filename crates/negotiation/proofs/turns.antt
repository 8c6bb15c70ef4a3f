-- Laws that the proofs of `negotiation::turns` alone cite.
--     OneTurnLaws       one turn, as the search's contract gives it
--     KeepNet           after a net
--     KeepEnd           after an iteration
--     KeepCount         how many nodes are counted, at each loop's head
--     BackLentLaws      the edges by their target as a run that aims has them
--     StartLaws         a run's start: begun, after a lent log, or turned away
-- Assumes nothing.
pub mod OneTurnLaws
pub mod KeepNet
pub mod KeepEnd
pub mod KeepCount
pub mod BackLentLaws
pub mod StartLaws
