-- Laws that the proofs of `negotiation::take_up` alone cite.
--     JudgedLaws        what a record, a net and an iteration come to, by the tests that are made
--     StepPassLaws      the steps of a path in one pass, with marks for the nodes of the tree and those passed
--     PathPassLaws      such a pass over a record's path tests what is asked clause by clause
--     TriedLaws         the turn that a net of a lent log makes next: the sinks that it tries are goals, and they weigh its prices
--     TakeTurnLaws      the turns of a net in a lent log, as a loop follows them
--     TakeNetLaws       the nets of an iteration in it
--     TakeLogLaws       its iterations
-- Assumes nothing.
pub mod JudgedLaws
pub mod StepPassLaws
pub mod PathPassLaws
pub mod TriedLaws
pub mod TakeTurnLaws
pub mod TakeNetLaws
pub mod TakeLogLaws
