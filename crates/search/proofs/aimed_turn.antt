-- Laws that the proofs of `search::aimed_turn` alone cite.
--     StartLaws         the loop before a turn
--     AimState          what holds between two steps of a turn that aims
--     AimStart          before the first step
--     AimExpands        a node is expanded
--     AimSpreads        the level of the estimates rises, and a node spreads its own
--     AimEnds           after the last step
--     AimRun            all of it in the terms of `run`
-- Assumes nothing.
pub mod StartLaws
pub mod AimState
pub mod AimStart
pub mod AimExpands
pub mod AimSpreads
pub mod AimEnds
pub mod AimRun
