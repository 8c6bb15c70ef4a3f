-- Laws that the proofs of `search::estimate` alone cite.
--     GiveLaws          base costs and the stores of `give`
--     EstimateSteps     a node has got its estimate, then edge by edge all nodes before a node
--     SpreadLaws        a node that waits at the least level is taken out and spreads its estimate
--     EstimateStart     none stands, then the unjoined sinks have theirs
-- Assumes nothing.
pub mod GiveLaws
pub mod EstimateSteps
pub mod SpreadLaws
pub mod EstimateStart
