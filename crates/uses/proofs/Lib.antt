-- Laws by subject.
-- Laws that one module's proofs alone cite stand in its folder; the file NAME.antt beside the folder lists them.
-- Counts and lines
--     SumLaws           sums of numbers, counts as sums, sums over the nodes of a kind
--     TallyLaws         sums by kind, as the loop makes them
--     CountsLaws        the test of counts
-- A log
--     TreeLaws          the nodes of a sound log's final trees
--     AddLaws           the uses of a log, and what is answered to it
--     AnswerLaws        what the two calls answer
-- Theorems that CLAIMS cites
--     UsesHold          the uses of a log and of a run sum to the size of the final trees; counts never pass 13's bounds; the order of logs is free; runs add up
--     SamplesHold       job B with two logs, computed
-- Assumes nothing.
pub mod SumLaws
pub mod TallyLaws
pub mod CountsLaws
pub mod AddLaws
pub mod TreeLaws
pub mod UsesHold
pub mod AnswerLaws
pub mod SamplesHold
