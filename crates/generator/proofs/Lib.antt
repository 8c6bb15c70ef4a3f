-- Laws by subject.
-- Laws that one module's proofs alone cite stand in its folder; the file NAME.antt beside the folder lists them.
-- The load
--     DrawLaws          the state and its draws
--     NodeLaws          the lines of all nodes, by quarters
--     RowLaws           a node's row: at most three targets
--     LoadLaws          its tables keep their rules
--     LoadTextLaws      its text in four parts, and its length
--     LoadHolds         theorem: every load is a sound job, and the reader takes its text
-- The line that asks for it
--     InputLaws         its first 32 bytes decide
--     AnswerLaws        what is printed
-- Assumes nothing.
pub mod DrawLaws
pub mod NodeLaws
pub mod RowLaws
pub mod LoadLaws
pub mod InputLaws
pub mod LoadTextLaws
pub mod LoadHolds
pub mod AnswerLaws
