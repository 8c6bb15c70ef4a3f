-- The laws by subject, a line a file. Each file's head says what is in it; the folders beside hold one proof for each function of src/.
--
--     JobLaws           a sound job, table by table: places, bounds, terms; a timed job that exceeds no bound
--     NetTableLaws      tables 5 to 10: what each test's answer says, the lowest table that breaks its rule, what a timed job exceeds
--     MarkLaws          nodes that are passed one after the other, and marked
--     SinkMarkLaws      the pass that marks a net's sinks
--     FirstNetLaws      the first net of a source
-- Assumes nothing.
pub mod JobLaws
pub mod NetTableLaws
pub mod MarkLaws
pub mod SinkMarkLaws
pub mod FirstNetLaws
