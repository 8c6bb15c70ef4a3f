-- Laws by subject.
-- Laws that one module's proofs alone cite stand in its folder; the file NAME.antt beside the folder lists them.
-- What the crate shows of its definitions:
--     TextHolds         the reader accepts exactly the printed forms of sound jobs that 2.9's limits and the tables' lengths allow, and gives that job back
--     LogHolds          an accepted job's log is never refused by 10
--     BranchHolds       the branches of any sound log's routes are those of its nets' final trees
--     ListedHolds       the B lines list exactly the path steps of each net's latest records, the J lines the nets joined into another
--     PictureHolds      the picture and the routes text of a sound log list the same branches, and each text determines its list
--     SamplesHold       a record with a node at the bound of nodes is unsound, a small log's users, V and W lines, and a timed text, computed
-- A line at a place of the text, for the functions that read it:
--     FieldLaws         a byte, a number, a field, the fields of a line
--     JudgedLaws        a line's letter, and its judgement by 1, 2 or 3
--     OptionalLineLaws  a line that may be left out: P, V and W
--     NetLineLaws       an S or a T line
-- The whole text, for the functions that read it:
--     CopyLaws          copying the first entries of a table one by one, for the crates above
--     StoppedLaws       a text that is stopped at a line is refused by 1, 2 or 3
--     ReadJobLaws       row 4, then 15, and the tables afterwards
--     SizeLaws          which jobs tables are long enough for, and how long what the program lends is
-- What is read against what is printed, for TextHolds:
--     LastLaws          a list with one entry more
--     DecimalLaws       a number's digits, printed and counted
--     PrintLaws         a field and a line
--     HeadTextLaws      the F line
--     OptionalTextLaws  the P, the V and the W line
--     NodeTextLaws      the N lines
--     FirstPlaceLaws    first places of rows
--     EdgeRisingLaws    rising edges and sound rows
--     EdgeTextLaws      the E lines
--     NetTextLaws       the nets read so far
--     NetReadLaws       nets that are read are sound and printed so
--     NetPrintLaws      nets that are printed are read so
-- Logs and routes:
--     RecordTestLaws    the tests of a path and of a record
--     LogLaws           going from record to record
--     TurnedLaws        the turns of a run, and the log of an accepted job
--     ShortRecordLaws   numbers of a sound record are short enough for a field
--     StepListLaws      path steps of the latest records as a list
--     JoinListLaws      joined nets as a list
--     PlacedLaws        bytes placed in a buffer
--     LineReplyLaws     printing one line: its fields, where it fits, what a caller knows of it
--     JoiningLaws       texts one after the other in a buffer
--     StepTextLaws      the lines of one path
--     BranchLaws        the lines of a net's records, and of the nets in order
--     RouteTextLaws     the parts of either text, and the writer's answers
--     RouteLineLaws     B and J lines read again
-- Assumes nothing.
pub mod LastLaws
pub mod FieldLaws
pub mod JudgedLaws
pub mod OptionalLineLaws
pub mod NetLineLaws
pub mod CopyLaws
pub mod ReadJobLaws
pub mod SizeLaws
pub mod StoppedLaws
pub mod DecimalLaws
pub mod PlacedLaws
pub mod LineReplyLaws
pub mod PrintLaws
pub mod OptionalTextLaws
pub mod HeadTextLaws
pub mod NodeTextLaws
pub mod FirstPlaceLaws
pub mod EdgeRisingLaws
pub mod EdgeTextLaws
pub mod NetTextLaws
pub mod JoiningLaws
pub mod NetReadLaws
pub mod NetPrintLaws
pub mod RecordTestLaws
pub mod LogLaws
pub mod StepTextLaws
pub mod BranchLaws
pub mod RouteTextLaws
pub mod TurnedLaws
pub mod LogHolds
pub mod RouteLineLaws
pub mod StepListLaws
pub mod ShortRecordLaws
pub mod BranchHolds
pub mod JoinListLaws
pub mod ListedHolds
pub mod PictureHolds
pub mod TextHolds
pub mod SamplesHold
