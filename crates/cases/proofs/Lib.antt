-- Laws by subject.
--     LineLaws    the lines of a case: their lengths and places
-- Assumes nothing.
pub mod LineLaws
