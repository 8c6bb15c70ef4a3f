-- Laws by subject:
--     SamplesHold   every starred sample of 01, as the program prints it
--     PrintedLaws   what is printed for a text that is read to a job
--     RunLaws       each answer of a run is the reply
--     ResponseLaws  what is printed lies within the buffer
-- Assumes nothing.
pub mod RunLaws
pub mod ResponseLaws
pub mod PrintedLaws
pub mod SamplesHold
