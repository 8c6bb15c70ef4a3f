-- Laws that the proofs of `text::users` alone cite.
--     UserLaws          how many nets have each node, counted with stamps
--     UserReplyLaws     what counting them answers and leaves
-- Assumes nothing.
pub mod UserLaws
pub mod UserReplyLaws
