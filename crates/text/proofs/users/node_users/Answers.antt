-- `text::users::node_users` meets its contract: what the log's test found, and the users of a sound log.
-- Assumes nothing.
use Rattle.text.proofs.users.UserReplyLaws.{users-unsound, users-log, users-sound}
use Rattle.text.proofs.users.node_users.Goals as goal

pub count_users-requires : goal.count_users-requires
count_users-requires c = users-log _ _ c.min.ensures c.check_log.ensures c.in_ok-found.was

pub returns-in_err-found : goal.returns-in_err-found
returns-in_err-found c = record { answers = users-unsound _ _ c.min.ensures c.check_log.ensures _ _ _ c.from_residual.ensures.1 c.in_err-found.was }

pub returns : goal.returns
returns c = record { answers = users-sound _ _ c.min.ensures c.check_log.ensures c.in_ok-found.was _ c.count_users.ensures }
