-- `negotiation::follow::frame_follows` meets its contract: the tests that it makes say what is asked.
-- Assumes nothing.
use Rattle.std.proofs.Common.{rules, tests}
use Rattle.negotiation.proofs.FrameLaws.{frame_by}
use Rattle.negotiation.proofs.follow.frame_follows.Goals as goal

pub returns-then-log-at-lt6 : goal.returns-then-log-at-lt6
returns-then-log-at-lt6 c = frame_by c.args.nodes c.args.iteration c.args.net c.args.log.now c.args.at (search (rules, tests))

pub returns-then-log-at-2 : goal.returns-then-log-at-2
returns-then-log-at-2 c = frame_by c.args.nodes c.args.iteration c.args.net c.args.log.now c.args.at (search (rules, tests))

pub returns-else-log-at-2 : goal.returns-else-log-at-2
returns-else-log-at-2 c = frame_by c.args.nodes c.args.iteration c.args.net c.args.log.now c.args.at (search (rules, tests))
