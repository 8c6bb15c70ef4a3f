-- `text::users::count_path` meets its contract: the nodes of the path that were passed are stamped, and those that were not have one user more.
-- Assumes nothing.
use Rattle.text.proofs.users.UserLaws.{CountingPath}
use Rattle.text.proofs.users.count_path.Given as goal

abbrev pub invariant-loop-node : goal.invariant-loop-node
invariant-loop-node l = CountingPath l.stamp l.path l.initial.users l.initial.stamps l.users l.stamps l.node-index
