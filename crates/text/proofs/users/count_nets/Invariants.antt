-- `text::users::count_nets` meets its contract. The loop's invariant: the trees of the nets passed are counted.
-- Assumes nothing.
use Rattle.text.proofs.users.UserLaws.{CountingNets}
use Rattle.text.proofs.users.count_nets.Given as goal

abbrev pub invariant-loop-net : goal.invariant-loop-net
invariant-loop-net l = CountingNets l.log l.users l.stamps l.net
