-- `text::users::count_nets` meets its contract. The loop's invariant: the trees of the nets passed are counted.
-- Assumes nothing.
use Rattle.std.proofs.Common.{rules}
use Rattle.text.proofs.users.UserLaws.{nets-none, nets-few, nets-more, nets-all}
use Rattle.text.proofs.users.count_nets.Goals as goal

pub loop-net-init : goal.loop-net-init
loop-net-init c =
    let asked = c.requires.users_len in
    nets-none _ _ _ asked.0 asked.1 asked.2

pub count_records-requires-clause-few_users : goal.count_records-requires-clause-few_users
count_records-requires-clause-few_users c = nets-few c.loop-net.invariant

pub loop-net-preserved : goal.loop-net-preserved
loop-net-preserved c = nets-more c.loop-net.invariant (search rules) c.of.ensures c.count_records.ensures

pub returns : goal.returns
returns c = (c.loop-net.invariant.users-long, nets-all c.loop-net.invariant (search rules))
