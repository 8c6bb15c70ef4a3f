-- `text::users::count_users` meets its contract: the places of the latest records, and the users of each node by them.
-- Assumes nothing.
use mathlib.Core.Path.{refl}
use Rattle.job.proofs.SinkMarkLaws.{unmarked_new}
use Rattle.price.proofs.ListLaws.{up_to_is}
use Rattle.text.proofs.users.count_users.Goals as goal

pub count_nets-requires-clause-users_len : goal.count_nets-requires-clause-users_len
count_nets-requires-clause-users_len c = (refl, refl, λ v. (unmarked_new 4096 v, unmarked_new 4096 v))

pub returns : goal.returns
returns c = up_to_is _ _ _ c.count_nets.ensures.0 (λ v l. c.count_nets.ensures.1 v)
