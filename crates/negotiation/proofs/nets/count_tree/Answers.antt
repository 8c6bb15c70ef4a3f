-- `negotiation::nets::count_tree` meets its contract: the marked nodes of the records are those of the tree.
-- Assumes nothing.
use Rattle.negotiation.proofs.nets.RipLaws.{count-can-add, count_done}
use Rattle.negotiation.proofs.nets.count_tree.Goals as goal

pub add_records-requires : goal.add_records-requires
add_records-requires c =
    let ready = c.requires in
    record { from_le_until = (ready.order, ready.within, ready.users-long); whole = ready.whole; can_add_marked = count-can-add ready }

pub returns : goal.returns
returns c =
    count_done c.requires c.add_records.ensures
