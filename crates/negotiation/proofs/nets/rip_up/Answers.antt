-- `negotiation::nets::rip_up` meets its contract: the tree's nodes are dropped and marked, then the marks go.
-- Assumes nothing.
use Rattle.negotiation.proofs.nets.RipLaws.{rip_can-drop, rip_done}
use Rattle.negotiation.proofs.nets.rip_up.Goals as goal

pub drop_records-requires : goal.drop_records-requires
drop_records-requires c =
    let ready = c.requires in
    record { from_le_until = (ready.order, ready.within, ready.users-long); whole = ready.whole; ready = rip_can-drop ready }

pub unmark_records-requires : goal.unmark_records-requires
unmark_records-requires c =
    let ready = c.requires in record { from_le_until = (ready.order, ready.within); whole = rw c.drop_records.ensures.marks_set.long ready.whole }

pub returns : goal.returns
returns c =
    rip_done c.requires c.drop_records.ensures c.unmark_records.ensures
