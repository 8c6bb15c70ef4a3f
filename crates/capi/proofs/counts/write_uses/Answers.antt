-- `counts::write_uses` meets its contract: the entries of all kinds go into an array, which is written.
-- Assumes nothing.
use Rattle.capi.proofs.CallLaws.{uses-written}
use Rattle.capi.proofs.counts.write_uses.Goals as goal

pub returns : goal.returns
returns c =
    uses-written c.args.counts.now c.copy_from_slice.ensures.after _ _ _ c.write_uses.ensures.answers
